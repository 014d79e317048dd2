-- Matching a pattern from its front, one byte after the other, and filling a target.
use Rattle.std.proofs.Common.{◌≡◌, ℕ, true, not, eqb, List, [], ◌∷◌, ◌++◌, length, codes, sym, refl, ap, ◌∙◌, inl, inr, arith}
use Rattle.std.proofs.lemmas.Bool.{and_parts, and_from, not_from_false, ne_eqb, true≢false, false≢true, cases_eq}
use Rattle.std.proofs.lemmas.List.{append_cancel_right, length-append}
use Rattle.patterns.specs.Pattern.{star, starless, Matches, starred, equal, filled}

-- A star comes first: what is left between it and the suffix is matched.
starless_star : (p : List ℕ) → starless (star ∷ p) ≡ true → ⊥
unfolding starless
starless_star p e = false≢true e

cons_parts : (a b : ℕ) (x y : List ℕ) → a ∷ x ≡ b ∷ y → (a ≡ b) × (x ≡ y)
cons_parts a b x y e = (cc, cc)

pub star_first : (p t m : List ℕ) → Matches (star ∷ p) t m → t ≡ m ++ p
unfolding starless
star_first p t m (equal h e z) = absurd (starless_star p h)
star_first p t m (starred [] suffix h e i) = i ∙ ap (λ s. m ++ s) (sym (cons_parts _ _ _ _ e).1)
star_first p t m (starred (y ∷ prefix) suffix h e i) =
    absurd (true≢false (sym (and_parts _ _ h).0 ∙ ap (λ b. not (eqb b star)) (sym (cons_parts _ _ _ _ e).0)))

pub from_star_first : (p t m : List ℕ) → t ≡ m ++ p → Matches (star ∷ p) t m
unfolding starless
from_star_first p t m e = starred [] p refl refl e

-- Any other byte comes first: the text begins with it.
pub byte_first : (b : ℕ) (p t m : List ℕ) → (b ≡ star → ⊥) → Matches (b ∷ p) t m → (u : List ℕ) × (t ≡ b ∷ u) × Matches p u m
unfolding starless
byte_first b p t m n (equal h e z) = (p, e, equal (and_parts _ _ h).1 refl z)
byte_first b p t m n (starred [] suffix h e i) = absurd (n (cons_parts _ _ _ _ e).0)
byte_first b p t m n (starred (y ∷ prefix) suffix h e i) =
    let k = cons_parts _ _ _ _ e in
    (prefix ++ (m ++ suffix), i ∙ ap (λ x. x ∷ (prefix ++ (m ++ suffix))) (sym k.0), starred prefix suffix (and_parts _ _ h).1 k.1 refl)

pub from_byte_first : (b : ℕ) (p t m : List ℕ) → (b ≡ star → ⊥) → Matches p t m → Matches (b ∷ p) (b ∷ t) m
unfolding starless
from_byte_first b p t m n (equal h e z) = equal (and_from _ _ (not_from_false _ (ne_eqb b star n)) h) (ap (λ x. b ∷ x) e) z
from_byte_first b p t m n (starred prefix suffix h e i) =
    starred (b ∷ prefix) suffix (and_from _ _ (not_from_false _ (ne_eqb b star n)) h) (ap (λ x. b ∷ x) e) (ap (λ x. b ∷ x) i)

-- Nothing is left of the pattern.
pub none_first : (t m : List ℕ) → Matches [] t m → (t ≡ []) × (m ≡ [])
none_first t m (equal h e z) = (e, z)
none_first t m (starred prefix suffix h e i) = absurd (omega (arith, ap length e, length-append prefix (star ∷ suffix)))

pub from_none_first : Matches [] [] []
unfolding starless
from_none_first = equal refl refl refl

-- One text is matched.
pub one_match : (p t m n : List ℕ) → Matches p t m → Matches p t n → m ≡ n
one_match [] t m n h k = (none_first t m h).1 ∙ sym (none_first t n k).1
one_match (b ∷ p) t m n h k =
    elim (cases_eq b star) [
      | inl e ↦
          let h' : Matches (star ∷ p) t m = rw e at h in
          let k' : Matches (star ∷ p) t n = rw e at k in
          append_cancel_right m n p (sym (star_first p t m h') ∙ star_first p t n k')
      | inr e ↦
          let x = byte_first b p t m e h in
          let y = byte_first b p t n e k in
          let same : x.0 ≡ y.0 = (cons_parts _ _ _ _ (sym x.1 ∙ y.1)).1 in
          one_match p x.0 m n x.2 (rw (← same) at y.2)
    ]

-- The worked example: the first star splits, and both stars of the target are filled.
first_star_matches : Matches (codes "a*b*") (codes "a1b*") (codes "1")
unfolding starless
first_star_matches = starred (codes "a") (codes "b*") refl refl refl

pub first_star_splits : Matches (codes "a*b*") (codes "a1b*") (codes "1") × ((m : List ℕ) → Matches (codes "a*b*") (codes "a1b*") m → filled m (codes "*/*") ≡ codes "1/1")
unfolding filled
first_star_splits =
    (first_star_matches, λ m h. ap (λ x. filled x (codes "*/*")) (one_match (codes "a*b*") (codes "a1b*") m (codes "1") h first_star_matches))

-- One byte more of a target: the bytes that it is filled with.
pub filled_star : (m left next : List ℕ) (b : ℕ) → left ≡ b ∷ next → b ≡ star → filled m left ≡ m ++ filled m next
unfolding filled
filled_star m left next b e i = rw (e, i)

pub filled_byte : (m left next : List ℕ) (b : ℕ) → left ≡ b ∷ next → (b ≡ star → ⊥) → filled m left ≡ (b ∷ []) ++ filled m next
unfolding filled
filled_byte m left next b e n = rw e (rw (ne_eqb b star n))

pub filled_none : (m left : List ℕ) → left ≡ [] → filled m left ≡ []
unfolding filled
filled_none m left e = rw e

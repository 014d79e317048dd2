-- The function of matching tells what the relation says, and what the code does for each byte of a pattern.
use Rattle.std.proofs.Common.{◌≡◌, ℕ, ◌+◌, ◌-◌, ◌<◌, Bool, true, false, cond, List, [], ◌∷◌, ◌++◌, length, take, drop, eqb, Decides, MatchOption, Some, None, Option, sym, refl, ap, ◌∙◌, inl, inr, arith, subst}
use Rattle.std.specs.Str.{bytes_eq}
use Rattle.std.specs.Bool.{then_some}
use Rattle.std.specs.Option.{option_map}
use Rattle.std.proofs.lemmas.Bool.{ne_eqb, cases_eq, cases_lt, cases_Bool, eq-eqb, eqb-true}
use Rattle.std.proofs.lemmas.List.{length-append, length-take, length-drop, take-append-drop, drop_at, take_at}
use Rattle.std.proofs.lemmas.Bool.Decides.{same_from_decides, Decides-like}
use Rattle.std.proofs.lemmas.Slice.Eq.{bytes_eq-Decides}
use Rattle.patterns.specs.Pattern.{star, Matches}
use Rattle.patterns.specs.Match.{before_suffix, match_of}
use Rattle.patterns.specs.Laws.{MatchIsTold, ToldIsMatch}
use Rattle.patterns.proofs.Patterns.{star_first, from_star_first, byte_first, from_byte_first, none_first, from_none_first}

parts : (a b : ℕ) (x y : List ℕ) → a ∷ x ≡ b ∷ y → (a ≡ b) × (x ≡ y)
parts a b x y e = (cc, cc)

some_is : {X : Type 0} (x y : X) → Some x ≡ Some y → x ≡ y
some_is x y e = cc

by_test : (s t m : List ℕ) (b : Bool) → bytes_eq (drop (length t - length s) t) s ≡ b → cond b (Some (take (length t - length s) t)) None ≡ Some m → t ≡ m ++ s
by_test s t m true e h =
    let k = length t - length s in
    let same : take k t ≡ m = some_is (take k t) m h in
    sym (take-append-drop k t) ∙ ap (λ x. take k t ++ x) ((bytes_eq-Decides (drop k t) s).0 e) ∙ ap (λ x. x ++ s) same
by_test s t m false e h = cc

suffix_found : (s t m : List ℕ) → before_suffix s t ≡ Some m → t ≡ m ++ s
unfolding before_suffix
suffix_found s t m h = by_test s t m (bytes_eq (drop (length t - length s) t) s) refl h

suffix_finds : (s t m : List ℕ) → t ≡ m ++ s → before_suffix s t ≡ Some m
unfolding before_suffix
suffix_finds s t m e =
    let k = length t - length s in
    let n : length m ≡ k = omega (arith, ap length e, length-append m s) in
    let d : drop k t ≡ s = ap (drop k) e ∙ drop_at m s k n in
    let f : take k t ≡ m = ap (take k) e ∙ take_at m s k n in
    ap (λ b. cond b (Some (take k t)) None) ((bytes_eq-Decides (drop k t) s).1 d) ∙ ap Some f

pub told : MatchIsTold
unfolding match_of
told [] [] m h = ap Some (sym (none_first [] m h).1)
told [] (x ∷ xs) m h = let e = (none_first (x ∷ xs) m h).0 in cc
told (b ∷ p) [] m h =
    elim (cases_eq b star) [
      | inl e ↦ let h' : Matches (star ∷ p) [] m = rw e at h in rw e (suffix_finds p [] m (star_first p [] m h'))
      | inr n ↦ let e = (byte_first b p [] m n h).1 in cc
    ]
told (b ∷ p) (x ∷ t) m h =
    elim (cases_eq b star) [
      | inl e ↦ let h' : Matches (star ∷ p) (x ∷ t) m = rw e at h in rw e (suffix_finds p (x ∷ t) m (star_first p (x ∷ t) m h'))
      | inr n ↦
          let k = byte_first b p (x ∷ t) m n h in
          let same : x ≡ b = (parts x b t k.0 k.1).0 in
          let rest : Matches p t m = rw (sym (parts x b t k.0 k.1).1) at k.2 in
          rw (ne_eqb b star n) (rw (eq-eqb b x (sym same)) (told p t m rest))
    ]

by_byte : (b x : ℕ) (p t m : List ℕ) (e : (eqb b x ≡ true) → b ≡ x) (y : Bool) → eqb b x ≡ y → (b ≡ star → ⊥) → ((match_of p t ≡ Some m) → Matches p t m) → cond y (match_of p t) None ≡ Some m → Matches (b ∷ p) (x ∷ t) m
by_byte b x p t m e true is n goes h = subst (λ z. Matches (b ∷ p) (z ∷ t) m) (e is) (from_byte_first b p t m n (goes h))
by_byte b x p t m e false is n goes h = cc

pub tells : ToldIsMatch
unfolding match_of
tells [] [] m h = let e : [] ≡ m = some_is [] m h in subst (Matches [] []) e from_none_first
tells [] (x ∷ xs) m h = cc
tells (b ∷ p) [] m h =
    elim (cases_eq b star) [
      | inl e ↦ let h' : before_suffix p [] ≡ Some m = rw e at h in rw e (from_star_first p [] m (suffix_found p [] m h'))
      | inr n ↦ let h' : None ≡ Some m = rw (ne_eqb b star n) at h in cc
    ]
tells (b ∷ p) (x ∷ t) m h =
    elim (cases_eq b star) [
      | inl e ↦ let h' : before_suffix p (x ∷ t) ≡ Some m = rw e at h in rw e (from_star_first p (x ∷ t) m (suffix_found p (x ∷ t) m h'))
      | inr n ↦
          let h' : cond (eqb b x) (match_of p t) None ≡ Some m = rw (ne_eqb b star n) at h in
          by_byte b x p t m (eqb-true b x) (eqb b x) refl n (tells p t m) h'
    ]

-- The relation, of what is told.
pub relation : {X : Type 0} (part : X → List ℕ) (pattern text : List ℕ) (o : Option X) → option_map part o ≡ match_of pattern text →
    MatchOption o ((m : List ℕ) → Matches pattern text m → ⊥) (λ x. Matches pattern text (part x))
relation part pattern text None e = λ m h. let k : None ≡ Some m = e ∙ told pattern text m h in cc
relation part pattern text (Some x) e = tells pattern text (part x) (sym e)

-- What is left of the pattern matches what is left of the text: a star is next, or another byte, which the text goes on with or
-- not; or nothing is left of the pattern.
module _ (pattern text left rest : List ℕ) (same : match_of pattern text ≡ match_of left rest) where
  pub star_next : (b : ℕ) (next : List ℕ) → left ≡ b ∷ next → b ≡ star → match_of pattern text ≡ before_suffix next rest
  unfolding match_of
  star_next b next e i = same ∙ ap (λ p. match_of p rest) e ∙ go rest
    where
      go : (t : List ℕ) → match_of (b ∷ next) t ≡ before_suffix next t
      go [] = rw i refl
      go (x ∷ t) = rw i refl

  pub byte_next : (b : ℕ) (next others : List ℕ) → left ≡ b ∷ next → (b ≡ star → ⊥) → rest ≡ b ∷ others → match_of pattern text ≡ match_of next others
  unfolding match_of
  byte_next b next others e n i = same ∙ rw (e, i) (rw (ne_eqb b star n, eq-eqb b b refl) refl)

  pub other_next : (b : ℕ) (next : List ℕ) → left ≡ b ∷ next → (b ≡ star → ⊥) → ((u : List ℕ) → rest ≡ b ∷ u → ⊥) → None ≡ match_of pattern text
  unfolding match_of
  other_next b next e n other = sym (same ∙ ap (λ p. match_of p rest) e ∙ go rest other)
    where
      go : (t : List ℕ) → ((u : List ℕ) → t ≡ b ∷ u → ⊥) → match_of (b ∷ next) t ≡ None
      go [] k = rw (ne_eqb b star n) refl
      go (x ∷ t) k =
          let differ : b ≡ x → ⊥ = λ h. k t (ap (λ y. y ∷ t) (sym h)) in
          rw (ne_eqb b star n, ne_eqb b x differ) refl

  pub none_next : {X : Type 0} (part : X → List ℕ) (n : ℕ) (x : X) (o : Option X) → left ≡ [] → o ≡ then_some (eqb n 0) x → part x ≡ [] → n ≡ length rest → option_map part o ≡ match_of pattern text
  unfolding match_of
  none_next part n x o e told i count =
      ap (option_map part) (told ∙ ap (λ k. then_some (eqb k 0) x) count) ∙ go rest ∙ sym (same ∙ ap (λ p. match_of p rest) e)
    where
      go : (t : List ℕ) → option_map part (then_some (eqb (length t) 0) x) ≡ match_of [] t
      go [] = ap Some i
      go (y ∷ t) = ap (λ r. option_map part (then_some r x)) (ne_eqb (length (y ∷ t)) 0 (λ z. omega arith))

-- The suffix stands at the end of the text, or it is longer.
told_by : {X : Type 0} (part : X → List ℕ) (r : Bool) (x : X) (o : Option X) (m : List ℕ) → o ≡ then_some r x → part x ≡ m → option_map part o ≡ cond r (Some m) None
told_by part true x o m e i = ap (option_map part) e ∙ ap Some i
told_by part false x o m e i = ap (option_map part) e

pub suffix_by_test : {X : Type 0} (part : X → List ℕ) (s t last : List ℕ) (n k : ℕ) (r : Bool) (x : X) (o : Option X) → n ≡ length s → n + k ≡ length t → o ≡ then_some r x → part x ≡ take k t →
    last ≡ drop (length t - n) t → Decides r (s ≡ last) → option_map part o ≡ before_suffix s t
unfolding before_suffix
suffix_by_test part s t last n k r x o size whole e i end d =
    let at : k ≡ length t - length s = omega arith in
    let there : last ≡ drop (length t - length s) t = end ∙ ap (λ j. drop (length t - j) t) size in
    let test : r ≡ bytes_eq (drop (length t - length s) t) s =
    same_from_decides r (bytes_eq (drop (length t - length s) t) s) (Decides-like r (λ h. sym there ∙ sym h) (λ h. sym h ∙ sym there) d) (bytes_eq-Decides (drop (length t - length s) t) s) in
    told_by part r x o (take (length t - length s) t) e (i ∙ ap (λ j. take j t) at) ∙ ap (λ b. cond b (Some (take (length t - length s) t)) None) test

pub suffix_longer : (s t : List ℕ) → length t < length s → None ≡ before_suffix s t
unfolding before_suffix
suffix_longer s t h =
    let k = length t - length s in
    elim (cases_Bool (bytes_eq (drop k t) s)) [
      | inl e ↦ let same : drop k t ≡ s = (bytes_eq-Decides (drop k t) s).0 e in absurd (omega (arith, ap length same, length-drop k t))
      | inr e ↦ rw e refl
    ]

-- The suffix is counted no further than the text is long: a longer one differs from the whole text.
pub suffix_told : {X : Type 0} (part : X → List ℕ) (s t last : List ℕ) (size n k : ℕ) (r : Bool) (x : X) (o : Option X) → size ≡ length t → n ≡ length (take size s) → k ≡ size - n → o ≡ then_some r x → part x ≡ take k t →
    last ≡ drop (length t - n) t → Decides r (s ≡ last) → option_map part o ≡ before_suffix s t
suffix_told part s t last size n k r x o whole len rest e i end d =
    elim (cases_lt (length t) (length s)) [
      | inl longer ↦
          let differs : s ≡ last → ⊥ = λ same. omega (arith, ap length same, ap length end, length-drop (length t - n) t) in
          let none : cond r (Some (take k t)) None ≡ None = elim (cases_Bool r) [ inl h ↦ absurd (differs (d.0 h)) | inr h ↦ ap (λ b. cond b (Some (take k t)) None) h ] in
          told_by part r x o (take k t) e i ∙ none ∙ suffix_longer s t longer
      | inr fits ↦ suffix_by_test part s t last n k r x o (omega (arith, length-take size s)) (omega (arith, length-take size s)) e i end d
    ]

-- What the next byte of a text tells of those that follow it.
use Rattle.std.proofs.Common.{◌≡◌, ℕ, zero, suc, ◌+◌, ◌-◌, ◌<◌, ◌≤◌, Bool, true, false, not, eqb, Decides, is_some, List, [], ◌∷◌, length, take, drop, Some, None, Option, sym, refl, ap, ◌∙◌, arith, MatchOption}
use Rattle.std.specs.Option.{option_eq}
use Rattle.std.proofs.lemmas.List.{length-take, length-drop, drop-take, drop_all}
use Rattle.std.proofs.lemmas.Bool.{eqb-true, eq-eqb, true≢false}

none_of_none : (k : ℕ) (s : List ℕ) → s ≡ [] → take k s ≡ []
none_of_none k s e = ap (take k) e ∙ go k
  where
    go : (n : ℕ) → ◌≡◌ {A = List ℕ} (take n []) []
    go zero = refl
    go (suc n) = refl

-- The next of the first n bytes.
pub next_of_first : (n : ℕ) (s t : List ℕ) (o : Option ℕ) → (n ≡ 0 → ⊥) → MatchOption o ((s ≡ []) × (t ≡ [])) (λ x. s ≡ x ∷ t) →
    MatchOption o ((take n s ≡ []) × (take (n - 1) t ≡ [])) (λ x. take n s ≡ x ∷ take (n - 1) t)
next_of_first zero s t o h told = absurd (h refl)
next_of_first (suc n) s t None h told = (none_of_none (suc n) s told.0, none_of_none (suc n - 1) t told.1)
next_of_first (suc n) s t (Some x) h told = ap (take (suc n)) told ∙ ap (λ k. x ∷ take k t) (let e : n ≡ suc n - 1 = omega arith in e)

-- What is left behind the next byte.
pub behind_next : (s t : List ℕ) (o : Option ℕ) → MatchOption o ((s ≡ []) × (t ≡ [])) (λ x. s ≡ x ∷ t) → t ≡ drop 1 s
behind_next s t None told = told.1 ∙ sym (ap (drop 1) told.0)
behind_next s t (Some x) told = sym (ap (drop 1) told)

-- No byte comes, and all are passed over.
pub behind_none : (s t all : List ℕ) (o : Option ℕ) (r : Bool) (n count : ℕ) → MatchOption o ((s ≡ []) × (t ≡ [])) (λ x. s ≡ x ∷ t) → is_some o ≡ not r → r ≡ true → s ≡ drop n all → n < count → t ≡ drop count all
behind_none s t all None r n count told h e was less = told.1 ∙ sym (drop_all count all (omega (arith, length-drop n all, ap length (sym was ∙ told.0))))
behind_none s t all (Some x) r n count told h e was less = absurd (true≢false (h ∙ ap not e))

-- What is left behind the first n of the first bytes.
pub behind_first : (n count len : ℕ) (s : List ℕ) → count ≤ len → n ≡ len - count → take n (drop count s) ≡ drop count (take len s)
behind_first n count len s h e = let sum : count + n ≡ len = omega arith in sym (drop-take count n s) ∙ ap (λ k. drop count (take k s)) sum

-- There is nothing left of them.
pub behind_all : (n count len : ℕ) (s t : List ℕ) → n ≡ 0 → len ≤ count → take n t ≡ drop count (take len s)
behind_all n count len s t e h = ap (λ k. take k t) e ∙ sym (drop_all count (take len s) (omega (arith, length-take len s)))

-- What came, where it was compared with a byte.
module _ (b : ℕ) (s t : List ℕ) where
  pub byte_comes : (o : Option ℕ) (r : Bool) → MatchOption o ((s ≡ []) × (t ≡ [])) (λ x. s ≡ x ∷ t) → r ≡ not (option_eq eqb o (Some b)) → r ≡ false → s ≡ b ∷ t
  byte_comes None r told e f = absurd (true≢false (sym e ∙ f))
  byte_comes (Some x) r told e f = told ∙ ap (λ y. y ∷ t) (eqb-true x b (not_false (eqb x b) (sym e ∙ f)))
    where
      not_false : (y : Bool) → not y ≡ false → y ≡ true
      not_false true h = refl
      not_false false h = absurd (true≢false h)

  pub other_comes : (o : Option ℕ) (r : Bool) (u : List ℕ) → MatchOption o ((s ≡ []) × (t ≡ [])) (λ x. s ≡ x ∷ t) → r ≡ not (option_eq eqb o (Some b)) → r ≡ true → s ≡ b ∷ u → ⊥
  other_comes None r u told e f h = let k : [] ≡ b ∷ u = sym told.0 ∙ h in cc
  other_comes (Some x) r u told e f h =
      let k : x ∷ t ≡ b ∷ u = sym told ∙ h in
      let same : x ≡ b = cc in
      true≢false (sym f ∙ e ∙ ap not (eq-eqb x b same))

-- One more of both, or the end of one.
pub more_of_both : (x : ℕ) (s s' t t' : List ℕ) → s ≡ x ∷ s' → t ≡ x ∷ t' → ((s ≡ t → s' ≡ t') × (s' ≡ t' → s ≡ t))
more_of_both x s s' t t' e i = (λ h. let k : x ∷ s' ≡ x ∷ t' = sym e ∙ h ∙ i in cc, λ h. e ∙ ap (λ r. x ∷ r) h ∙ sym i)

-- Both end, or only one does.
pub both_end : (r : Bool) (s t u : List ℕ) (o : Option ℕ) → s ≡ [] → MatchOption o ((t ≡ []) × (u ≡ [])) (λ x. t ≡ x ∷ u) → is_some o ≡ not r → Decides r (s ≡ t)
both_end true s t u None e told h = (λ _. e ∙ sym told.0, λ _. refl)
both_end false s t u None e told h = absurd (true≢false (sym h))
both_end true s t u (Some x) e told h = absurd (true≢false h)
both_end false s t u (Some x) e told h = (λ k. absurd (true≢false (sym k)), λ k. let z : [] ≡ x ∷ u = sym e ∙ k ∙ told in cc)

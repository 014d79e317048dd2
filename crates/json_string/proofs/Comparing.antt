-- What `eq` of two iterators tells of the bytes that they give.
use Rattle.std.proofs.Common.{◌≡◌, ℕ, Bool, true, false, eqb, List, [], ◌∷◌, Some, None, Decides, Option, sym, refl, ◌∙◌, MatchOption, IfSome}
use Rattle.std.specs.Iterator.{AlwaysYields, Yields, YieldsThen}
use Rattle.std.specs.List.{AllZip}
use Rattle.std.proofs.lemmas.Iterator.{YieldsList}
use Rattle.std.proofs.lemmas.Bool.{true≢false, eqb-true, eq-eqb}

more_same : (r : Bool) (x y : ℕ) (xs ys : List ℕ) → x ≡ y → Decides r (xs ≡ ys) → Decides r (x ∷ xs ≡ y ∷ ys)
more_same r x y xs ys e h = (λ t. let k = h.0 t in cc, λ k. h.1 (cc))

differ : (r : Bool) (xs ys : List ℕ) → r ≡ false → (xs ≡ ys → ⊥) → Decides r (xs ≡ ys)
differ r xs ys e n = (λ t. absurd (true≢false (sym t ∙ e)), λ k. absurd (n k))

-- what the last answers of both tell
abbrev pub Last : Bool → Option ℕ → Option ℕ → Type 0
Last r o p = MatchOption o (MatchOption p (r ≡ true) (λ _. r ≡ false)) (λ x. (r ≡ false) × IfSome p (λ y. eqb x y ≡ false))

module _ {S T : Type 0} (steps : S → Option ℕ → S → Type 0) (others : T → Option ℕ → T → Type 0) (r : Bool) where
  ends : (xs ys : List ℕ) (s u : S) (it v : T) (o p : Option ℕ) → AlwaysYields steps (λ x. x) s xs → AlwaysYields others (λ x. x) it ys → steps s o u → others it p v →
      Last r o p → Decides r (xs ≡ ys)
  ends [] [] s u it v None None h k a b e = (λ _. refl, λ _. e)
  ends [] [] s u it v None (Some y) h k a b e = absurd (k y v b)
  ends [] [] s u it v (Some x) p h k a b e = absurd (h x u a)
  ends [] (y ∷ ys) s u it v None None h k a b e = absurd (k.0 v b)
  ends [] (y ∷ ys) s u it v None (Some y') h k a b e = differ r [] (y ∷ ys) e (λ i. cc)
  ends [] (y ∷ ys) s u it v (Some x) p h k a b e = absurd (h x u a)
  ends (x ∷ xs) ys s u it v None p h k a b e = absurd (h.0 u a)
  ends (x ∷ xs) [] s u it v (Some x') p h k a b e = differ r (x ∷ xs) [] e.0 (λ i. cc)
  ends (x ∷ xs) (y ∷ ys) s u it v (Some x') None h k a b e = absurd (k.0 v b)
  ends (x ∷ xs) (y ∷ ys) s u it v (Some x') (Some y') h k a b e =
      let i : x' ≡ x = (h.1 x' u a).0 in
      let j : y' ≡ y = (k.1 y' v b).0 in
      differ r (x ∷ xs) (y ∷ ys) e.0 (λ q. let z : x' ≡ y' = cc in true≢false (sym (eq-eqb x' y' z) ∙ e.1))

  along : (zs ws xs ys : List ℕ) (s t u : S) (it t' v : T) (o p : Option ℕ) → AlwaysYields steps (λ x. x) s xs → AlwaysYields others (λ x. x) it ys →
      Yields steps s zs t → steps t o u → Yields others it ws t' → others t' p v → AllZip (λ x y. eqb x y ≡ true) zs ws →
      Last r o p → Decides r (xs ≡ ys)
  along [] [] xs ys s t u it t' v o p h k a b c d z e = ends xs ys t u t' v o p (rw a at h) (rw c at k) b d e
  along (x ∷ zs) (y ∷ ws) [] ys s t u it t' v o p h k a b c d z e = absurd (h x a.0 a.1)
  along (x ∷ zs) (y ∷ ws) (x' ∷ xs) [] s t u it t' v o p h k a b c d z e = absurd (k y c.0 c.1)
  along (x ∷ zs) (y ∷ ws) (x' ∷ xs) (y' ∷ ys) s t u it t' v o p h k a b c d z e =
      let m = h.1 x a.0 a.1 in
      let n = k.1 y c.0 c.1 in
      more_same r x' y' xs ys (sym m.0 ∙ eqb-true x y z.0 ∙ n.0) (along zs ws xs ys a.0 t u c.0 t' v o p m.1 n.1 a.2 b c.2 d z.1 e)
  along (x ∷ zs) [] xs ys s t u it t' v o p h k a b c d z e = absurd z
  along [] (y ∷ ws) xs ys s t u it t' v o p h k a b c d z e = absurd z

-- Where both give the items of a list, `eq` tells whether these are the same: `ran` is its clause, and B says which iterator the other became.
pub same_from_eq : {S T : Type 0} {steps : S → Option ℕ → S → Type 0} {others : T → Option ℕ → T → Type 0} {B : T → Type 0} {s : S} {r : Bool} {xs ys : List ℕ} →
    (ran : (it : T) × (zs : List ℕ) × (ws : List ℕ) × (o : Option ℕ) × (p : Option ℕ) × (u : S) × (v : T)
    × B it × YieldsThen steps s zs o u × YieldsThen others it ws p v × AllZip (λ x y. eqb x y ≡ true) zs ws × Last r o p) →
    YieldsList steps (λ x. x) s xs → ((it : T) → B it → YieldsList others (λ x. x) it ys) → Decides r (xs ≡ ys)
same_from_eq {steps = steps} {others = others} {s = s} {r = r} {xs = xs} {ys = ys} (it, zs, ws, o, p, u, v, b, a, c, z, e) h k =
    along steps others r zs ws xs ys s a.0 u it c.0 v o p h.runs (k it b).runs a.1 a.2 c.1 c.2 z e

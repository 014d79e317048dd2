-- One leading `./`, by the first two bytes.
use Rattle.std.proofs.Common.{◌≡◌, ℕ, List, [], ◌∷◌, refl, ap}
use Rattle.std.proofs.lemmas.Bool.{ne_eqb}
use Rattle.patterns.specs.Entry.{undotted}

pub both : (t u v : List ℕ) → t ≡ 46 ∷ u → u ≡ 47 ∷ v → v ≡ undotted t
unfolding undotted
both t u v e i = rw (e, i) refl

pub no_dot : (t : List ℕ) → ((u : List ℕ) → t ≡ 46 ∷ u → ⊥) → t ≡ undotted t
unfolding undotted
no_dot [] n = refl
no_dot (a ∷ []) n = refl
no_dot (a ∷ (b ∷ t)) n =
    let differ : a ≡ 46 → ⊥ = λ e. n (b ∷ t) (ap (λ x. x ∷ b ∷ t) e) in
    rw (ne_eqb a 46 differ) refl

pub no_slash : (t u : List ℕ) → t ≡ 46 ∷ u → ((v : List ℕ) → u ≡ 47 ∷ v → ⊥) → t ≡ undotted t
unfolding undotted
no_slash t [] e n = rw e refl
no_slash t (b ∷ u) e n =
    let differ : b ≡ 47 → ⊥ = λ h. n u (ap (λ x. x ∷ u) h) in
    rw e (rw (ne_eqb b 47 differ) refl)

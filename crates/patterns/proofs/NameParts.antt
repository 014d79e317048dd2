-- A name along a specifier, byte by byte.
use Rattle.std.proofs.Common.{◌≡◌, ℕ, Bool, true, false, ◌||◌, eqb, List, [], ◌∷◌, Some, None, Option, MatchOption, sym, refl, ap, ◌∙◌}
use Rattle.std.proofs.lemmas.Bool.{ne_eqb, eq-eqb}
use Rattle.patterns.specs.Name.{names_part, name_ends}

module _ (name part left rest : List ℕ) (same : names_part name part ≡ names_part left rest) where
  pub same_byte : (b : ℕ) (ns others : List ℕ) → left ≡ b ∷ ns → rest ≡ b ∷ others → names_part name part ≡ names_part ns others
  unfolding names_part
  same_byte b ns others e i = same ∙ rw (e, i) (rw (eq-eqb b b refl) refl)

  pub other_byte : (b : ℕ) (ns : List ℕ) → left ≡ b ∷ ns → ((u : List ℕ) → rest ≡ b ∷ u → ⊥) → false ≡ names_part name part
  unfolding names_part
  other_byte b ns e n = sym (same ∙ ap (λ l. names_part l rest) e ∙ go rest n)
    where
      go : (r : List ℕ) → ((u : List ℕ) → r ≡ b ∷ u → ⊥) → names_part (b ∷ ns) r ≡ false
      go [] k = refl
      go (x ∷ r) k = let differ : b ≡ x → ⊥ = λ h. k r (ap (λ y. y ∷ r) (sym h)) in rw (ne_eqb b x differ) refl

  pub at_its_end : (next : List ℕ) (o : Option ℕ) (r : Bool) → left ≡ [] → MatchOption o ((rest ≡ []) × (next ≡ [])) (λ x. rest ≡ x ∷ next) →
      MatchOption o (r ≡ true) (λ x. r ≡ (eqb x 47 || eqb x 92)) → r ≡ names_part name part
  unfolding names_part name_ends
  at_its_end next None r e told t = t ∙ sym (same ∙ rw (e, told.0) refl)
  at_its_end next (Some x) r e told t = t ∙ sym (same ∙ rw (e, told) refl)

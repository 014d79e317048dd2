-- The kinds of a piece, and the pieces that are left, by what the code tests.
use Rattle.std.proofs.Common.{◌≡◌, ℕ, ◌<◌, Bool, true, false, ◌&&◌, eqb, List, [], ◌∷◌, length, Decides, Some, None, Option, sym, ap, ◌∙◌, inl, inr, arith}
use Rattle.std.specs.Str.{bytes_eq}
use Rattle.std.specs.Option.{option_map}
use Rattle.std.proofs.lemmas.Bool.{eq-eqb, cases_Bool, not_from_false, or_from}
use Rattle.std.proofs.lemmas.Bool.Decides.{same_from_decides}
use Rattle.std.proofs.lemmas.List.{nil_from_length}
use Rattle.std.proofs.lemmas.Slice.Eq.{bytes_eq-Decides}
use Rattle.path.specs.Path.{stays, goes_up, proper, every, split, behind, pieces_left}
use Rattle.path.proofs.Cutting.{behind_first}

-- an empty piece, one that is not empty, and `..`
pub empty_stays : (c : List ℕ) (n : ℕ) → n ≡ length c → n ≡ 0 → eqb n 0 ≡ stays c
unfolding stays
empty_stays c n e z = eq-eqb n 0 z ∙ sym (ap stays (nil_from_length c (sym e ∙ z)))

pub dot_stays : (c : List ℕ) (n : ℕ) (r : Bool) → n ≡ length c → (n ≡ 0 → ⊥) → Decides r (c ≡ 46 ∷ []) → r ≡ stays c
unfolding stays
dot_stays [] n r e z d = absurd (z e)
dot_stays (x ∷ c) n r e z d = same_from_decides r (bytes_eq (x ∷ c) (46 ∷ [])) d (bytes_eq-Decides (x ∷ c) (46 ∷ []))

pub dots_go_up : (c : List ℕ) (r : Bool) → Decides r (c ≡ 46 ∷ 46 ∷ []) → r ≡ goes_up c
unfolding goes_up
dots_go_up c r d = same_from_decides r (bytes_eq c (46 ∷ 46 ∷ [])) d (bytes_eq-Decides c (46 ∷ 46 ∷ []))

-- a piece of more bytes than `..` is proper
differs : (c d : List ℕ) → length d < length c → bytes_eq c d ≡ false
differs c d h = elim (cases_Bool (bytes_eq c d)) [ inl e ↦ absurd (omega (arith, h, ap length ((bytes_eq-Decides c d).0 e))) | inr e ↦ e ]

pub long_proper : (c : List ℕ) (n : ℕ) → n ≡ length c → 2 < n → proper c ≡ true
unfolding stays goes_up proper
long_proper c n e h =
    let k : 2 < length c = omega (arith, e, h) in
    not_from_false _ (or_from _ _ (or_from _ _ (differs c [] (omega arith)) (differs c (46 ∷ []) (omega arith))) (differs c (46 ∷ 46 ∷ []) (omega arith)))

-- what is left of a text is cut: its first piece, and the pieces behind it
module _ {X : Type 0} (part : X → List ℕ) (left next : Option X) where
  module _ (text : X) (piece : List ℕ) (some : left ≡ Some text) (cut : split (part text) ≡ piece ∷ pieces_left (option_map part next)) where
    pub piece_left : pieces_left (option_map part left) ≡ piece ∷ pieces_left (option_map part next)
    piece_left = ap (λ o. pieces_left (option_map part o)) some ∙ cut

    pub fewer_left : length (behind (pieces_left (option_map part next))) < length (behind (pieces_left (option_map part left)))
    fewer_left = omega (arith, ap (λ ps. length (behind ps)) piece_left, behind_first piece (pieces_left (option_map part next)))

    -- each of them is proper if the first is and the others are
    module _ (all : Bool) (same : all ≡ every proper (pieces_left (option_map part left))) where
      pub proper_passed : proper piece ≡ true → all ≡ every proper (pieces_left (option_map part next))
      unfolding every
      proper_passed e = same ∙ ap (every proper) piece_left ∙ ap (λ b. b && every proper (pieces_left (option_map part next))) e

      pub improper_found : proper piece ≡ false → false ≡ all
      unfolding every
      improper_found e = sym (same ∙ ap (every proper) piece_left ∙ ap (λ b. b && every proper (pieces_left (option_map part next))) e)

  pub none_left : left ≡ None → pieces_left (option_map part left) ≡ []
  none_left e = ap (λ o. pieces_left (option_map part o)) e

  pub all_proper : (all : Bool) → all ≡ every proper (pieces_left (option_map part left)) → left ≡ None → true ≡ all
  unfolding every
  all_proper all same e = sym (same ∙ ap (every proper) (none_left e))

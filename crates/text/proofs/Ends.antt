-- The end of a text, by how many bytes it has.
use Rattle.std.proofs.Common.{◌≡◌, ℕ, ◌-◌, ◌≤◌, List, length, drop, ap, ◌∙◌, arith}
use Rattle.std.proofs.lemmas.List.{length-drop}

-- What was passed over is what the end has fewer.
pub at_end : (all last : List ℕ) (k a l : ℕ) → last ≡ drop k all → length all ≡ a → length last ≡ l → k ≤ a → last ≡ drop (a - l) all
at_end all last k a l e n m h =
    let same : k ≡ a - l = omega (arith, ap length e, length-drop k all) in
    e ∙ ap (λ i. drop i all) same

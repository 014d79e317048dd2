-- Going from place to place up to the first answer.
use Rattle.std.specs.Prelude.{ℕ, Some, None, Option}

-- Each place has the answer that is told, or none and leads to the next one; from no place on there is no answer.
pub data FirstAnswer (next answer : ℕ → Option ℕ → Type 0) : Option ℕ → Option ℕ → Type 0 where
  over : FirstAnswer next answer None None
  here : {at x : ℕ} → answer at (Some x) → FirstAnswer next answer (Some at) (Some x)
  later : {at : ℕ} {n r : Option ℕ} → answer at None → next at n → FirstAnswer next answer n r → FirstAnswer next answer (Some at) r

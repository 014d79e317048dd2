-- What reading a string tells: where it ends, or the first byte after which no string goes on.
use Rattle.std.specs.Prelude.{◌≡◌, ℕ, ◌<◌, ◌≤◌, true, List, [], ◌∷◌, ◌++◌, length, slice_index_or}
use Rattle.std.specs.List.{between}
use Rattle.json_string.specs.String.{Chars, Begins, StringBegins}
use Rattle.json_string.specs.Machine.{plain, broken, string_step, string_run, alive}

-- The byte at a place; at the end and past it 256, which is no byte.
abbrev pub byte_at : List ℕ → ℕ → ℕ
byte_at text place = slice_index_or text place 256

-- From `at` the chars of a string stand up to `end`, and there its closing quotation mark.
pub record StringAt (text : List ℕ) (at end : ℕ) : Type 0 where
  pub not_before : at ≤ end
  pub inside : end < length text
  pub closing : byte_at text end ≡ 0x22
  pub chars : (d : List ℕ) × Chars (between at end text) d

-- The bytes from `at` to `place` begin some string, and with the byte there, or the end of the text, they begin none.
pub record FaultAt (text : List ℕ) (at place : ℕ) : Type 0 where
  pub not_before : at ≤ place
  pub inside : place ≤ length text
  pub begins : Begins (between at place text)
  pub ends_here : StringBegins (between at place text ++ byte_at text place ∷ []) → ⊥
  -- the same by the machine
  pub goes_on : alive (string_run plain (between at place text)) ≡ true
  pub breaks : string_step (string_run plain (between at place text)) (byte_at text place) ≡ broken

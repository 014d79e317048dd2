-- Where a cursor stands, and where another one stands behind it.
use Rattle.std.specs.Prelude.{◌≡◌, ℕ, ◌+◌, ◌<◌, List, length, slice_index_or}
use Rattle.json_text.specs.declared.cursor.Cursor.{Cursor}

-- The symbol that stands there: a byte, or 256 for the end of the text.
abbrev pub symbol : Cursor → ℕ
symbol here = slice_index_or here.text.now here.at 256

-- The cursor is in the text, behind the byte that stands at the place.
pub record Behind (t : List ℕ) (at : ℕ) (next : Cursor) : Type 0 where
  pub same_text : next.text.now ≡ t
  pub one_further : next.at ≡ at + 1
  pub inside : at < length t

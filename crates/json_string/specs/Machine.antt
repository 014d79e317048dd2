-- A JSON string byte by byte: a machine that breaks at the first byte after which no string goes on.
-- It says where a fault is; what a string is, the grammar in `String` says.
use Rattle.std.specs.Prelude.{ℕ, Bool, true, false, cond, List, [], ◌∷◌, ◌==◌}
use Rattle.json_string.specs.String.{Class, ◌–◌, holds, unescaped_rows}

-- What has been read of a string behind its opening quotation mark.
pub data StringState : Type 0 where
  -- whole chars
  plain : StringState
  -- a char that wants one byte of each of these classes, one at least
  wanted : List Class → StringState
  -- the backslash of an escape
  escape : StringState
  -- `\u`
  code : StringState
  -- `\uD`: the next digit tells a surrogate
  code_d : StringState
  -- the closing quotation mark
  closed : StringState
  -- no string begins so
  broken : StringState

abbrev pub hexdig : Class
hexdig = (0x30, 0x39) ∷ (0x41, 0x46) ∷ (0x61, 0x66) ∷ []

-- The letters of the escapes of one letter.
abbrev pub escape_letter : Class
escape_letter = (0x22, 0x22) ∷ (0x2F, 0x2F) ∷ (0x5C, 0x5C) ∷ (0x62, 0x62) ∷ (0x66, 0x66) ∷ (0x6E, 0x6E) ∷ (0x72, 0x72) ∷ (0x74, 0x74) ∷ []

-- The digit D, and the digits that make `\uD_` no surrogate, a high one and a low one.
abbrev pub digit_d : Class
digit_d = (0x44, 0x44) ∷ (0x64, 0x64) ∷ []

abbrev pub digit_0_7 : Class
digit_0_7 = 0x30 – 0x37

abbrev pub digit_8_b : Class
digit_8_b = (0x38, 0x39) ∷ (0x41, 0x42) ∷ (0x61, 0x62) ∷ []

abbrev pub digit_c_f : Class
digit_c_f = (0x43, 0x46) ∷ (0x63, 0x66) ∷ []

-- The escape of a low surrogate.
abbrev pub low_surrogate : List Class
low_surrogate = 0x5C – 0x5C ∷ 0x75 – 0x75 ∷ digit_d ∷ digit_c_f ∷ hexdig ∷ hexdig ∷ []

-- The state that wants these classes; none left is a whole char.
abbrev pub wanting : List Class → StringState
wanting [] = plain
wanting (c ∷ cs) = wanted (c ∷ cs)

-- The first row of the table whose first class has the byte says what follows.
unfoldable pub row_step : List (List Class) → ℕ → StringState
row_step [] b = broken
row_step ([] ∷ rows) b = row_step rows b
row_step ((c ∷ cs) ∷ rows) b = cond (holds c b) (wanting cs) (row_step rows b)

unfoldable pub string_step : StringState → ℕ → StringState
string_step plain b = cond (b == 0x22) closed (cond (b == 0x5C) escape (row_step unescaped_rows b))
string_step (wanted []) b = broken
string_step (wanted (c ∷ cs)) b = cond (holds c b) (wanting cs) broken
string_step escape b = cond (b == 0x75) code (cond (holds escape_letter b) plain broken)
string_step code b = cond (holds digit_d b) code_d (cond (holds hexdig b) (wanting (hexdig ∷ hexdig ∷ hexdig ∷ [])) broken)
string_step code_d b =
    cond (holds digit_0_7 b) (wanting (hexdig ∷ hexdig ∷ []))
    (cond (holds digit_8_b b) (wanting (hexdig ∷ hexdig ∷ low_surrogate)) broken)
string_step closed b = broken
string_step broken b = broken

unfoldable pub string_run : StringState → List ℕ → StringState
string_run s [] = s
string_run s (b ∷ bs) = string_run (string_step s b) bs

-- The string has neither ended nor broken.
abbrev pub alive : StringState → Bool
alive plain = true
alive (wanted cs) = true
alive escape = true
alive code = true
alive code_d = true
alive closed = false
alive broken = false

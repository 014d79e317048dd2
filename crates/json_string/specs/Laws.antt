-- The laws of a string's grammar and of its machine, as statements.
use Rattle.std.specs.Prelude.{◌≡◌, ℕ, ◌≤◌, true, List, [], ◌∷◌, ◌++◌, IsUtf8, ◌≢◌}
use Rattle.std.proofs.Math.Utf8.{scalar, encode}
use Rattle.json_string.specs.String.{Class, Fits, Among, unescaped_rows, Chars, Begins}
use Rattle.json_string.specs.Decoded.{decoded}
use Rattle.json_string.specs.Machine.{StringState, plain, closed, broken, string_step, string_run, alive}

-- A text is the chars of a string exactly if the machine reads it to between two chars.
abbrev pub CharsAreRead : Type 0
CharsAreRead = (t d : List ℕ) → Chars t d → string_run plain t ≡ plain

abbrev pub ReadAreChars : Type 0
ReadAreChars = (t : List ℕ) → string_run plain t ≡ plain → (d : List ℕ) × Chars t d

-- An unescaped char is the UTF-8 bytes of a code, and each such code has one: it is no surrogate, no control character, no
-- quotation mark and no backslash.
abbrev pub UnescapedCode : ℕ → Type 0
UnescapedCode c = (scalar c ≡ true) × (0x20 ≤ c) × (c ≢ 0x22) × (c ≢ 0x5C)

abbrev pub UnescapedAreCodes : Type 0
UnescapedAreCodes = (row : List Class) (t : List ℕ) → Among row unescaped_rows → Fits row t → (c : ℕ) × UnescapedCode c × (t ≡ encode c)

abbrev pub CodesAreUnescaped : Type 0
CodesAreUnescaped = (c : ℕ) → UnescapedCode c → (row : List Class) × Among row unescaped_rows × Fits row (encode c)

-- What a string stands for is text in UTF-8.
abbrev pub CharsAreText : Type 0
CharsAreText = (t d : List ℕ) → Chars t d → IsUtf8 d

-- The closing quotation mark ends it.
abbrev pub CharsClose : Type 0
CharsClose = (t d : List ℕ) → Chars t d → string_run plain (t ++ 0x22 ∷ []) ≡ closed

-- A text begins some string exactly if the machine has neither ended nor broken.
abbrev pub AliveBegins : Type 0
AliveBegins = (t : List ℕ) → alive (string_run plain t) ≡ true → Begins t

abbrev pub BeginsAlive : Type 0
BeginsAlive = (t : List ℕ) → Begins t → alive (string_run plain t) ≡ true

-- After a break every byte breaks, and so does at any time what is over 255.
abbrev pub BrokenStays : Type 0
BrokenStays = (t : List ℕ) → string_run broken t ≡ broken

abbrev pub NoByteBreaks : Type 0
NoByteBreaks = (s : StringState) (b : ℕ) → 256 ≤ b → string_step s b ≡ broken

-- One text stands for the bytes of one decoding: the one that is computed.
abbrev pub CharsAreDecoded : Type 0
CharsAreDecoded = (t d : List ℕ) → Chars t d → decoded t ≡ d

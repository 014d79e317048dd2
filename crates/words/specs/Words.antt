-- A word: text for a byte string, with `%XX` for a byte that may not stand plain and `-` for no bytes.
use Rattle.std.specs.Prelude.{◌≡◌, ℕ, ◌+◌, ◌-◌, ◌*◌, ◌/◌, ◌%◌, ◌<◌, Bool, true, false, cond, List, [], ◌∷◌, ◌++◌, Ok, Err, Result, ◌==◌, nat_le, nat_lt, codes}
use Rattle.words.specs.declared.Fault.{Fault}
use Rattle.words.specs.declared.Fault.TheVariants.{Memory, Empty, Escape, Unescaped}

-- What each fault says.
abbrev pub message : Fault → List ℕ
message Memory = codes "there is no memory for a word"
message Empty = codes "a word is empty"
message Escape = codes "a % without two hexadecimal digits after it"
message Unescaped = codes "a byte stands plain that has to be written %XX"

-- What a text stands for, or why it is no word.
abbrev pub Reading : Type 0
Reading = Result (List ℕ) Fault

-- A byte that may stand for itself: no control byte, no space, no `%`, and below 127.
abbrev pub plain : ℕ → Bool
plain b = cond (nat_lt 32 b) (cond (nat_lt b 127) (cond (b == 37) false true) false) false

-- `0` to `9`, `A` to `F` and `a` to `f`.
abbrev pub is_digit : ℕ → Bool
is_digit b = cond (nat_le 48 b) (cond (nat_le b 57) true (cond (nat_le 65 b) (cond (nat_le b 70) true (cond (nat_le 97 b) (nat_le b 102) false)) false)) false

abbrev pub digit_value : ℕ → ℕ
digit_value b = cond (nat_le b 57) (b - 48) (cond (nat_le b 70) (b - 55) (b - 87))

abbrev pub digit_of : ℕ → ℕ
digit_of d = cond (nat_lt d 10) (d + 48) (d + 55)

-- One byte in a word.
abbrev pub spelled : ℕ → List ℕ
spelled b = cond (plain b) (b ∷ []) (37 ∷ digit_of (b / 16) ∷ digit_of (b % 16) ∷ [])

unfoldable pub letters : List ℕ → List ℕ
letters [] = []
letters (b ∷ bs) = spelled b ++ letters bs

-- The word of a byte string; `-` alone is taken, so the byte `-` alone is `%2D`.
unfoldable pub written : List ℕ → List ℕ
written [] = 45 ∷ []
written (b ∷ []) = cond (b == 45) (37 ∷ 50 ∷ 68 ∷ []) (letters (b ∷ []))
written (b ∷ c ∷ bs) = letters (b ∷ c ∷ bs)

-- A byte in front of what the rest stands for.
abbrev pub put : ℕ → Reading → Reading
put b (Ok bs) = Ok (b ∷ bs)
put b (Err e) = Err e

abbrev pub standing : ℕ → Reading → Reading
standing b rest = cond (plain b) (put b rest) (Err Unescaped)

abbrev pub coded : ℕ → ℕ → Reading → Reading
coded x y rest = cond (is_digit x) (cond (is_digit y) (put (16 * digit_value x + digit_value y) rest) (Err Escape)) (Err Escape)

-- What the letters of a word stand for, from left to right.
unfoldable pub bytes : List ℕ → Reading
bytes [] = Ok []
bytes (b ∷ []) = cond (b == 37) (Err Escape) (standing b (bytes []))
bytes (b ∷ x ∷ []) = cond (b == 37) (Err Escape) (standing b (bytes (x ∷ [])))
bytes (b ∷ x ∷ y ∷ rest) = cond (b == 37) (coded x y (bytes rest)) (standing b (bytes (x ∷ y ∷ rest)))

-- The byte string of a word.
unfoldable pub read : List ℕ → Reading
read [] = Err Empty
read (b ∷ []) = cond (b == 45) (Ok []) (bytes (b ∷ []))
read (b ∷ c ∷ text) = bytes (b ∷ c ∷ text)

-- Numbers that are bytes.
abbrev pub Bytes : List ℕ → Type 0
Bytes [] = Unit {0}
Bytes (b ∷ bs) = (b < 256) × Bytes bs

-- What is written is read back.
abbrev pub RoundTrip : Type 0
RoundTrip = (bs : List ℕ) → Bytes bs → read (written bs) ≡ Ok bs

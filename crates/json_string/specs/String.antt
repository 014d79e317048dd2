-- The characters of a JSON string (RFC 8259, section 7), each with the UTF-8 bytes (RFC 3629) that it stands for.
use Rattle.std.specs.Prelude.{◌≡◌, ℕ, ◌+◌, ◌-◌, ◌*◌, ◌%◌, ◌<◌, ◌≤◌, Bool, true, false, ◌&&◌, ◌||◌, ◌⊎◌, List, [], ◌∷◌, ◌++◌, nat_le}
use Rattle.std.proofs.Math.Utf8.{encode}

infix 90 ◌–◌
-- A class of bytes: ranges, each by its first and its last byte.
abbrev pub Class : Type 0
Class = List (ℕ × ℕ)

-- The class of one range, as the RFCs' %x20-21.
abbrev pub ◌–◌ : ℕ → ℕ → Class
low – high = (low, high) ∷ []

-- Whether a number is in one of the ranges.
unfoldable pub in_a_range : Class → ℕ → Bool
in_a_range [] b = false
in_a_range (r ∷ rs) b = (nat_le r.0 b && nat_le b r.1) || in_a_range rs b

-- Whether a byte is in the class; a number over 255 is no byte, and in no class.
unfoldable pub holds : Class → ℕ → Bool
holds c b = nat_le b 0xFF && in_a_range c b

-- The text has one byte of each class, in this order.
pub data Fits : List Class → List ℕ → Type 0 where
  none : {t : List ℕ} → t ≡ [] → Fits [] t
  byte : {c : Class} {cs : List Class} {t : List ℕ} (b : ℕ) (rest : List ℕ) → holds c b ≡ true → Fits cs rest → t ≡ b ∷ rest → Fits (c ∷ cs) t

-- x is one of the list.
pub data Among {A : Type 0} (x : A) : List A → Type 0 where
  here : {xs : List A} → Among x (x ∷ xs)
  there : {y : A} {xs : List A} → Among x xs → Among x (y ∷ xs)

-- UTF8-tail = %x80-BF (RFC 3629, section 4).
abbrev pub utf8_tail : Class
utf8_tail = 0x80 – 0xBF

-- unescaped = %x20-21 / %x23-5B / %x5D-10FFFF. Each character is written by a row of the table UTF8-1 to UTF8-4 of
-- RFC 3629, section 4, which has no overlong form, no surrogate and nothing over %x10FFFF.
abbrev pub unescaped_rows : List (List Class)
unescaped_rows =
    (0x20 – 0x21 ∷ [])
    ∷ (0x23 – 0x5B ∷ [])
    ∷ (0x5D – 0x7F ∷ [])
    ∷ (0xC2 – 0xDF ∷ utf8_tail ∷ [])
    ∷ (0xE0 – 0xE0 ∷ 0xA0 – 0xBF ∷ utf8_tail ∷ [])
    ∷ (0xE1 – 0xEC ∷ utf8_tail ∷ utf8_tail ∷ [])
    ∷ (0xED – 0xED ∷ 0x80 – 0x9F ∷ utf8_tail ∷ [])
    ∷ (0xEE – 0xEF ∷ utf8_tail ∷ utf8_tail ∷ [])
    ∷ (0xF0 – 0xF0 ∷ 0x90 – 0xBF ∷ utf8_tail ∷ utf8_tail ∷ [])
    ∷ (0xF1 – 0xF3 ∷ utf8_tail ∷ utf8_tail ∷ utf8_tail ∷ [])
    ∷ (0xF4 – 0xF4 ∷ 0x80 – 0x8F ∷ utf8_tail ∷ utf8_tail ∷ [])
    ∷ []

-- HEXDIG in either case, with its value.
pub data Hexdig : ℕ → ℕ → Type 0 where
  digit : {b v : ℕ} → 0x30 ≤ b → b ≤ 0x39 → v ≡ b - 0x30 → Hexdig b v
  upper : {b v : ℕ} → 0x41 ≤ b → b ≤ 0x46 → v ≡ b - 0x37 → Hexdig b v
  lower : {b v : ℕ} → 0x61 ≤ b → b ≤ 0x66 → v ≡ b - 0x57 → Hexdig b v

-- 4HEXDIG, with the number that the four digits write.
pub data FourHexdig : List ℕ → ℕ → Type 0 where
  four_digits : {t : List ℕ} {u : ℕ} (a b c d : ℕ) {x y z w : ℕ} → Hexdig a x → Hexdig b y → Hexdig c z → Hexdig d w → t ≡ a ∷ b ∷ c ∷ d ∷ [] → u ≡ ((x * 16 + y) * 16 + z) * 16 + w → FourHexdig t u

-- The escapes of one letter: `"`, `\` and `/` stand for themselves, b, f, n, r and t for control characters.
pub data Escape : ℕ → ℕ → Type 0 where
  quotation_mark : {e c : ℕ} → e ≡ 0x22 → c ≡ 0x22 → Escape e c
  reverse_solidus : {e c : ℕ} → e ≡ 0x5C → c ≡ 0x5C → Escape e c
  solidus : {e c : ℕ} → e ≡ 0x2F → c ≡ 0x2F → Escape e c
  backspace : {e c : ℕ} → e ≡ 0x62 → c ≡ 0x08 → Escape e c
  form_feed : {e c : ℕ} → e ≡ 0x66 → c ≡ 0x0C → Escape e c
  line_feed : {e c : ℕ} → e ≡ 0x6E → c ≡ 0x0A → Escape e c
  carriage_return : {e c : ℕ} → e ≡ 0x72 → c ≡ 0x0D → Escape e c
  tab : {e c : ℕ} → e ≡ 0x74 → c ≡ 0x09 → Escape e c

-- The code that a pair of surrogates stands for: the ten low bits of each, and 0x10000 (RFC 2781, section 2.2).
unfoldable pub pair_code : ℕ → ℕ → ℕ
pair_code high low = 0x10000 + (high % 0x400) * 0x400 + low % 0x400

-- char: its text, and the bytes that it stands for.
--     unescaped, an escape of one letter, \uXXXX of a code that is no surrogate, or a pair \uXXXX\uXXXX of a high and a low
--     surrogate. A surrogate that has no such partner is no char.
pub data Char : List ℕ → List ℕ → Type 0 where
  unescaped : {t d : List ℕ} (row : List Class) → Among row unescaped_rows → Fits row t → d ≡ t → Char t d
  escaped : {t d : List ℕ} (e c : ℕ) → Escape e c → t ≡ 0x5C ∷ e ∷ [] → d ≡ c ∷ [] → Char t d
  coded : {t d : List ℕ} (h : List ℕ) (u : ℕ) → FourHexdig h u → (u < 0xD800) ⊎ (0xE000 ≤ u) → t ≡ 0x5C ∷ 0x75 ∷ h → d ≡ encode u → Char t d
  paired : {t d : List ℕ} (h l : List ℕ) (high low : ℕ) → FourHexdig h high → FourHexdig l low →
      0xD800 ≤ high → high < 0xDC00 → 0xDC00 ≤ low → low < 0xE000 →
      t ≡ 0x5C ∷ 0x75 ∷ h ++ 0x5C ∷ 0x75 ∷ l → d ≡ encode (pair_code high low) → Char t d

-- *char: what stands between the quotation marks.
pub data Chars : List ℕ → List ℕ → Type 0 where
  none_left : {t d : List ℕ} → t ≡ [] → d ≡ [] → Chars t d
  char_and : {t d : List ℕ} (a b x y : List ℕ) → Char a x → Chars b y → t ≡ a ++ b → d ≡ x ++ y → Chars t d

-- The chars of some string begin so.
abbrev pub Begins : List ℕ → Type 0
Begins t = (rest : List ℕ) × (d : List ℕ) × Chars (t ++ rest) d

-- Some string begins so behind its opening quotation mark; its closing one comes last.
abbrev pub StringBegins : List ℕ → Type 0
StringBegins t = (rest : List ℕ) × (c : List ℕ) × (d : List ℕ) × Chars c d × (t ++ rest ≡ c ++ 0x22 ∷ [])

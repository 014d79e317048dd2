-- The machine reads only texts of the grammar: a run from `plain` to `plain` is the chars of a string.
use Rattle.std.proofs.Common.{◌≡◌, ℕ, zero, suc, ◌+◌, ◌*◌, ◌<◌, ◌≤◌, true, false, eqb, List, [], ◌∷◌, ◌++◌, length, sym, refl, ap, ◌∙◌, inl, inr, arith}
use lib.Utf8.{encode}
use Rattle.std.proofs.lemmas.Bool.{cases_Bool, cases_lt, eqb-true, true≢false}
use Rattle.std.proofs.lemmas.List.{length-append}
use Rattle.json_string.specs.String.{Class, holds, Fits, none, byte, Among, unescaped_rows, Hexdig, FourHexdig, four_digits, pair_code, Char, unescaped, escaped, coded, paired, Chars, none_left, char_and}
use Rattle.json_string.specs.Machine.{plain, escape, code, code_d, string_step, string_run, hexdig, low_surrogate, digit_d, digit_0_7, digit_8_b, escape_letter}
use Rattle.json_string.specs.Decoded.{hex_value}
use Rattle.json_string.proofs.Running.{broken_not_plain, closed_not_plain, Fitting, run_fits, run_row, range_holds}
use Rattle.json_string.proofs.Complete.{row_length}
use Rattle.json_string.proofs.Digits.{hexdig_of, hexdig_below, d_is, d_holds, low_digit_is, high_digit_is, top_digit_is, escape_of}

-- A text whose first char is known, and whose rest is read.
record Leading (t : List ℕ) : Type 0 where
  part : List ℕ
  rest : List ℕ
  stands_for : List ℕ
  char : Char part stands_for
  split : t ≡ part ++ rest
  longer : length rest < length t
  whole : string_run plain rest ≡ plain

leading : {t : List ℕ} (b : ℕ) (part rest d : List ℕ) → Char (b ∷ part) d → t ≡ b ∷ (part ++ rest) → string_run plain rest ≡ plain → Leading t
leading b part rest d c e w =
    record { part = b ∷ part; rest = rest; stands_for = d; char = c; split = e; longer = rw e (omega (arith, length-append part rest)); whole = w }

-- The number of four digits, by its first two.
record Number (h : List ℕ) (high : ℕ) : Type 0 where
  number : ℕ
  digits : FourHexdig h number
  at_least : high * 256 ≤ number
  below : number < (high + 1) * 256

number_of : (h : List ℕ) (a b c d x y : ℕ) → Hexdig a x → Hexdig b y → holds hexdig c ≡ true → holds hexdig d ≡ true → h ≡ a ∷ b ∷ c ∷ d ∷ [] → Number h (x * 16 + y)
number_of h a b c d x y p q r s e =
    let r' = hexdig_of c r in
    let s' = hexdig_of d s in
    record {
      number = ((x * 16 + y) * 16 + hex_value c) * 16 + hex_value d;
      digits = four_digits a b c d p q r' s' e refl;
      at_least = omega arith;
      below = omega (arith, hexdig_below r', hexdig_below s');
    }

-- After `\u`, a digit other than D and three more.
after_other : (x : ℕ) {p : List ℕ} → holds digit_d x ≡ false → holds hexdig x ≡ true → Fits (hexdig ∷ hexdig ∷ hexdig ∷ []) p → (d : List ℕ) × Char (0x5C ∷ 0x75 ∷ x ∷ p) d
after_other x {p} n h (byte a r1 ha (byte b r2 hb (byte c r3 hc (none e4) e3) e2) e1) =
    let v = hexdig_of x h in
    let k = number_of (x ∷ p) x a b c (hex_value x) (hex_value a) v (hexdig_of a ha) hb hc (cc) in
    let other : hex_value x ≡ 13 → ⊥ = λ e. true≢false (sym (d_holds v e) ∙ n) in (
      encode k.number,
      coded (x ∷ p) k.number k.digits (elim (cases_lt (hex_value x) 13) [
        | inl l ↦ inl (omega (arith, k.below, hexdig_below (hexdig_of a ha)))
        | inr l ↦ inr (omega (arith, k.at_least, other))
      ]) refl refl,
    )

-- After `\uD`, a digit below 8 and two more.
after_low : (x y : ℕ) {p : List ℕ} → holds digit_d x ≡ true → holds digit_0_7 y ≡ true → Fits (hexdig ∷ hexdig ∷ []) p → (d : List ℕ) × Char (0x5C ∷ 0x75 ∷ x ∷ y ∷ p) d
after_low x y {p} hx hy (byte a r1 ha (byte b r2 hb (none e3) e2) e1) =
    let v = low_digit_is y hy in
    let k = number_of (x ∷ y ∷ p) x y a b 13 (hex_value y) (d_is x hx) v.0 ha hb (cc) in
    (encode k.number, coded (x ∷ y ∷ p) k.number k.digits (inl (omega (arith, k.below, v.1))) refl refl)

-- After `\uD`, a digit from 8 to B, two more and the escape of a low surrogate.
after_high : (x y : ℕ) {p : List ℕ} → holds digit_d x ≡ true → holds digit_8_b y ≡ true → Fits (hexdig ∷ hexdig ∷ low_surrogate) p → (d : List ℕ) × Char (0x5C ∷ 0x75 ∷ x ∷ y ∷ p) d
after_high x y {p} hx hy
    (byte a r1 ha (byte b r2 hb (byte s r3 hs (byte u r4 hu (byte x' r5 hx' (byte y' r6 hy' (byte a' r7 ha' (byte b' r8 hb' (none e9) e8) e7) e6) e5) e4) e3) e2) e1) =
    let v = high_digit_is y hy in
    let w = top_digit_is y' hy' in
    let high = x ∷ y ∷ a ∷ b ∷ [] in
    let low = x' ∷ y' ∷ a' ∷ b' ∷ [] in
    let k = number_of high x y a b 13 (hex_value y) (d_is x hx) v.0 ha hb refl in
    let m = number_of low x' y' a' b' 13 (hex_value y') (d_is x' hx') w.0 ha' hb' refl in
    let slash : s ≡ 0x5C = omega (arith, range_holds 0x5C 0x5C s hs) in
    let letter : u ≡ 0x75 = omega (arith, range_holds 0x75 0x75 u hu) in (
      encode (pair_code k.number m.number),
      paired high low k.number m.number k.digits m.digits
          (omega (arith, k.at_least, v.1)) (omega (arith, k.below, v.2)) (omega (arith, m.at_least, w.1)) (omega (arith, m.below, hexdig_below w.0))
          (cc) refl,
    )

-- The parts of an escape, put in front of a rest that is read.
behind_three : (x : ℕ) (t : List ℕ) {cs : List Class} (f : Fitting cs t) → (d : List ℕ) × Char (0x5C ∷ 0x75 ∷ x ∷ f.part) d → Leading (0x5C ∷ 0x75 ∷ x ∷ t)
behind_three x t f c = leading 0x5C (0x75 ∷ x ∷ f.part) f.rest c.0 c.1 (ap (λ z. 0x5C ∷ 0x75 ∷ x ∷ z) f.split) f.whole

behind_four : (x y : ℕ) (t : List ℕ) {cs : List Class} (f : Fitting cs t) → (d : List ℕ) × Char (0x5C ∷ 0x75 ∷ x ∷ y ∷ f.part) d → Leading (0x5C ∷ 0x75 ∷ x ∷ y ∷ t)
behind_four x y t f c = leading 0x5C (0x75 ∷ x ∷ y ∷ f.part) f.rest c.0 c.1 (ap (λ z. 0x5C ∷ 0x75 ∷ x ∷ y ∷ z) f.split) f.whole

from_code_d : (x : ℕ) (t : List ℕ) → holds digit_d x ≡ true → string_run code_d t ≡ plain → Leading (0x5C ∷ 0x75 ∷ x ∷ t)
unfolding string_run string_step
from_code_d x [] hx e = absurd (let z : ◌≡◌ {A = ℕ} 0 1 = cc in omega arith)
from_code_d x (y ∷ t) hx e =
    elim (cases_Bool (holds digit_0_7 y)) [
      | inl h ↦ let f = run_fits (hexdig ∷ hexdig ∷ []) t (rw h at e) in behind_four x y t f (after_low x y hx h f.fits)
      | inr h ↦ elim (cases_Bool (holds digit_8_b y)) [
        | inl k ↦ let f = run_fits (hexdig ∷ hexdig ∷ low_surrogate) t (rw (h, k) at e) in behind_four x y t f (after_high x y hx k f.fits)
        | inr k ↦ absurd (broken_not_plain t (rw (h, k) at e))
      ]
    ]

from_code : (t : List ℕ) → string_run code t ≡ plain → Leading (0x5C ∷ 0x75 ∷ t)
unfolding string_run string_step
from_code [] e = absurd (let z : ◌≡◌ {A = ℕ} 0 1 = cc in omega arith)
from_code (x ∷ t) e =
    elim (cases_Bool (holds digit_d x)) [
      | inl h ↦ from_code_d x t h (rw h at e)
      | inr h ↦ elim (cases_Bool (holds hexdig x)) [
        | inl k ↦ let f = run_fits (hexdig ∷ hexdig ∷ hexdig ∷ []) t (rw (h, k) at e) in behind_three x t f (after_other x h k f.fits)
        | inr k ↦ absurd (broken_not_plain t (rw (h, k) at e))
      ]
    ]

from_escape : (t : List ℕ) → string_run escape t ≡ plain → Leading (0x5C ∷ t)
unfolding string_run string_step
from_escape [] e = absurd (let z : ◌≡◌ {A = ℕ} 0 1 = cc in omega arith)
from_escape (x ∷ t) e =
    elim (cases_Bool (eqb x 0x75)) [
      | inl h ↦ let i = eqb-true x 0x75 h in rw i (from_code t (rw h at e))
      | inr h ↦ elim (cases_Bool (holds escape_letter x)) [
        | inl k ↦ let c = escape_of x k in leading 0x5C (x ∷ []) t (c.0 ∷ []) (escaped x c.0 c.1 refl refl) refl (rw (h, k) at e)
        | inr k ↦ absurd (broken_not_plain t (rw (h, k) at e))
      ]
    ]

-- A text that is read begins with a char, unless it is empty.
from_plain : (b : ℕ) (t : List ℕ) → string_run plain (b ∷ t) ≡ plain → Leading (b ∷ t)
unfolding string_run string_step
from_plain b t e =
    elim (cases_Bool (eqb b 0x22)) [
      | inl h ↦ absurd (closed_not_plain t (rw h at e))
      | inr h ↦ elim (cases_Bool (eqb b 0x5C)) [
        | inl k ↦ let i = eqb-true b 0x5C k in rw i (from_escape t (rw (h, k) at e))
        | inr k ↦ from_row (run_row unescaped_rows b t (rw (h, k) at e))
      ]
    ]
  where
    from_row : (row : List Class) × Among row unescaped_rows × Fitting row (b ∷ t) → Leading (b ∷ t)
    from_row r =
        let f = r.2 in
        record {
          part = f.part;
          rest = f.rest;
          stands_for = f.part;
          char = unescaped r.0 r.1 f.fits refl;
          split = f.split;
          longer = omega (arith, row_length r.1 f.fits, ap length f.split, length-append f.part f.rest);
          whole = f.whole;
        }

read_chars_within : (n : ℕ) (t : List ℕ) → length t ≤ n → string_run plain t ≡ plain → (d : List ℕ) × Chars t d
read_chars_within n [] h e = ([], none_left refl refl)
read_chars_within zero (b ∷ t) h e = absurd (omega arith)
read_chars_within (suc n) (b ∷ t) h e =
    let l = from_plain b t e in
    let r = read_chars_within n l.rest (omega (arith, l.longer)) l.whole in
    (l.stands_for ++ r.0, char_and l.part l.rest l.stands_for r.0 l.char r.1 l.split refl)

pub read_chars : (t : List ℕ) → string_run plain t ≡ plain → (d : List ℕ) × Chars t d
read_chars t e = read_chars_within (length t) t (omega arith) e

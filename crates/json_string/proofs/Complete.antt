-- The machine reads every text of the grammar: `Chars t d` leads it from `plain` to `plain`.
use Rattle.std.proofs.Common.{◌≡◌, ℕ, ◌<◌, ◌≤◌, true, false, eqb, ◌⊎◌, List, [], ◌∷◌, ◌++◌, length, sym, refl, ap, ◌∙◌, inl, inr, arith, lit<, lit≤}
use Rattle.std.proofs.lemmas.Bool.{cases_eq, cond-true, cond-false, ne_eqb, false≢true}
use Rattle.json_string.specs.String.{Class, ◌–◌, holds, in_a_range, Fits, none, byte, Among, here, there, unescaped_rows, FourHexdig, four_digits, Char, unescaped, escaped, coded, paired, Chars, none_left, char_and}
use Rattle.json_string.specs.Machine.{plain, code, closed, broken, wanting, row_step, string_step, string_run, alive}
use Rattle.json_string.proofs.Running.{run_append, fits_run, range_holds, outside_range}
use Rattle.json_string.proofs.Digits.{hexdig_below, hexdig_holds, d_holds, not_d_holds, low_digit_holds, not_low_digit, high_digit_holds, top_digit_holds, escape_letters}

-- A table whose rows begin with single ranges, each above the one before and all above n.
data Rising : ℕ → List (List Class) → Type 0 where
  risen : {n : ℕ} → Rising n []
  rises : {n : ℕ} (low high : ℕ) {cs : List Class} {rows : List (List Class)} → n < low → low ≤ high → Rising high rows → Rising n ((low – high ∷ cs) ∷ rows)

-- The row that a text fits is the one that its first byte finds.
record Found (rows : List (List Class)) (n : ℕ) (t : List ℕ) : Type 0 where
  first : ℕ
  rest : List ℕ
  then_wanted : List Class
  split : t ≡ first ∷ rest
  above : n < first
  leads : row_step rows first ≡ wanting then_wanted
  fits : Fits then_wanted rest

found : {n : ℕ} {row : List Class} {rows : List (List Class)} {t : List ℕ} → Rising n rows → Among row rows → Fits row t → Found rows n t
unfolding row_step
found risen a f = elim a [ ]
found (rises low high {cs = cs} {rows = rows} l m r) here (byte b rest h f e) =
    let k = range_holds low high b h in
    record { first = b; rest = rest; then_wanted = cs; split = e; above = omega (arith, k.0); leads = cond-true _ _ _ h; fits = f }
found (rises low high {cs = cs} {rows = rows} l m r) (there a) f =
    let k = found r a f in
    record {
      first = k.first;
      rest = k.rest;
      then_wanted = k.then_wanted;
      split = k.split;
      above = omega (arith, k.above);
      leads = cond-false _ _ _ (outside_range low high k.first (inr k.above)) ∙ k.leads;
      fits = k.fits;
    }

rising : Rising 0x1F unescaped_rows
rising =
    rises 0x20 0x21 (lit< tt) (lit≤ tt) (rises 0x23 0x5B (lit< tt) (lit≤ tt) (rises 0x5D 0x7F (lit< tt) (lit≤ tt)
    (rises 0xC2 0xDF (lit< tt) (lit≤ tt) (rises 0xE0 0xE0 (lit< tt) (lit≤ tt) (rises 0xE1 0xEC (lit< tt) (lit≤ tt)
    (rises 0xED 0xED (lit< tt) (lit≤ tt) (rises 0xEE 0xEF (lit< tt) (lit≤ tt) (rises 0xF0 0xF0 (lit< tt) (lit≤ tt)
    (rises 0xF1 0xF3 (lit< tt) (lit≤ tt) (rises 0xF4 0xF4 (lit< tt) (lit≤ tt) risen))))))))))

-- A row has a byte at least.
pub row_length : {row : List Class} {t : List ℕ} → Among row unescaped_rows → Fits row t → 0 < length t
row_length a f = let k = found rising a f in omega (arith, ap length k.split)

-- `"` and `\` begin no row.
no_row : (b : ℕ) (cs : List Class) → row_step unescaped_rows b ≡ broken → row_step unescaped_rows b ≡ wanting cs → ⊥
no_row b [] p q = false≢true (ap alive (sym p ∙ q))
no_row b (c ∷ cs) p q = false≢true (ap alive (sym p ∙ q))

quote_no_row : row_step unescaped_rows 0x22 ≡ broken
unfolding row_step holds in_a_range
quote_no_row = refl

slash_no_row : row_step unescaped_rows 0x5C ≡ broken
unfolding row_step holds in_a_range
slash_no_row = refl

row_read : {row : List Class} {t : List ℕ} → Among row unescaped_rows → Fits row t → string_run plain t ≡ plain
unfolding string_run string_step
row_read a f =
    let k = found rising a f in
    let quote : eqb k.first 0x22 ≡ false = ne_eqb _ _ (λ e. no_row k.first k.then_wanted (rw e quote_no_row) k.leads) in
    let slash : eqb k.first 0x5C ≡ false = ne_eqb _ _ (λ e. no_row k.first k.then_wanted (rw e slash_no_row) k.leads) in
    rw k.split (
    ap (λ s. string_run s k.rest) (cond-false _ _ _ quote ∙ cond-false _ _ _ slash ∙ k.leads) ∙ fits_run k.fits
    )

slash_holds : holds (0x5C – 0x5C) 0x5C ≡ true
unfolding holds in_a_range
slash_holds = refl

u_holds : holds (0x75 – 0x75) 0x75 ≡ true
unfolding holds in_a_range
u_holds = refl

-- Four digits whose number is no surrogate.
code_read : {h : List ℕ} {u : ℕ} → FourHexdig h u → (u < 0xD800) ⊎ (0xE000 ≤ u) → string_run code h ≡ plain
unfolding string_run string_step
code_read (four_digits a b c d {x = x} {y = y} p q r s e n) k =
    rw e (elim (cases_eq x 13) [
      | inl i ↦
          let lt : y < 8 = omega (arith, hexdig_below p, hexdig_below q, hexdig_below r, hexdig_below s) in
          rw (d_holds p i, low_digit_holds q lt) (rw (hexdig_holds r) (rw (hexdig_holds s)))
      | inr i ↦ rw (not_d_holds p i, hexdig_holds p) (rw (hexdig_holds q) (rw (hexdig_holds r) (rw (hexdig_holds s))))
    ])

-- Four digits of a high surrogate, and the escape of a low one.
high_read : {h l : List ℕ} {high low : ℕ} → FourHexdig h high → FourHexdig l low → 0xD800 ≤ high → high < 0xDC00 → 0xDC00 ≤ low → low < 0xE000 →
    string_run code (h ++ 0x5C ∷ 0x75 ∷ l) ≡ plain
unfolding string_run string_step
high_read (four_digits a b c d {x = x} {y = y} p q r s e n) (four_digits a' b' c' d' {x = x'} {y = y'} p' q' r' s' e' n') k1 k2 k3 k4 =
    let i : x ≡ 13 = omega (arith, hexdig_below p, hexdig_below q, hexdig_below r, hexdig_below s) in
    let j : 8 ≤ y = omega (arith, hexdig_below p, hexdig_below q, hexdig_below r, hexdig_below s) in
    let m : y < 12 = omega (arith, hexdig_below p, hexdig_below q, hexdig_below r, hexdig_below s) in
    let i' : x' ≡ 13 = omega (arith, hexdig_below p', hexdig_below q', hexdig_below r', hexdig_below s') in
    let j' : 12 ≤ y' = omega (arith, hexdig_below p', hexdig_below q', hexdig_below r', hexdig_below s') in
    rw (e, e') (rw (d_holds p i) (rw (not_low_digit q j, high_digit_holds q j m) (fits_run
    (byte c _ (hexdig_holds r) (byte d _ (hexdig_holds s) (byte 0x5C _ slash_holds (byte 0x75 _ u_holds
    (byte a' _ (d_holds p' i') (byte b' _ (top_digit_holds q' j') (byte c' _ (hexdig_holds r') (byte d' _ (hexdig_holds s')
    (none refl) refl) refl) refl) refl) refl) refl) refl) refl))))

char_read : {t d : List ℕ} → Char t d → string_run plain t ≡ plain
unfolding string_run string_step
char_read (unescaped row a f e) = row_read a f
char_read (escaped e c i p q) = rw p (rw ((escape_letters i).no_u, (escape_letters i).in_class))
char_read (coded h u f k p q) = rw p (code_read f k)
char_read (paired h l high low f g k1 k2 k3 k4 p q) = rw p (high_read f g k1 k2 k3 k4)

pub chars_read : (t d : List ℕ) → Chars t d → string_run plain t ≡ plain
unfolding string_run
chars_read t d (none_left e i) = rw e
chars_read t d (char_and a b x y c cs e i) = rw e (run_append plain a b ∙ ap (λ s. string_run s b) (char_read c) ∙ chars_read b y cs)

pub chars_close : (t d : List ℕ) → Chars t d → string_run plain (t ++ 0x22 ∷ []) ≡ closed
unfolding string_run string_step
chars_close t d c = run_append plain t (0x22 ∷ []) ∙ ap (λ s. string_run s (0x22 ∷ [])) (chars_read t d c)

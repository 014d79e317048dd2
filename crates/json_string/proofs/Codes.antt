-- The table of unescaped characters has exactly the UTF-8 bytes of the codes that may stand unescaped.
use Rattle.std.proofs.Common.{◌≡◌, ℕ, ◌+◌, ◌-◌, ◌*◌, ◌/◌, ◌%◌, ◌<◌, ◌≤◌, true, ◌⊎◌, List, [], ◌∷◌, IsUtf8, sym, refl, ◌∙◌, inl, inr, arith, lit≤}
use lib.Utf8.{scalar, scalar_cases, low_scalar, encode}
use Rattle.std.proofs.lemmas.Bool.{cases_lt, cases_eq, lt-ltb, le-ltb}
use Rattle.std.proofs.lemmas.Str.{IsUtf8-append, IsUtf8-nil, IsUtf8-encode}
use Rattle.std.proofs.lemmas.Bool.Decides.{nat_tests}
use Rattle.json_string.specs.String.{Class, ◌–◌, holds, Fits, none, byte, Among, here, there, utf8_tail, unescaped_rows, FourHexdig, four_digits, Escape, quotation_mark, reverse_solidus, solidus, backspace, form_feed, line_feed, carriage_return, tab, pair_code, Char, unescaped, escaped, coded, paired, Chars, none_left, char_and}
use Rattle.json_string.specs.Laws.{UnescapedCode}
use Rattle.json_string.proofs.Running.{range_holds, inside_range}
use Rattle.json_string.proofs.Digits.{hexdig_below}

-- The bytes of a code, by how many they are.
encode_one : (c : ℕ) → c < 128 → encode c ≡ c ∷ []
unfolding encode
encode_one c h = rw (lt-ltb c 128 h)

encode_two : (c : ℕ) → 128 ≤ c → c < 2048 → encode c ≡ (192 + c / 64) ∷ (128 + c % 64) ∷ []
unfolding encode
encode_two c h k = rw (le-ltb c 128 h, lt-ltb c 2048 k)

encode_three : (c : ℕ) → 2048 ≤ c → c < 65536 → encode c ≡ (224 + c / 4096) ∷ (128 + (c / 64) % 64) ∷ (128 + c % 64) ∷ []
unfolding encode
encode_three c h k = rw (le-ltb c 128 (omega arith), le-ltb c 2048 h, lt-ltb c 65536 k)

encode_four : (c : ℕ) → 65536 ≤ c → encode c ≡ (240 + c / 262144) ∷ (128 + (c / 4096) % 64) ∷ (128 + (c / 64) % 64) ∷ (128 + c % 64) ∷ []
unfolding encode
encode_four c h = rw (le-ltb c 128 (omega arith), le-ltb c 2048 (omega arith), le-ltb c 65536 h)

scalar_from : (c : ℕ) → (c < 0xD800) ⊎ ((0xE000 ≤ c) × (c < 0x110000)) → scalar c ≡ true
scalar_from c h = grind (arith, nat_tests)

-- A text that a code stands for.
abbrev Code : List ℕ → Type 0
Code t = (c : ℕ) × UnescapedCode c × (t ≡ encode c)

of_one : (b : ℕ) → 0x20 ≤ b → b < 0x80 → (b ≡ 0x22 → ⊥) → (b ≡ 0x5C → ⊥) → Code (b ∷ [])
of_one b h k m n = (b, (low_scalar b (omega arith), h, m, n), sym (encode_one b k))

of_two : (a b : ℕ) → 0xC2 ≤ a → a ≤ 0xDF → 0x80 ≤ b → b ≤ 0xBF → Code (a ∷ b ∷ [])
of_two a b h k m n =
    let c = (a - 0xC0) * 64 + (b - 0x80) in
    let first : 192 + c / 64 ≡ a = omega arith in
    let second : 128 + c % 64 ≡ b = omega arith in
    (c, (low_scalar c (omega arith), omega arith, omega arith, omega arith), sym (encode_two c (omega arith) (omega arith) ∙ rw (first, second)))

of_three : (a b d : ℕ) → 0xE0 ≤ a → a ≤ 0xEF → 0x80 ≤ b → b ≤ 0xBF → 0x80 ≤ d → d ≤ 0xBF → (a ≡ 0xE0 → 0xA0 ≤ b) → (a ≡ 0xED → b ≤ 0x9F) → Code (a ∷ b ∷ d ∷ [])
of_three a b d h k m n p q low high =
    let high_bits_lem = (a - 0xE0) * 64 + (b - 0x80) in
    let c = high_bits_lem * 64 + (d - 0x80) in
    let above : c / 64 ≡ high_bits_lem = omega arith in
    let first : 224 + c / 4096 ≡ a = omega arith in
    let second : 128 + (c / 64) % 64 ≡ b = rw above (omega arith) in
    let third : 128 + c % 64 ≡ d = omega arith in
    let least : 2048 ≤ c = elim (cases_eq a 0xE0) [ inl e ↦ omega (arith, low e) | inr e ↦ omega arith ] in
    let code : (c < 0xD800) ⊎ ((0xE000 ≤ c) × (c < 0x110000)) = elim (cases_lt a 0xEE) [
      | inl l ↦ elim (cases_eq a 0xED) [ inl e ↦ inl (omega (arith, high e)) | inr e ↦ inl (omega arith) ]
      | inr l ↦ inr (omega arith, omega arith)
    ] in
    (c, (scalar_from c code, omega arith, omega arith, omega arith), sym (encode_three c least (omega arith) ∙ rw (first, second, third)))

of_four : (a b d e : ℕ) → 0xF0 ≤ a → a ≤ 0xF4 → 0x80 ≤ b → b ≤ 0xBF → 0x80 ≤ d → d ≤ 0xBF → 0x80 ≤ e → e ≤ 0xBF → (a ≡ 0xF0 → 0x90 ≤ b) → (a ≡ 0xF4 → b ≤ 0x8F) → Code (a ∷ b ∷ d ∷ e ∷ [])
of_four a b d e h k m n p q r s low high =
    let top-bits = (a - 0xF0) * 64 + (b - 0x80) in
    let high_bits_lem = top-bits * 64 + (d - 0x80) in
    let c = high_bits_lem * 64 + (e - 0x80) in
    let above : c / 64 ≡ high_bits_lem = omega arith in
    let top : c / 4096 ≡ top-bits = omega arith in
    let first : 240 + c / 262144 ≡ a = omega arith in
    let second : 128 + (c / 4096) % 64 ≡ b = rw top (omega arith) in
    let third : 128 + (c / 64) % 64 ≡ d = rw above (omega arith) in
    let fourth : 128 + c % 64 ≡ e = omega arith in
    let least : 0x10000 ≤ c = elim (cases_eq a 0xF0) [ inl i ↦ omega (arith, low i) | inr i ↦ omega arith ] in
    let most : c < 0x110000 = elim (cases_eq a 0xF4) [ inl i ↦ omega (arith, high i) | inr i ↦ omega arith ] in
    (c, (scalar_from c (inr (omega arith, most)), omega arith, omega arith, omega arith), sym (encode_four c least ∙ rw (first, second, third, fourth)))

-- A text that fits one, two, three or four classes, by its bytes.
one_byte : {c : Class} {t : List ℕ} → Fits (c ∷ []) t → (b : ℕ) × (holds c b ≡ true) × (t ≡ b ∷ [])
one_byte (byte b r h (none e2) e1) = (b, h, cc)

two_bytes : {c c2 : Class} {t : List ℕ} → Fits (c ∷ c2 ∷ []) t → (a b : ℕ) × (holds c a ≡ true) × (holds c2 b ≡ true) × (t ≡ a ∷ b ∷ [])
two_bytes (byte a r h (byte b r2 h2 (none e3) e2) e1) = (a, b, h, h2, cc)

three_bytes : {c c2 c3 : Class} {t : List ℕ} → Fits (c ∷ c2 ∷ c3 ∷ []) t → (a b d : ℕ) × (holds c a ≡ true) × (holds c2 b ≡ true) × (holds c3 d ≡ true) × (t ≡ a ∷ b ∷ d ∷ [])
three_bytes (byte a r h (byte b r2 h2 (byte d r3 h3 (none e4) e3) e2) e1) = (a, b, d, h, h2, h3, cc)

four_bytes : {c c2 c3 c4 : Class} {t : List ℕ} → Fits (c ∷ c2 ∷ c3 ∷ c4 ∷ []) t → (a b d e : ℕ) × (holds c a ≡ true) × (holds c2 b ≡ true) × (holds c3 d ≡ true) × (holds c4 e ≡ true) × (t ≡ a ∷ b ∷ d ∷ e ∷ [])
four_bytes (byte a r h (byte b r2 h2 (byte d r3 h3 (byte e r4 h4 (none e5) e4) e3) e2) e1) = (a, b, d, e, h, h2, h3, h4, cc)

-- Each row of the table.
row_of_one : {t : List ℕ} (low high : ℕ) → ((b : ℕ) → low ≤ b → b ≤ high → (0x20 ≤ b) × (b < 0x80) × (b ≡ 0x22 → ⊥) × (b ≡ 0x5C → ⊥)) → Fits (low – high ∷ []) t → Code t
row_of_one low high ok f =
    let k = one_byte f in
    let r = range_holds low high k.0 k.1 in
    let o = ok k.0 r.0 r.1 in
    rw k.2 (of_one k.0 o.0 o.1 o.2 o.3)

row_of_three : {t : List ℕ} (low high low2 high2 : ℕ) → 0xE0 ≤ low → high ≤ 0xEF → 0x80 ≤ low2 → high2 ≤ 0xBF →
    ((a b : ℕ) → low ≤ a → a ≤ high → low2 ≤ b → b ≤ high2 → (a ≡ 0xE0 → 0xA0 ≤ b) × (a ≡ 0xED → b ≤ 0x9F)) → Fits (low – high ∷ low2 – high2 ∷ utf8_tail ∷ []) t → Code t
row_of_three low high low2 high2 h1 h2 h3 h4 ok f =
    let k = three_bytes f in
    let r = range_holds low high k.0 k.3 in
    let s = range_holds low2 high2 k.1 k.4 in
    let u = range_holds 0x80 0xBF k.2 k.5 in
    let o = ok k.0 k.1 r.0 r.1 s.0 s.1 in
    rw k.6 (of_three k.0 k.1 k.2 (omega arith) (omega arith) (omega arith) (omega arith) u.0 u.1 o.0 o.1)

row_of_four : {t : List ℕ} (low high low2 high2 : ℕ) → 0xF0 ≤ low → high ≤ 0xF4 → 0x80 ≤ low2 → high2 ≤ 0xBF →
    ((a b : ℕ) → low ≤ a → a ≤ high → low2 ≤ b → b ≤ high2 → (a ≡ 0xF0 → 0x90 ≤ b) × (a ≡ 0xF4 → b ≤ 0x8F)) → Fits (low – high ∷ low2 – high2 ∷ utf8_tail ∷ utf8_tail ∷ []) t → Code t
row_of_four low high low2 high2 h1 h2 h3 h4 ok f =
    let k = four_bytes f in
    let r = range_holds low high k.0 k.4 in
    let s = range_holds low2 high2 k.1 k.5 in
    let u = range_holds 0x80 0xBF k.2 k.6 in
    let v = range_holds 0x80 0xBF k.3 k.7 in
    let o = ok k.0 k.1 r.0 r.1 s.0 s.1 in
    rw k.8 (of_four k.0 k.1 k.2 k.3 (omega arith) (omega arith) (omega arith) (omega arith) u.0 u.1 v.0 v.1 o.0 o.1)

row_of_two : {t : List ℕ} → Fits (0xC2 – 0xDF ∷ utf8_tail ∷ []) t → Code t
row_of_two f =
    let k = two_bytes f in
    let r = range_holds 0xC2 0xDF k.0 k.2 in
    let s = range_holds 0x80 0xBF k.1 k.3 in
    rw k.4 (of_two k.0 k.1 r.0 r.1 s.0 s.1)

pub unescaped_codes : (row : List Class) (t : List ℕ) → Among row unescaped_rows → Fits row t → Code t
unescaped_codes row t here f = row_of_one 0x20 0x21 (λ b h k. (omega arith, omega arith, omega arith, omega arith)) f
unescaped_codes row t (there here) f = row_of_one 0x23 0x5B (λ b h k. (omega arith, omega arith, omega arith, omega arith)) f
unescaped_codes row t (there (there here)) f = row_of_one 0x5D 0x7F (λ b h k. (omega arith, omega arith, omega arith, omega arith)) f
unescaped_codes row t (there (there (there here))) f = row_of_two f
unescaped_codes row t (there (there (there (there here)))) f = row_of_three 0xE0 0xE0 0xA0 0xBF (lit≤ tt) (lit≤ tt) (lit≤ tt) (lit≤ tt) (λ a b h k m n. (omega arith, omega arith)) f
unescaped_codes row t (there (there (there (there (there here))))) f = row_of_three 0xE1 0xEC 0x80 0xBF (lit≤ tt) (lit≤ tt) (lit≤ tt) (lit≤ tt) (λ a b h k m n. (omega arith, omega arith)) f
unescaped_codes row t (there (there (there (there (there (there here)))))) f = row_of_three 0xED 0xED 0x80 0x9F (lit≤ tt) (lit≤ tt) (lit≤ tt) (lit≤ tt) (λ a b h k m n. (omega arith, omega arith)) f
unescaped_codes row t (there (there (there (there (there (there (there here))))))) f = row_of_three 0xEE 0xEF 0x80 0xBF (lit≤ tt) (lit≤ tt) (lit≤ tt) (lit≤ tt) (λ a b h k m n. (omega arith, omega arith)) f
unescaped_codes row t (there (there (there (there (there (there (there (there here)))))))) f = row_of_four 0xF0 0xF0 0x90 0xBF (lit≤ tt) (lit≤ tt) (lit≤ tt) (lit≤ tt) (λ a b h k m n. (omega arith, omega arith)) f
unescaped_codes row t (there (there (there (there (there (there (there (there (there here))))))))) f = row_of_four 0xF1 0xF3 0x80 0xBF (lit≤ tt) (lit≤ tt) (lit≤ tt) (lit≤ tt) (λ a b h k m n. (omega arith, omega arith)) f
unescaped_codes row t (there (there (there (there (there (there (there (there (there (there here)))))))))) f = row_of_four 0xF4 0xF4 0x80 0x8F (lit≤ tt) (lit≤ tt) (lit≤ tt) (lit≤ tt) (λ a b h k m n. (omega arith, omega arith)) f
unescaped_codes row t (there (there (there (there (there (there (there (there (there (there (there a))))))))))) f = elim a [ ]

-- Back from a code to its row.
abbrev Row : ℕ → Type 0
Row c = (row : List Class) × Among row unescaped_rows × Fits row (encode c)

tail_fits : (n : ℕ) → n < 64 → holds utf8_tail (128 + n) ≡ true
tail_fits n h = inside_range 0x80 0xBF (128 + n) (omega arith) (omega arith) (omega arith)

fits_one : (low high c : ℕ) → c < 128 → low ≤ c → c ≤ high → Fits (low – high ∷ []) (encode c)
fits_one low high c h k m = rw (encode_one c h) (byte c [] (inside_range low high c k m (omega arith)) (none refl) refl)

fits_three : (low high low2 high2 c : ℕ) → 2048 ≤ c → c < 65536 → low ≤ 224 + c / 4096 → 224 + c / 4096 ≤ high → low2 ≤ 128 + (c / 64) % 64 → 128 + (c / 64) % 64 ≤ high2 →
    Fits (low – high ∷ low2 – high2 ∷ utf8_tail ∷ []) (encode c)
fits_three low high low2 high2 c h k p q r s =
    rw (encode_three c h k) (byte _ _ (inside_range low high _ p q (omega arith)) (byte _ _ (inside_range low2 high2 _ r s (omega arith)) (byte _ _ (tail_fits (c % 64) (omega arith)) (none refl) refl) refl) refl)

fits_four : (low high low2 high2 c : ℕ) → 65536 ≤ c → c < 0x110000 → low ≤ 240 + c / 262144 → 240 + c / 262144 ≤ high → low2 ≤ 128 + (c / 4096) % 64 → 128 + (c / 4096) % 64 ≤ high2 →
    Fits (low – high ∷ low2 – high2 ∷ utf8_tail ∷ utf8_tail ∷ []) (encode c)
fits_four low high low2 high2 c h k p q r s =
    rw (encode_four c h) (byte _ _ (inside_range low high _ p q (omega arith)) (byte _ _ (inside_range low2 high2 _ r s (omega arith))
    (byte _ _ (tail_fits ((c / 64) % 64) (omega arith)) (byte _ _ (tail_fits (c % 64) (omega arith)) (none refl) refl) refl) refl) refl)

codes_of_one : (c : ℕ) → c < 128 → 0x20 ≤ c → (c ≡ 0x22 → ⊥) → (c ≡ 0x5C → ⊥) → Row c
codes_of_one c h k m n =
    elim (cases_lt c 0x22) [
      | inl i ↦ (_, here, fits_one 0x20 0x21 c h k (omega arith))
      | inr i ↦ elim (cases_lt c 0x5C) [
        | inl j ↦ (_, there here, fits_one 0x23 0x5B c h (omega arith) (omega arith))
        | inr j ↦ (_, there (there here), fits_one 0x5D 0x7F c h (omega arith) (omega arith))
      ]
    ]

codes_of_three : (c : ℕ) → 2048 ≤ c → c < 65536 → (c < 0xD800) ⊎ (0xE000 ≤ c) → Row c
codes_of_three c h k s =
    elim (cases_lt c 0x1000) [
      | inl i ↦ (_, there (there (there (there here))), fits_three 0xE0 0xE0 0xA0 0xBF c h k (omega arith) (omega arith) (omega arith) (omega arith))
      | inr i ↦ elim (cases_lt c 0xD000) [
        | inl j ↦ (_, there (there (there (there (there here)))), fits_three 0xE1 0xEC 0x80 0xBF c h k (omega arith) (omega arith) (omega arith) (omega arith))
        | inr j ↦ elim (cases_lt c 0xE000) [
          | inl m ↦ (_, there (there (there (there (there (there here))))), fits_three 0xED 0xED 0x80 0x9F c h k (omega arith) (omega arith) (omega arith) (omega arith))
          | inr m ↦ (_, there (there (there (there (there (there (there here)))))), fits_three 0xEE 0xEF 0x80 0xBF c h k (omega arith) (omega arith) (omega arith) (omega arith))
        ]
      ]
    ]

codes_of_four : (c : ℕ) → 65536 ≤ c → c < 0x110000 → Row c
codes_of_four c h k =
    elim (cases_lt c 0x40000) [
      | inl i ↦ (_, there (there (there (there (there (there (there (there here))))))), fits_four 0xF0 0xF0 0x90 0xBF c h k (omega arith) (omega arith) (omega arith) (omega arith))
      | inr i ↦ elim (cases_lt c 0x100000) [
        | inl j ↦ (_, there (there (there (there (there (there (there (there (there here)))))))), fits_four 0xF1 0xF3 0x80 0xBF c h k (omega arith) (omega arith) (omega arith) (omega arith))
        | inr j ↦ (_, there (there (there (there (there (there (there (there (there (there here))))))))), fits_four 0xF4 0xF4 0x80 0x8F c h k (omega arith) (omega arith) (omega arith) (omega arith))
      ]
    ]

pub codes_unescaped : (c : ℕ) → UnescapedCode c → Row c
codes_unescaped c u =
    let s = scalar_cases c u.0 in
    elim (cases_lt c 128) [
      | inl h ↦ codes_of_one c h u.1 u.2 u.3
      | inr h ↦ elim (cases_lt c 2048) [
        | inl k ↦ (_, there (there (there here)), rw (encode_two c h k) (byte _ _ (inside_range 0xC2 0xDF (192 + c / 64) (omega arith) (omega arith) (omega arith)) (byte _ _ (tail_fits (c % 64) (omega arith)) (none refl) refl) refl))
        | inr k ↦ elim (cases_lt c 65536) [
          | inl m ↦ codes_of_three c k m (elim s [ inl l ↦ inl l | inr l ↦ inr l.0 ])
          | inr m ↦ codes_of_four c m (omega arith)
        ]
      ]
    ]

-- What a char stands for is the bytes of one code.
byte_text : (b : ℕ) → b < 128 → IsUtf8 (b ∷ [])
byte_text b h = rw (encode_one b h) at (IsUtf8-encode b (low_scalar b (omega arith)))

escape_text : {e c : ℕ} → Escape e c → c < 128
escape_text (quotation_mark p q) = omega arith
escape_text (reverse_solidus p q) = omega arith
escape_text (solidus p q) = omega arith
escape_text (backspace p q) = omega arith
escape_text (form_feed p q) = omega arith
escape_text (line_feed p q) = omega arith
escape_text (carriage_return p q) = omega arith
escape_text (tab p q) = omega arith

four_below : {h : List ℕ} {u : ℕ} → FourHexdig h u → u < 0x10000
four_below (four_digits a b c d p q r s e n) = omega (arith, hexdig_below p, hexdig_below q, hexdig_below r, hexdig_below s)

char_text : {t d : List ℕ} → Char t d → IsUtf8 d
unfolding pair_code
char_text {t} (unescaped row a f e) = let k = unescaped_codes row t a f in rw (e, k.2) (IsUtf8-encode k.0 k.1.0)
char_text (escaped e c i p q) = rw q (byte_text c (escape_text i))
char_text (coded h u f k p q) = rw q (IsUtf8-encode u (scalar_from u (elim k [ inl l ↦ inl l | inr l ↦ inr (l, omega (arith, four_below f)) ])))
char_text (paired h l high low f g k1 k2 k3 k4 p q) = rw q (IsUtf8-encode (pair_code high low) (scalar_from (pair_code high low) (inr (omega arith, omega arith))))

pub chars_text : (t d : List ℕ) → Chars t d → IsUtf8 d
chars_text t d (none_left e i) = rw i IsUtf8-nil
chars_text t d (char_and a b x y c cs e i) = rw i (IsUtf8-append x y (char_text c) (chars_text b y cs))

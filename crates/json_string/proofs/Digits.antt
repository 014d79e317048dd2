-- The bytes of escapes: which class a digit or a letter is in, and what a class tells of it.
use Rattle.std.proofs.Common.{◌≡◌, ℕ, ◌<◌, ◌≤◌, true, false, eqb, refl, inl, inr, arith}
use Rattle.std.proofs.lemmas.Bool.Decides.{nat_tests}
use Rattle.std.proofs.lemmas.Bool.{cases_lt, cases_eq}
use Rattle.json_string.specs.String.{holds, in_a_range, Hexdig, digit, upper, lower, Escape, quotation_mark, reverse_solidus, solidus, backspace, form_feed, line_feed, carriage_return, tab}
use Rattle.json_string.specs.Decoded.{hex_value, escape_value}
use Rattle.json_string.specs.Machine.{hexdig, digit_d, digit_0_7, digit_8_b, digit_c_f, escape_letter}

-- A digit of the grammar has the value that is computed, and is in the class of digits.
pub hexdig_value : {b v : ℕ} → Hexdig b v → hex_value b ≡ v
unfolding hex_value
hexdig_value (digit l h e) = grind (arith, nat_tests)
hexdig_value (upper l h e) = grind (arith, nat_tests)
hexdig_value (lower l h e) = grind (arith, nat_tests)

pub hexdig_holds : {b v : ℕ} → Hexdig b v → holds hexdig b ≡ true
unfolding holds in_a_range
hexdig_holds (digit l h e) = grind (arith, nat_tests)
hexdig_holds (upper l h e) = grind (arith, nat_tests)
hexdig_holds (lower l h e) = grind (arith, nat_tests)

-- The smaller class that its value tells.
module _ {b v : ℕ} (p : Hexdig b v) where
  pub hexdig_below : v < 16
  unfolding hex_value
  hexdig_below = let e = hexdig_value p in grind (arith, nat_tests)

  pub d_holds : v ≡ 13 → holds digit_d b ≡ true
  unfolding holds in_a_range hex_value
  d_holds i = let e = hexdig_value p in let h = hexdig_holds p in grind (arith, nat_tests)

  pub not_d_holds : (v ≡ 13 → ⊥) → holds digit_d b ≡ false
  unfolding holds in_a_range hex_value
  not_d_holds i = let e = hexdig_value p in let h = hexdig_holds p in grind (arith, nat_tests)

  pub low_digit_holds : v < 8 → holds digit_0_7 b ≡ true
  unfolding holds in_a_range hex_value
  low_digit_holds i = let e = hexdig_value p in let h = hexdig_holds p in grind (arith, nat_tests)

  pub not_low_digit : 8 ≤ v → holds digit_0_7 b ≡ false
  unfolding holds in_a_range hex_value
  not_low_digit i = let e = hexdig_value p in let h = hexdig_holds p in grind (arith, nat_tests)

  pub high_digit_holds : 8 ≤ v → v < 12 → holds digit_8_b b ≡ true
  unfolding holds in_a_range hex_value
  high_digit_holds i j = let e = hexdig_value p in let h = hexdig_holds p in grind (arith, nat_tests)

  pub top_digit_holds : 12 ≤ v → holds digit_c_f b ≡ true
  unfolding holds in_a_range hex_value
  top_digit_holds i = let e = hexdig_value p in let h = hexdig_holds p in grind (arith, nat_tests)

-- Back from a class to the digit.
pub hexdig_of : (b : ℕ) → holds hexdig b ≡ true → Hexdig b (hex_value b)
unfolding holds in_a_range hex_value
hexdig_of b e =
    elim (cases_lt b 0x41) [
      | inl h ↦ digit (grind (arith, nat_tests)) (grind (arith, nat_tests)) (grind (arith, nat_tests))
      | inr h ↦ elim (cases_lt b 0x61) [
        | inl k ↦ upper (grind (arith, nat_tests)) (grind (arith, nat_tests)) (grind (arith, nat_tests))
        | inr k ↦ lower (grind (arith, nat_tests)) (grind (arith, nat_tests)) (grind (arith, nat_tests))
      ]
    ]

pub d_is : (b : ℕ) → holds digit_d b ≡ true → Hexdig b 13
unfolding holds in_a_range
d_is b e =
    elim (cases_lt b 0x61) [
      | inl k ↦ upper (grind (arith, nat_tests)) (grind (arith, nat_tests)) (grind (arith, nat_tests))
      | inr k ↦ lower (grind (arith, nat_tests)) (grind (arith, nat_tests)) (grind (arith, nat_tests))
    ]

pub low_digit_is : (b : ℕ) → holds digit_0_7 b ≡ true → Hexdig b (hex_value b) × (hex_value b < 8)
unfolding holds in_a_range hex_value
low_digit_is b e = (hexdig_of b (grind (arith, nat_tests)), grind (arith, nat_tests))

pub high_digit_is : (b : ℕ) → holds digit_8_b b ≡ true → Hexdig b (hex_value b) × (8 ≤ hex_value b) × (hex_value b < 12)
unfolding holds in_a_range hex_value
high_digit_is b e = (hexdig_of b (grind (arith, nat_tests)), grind (arith, nat_tests), grind (arith, nat_tests))

pub top_digit_is : (b : ℕ) → holds digit_c_f b ≡ true → Hexdig b (hex_value b) × (12 ≤ hex_value b)
unfolding holds in_a_range hex_value
top_digit_is b e = (hexdig_of b (grind (arith, nat_tests)), grind (arith, nat_tests))

-- The letters of escapes: each is in their class, is no u, and stands for the byte that is computed.
pub record Letter (e c : ℕ) : Type 0 where
  pub in_class : holds escape_letter e ≡ true
  pub no_u : eqb e 0x75 ≡ false
  pub gives : escape_value e ≡ c

letter : (e c e' c' : ℕ) → e ≡ e' → c ≡ c' → Letter e' c' → Letter e c
letter e c e' c' p q l = rw (p, q) l

pub escape_letters : {e c : ℕ} → Escape e c → Letter e c
unfolding holds in_a_range escape_value
escape_letters (quotation_mark p q) = letter _ _ _ _ p q (record { in_class = refl; no_u = refl; gives = refl })
escape_letters (reverse_solidus p q) = letter _ _ _ _ p q (record { in_class = refl; no_u = refl; gives = refl })
escape_letters (solidus p q) = letter _ _ _ _ p q (record { in_class = refl; no_u = refl; gives = refl })
escape_letters (backspace p q) = letter _ _ _ _ p q (record { in_class = refl; no_u = refl; gives = refl })
escape_letters (form_feed p q) = letter _ _ _ _ p q (record { in_class = refl; no_u = refl; gives = refl })
escape_letters (line_feed p q) = letter _ _ _ _ p q (record { in_class = refl; no_u = refl; gives = refl })
escape_letters (carriage_return p q) = letter _ _ _ _ p q (record { in_class = refl; no_u = refl; gives = refl })
escape_letters (tab p q) = letter _ _ _ _ p q (record { in_class = refl; no_u = refl; gives = refl })

pub escape_of : (e : ℕ) → holds escape_letter e ≡ true → (c : ℕ) × Escape e c
unfolding holds in_a_range
escape_of e h =
    elim (cases_eq e 0x22) [
      | inl i ↦ (0x22, quotation_mark i refl)
      | inr n1 ↦
          elim (cases_eq e 0x5C) [
            | inl i ↦ (0x5C, reverse_solidus i refl)
            | inr n2 ↦
                elim (cases_eq e 0x2F) [
                  | inl i ↦ (0x2F, solidus i refl)
                  | inr n3 ↦
                      elim (cases_eq e 0x62) [
                        | inl i ↦ (0x08, backspace i refl)
                        | inr n4 ↦
                            elim (cases_eq e 0x66) [
                              | inl i ↦ (0x0C, form_feed i refl)
                              | inr n5 ↦
                                  elim (cases_eq e 0x6E) [
                                    | inl i ↦ (0x0A, line_feed i refl)
                                    | inr n6 ↦
                                        elim (cases_eq e 0x72) [
                                          | inl i ↦ (0x0D, carriage_return i refl)
                                          | inr n7 ↦
                                              elim (cases_eq e 0x74) [ inl i ↦ (0x09, tab i refl) | inr n8 ↦ absurd (grind (arith, nat_tests)) ]
                                        ]
                                  ]
                            ]
                      ]
                ]
          ]
    ]

-- What is written is read back.
use Rattle.std.proofs.Common.{◌≡◌, ℕ, ◌+◌, ◌*◌, ◌/◌, ◌%◌, ◌<◌, Bool, true, false, cond, eqb, List, [], ◌∷◌, ◌++◌, length, get_or, Ok, sym, refl, ap, ◌∙◌, append-nil, arith, lit<, length-append}
use Rattle.std.proofs.lemmas.Bool.{eqb-true, eqb-false}
use Rattle.std.proofs.lemmas.Bool.Decides.{nat_tests}
use Rattle.words.specs.Words.{Bytes, RoundTrip, bytes, digit_of, digit_value, is_digit, letters, plain, put, read, spelled, written}
use Rattle.words.proofs.Words.{bytes_coded, bytes_standing, read_other}

digit_is : (d : ℕ) → d < 16 → is_digit (digit_of d) ≡ true
digit_is d h = grind (arith, nat_tests)

digit_value_lem : (d : ℕ) → d < 16 → digit_value (digit_of d) ≡ d
digit_value_lem d h = grind (arith, nat_tests)

plain_no_percent : (b : ℕ) → plain b ≡ true → eqb b 37 ≡ false
plain_no_percent b p = grind (arith, nat_tests)

-- One byte at the front.
escaped : (b : ℕ) → b < 256 → (t : List ℕ) → bytes (37 ∷ digit_of (b / 16) ∷ digit_of (b % 16) ∷ t) ≡ put b (bytes t)
escaped b h t =
    let high : b / 16 < 16 = omega arith in
    let low : b % 16 < 16 = omega arith in
    let whole : 16 * (b / 16) + b % 16 ≡ b = omega arith in
    bytes_coded (digit_of (b / 16)) (digit_of (b % 16)) t
    ∙ rw (digit_is (b / 16) high, digit_is (b % 16) low, digit_value_lem (b / 16) high, digit_value_lem (b % 16) low, whole)

bytes_spelled : (b : ℕ) → b < 256 → (t : List ℕ) → bytes (spelled b ++ t) ≡ put b (bytes t)
bytes_spelled b h t = by (plain b) refl
  where
    by : (p : Bool) → plain b ≡ p → bytes (spelled b ++ t) ≡ put b (bytes t)
    by true e = rw e (bytes_standing b t (plain_no_percent b e) ∙ rw e)
    by false e = rw e (escaped b h t)

bytes_letters : (bs : List ℕ) → Bytes bs → bytes (letters bs) ≡ Ok bs
unfolding letters bytes
bytes_letters [] h = refl
bytes_letters (b ∷ bs) h = bytes_spelled b h.0 (letters bs) ∙ ap (put b) (bytes_letters bs h.1)

one_letter : (b : ℕ) → 0 < length (spelled b)
one_letter b = by (plain b) refl
  where
    by : (p : Bool) → plain b ≡ p → 0 < length (spelled b)
    by true e = rw e (lit< tt)
    by false e = rw e (lit< tt)

two_letters : (b c : ℕ) (bs : List ℕ) → 1 < length (letters (b ∷ c ∷ bs))
unfolding letters
two_letters b c bs = simp length-append (omega (arith, one_letter b, one_letter c))

-- The letters of one byte are not `-`, unless it is that byte.
no_dash : (b : ℕ) → eqb b 45 ≡ false → length (spelled b ++ []) < 2 → get_or (spelled b ++ []) 0 0 ≡ 45 → ⊥
no_dash b o = by (plain b) refl
  where
    by : (p : Bool) → plain b ≡ p → length (spelled b ++ []) < 2 → get_or (spelled b ++ []) 0 0 ≡ 45 → ⊥
    by true e = rw e (λ n d. eqb-false b 45 o d)
    by false e = rw e (λ n d. omega arith)

-- A byte alone.
one : (b : ℕ) → b < 256 → (dash : Bool) → eqb b 45 ≡ dash → read (cond (eqb b 45) (37 ∷ 50 ∷ 68 ∷ []) (letters (b ∷ []))) ≡ Ok (b ∷ [])
unfolding read bytes letters
one b h true e = rw e (ap (λ x. Ok (x ∷ [])) (sym (eqb-true b 45 e)))
one b h false e = rw e (read_other (spelled b ++ []) (simp append-nil (one_letter b)) (no_dash b e) ∙ bytes_letters (b ∷ []) (h, tt))

pub round_trip : RoundTrip
unfolding read written
round_trip [] h = refl
round_trip (b ∷ []) h = one b h.0 (eqb b 45) refl
round_trip (b ∷ c ∷ bs) h = read_other (letters (b ∷ c ∷ bs)) (omega (arith, two_letters b c bs)) (λ n e. omega (arith, two_letters b c bs)) ∙ bytes_letters (b ∷ c ∷ bs) h

-- A text stands for no more bytes than it has.
use Rattle.std.proofs.Common.{◌≡◌, ℕ, zero, suc, ◌+◌, ◌-◌, ◌*◌, ◌<◌, ◌≤◌, List, [], ◌∷◌, length, get_or, drop, refl, inl, inr, arith}
use lib.Utf8.{encode}
use Rattle.std.proofs.lemmas.List.{length-append, length-drop}
use Rattle.std.proofs.lemmas.Bool.{cases_eq}
use Rattle.std.proofs.lemmas.Bool.Decides.{nat_tests}
use Rattle.json_string.specs.Decoded.{hex_value, code_at, coded_piece, first_piece, decoded, decoded_after}
use Rattle.json_string.proofs.Decoding.{plain_first, letter_first, code_first, other_piece, decoded_first, size_positive}

encode_four : (c : ℕ) → length (encode c) ≤ 4
unfolding encode
encode_four c = grind (arith, nat_tests)

encode_three : (c : ℕ) → c < 0x10000 → length (encode c) ≤ 3
unfolding encode
encode_three c h = grind (arith, nat_tests)

hex_below : (b : ℕ) → hex_value b < 16
unfolding hex_value
hex_below b = grind (arith, nat_tests)

-- A piece of a code, by how many bytes the text has.
coded_four : (u low : ℕ) → length (coded_piece u low).bytes ≤ 4
unfolding coded_piece
coded_four u low = grind (arith, nat_tests, encode_four)

coded_three : (v low : ℕ) → v < 16 → length (coded_piece (((v * 16 + 0) * 16 + 0) * 16 + 0) low).bytes ≤ 3
coded_three v low h = rw (other_piece (((v * 16 + 0) * 16 + 0) * 16 + 0) low (omega arith)) (encode_three _ (omega arith))

coded_one : (low : ℕ) → length (coded_piece 0 low).bytes ≤ 1
unfolding coded_piece encode
coded_one low = omega arith

no_digit : hex_value 0 ≡ 0
unfolding hex_value
no_digit = refl

coded_within : (t : List ℕ) → get_or t 0 0 ≡ 0x5C → get_or t 1 0 ≡ 0x75 → length (coded_piece (code_at t 2) (code_at t 8)).bytes ≤ length t
unfolding code_at
coded_within [] e i = absurd (omega arith)
coded_within (x ∷ []) e i = absurd (omega arith)
coded_within (x ∷ y ∷ []) e i = rw no_digit (omega (arith, coded_one 0))
coded_within (x ∷ y ∷ a ∷ []) e i = rw no_digit (coded_three (hex_value a) 0 (hex_below a))
coded_within (x ∷ y ∷ a ∷ b ∷ t) e i = omega (arith, coded_four (code_at (x ∷ y ∷ a ∷ b ∷ t) 2) (code_at (x ∷ y ∷ a ∷ b ∷ t) 8))

piece_within : (t : List ℕ) → 0 < length t → length (first_piece t).bytes ≤ length t
piece_within t h =
    elim (cases_eq (get_or t 0 0) 0x5C) [
      | inr n ↦ rw (plain_first t n) h
      | inl e ↦ elim (cases_eq (get_or t 1 0) 0x75) [
        | inr n ↦ rw (letter_first t e n) h
        | inl i ↦ rw (code_first t e i) (coded_within t e i)
      ]
    ]

-- nor more than it takes
piece_size : (t : List ℕ) → length (first_piece t).bytes ≤ (first_piece t).size
unfolding first_piece coded_piece
piece_size t = grind (arith, nat_tests, encode_four)

decoded_within : (n : ℕ) (t : List ℕ) → length t ≤ n → length (decoded t) ≤ length t
unfolding decoded decoded_after
decoded_within n [] h = omega arith
decoded_within zero (b ∷ t) h = absurd (omega arith)
decoded_within (suc n) (b ∷ t) h =
    let p = first_piece (b ∷ t) in
    let rest = drop p.size (b ∷ t) in
    let some : 0 < length (b ∷ t) = omega arith in
    let shorter : length rest ≡ length (b ∷ t) - p.size = length-drop p.size (b ∷ t) in
    let positive : 0 < p.size = omega (arith, size_positive (b ∷ t)) in
    rw (decoded_first b t) (rw (length-append p.bytes (decoded rest)) (omega (arith, piece_within (b ∷ t) some, piece_size (b ∷ t), decoded_within n rest (omega arith))))

pub decoded_length : (t : List ℕ) → length (decoded t) ≤ length t
decoded_length t = decoded_within (length t) t (omega arith)

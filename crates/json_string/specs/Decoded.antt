-- The bytes that a text of chars stands for, as a function of every byte string: the relation `Chars` computed.
-- On a text that is no chars of a string it gives some bytes too, of which nothing is said.
use Rattle.std.specs.Prelude.{ℕ, zero, suc, pred, ◌+◌, ◌-◌, ◌*◌, cond, ◌&&◌, List, [], ◌∷◌, ◌++◌, ◌==◌, nat_le, nat_lt, slice_index}
use Rattle.std.proofs.Math.Utf8.{encode}
use Rattle.json_string.specs.String.{pair_code}

-- The value of a hexadecimal digit; 0 of any other byte.
unfoldable pub hex_value : ℕ → ℕ
hex_value b =
    cond (nat_le 0x30 b && nat_le b 0x39) (b - 0x30)
    (cond (nat_le 0x41 b && nat_le b 0x46) (b - 0x37)
    (cond (nat_le 0x61 b && nat_le b 0x66) (b - 0x57) 0))

-- The byte that an escape of one letter stands for; any other letter stands for itself.
unfoldable pub escape_value : ℕ → ℕ
escape_value e =
    cond (e == 0x62) 0x08 (cond (e == 0x66) 0x0C (cond (e == 0x6E) 0x0A (cond (e == 0x72) 0x0D (cond (e == 0x74) 0x09 e))))

-- The number that the four digits from a place on write.
unfoldable pub code_at : List ℕ → ℕ → ℕ
code_at t i =
    ((hex_value (slice_index t i) * 16 + hex_value (slice_index t (i + 1))) * 16 + hex_value (slice_index t (i + 2))) * 16
    + hex_value (slice_index t (i + 3))

-- What a text begins with: how many bytes it takes, and what they stand for. A backslash begins an escape, of six
-- bytes, or twelve for a pair of surrogates, if a u follows it, and else of two; any other byte stands for itself.
pub record Piece : Type 0 where
  pub size : ℕ
  pub bytes : List ℕ

unfoldable pub coded_piece : ℕ → ℕ → Piece
coded_piece high low =
    cond (nat_le 0xD800 high && nat_lt high 0xDC00)
    (record { size = 12; bytes = encode (pair_code high low) })
    (record { size = 6; bytes = encode high })

unfoldable pub first_piece : List ℕ → Piece
first_piece t =
    cond (slice_index t 0 == 0x5C)
    (cond (slice_index t 1 == 0x75)
    (coded_piece (code_at t 2) (code_at t 8))
    (record { size = 2; bytes = escape_value (slice_index t 1) ∷ [] }))
    (record { size = 1; bytes = slice_index t 0 ∷ [] })

-- What is left behind the first n bytes, decoded piece by piece.
unfoldable pub decoded_after : ℕ → List ℕ → List ℕ
decoded_after n [] = []
decoded_after (suc n) (b ∷ t) = decoded_after n t
decoded_after zero (b ∷ t) = (first_piece (b ∷ t)).bytes ++ decoded_after (pred (first_piece (b ∷ t)).size) t

unfoldable pub decoded : List ℕ → List ℕ
decoded t = decoded_after 0 t

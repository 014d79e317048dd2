-- The bytes of a text of chars, as they are computed, are those that the grammar gives.
use Rattle.std.proofs.Common.{◌≡◌, ℕ, zero, suc, pred, ◌+◌, ◌*◌, ◌<◌, ◌≤◌, Bool, true, false, not, ◌&&◌, eqb, ltb, leb, List, [], ◌∷◌, ◌++◌, length, get_or, drop, slice_get, Option, sym, refl, ap, ◌∙◌, inl, inr, arith, MatchOption}
use lib.Utf8.{encode}
use Rattle.std.proofs.lemmas.List.{nil_from_length}
use Rattle.std.proofs.lemmas.Bool.{and_parts, not-true, eq-eqb, eqb-true, ne_eqb, true≢false, cases_lt, and_left, and_right, lt-leb, le-ltb}
use Rattle.std.proofs.lemmas.Bool.Decides.{nat_tests}
use Rattle.json_string.specs.String.{Class, holds, in_a_range, Fits, none, byte, Among, here, there, unescaped_rows, Hexdig, four_digits, pair_code, Char, unescaped, escaped, coded, paired, Chars, none_left, char_and}
use Rattle.json_string.specs.Decoded.{hex_value, escape_value, code_at, Piece, coded_piece, first_piece, decoded_after, decoded}
use Rattle.json_string.proofs.Digits.{hexdig_value, escape_letters}

-- A piece takes a byte at least.
pub size_positive : (t : List ℕ) → suc (pred (first_piece t).size) ≡ (first_piece t).size
unfolding first_piece coded_piece
size_positive t = grind (arith, nat_tests)

decoded_drop : (n : ℕ) (t : List ℕ) → decoded_after n t ≡ decoded_after 0 (drop n t)
unfolding decoded_after
decoded_drop zero [] = refl
decoded_drop (suc n) [] = refl
decoded_drop zero (b ∷ t) = refl
decoded_drop (suc n) (b ∷ t) = decoded_drop n t

-- The first piece, and what the rest stands for.
pub decoded_first : (b : ℕ) (t : List ℕ) → decoded (b ∷ t) ≡ (first_piece (b ∷ t)).bytes ++ decoded (drop (first_piece (b ∷ t)).size (b ∷ t))
unfolding decoded decoded_after
decoded_first b t =
    ap (λ x. (first_piece (b ∷ t)).bytes ++ x)
    (decoded_drop (pred (first_piece (b ∷ t)).size) t ∙ ap (λ n. decoded_after 0 (drop n (b ∷ t))) (size_positive (b ∷ t)))

pub decoded_by : (b : ℕ) (t : List ℕ) (q : Piece) → first_piece (b ∷ t) ≡ q → decoded (b ∷ t) ≡ q.bytes ++ decoded (drop q.size (b ∷ t))
decoded_by b t q e = decoded_first b t ∙ ap (λ r. r.bytes ++ decoded (drop r.size (b ∷ t))) e

-- The three ways in which a text begins.
module _ (t : List ℕ) where
  pub plain_first : (get_or t 0 0 ≡ 0x5C → ⊥) → first_piece t ≡ record { size = 1; bytes = get_or t 0 0 ∷ [] }
  unfolding first_piece
  plain_first n = rw (ne_eqb (get_or t 0 0) 0x5C n)

  pub letter_first : get_or t 0 0 ≡ 0x5C → (get_or t 1 0 ≡ 0x75 → ⊥) → first_piece t ≡ record { size = 2; bytes = escape_value (get_or t 1 0) ∷ [] }
  unfolding first_piece
  letter_first e n = rw (eq-eqb (get_or t 0 0) 0x5C e, ne_eqb (get_or t 1 0) 0x75 n)

  pub code_first : get_or t 0 0 ≡ 0x5C → get_or t 1 0 ≡ 0x75 → first_piece t ≡ coded_piece (code_at t 2) (code_at t 8)
  unfolding first_piece
  code_first e n = rw (eq-eqb (get_or t 0 0) 0x5C e, eq-eqb (get_or t 1 0) 0x75 n)

-- A byte other than a backslash stands for itself.
pub decoded_plain : (b : ℕ) (t : List ℕ) → eqb b 0x5C ≡ false → decoded (b ∷ t) ≡ b ∷ decoded t
unfolding first_piece
decoded_plain b t e = decoded_first b t ∙ rw e

-- The bytes of an unescaped character are no backslashes.
no_slash : List Class → Bool
no_slash [] = true
no_slash (c ∷ cs) = not (holds c 0x5C) && no_slash cs

no_slashes : List (List Class) → Bool
no_slashes [] = true
no_slashes (row ∷ rows) = no_slash row && no_slashes rows

table_no_slashes : no_slashes unescaped_rows ≡ true
unfolding no_slashes no_slash holds in_a_range
table_no_slashes = refl

row_no_slash : {row : List Class} {rows : List (List Class)} → Among row rows → no_slashes rows ≡ true → no_slash row ≡ true
unfolding no_slashes
row_no_slash here e = (and_parts _ _ e).0
row_no_slash (there a) e = row_no_slash a (and_parts _ _ e).1

row_decoded : {row : List Class} {a : List ℕ} (b : List ℕ) → Fits row a → no_slash row ≡ true → decoded (a ++ b) ≡ a ++ decoded b
unfolding no_slash
row_decoded b (none e) h = rw e
row_decoded b (byte {c = c} x rest k f e) h =
    let p = and_parts _ _ h in
    let other : eqb x 0x5C ≡ false = ne_eqb x 0x5C (λ i. true≢false (sym (sym (ap (holds c) i) ∙ k) ∙ not-true _ p.0)) in
    rw e (decoded_plain x (rest ++ b) other ∙ ap (λ y. x ∷ y) (row_decoded b f p.1))

-- The pieces of escapes.
module _ {c1 c2 c3 c4 x y z w : ℕ} (p1 : Hexdig c1 x) (p2 : Hexdig c2 y) (p3 : Hexdig c3 z) (p4 : Hexdig c4 w) where
  number_read : (u : ℕ) → u ≡ ((x * 16 + y) * 16 + z) * 16 + w → ((hex_value c1 * 16 + hex_value c2) * 16 + hex_value c3) * 16 + hex_value c4 ≡ u
  number_read u e = rw (hexdig_value p1, hexdig_value p2, hexdig_value p3, hexdig_value p4) (sym e)

pub other_piece : (u low : ℕ) → (0xD800 ≤ u → u < 0xDC00 → ⊥) → coded_piece u low ≡ record { size = 6; bytes = encode u }
unfolding coded_piece
other_piece u low h =
    let no-high : (leb 0xD800 u && ltb u 0xDC00) ≡ false =
    elim (cases_lt u 0xD800) [ inl k ↦ and_left _ _ (lt-leb 0xD800 u k) | inr k ↦ and_right _ _ (le-ltb u 0xDC00 (elim (cases_lt u 0xDC00) [ inl m ↦ absurd (h k m) | inr m ↦ m ])) ] in
    rw no-high

pub pair_piece : (high low : ℕ) → 0xD800 ≤ high → high < 0xDC00 → coded_piece high low ≡ record { size = 12; bytes = encode (pair_code high low) }
unfolding coded_piece
pair_piece high low h k = let is-high : (leb 0xD800 high && ltb high 0xDC00) ≡ true = grind (arith, nat_tests) in rw is-high

char_decoded : {a x : List ℕ} (b : List ℕ) → Char a x → decoded (a ++ b) ≡ x ++ decoded b
unfolding first_piece code_at
char_decoded b (unescaped row m f e) = rw e (row_decoded b f (row_no_slash m table_no_slashes))
char_decoded b (escaped e c i p q) = rw (p, q) (decoded_first 0x5C (e ∷ b) ∙ rw ((escape_letters i).no_u, (escape_letters i).gives))
char_decoded b (coded h u (four_digits c1 c2 c3 c4 p1 p2 p3 p4 e n) k p q) =
    rw (p, q, e) (decoded_by 0x5C (0x75 ∷ c1 ∷ c2 ∷ c3 ∷ c4 ∷ b) (record { size = 6; bytes = encode u })
    (ap (λ v. coded_piece v (code_at (0x5C ∷ 0x75 ∷ c1 ∷ c2 ∷ c3 ∷ c4 ∷ b) 8)) (number_read p1 p2 p3 p4 u n) ∙ other_piece u _ (λ i j. omega arith)))
char_decoded b (paired h l high low (four_digits c1 c2 c3 c4 p1 p2 p3 p4 e n) (four_digits d1 d2 d3 d4 q1 q2 q3 q4 e' n') k1 k2 k3 k4 p q) =
    rw (p, q, e, e') (decoded_by 0x5C (0x75 ∷ c1 ∷ c2 ∷ c3 ∷ c4 ∷ 0x5C ∷ 0x75 ∷ d1 ∷ d2 ∷ d3 ∷ d4 ∷ b) (record { size = 12; bytes = encode (pair_code high low) })
    (ap (λ v. coded_piece v (((hex_value d1 * 16 + hex_value d2) * 16 + hex_value d3) * 16 + hex_value d4)) (number_read p1 p2 p3 p4 high n) ∙ ap (coded_piece high) (number_read q1 q2 q3 q4 low n') ∙ pair_piece high low k1 k2))

pub chars_decoded : (t d : List ℕ) → Chars t d → decoded t ≡ d
unfolding decoded decoded_after
chars_decoded t d (none_left e i) = rw (e, i)
chars_decoded t d (char_and a b x y c cs e i) = rw (e, i) (char_decoded b c ∙ ap (λ z. x ++ z) (chars_decoded b y cs))

-- A piece stands for a byte at least.
encode_some : (c : ℕ) → 0 < length (encode c)
unfolding encode
encode_some c = grind (arith, nat_tests)

pub piece_some : (t : List ℕ) → 0 < length (first_piece t).bytes
unfolding first_piece coded_piece
piece_some t = grind (arith, nat_tests, encode_some)

-- Where the piece at hand is given, the next one is what comes.
pub none_to_come : (p : List ℕ) (given : ℕ) (rest : List ℕ) → drop given p ≡ [] → eqb (length rest) 0 ≡ true → drop given p ++ decoded rest ≡ []
unfolding decoded decoded_after
none_to_come p given rest e z = rw (e, nil_from_length rest (eqb-true _ _ z))

pub next_to_come : (p : List ℕ) (given : ℕ) (rest e rest' : List ℕ) (size : ℕ) → drop given p ≡ [] → eqb (length rest) 0 ≡ false →
    size ≡ (first_piece rest).size → e ≡ (first_piece rest).bytes → rest' ≡ drop size rest → drop given p ++ decoded rest ≡ e ++ decoded rest'
unfolding decoded decoded_after
next_to_come p given [] e rest' size z n i j k = absurd (true≢false n)
next_to_come p given (b ∷ t) e rest' size z n i j k = rw (z, k, i, j) (decoded_first b t)

pub first_to_come : (o : Option ℕ) (before e after : List ℕ) → before ≡ e ++ after → 0 < length e → o ≡ slice_get e 0 →
    MatchOption o ((before ≡ []) × (drop 1 e ++ after ≡ [])) (λ b. before ≡ b ∷ (drop 1 e ++ after))
first_to_come o before [] after i some k = absurd (omega arith)
first_to_come o before (b ∷ e) after i some k = rw k i

-- Laws of words: one byte more at either end, and that what is written is read back.
use Rattle.std.proofs.Common.{◌≡◌, ℕ, ◌+◌, ◌-◌, ◌*◌, ◌/◌, ◌%◌, ◌<◌, true, false, cond, eqb, List, [], ◌∷◌, ◌++◌, length, get_or, Ok, Err, Result, OnOk, is_ok, sym, refl, ap, ◌∙◌, append_assoc, append-nil, arith, lit<, length-drop, length-take}
use Rattle.std.proofs.lemmas.Bool.{ne_eqb}
use Rattle.std.specs.List.{between}
use Rattle.std.proofs.lemmas.Bool.Decides.{nat_tests}
use Rattle.std.proofs.lemmas.Slice.{first_rest, between_to_end}
use Rattle.words.specs.declared.Fault.TheVariants.{Escape}
use Rattle.std.specs.Fmt.{digit_glyph}
use Rattle.std.specs.declared.alloc.AllocError.{AllocError}
use Rattle.percent_encoding.specs.Percent.{percent_encode_byte}
use Rattle.words.specs.Words.{plain, Reading, bytes, coded, digit_of, digit_value, is_digit, letters, put, read, spelled, standing, written}

-- Bytes in front of what the rest stands for.
abbrev pub behind : List ℕ → Reading → Reading
behind bs (Ok more) = Ok (bs ++ more)
behind bs (Err e) = Err e

pub letters_push : (bs : List ℕ) (b : ℕ) → letters (bs ++ b ∷ []) ≡ letters bs ++ spelled b
unfolding letters
letters_push [] b = simp append-nil
letters_push (c ∷ bs) b = ap (λ t. spelled c ++ t) (letters_push bs b) ∙ sym (append_assoc (spelled c) (letters bs) (spelled b))

-- A text of one letter or more, and of two or more, as a slice pattern takes it apart.
pub first_one : (xs : List ℕ) → 0 < length xs → xs ≡ get_or xs 0 0 ∷ between 1 (length xs) xs
first_one xs h = first_rest xs 0 h

pub first_two : (xs : List ℕ) → 1 < length xs → xs ≡ get_or xs 0 0 ∷ get_or xs 1 0 ∷ between 2 (length xs) xs
first_two [] h = absurd (omega arith)
first_two (x ∷ []) h = absurd (omega arith)
first_two (x ∷ y ∷ t) h = sym (ap (λ r. x ∷ y ∷ r) (between_to_end (x ∷ y ∷ t) 2 _ (omega arith)))

pub bytes_standing : (b : ℕ) (t : List ℕ) → eqb b 37 ≡ false → bytes (b ∷ t) ≡ standing b (bytes t)
unfolding bytes
bytes_standing b [] h = rw h
bytes_standing b (x ∷ []) h = rw h
bytes_standing b (x ∷ y ∷ t) h = rw h

pub bytes_coded : (x y : ℕ) (t : List ℕ) → bytes (37 ∷ x ∷ y ∷ t) ≡ coded x y (bytes t)
unfolding bytes
bytes_coded x y t = refl

pub bytes_broken : (t : List ℕ) → length t < 2 → bytes (37 ∷ t) ≡ Err Escape
unfolding bytes
bytes_broken [] h = refl
bytes_broken (x ∷ []) h = refl
bytes_broken (x ∷ y ∷ t) h = absurd (omega arith)

-- What `%` and the text after it stand for: no first digit, no second digit, a byte.
pub bytes_no_high : (t : List ℕ) → 1 < length t → is_digit (get_or t 0 0) ≡ false → bytes (37 ∷ t) ≡ Err Escape
bytes_no_high t h d = ap (λ r. bytes (37 ∷ r)) (first_two t h) ∙ bytes_coded (get_or t 0 0) (get_or t 1 0) _ ∙ rw d

pub bytes_no_low : (t : List ℕ) → 1 < length t → is_digit (get_or t 0 0) ≡ true → is_digit (get_or t 1 0) ≡ false → bytes (37 ∷ t) ≡ Err Escape
bytes_no_low t h d e = ap (λ r. bytes (37 ∷ r)) (first_two t h) ∙ bytes_coded (get_or t 0 0) (get_or t 1 0) _ ∙ rw (d, e)

pub bytes_byte : (t : List ℕ) → 1 < length t → is_digit (get_or t 0 0) ≡ true → is_digit (get_or t 1 0) ≡ true →
    bytes (37 ∷ t) ≡ put (16 * digit_value (get_or t 0 0) + digit_value (get_or t 1 0)) (bytes (between 2 (length t) t))
bytes_byte t h d e = ap (λ r. bytes (37 ∷ r)) (first_two t h) ∙ bytes_coded (get_or t 0 0) (get_or t 1 0) _ ∙ rw (d, e)

pub none_left : (t : List ℕ) → length t < 1 → t ≡ []
none_left [] h = refl
none_left (x ∷ t) h = absurd (omega arith)

-- What a text that begins with no `%` stands for.
pub bytes_first : (t : List ℕ) → 0 < length t → eqb (get_or t 0 0) 37 ≡ false → bytes t ≡ standing (get_or t 0 0) (bytes (between 1 (length t) t))
bytes_first t h e = ap bytes (first_one t h) ∙ bytes_standing (get_or t 0 0) _ e

-- A text that is not `-` is read letter by letter, and bytes that are not `-` are written letter by letter.
pub read_other : (t : List ℕ) → 0 < length t → (length t < 2 → get_or t 0 0 ≡ 45 → ⊥) → read t ≡ bytes t
unfolding read
read_other [] h n = absurd (omega arith)
read_other (b ∷ []) h n = rw (ne_eqb b 45 (n (lit< tt)))
read_other (b ∷ c ∷ t) h n = refl

pub written_other : (t : List ℕ) → 0 < length t → (length t < 2 → get_or t 0 0 ≡ 45 → ⊥) → written t ≡ letters t
unfolding written
written_other [] h n = absurd (omega arith)
written_other (b ∷ []) h n = rw (ne_eqb b 45 (n (lit< tt)))
written_other (b ∷ c ∷ t) h n = refl

pub one_byte : (t : List ℕ) (b : ℕ) → 0 < length t → length t < 2 → get_or t 0 0 ≡ b → t ≡ b ∷ []
one_byte [] b h n e = absurd (omega arith)
one_byte (x ∷ []) b h n e = ap (λ y. y ∷ []) e
one_byte (x ∷ y ∷ t) b h n e = absurd (omega arith)

pub length_rest : (t : List ℕ) (k : ℕ) → length (between k (length t) t) ≡ length t - k
length_rest t k = simp (length-take, length-drop) (omega arith)

-- Nothing is left.
pub found_all : (whole : Reading) (items rest : List ℕ) → whole ≡ behind items (bytes rest) → rest ≡ [] → whole ≡ Ok items
unfolding bytes
found_all whole items rest p e = p ∙ ap (λ r. behind items (bytes r)) e ∙ ap Ok (append-nil items)

-- The digits of an escape are those of the kit's escapes.
glyph : (d : ℕ) → d < 16 → digit_glyph true d ≡ digit_of d
glyph d h = grind (arith, nat_tests)

escape_spelled : (b : ℕ) → b < 256 → plain b ≡ false → percent_encode_byte b ≡ spelled b
unfolding percent_encode_byte
escape_spelled b h p =
    let high : b / 16 % 16 ≡ b / 16 = omega arith in
    ap (λ d. 37 ∷ digit_glyph true d ∷ digit_glyph true (b % 16) ∷ []) high
    ∙ ap (λ d. 37 ∷ d ∷ digit_glyph true (b % 16) ∷ []) (glyph (b / 16) (omega arith))
    ∙ ap (λ d. 37 ∷ digit_of (b / 16) ∷ d ∷ []) (glyph (b % 16) (omega arith))
    ∙ sym (rw p)

pub pushed_escape : (r : Result (Unit {0}) AllocError) (old new text : List ℕ) (b : ℕ) → b < 256 → plain b ≡ false → text ≡ percent_encode_byte b →
    new ≡ cond (is_ok r) (old ++ text) old → OnOk r (new ≡ old ++ spelled b)
pushed_escape (Ok u) old new text b h p e f = f ∙ ap (λ t. old ++ t) (e ∙ escape_spelled b h p)
pushed_escape (Err u) old new text b h p e f = tt

-- The parts of a number, and what one more byte makes of them.
use Rattle.std.proofs.Common.{◌≡◌, ℕ, false, true, eqb, List, [], ◌∷◌, ◌++◌, refl, ap, ◌∙◌, subst, inl, inr}
use Rattle.std.proofs.lemmas.List.{append-nil, append_assoc}
use Rattle.json_text.specs.Json.{all, is_digit, is_e, Optional, Minus, Digits, Counting, Int, Frac, Exp, Number}
use Rattle.json_text.proofs.Runs.{all_none, all_more}
use Rattle.json_text.proofs.Segments.{all_append}
use Rattle.json_text.proofs.StepLaws.{digit1_9}
use Rattle.json_text.proofs.Joining.{Joined, join_none, weaken, whole}
use Rattle.json_text.proofs.States.{One, ESign, Signed, Mantissa}

digits_last : (t : List ℕ) (x : ℕ) → is_digit x ≡ true → all is_digit t ≡ true → all is_digit (t ++ x ∷ []) ≡ true
digits_last t x h a = all_append is_digit t (x ∷ []) a (all_more is_digit x [] h (all_none is_digit))

pub one_digit : (x : ℕ) → is_digit x ≡ true → Digits (x ∷ [])
one_digit x h = record { first = x; others = []; first_digit = h; other_digits = all_none is_digit; split = refl }

digits_more : (t : List ℕ) (x : ℕ) → is_digit x ≡ true → Digits t → Digits (t ++ x ∷ [])
digits_more t x h d = record {
  first = d.first;
  others = d.others ++ x ∷ [];
  first_digit = d.first_digit;
  other_digits = digits_last d.others x h d.other_digits;
  split = ap (λ zs. zs ++ x ∷ []) d.split;
}

pub one_counting : (x : ℕ) → is_digit x ≡ true → eqb x 48 ≡ false → Counting (x ∷ [])
one_counting x h k = record { first = x; others = []; first_digit = digit1_9 x h k; other_digits = all_none is_digit; split = refl }

pub counting_more : (t : List ℕ) (x : ℕ) → is_digit x ≡ true → Counting t → Counting (t ++ x ∷ [])
counting_more t x h d = record {
  first = d.first;
  others = d.others ++ x ∷ [];
  first_digit = d.first_digit;
  other_digits = digits_last d.others x h d.other_digits;
  split = ap (λ zs. zs ++ x ∷ []) d.split;
}

pub frac_one : (t : List ℕ) (x : ℕ) → is_digit x ≡ true → t ≡ 46 ∷ [] → Frac (t ++ x ∷ [])
frac_one t x h q = record { digits = x ∷ []; are_digits = one_digit x h; split = ap (λ zs. zs ++ x ∷ []) q }

pub frac_more : (t : List ℕ) (x : ℕ) → is_digit x ≡ true → Frac t → Frac (t ++ x ∷ [])
frac_more t x h f = record { digits = f.digits ++ x ∷ []; are_digits = digits_more f.digits x h f.are_digits; split = ap (λ zs. zs ++ x ∷ []) f.split }

pub exp_one : (t : List ℕ) (x : ℕ) → is_digit x ≡ true → One is_e t → Exp (t ++ x ∷ [])
exp_one t x h o = record { e = o.0; sign = []; digits = x ∷ []; is_an_e = o.1; has_sign = inl refl; are_digits = one_digit x h; split = ap (λ zs. zs ++ x ∷ []) o.2 }

pub exp_signed : (t : List ℕ) (x : ℕ) → is_digit x ≡ true → ESign t → Exp (t ++ x ∷ [])
exp_signed t x h o = record {
  e = o.0;
  sign = o.1 ∷ [];
  digits = x ∷ [];
  is_an_e = o.2;
  has_sign = inr (o.1, o.3, refl);
  are_digits = one_digit x h;
  split = ap (λ zs. zs ++ x ∷ []) o.4;
}

pub exp_more : (t : List ℕ) (x : ℕ) → is_digit x ≡ true → Exp t → Exp (t ++ x ∷ [])
exp_more t x h p = record {
  e = p.e;
  sign = p.sign;
  digits = p.digits ++ x ∷ [];
  is_an_e = p.is_an_e;
  has_sign = p.has_sign;
  are_digits = digits_more p.digits x h p.are_digits;
  split = ap (λ zs. zs ++ x ∷ []) p.split ∙ ap (λ zs. p.e ∷ zs) (append_assoc p.sign p.digits (x ∷ []));
}

-- whole numbers
pub number_of : (a c : List ℕ) → Mantissa a → Optional Exp c → Number (a ++ c)
number_of a c m x =
    let s = m.is_first in
    let r : ((s.first ++ s.second) ++ m.second) ++ c ≡ s.first ++ (s.second ++ (m.second ++ c)) = simp append_assoc in
    record {
      minus = s.first;
      int = s.second;
      frac = m.second;
      exp = c;
      is_minus = s.is_first;
      is_int = s.is_second;
      is_frac = m.is_second;
      is_exp = x;
      split = ap (λ zs. zs ++ c) (m.split ∙ ap (λ zs. zs ++ m.second) s.split) ∙ r;
    }

pub mantissa_number : (a : List ℕ) → Mantissa a → Number a
mantissa_number a m = subst Number (append-nil a) (number_of a [] m (inl refl))

pub signed_mantissa : (a : List ℕ) → Signed a → Mantissa a
signed_mantissa a s = join_none Signed (Optional Frac) a s (inl refl)

pub counting_signed : (a : List ℕ) → Joined (Optional Minus) Counting a → Signed a
counting_signed a j = weaken (Optional Minus) (Optional Minus) Counting Int a (λ b m. m) (λ b c. inr c) j

pub frac_mantissa : (a : List ℕ) → Joined Signed Frac a → Mantissa a
frac_mantissa a j = weaken Signed Signed Frac (Optional Frac) a (λ b m. m) (λ b f. inr f) j

pub exp_number : (a : List ℕ) → Joined Mantissa Exp a → Number a
exp_number a j = whole Mantissa Exp Number a (λ b c m x. number_of b c m (inr x)) j

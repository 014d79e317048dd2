-- Readings of the parts of a number.
use Rattle.std.proofs.Common.{◌≡◌, ℕ, ◌+◌, ◌<◌, ◌≤◌, Bool, true, false, ◌&&◌, nat_le, eqb, ◌⊎◌, List, [], ◌∷◌, ◌++◌, length, get_or, sym, refl, ap, ◌∙◌, subst, inl, inr, ⊎_elim, arith}
use Rattle.std.proofs.lemmas.List.{append-nil}
use Rattle.std.proofs.lemmas.Bool.{eqb-true, eqb-false, and_from, le-leb, lt-leb}
use Rattle.json_text.specs.Json.{all, Optional, Digits, Int, Frac, Exp, Sign, Minus, Number, is_digit, is_e, is_sign}
use Rattle.json_text.specs.Machine.{Stack, State, to, step, want, have, minus, zero, int, point, frac, e, sign, exp, before_exp}
use Rattle.json_text.specs.Reading.{Reads, Stops, Any, DigitsAt, NoDigitAt, Unsigned, SignedDigits}
use Rattle.json_text.proofs.Runs.{all_none}
use Rattle.json_text.proofs.StepLaws as law
use Rattle.json_text.proofs.Steps.{reads_then, stops_then, stops_in, reads_as, reads_byte, reads_none, reads_all, stops_here}

-- one zero is a run of digits
pub one_zero : Digits (48 ∷ [])
unfolding is_digit
one_zero = record { first = 48; others = []; first_digit = refl; other_digits = all_none is_digit; split = refl }

-- the bounds of a digit
pub digit_from : (x : ℕ) → 48 ≤ x → x ≤ 57 → is_digit x ≡ true
unfolding is_digit
digit_from x h k = and_from _ _ (le-leb 48 x h) (le-leb x 57 k)

pub no_digit : (x : ℕ) → (x < 48) ⊎ (57 < x) → is_digit x ≡ false
unfolding is_digit
no_digit x way = ⊎_elim (λ h. rw (lt-leb 48 x h)) (λ h. rw (lt-leb x 57 h) (and_no (nat_le 48 x))) way
  where
    and_no : (b : Bool) → (b && false) ≡ false
    and_no true = refl
    and_no false = refl

-- what begins a number and is no minus is a digit
pub number_start : (x : ℕ) → eqb x 45 ≡ false → (x ≡ 45) ⊎ (is_digit x ≡ true) → is_digit x ≡ true
number_start x h way = ⊎_elim (λ q. absurd (eqb-false x 45 h q)) (λ d. d) way

-- digits: the first leads from one state to another, which the others keep
digits_read : (R : List ℕ → Type 0) {s s' : Stack → State} (t : List ℕ) (a b : ℕ) → DigitsAt t a b →
    ((σ : Stack) → step (s σ) (get_or t a 256) ≡ to (s' σ)) → ((σ : Stack) (x : ℕ) → is_digit x ≡ true → step (s' σ) x ≡ to (s' σ)) →
    ((xs : List ℕ) → all is_digit xs ≡ true → R (get_or t a 256 ∷ xs)) → Reads R s s' Any t a b
digits_read R {s = s} {s' = s'} t a b d h k f =
    let p = reads_byte (get_or t a 256) {s = s} {s' = s'} {Fit = Any} t a (omega (arith, d.not_before, d.inside)) refl (λ σ _. h σ) in
    let q = reads_all is_digit {s = s'} {Fit = Any} t (a + 1) b (omega (arith, d.not_before)) d.inside d.others k in
    reads_then (λ x. x ≡ get_or t a 256 ∷ []) (λ ys. all is_digit ys ≡ true) R
    (λ x y e g. subst R (ap (λ zs. zs ++ y) (sym e)) (f y g)) p q

-- a run of digits, and then nothing, where the next symbol means the same in the state that follows
digits_end : (R : List ℕ → Type 0) {s s' s'' : Stack → State} (t : List ℕ) (a b : ℕ) → DigitsAt t a b →
    ((σ : Stack) (x : ℕ) → is_digit x ≡ false → step (s' σ) x ≡ step (s'' σ) x) → Reads R s s' Any t a b → Reads R s s'' Any t a b
digits_end R {s = s} {s' = s'} {s'' = s''} t a b d h p =
    reads_then R (λ x. x ≡ []) R (λ x y r n. subst R (sym (ap (λ zs. x ++ zs) n ∙ append-nil x)) r)
    p (reads_none {s = s'} {s' = s''} {Fit = Any} t b d.inside (λ σ _. h σ (get_or t b 256) d.last))

digits_of : (t : List ℕ) (a b : ℕ) → DigitsAt t a b → (xs : List ℕ) → all is_digit xs ≡ true → Digits (get_or t a 256 ∷ xs)
digits_of t a b d xs h = record { first = get_or t a 256; others = xs; first_digit = d.first; other_digits = h; split = refl }

-- int
pub int_zero : (t : List ℕ) (a : ℕ) → a < length t → eqb (get_or t a 256) 48 ≡ true → Reads Int minus zero Any t a (a + 1)
int_zero t a l h =
    reads_as (λ x. x ≡ 48 ∷ []) Int (λ x q. inl q)
    (reads_byte 48 {s = minus} {s' = zero} {Fit = Any} t a l (eqb-true _ _ h) (λ σ _. law.minus_zero σ))

pub int_digits : (t : List ℕ) (a b : ℕ) → eqb (get_or t a 256) 48 ≡ false → DigitsAt t a b → Reads Int minus zero Any t a b
int_digits t a b h d =
    digits_end Int t a b d law.int_ends
    (digits_read Int {s = minus} {s' = int} t a b d (λ σ. law.minus_int σ (get_or t a 256) d.first h) law.int_digit
    (λ xs g. inr (record { first = get_or t a 256; others = xs; first_digit = law.digit1_9 (get_or t a 256) d.first h; other_digits = g; split = refl })))

pub int_stops : (t : List ℕ) (a p : ℕ) → a ≤ length t → eqb (get_or t a 256) 48 ≡ false → NoDigitAt t a p → Stops Int minus Any t a p
int_stops t a p l h n =
    subst (Stops Int minus Any t a) (sym n.here)
    (stops_here Int {s = minus} {Fit = Any} t a l (48 ∷ []) (inl refl) (λ σ _. law.minus_dead σ (get_or t a 256) h n.none))

-- frac
frac_rule : (x y : List ℕ) → x ≡ 46 ∷ [] → Digits y → Optional Frac (x ++ y)
frac_rule x y q d = inr (record { digits = y; are_digits = d; split = ap (λ zs. zs ++ y) q })

frac_point : (t : List ℕ) (a : ℕ) → a < length t → eqb (get_or t a 256) 46 ≡ true → Reads (λ x. x ≡ 46 ∷ []) zero point Any t a (a + 1)
frac_point t a l h = reads_byte 46 {s = zero} {s' = point} {Fit = Any} t a l (eqb-true _ _ h) (λ σ _. law.zero_point σ)

pub frac_digits : (t : List ℕ) (a b : ℕ) → a < length t → eqb (get_or t a 256) 46 ≡ true → DigitsAt t (a + 1) b → Reads (Optional Frac) zero before_exp Any t a b
frac_digits t a b l h d =
    reads_then (λ x. x ≡ 46 ∷ []) Digits (Optional Frac) frac_rule (frac_point t a l h)
    (digits_end Digits t (a + 1) b d law.frac_ends
    (digits_read Digits {s = point} {s' = frac} t (a + 1) b d (λ σ. law.point_digit σ (get_or t (a + 1) 256) d.first) law.frac_digit (digits_of t (a + 1) b d)))

pub frac_none : (t : List ℕ) (a : ℕ) → a ≤ length t → eqb (get_or t a 256) 46 ≡ false → Reads (Optional Frac) zero before_exp Any t a a
frac_none t a l h =
    reads_as (λ x. x ≡ []) (Optional Frac) (λ x q. inl q)
    (reads_none {s = zero} {s' = before_exp} {Fit = Any} t a l (λ σ _. law.zero_ends σ (get_or t a 256) h))

pub frac_stops : (t : List ℕ) (a p : ℕ) → a < length t → eqb (get_or t a 256) 46 ≡ true → NoDigitAt t (a + 1) p → Stops (Optional Frac) zero Any t a p
frac_stops t a p l h n =
    subst (Stops (Optional Frac) zero Any t a) (sym n.here)
    (stops_then (λ x. x ≡ 46 ∷ []) Digits (Optional Frac)
    (λ x y q d. ([], subst (Optional Frac) (ap (λ zs. x ++ zs) (sym (append-nil y))) (frac_rule x y q d)))
    (frac_point t a l h)
    (stops_here Digits {s = point} {Fit = Any} t (a + 1) (omega arith) (48 ∷ []) one_zero (λ σ _. law.point_dead σ (get_or t (a + 1) 256) n.none)))

-- the digits of an exp, with a sign or without
signed_by : (t : List ℕ) (a : ℕ) → a < length t → is_sign (get_or t a 256) ≡ true → Reads Sign e sign Any t a (a + 1)
signed_by t a l h =
    reads_as (λ x. x ≡ get_or t a 256 ∷ []) Sign (λ x q. (get_or t a 256, h, q))
    (reads_byte (get_or t a 256) {s = e} {s' = sign} {Fit = Any} t a l refl (λ σ _. law.e_sign σ (get_or t a 256) h))

signed_rule : (x y : List ℕ) → Sign x → Digits y → SignedDigits (x ++ y)
signed_rule x y s d = record { sign = x; digits = y; has_sign = inr s; are_digits = d; split = refl }

unsigned_rule : (x : List ℕ) → Digits x → SignedDigits x
unsigned_rule x d = record { sign = []; digits = x; has_sign = inl refl; are_digits = d; split = refl }

pub signed_digits : (t : List ℕ) (a b : ℕ) → a < length t → is_sign (get_or t a 256) ≡ true → DigitsAt t (a + 1) b → Reads SignedDigits e have Any t a b
signed_digits t a b l h d =
    reads_then Sign Digits SignedDigits signed_rule (signed_by t a l h)
    (digits_end Digits t (a + 1) b d law.exp_ends
    (digits_read Digits {s = sign} {s' = exp} t (a + 1) b d (λ σ. law.sign_digit σ (get_or t (a + 1) 256) d.first) law.exp_digit (digits_of t (a + 1) b d)))

pub signed_stops : (t : List ℕ) (a p : ℕ) → a < length t → is_sign (get_or t a 256) ≡ true → NoDigitAt t (a + 1) p → Stops SignedDigits e Any t a p
signed_stops t a p l h n =
    subst (Stops SignedDigits e Any t a) (sym n.here)
    (stops_then Sign Digits SignedDigits
    (λ x y s d. ([], subst SignedDigits (ap (λ zs. x ++ zs) (sym (append-nil y))) (signed_rule x y s d)))
    (signed_by t a l h)
    (stops_here Digits {s = sign} {Fit = Any} t (a + 1) (omega arith) (48 ∷ []) one_zero (λ σ _. law.sign_dead σ (get_or t (a + 1) 256) n.none)))

pub unsigned_digits : (t : List ℕ) (a b : ℕ) → is_sign (get_or t a 256) ≡ false → DigitsAt t a b → Reads SignedDigits e have Any t a b
unsigned_digits t a b h d =
    reads_as Digits SignedDigits unsigned_rule
    (digits_end Digits t a b d law.exp_ends
    (digits_read Digits {s = e} {s' = exp} t a b d (λ σ. law.e_digit σ (get_or t a 256) h d.first) law.exp_digit (digits_of t a b d)))

pub unsigned_stops : (t : List ℕ) (a p : ℕ) → a ≤ length t → is_sign (get_or t a 256) ≡ false → NoDigitAt t a p → Stops SignedDigits e Any t a p
unsigned_stops t a p l h n =
    subst (Stops SignedDigits e Any t a) (sym n.here)
    (stops_here SignedDigits {s = e} {Fit = Any} t a l (48 ∷ []) (unsigned_rule (48 ∷ []) one_zero) (λ σ _. law.e_dead σ (get_or t a 256) h n.none))

-- exp
exp_e : (t : List ℕ) (a : ℕ) → a < length t → is_e (get_or t a 256) ≡ true → Reads (λ x. x ≡ get_or t a 256 ∷ []) before_exp e Any t a (a + 1)
exp_e t a l h = reads_byte (get_or t a 256) {s = before_exp} {s' = e} {Fit = Any} t a l refl (λ σ _. law.before_exp_e σ (get_or t a 256) h)

exp_rule : (i : ℕ) → is_e i ≡ true → (x y : List ℕ) → x ≡ i ∷ [] → SignedDigits y → Optional Exp (x ++ y)
exp_rule i h x y q d =
    inr (record { e = i; sign = d.sign; digits = d.digits; is_an_e = h; has_sign = d.has_sign; are_digits = d.are_digits; split = ap (λ zs. zs ++ y) q ∙ ap (λ zs. i ∷ zs) d.split })

pub exp_reads : (t : List ℕ) (a b : ℕ) → a < length t → is_e (get_or t a 256) ≡ true → Reads SignedDigits e have Any t (a + 1) b → Reads (Optional Exp) before_exp have Any t a b
exp_reads t a b l h d = reads_then (λ x. x ≡ get_or t a 256 ∷ []) SignedDigits (Optional Exp) (exp_rule (get_or t a 256) h) (exp_e t a l h) d

pub exp_none : (t : List ℕ) (a : ℕ) → a ≤ length t → is_e (get_or t a 256) ≡ false → Reads (Optional Exp) before_exp have Any t a a
exp_none t a l h =
    reads_as (λ x. x ≡ []) (Optional Exp) (λ x q. inl q)
    (reads_none {s = before_exp} {s' = have} {Fit = Any} t a l (λ σ _. law.before_exp_ends σ (get_or t a 256) h))

pub exp_stops : (t : List ℕ) (a p : ℕ) → a < length t → is_e (get_or t a 256) ≡ true → Stops SignedDigits e Any t (a + 1) p → Stops (Optional Exp) before_exp Any t a p
exp_stops t a p l h d =
    stops_then (λ x. x ≡ get_or t a 256 ∷ []) SignedDigits (Optional Exp)
    (λ x y q s. ([], subst (Optional Exp) (ap (λ zs. x ++ zs) (sym (append-nil y))) (exp_rule (get_or t a 256) h x y q s)))
    (exp_e t a l h) d

-- a whole number behind its minus
abbrev FracExp : List ℕ → Type 0
FracExp t = (x : List ℕ) × (y : List ℕ) × Optional Frac x × Optional Exp y × (t ≡ x ++ y)

whole_rule : (x y : List ℕ) → Int x → FracExp y → Unsigned (x ++ y)
whole_rule x y i f = record { int = x; frac = f.0; exp = f.1; is_int = i; is_frac = f.2; is_exp = f.3; split = ap (λ zs. x ++ zs) f.4 }

pub whole_reads : (t : List ℕ) (a b c d : ℕ) → Reads Int minus zero Any t a b → Reads (Optional Frac) zero before_exp Any t b c → Reads (Optional Exp) before_exp have Any t c d → Reads Unsigned minus have Any t a d
whole_reads t a b c d i f x =
    reads_then Int FracExp Unsigned whole_rule i
    (reads_then (Optional Frac) (Optional Exp) FracExp (λ y z p q. (y, z, p, q, refl)) f x)

pub whole_stops_int : (t : List ℕ) (a p : ℕ) → Stops Int minus Any t a p → Stops Unsigned minus Any t a p
whole_stops_int t a p = stops_in Int Unsigned (λ x i. ([], subst Unsigned refl (whole_rule x [] i ([], [], inl refl, inl refl, refl))))

pub whole_stops_frac : (t : List ℕ) (a b p : ℕ) → Reads Int minus zero Any t a b → Stops (Optional Frac) zero Any t b p → Stops Unsigned minus Any t a p
whole_stops_frac t a b p i =
    stops_then Int (Optional Frac) Unsigned
    (λ x y k f. ([], whole_rule x (y ++ []) k (y, [], f, inl refl, refl))) i

pub whole_stops_exp : (t : List ℕ) (a b c p : ℕ) → Reads Int minus zero Any t a b → Reads (Optional Frac) zero before_exp Any t b c → Stops (Optional Exp) before_exp Any t c p → Stops Unsigned minus Any t a p
whole_stops_exp t a b c p i f x =
    stops_then Int FracExp Unsigned
    (λ y z k g. ([], subst Unsigned (ap (λ zs. y ++ zs) (sym (append-nil z))) (whole_rule y z k g))) i
    (stops_then (Optional Frac) (Optional Exp) FracExp
    (λ y z g q. ([], (y, z ++ [], g, subst (Optional Exp) (sym (append-nil z)) q, refl))) f x)

-- a whole number
signed_number : (x y : List ℕ) → Minus x → Unsigned y → Number (x ++ y)
signed_number x y m u = record {
  minus = x;
  int = u.int;
  frac = u.frac;
  exp = u.exp;
  is_minus = inr m;
  is_int = u.is_int;
  is_frac = u.is_frac;
  is_exp = u.is_exp;
  split = ap (λ zs. x ++ zs) u.split;
}

plain_number : (y : List ℕ) → Unsigned y → Number y
plain_number y u = record {
  minus = [];
  int = u.int;
  frac = u.frac;
  exp = u.exp;
  is_minus = inl refl;
  is_int = u.is_int;
  is_frac = u.is_frac;
  is_exp = u.is_exp;
  split = u.split;
}

number_minus : (t : List ℕ) (a : ℕ) → a < length t → eqb (get_or t a 256) 45 ≡ true → Reads Minus want minus Any t a (a + 1)
number_minus t a l h = reads_byte 45 {s = want} {s' = minus} {Fit = Any} t a l (eqb-true _ _ h) (λ σ _. law.want_minus σ)

number_digit : (t : List ℕ) (a : ℕ) → a ≤ length t → is_digit (get_or t a 256) ≡ true → Reads (λ x. x ≡ []) want minus Any t a a
number_digit t a l h = reads_none {s = want} {s' = minus} {Fit = Any} t a l (λ σ _. law.want_digit σ (get_or t a 256) h)

pub minus_reads : (t : List ℕ) (a b : ℕ) → a < length t → eqb (get_or t a 256) 45 ≡ true → Reads Unsigned minus have Any t (a + 1) b → Reads Number want have Any t a b
minus_reads t a b l h = reads_then Minus Unsigned Number signed_number (number_minus t a l h)

pub minus_stops : (t : List ℕ) (a p : ℕ) → a < length t → eqb (get_or t a 256) 45 ≡ true → Stops Unsigned minus Any t (a + 1) p → Stops Number want Any t a p
minus_stops t a p l h =
    stops_then Minus Unsigned Number
    (λ x y m u. ([], subst Number (ap (λ zs. x ++ zs) (sym (append-nil y))) (signed_number x y m u))) (number_minus t a l h)

pub digit_reads : (t : List ℕ) (a b : ℕ) → a ≤ length t → is_digit (get_or t a 256) ≡ true → Reads Unsigned minus have Any t a b → Reads Number want have Any t a b
digit_reads t a b l h =
    reads_then (λ x. x ≡ []) Unsigned Number (λ x y q u. subst Number (ap (λ zs. zs ++ y) (sym q)) (plain_number y u)) (number_digit t a l h)

pub digit_stops : (t : List ℕ) (a p : ℕ) → a ≤ length t → is_digit (get_or t a 256) ≡ true → Stops Unsigned minus Any t a p → Stops Number want Any t a p
digit_stops t a p l h =
    stops_then (λ x. x ≡ []) Unsigned Number
    (λ x y q u. ([], subst Number (sym (ap (λ zs. zs ++ (y ++ [])) q ∙ append-nil y)) (plain_number y u))) (number_digit t a l h)

-- What the machine does at a symbol.
use Rattle.std.proofs.Common.{◌≡◌, ℕ, ◌<◌, ◌≤◌, true, false, eqb, leb, [], ◌∷◌, sym, refl, ◌∙◌, arith}
use Rattle.json_string.specs.Machine.{plain}
use Rattle.std.proofs.lemmas.Bool.{true≢false, lt-ltb, le-ltb, eqb-false, leb-true, le-leb, ne_eqb, and_parts}
use Rattle.json_text.specs.Json.{is_ws, is_digit, is_digit1_9, is_e, is_sign}
use Rattle.json_text.specs.Machine.{Bracket, square, curly, outside, past, is_name, is_value, Stack, count, dead, to, step, begin_step, name_step, name_rest, opening, close, have_step, exp_step, frac_step, want, have, open_array, open_object, want_name, want_colon, in_string, minus, zero, int, point, frac, e, sign, exp, before_exp, done}
use Rattle.json_text.specs.declared.texts.TheConstants.{DEPTH}

-- digits by their bounds
pub digit_bounds : (x : ℕ) → is_digit x ≡ true → (48 ≤ x) × (x ≤ 57)
unfolding is_digit
digit_bounds x h = let p = and_parts (leb 48 x) (leb x 57) h in (leb-true 48 x p.0, leb-true x 57 p.1)

pub digit1_9 : (x : ℕ) → is_digit x ≡ true → eqb x 48 ≡ false → is_digit1_9 x ≡ true
unfolding is_digit1_9
digit1_9 x h k =
    let b = digit_bounds x h in
    let n : 49 ≤ x = omega (arith, eqb-false x 48 k) in
    rw (le-leb 49 x n, le-leb x 57 b.1)

-- white space is a space or below
pub no_ws : (x : ℕ) → 32 < x → is_ws x ≡ false
unfolding is_ws
no_ws x l = rw (ne_eqb x 32 (λ q. omega arith), ne_eqb x 9 (λ q. omega arith), ne_eqb x 10 (λ q. omega arith), ne_eqb x 13 (λ q. omega arith))

pub digit_no_ws : (x : ℕ) → is_digit x ≡ true → is_ws x ≡ false
digit_no_ws x h = no_ws x (omega (arith, digit_bounds x h))

-- a number begins as behind its minus, or by the minus
pub want_minus : (σ : Stack) → step (want σ) 45 ≡ to (minus σ)
unfolding step begin_step is_ws
want_minus σ = refl

pub want_digit : (σ : Stack) (x : ℕ) → is_digit x ≡ true → step (want σ) x ≡ step (minus σ) x
unfolding step begin_step
want_digit σ x h =
    let b = digit_bounds x h in
    rw (digit_no_ws x h, ne_eqb x 34 (λ q. omega arith), ne_eqb x 91 (λ q. omega arith), ne_eqb x 123 (λ q. omega arith), ne_eqb x 45 (λ q. omega arith), h)

-- int
pub minus_zero : (σ : Stack) → step (minus σ) 48 ≡ to (zero σ)
unfolding step
minus_zero σ = refl

pub minus_int : (σ : Stack) (x : ℕ) → is_digit x ≡ true → eqb x 48 ≡ false → step (minus σ) x ≡ to (int σ)
unfolding step
minus_int σ x h k = rw (k, h)

pub minus_dead : (σ : Stack) (x : ℕ) → eqb x 48 ≡ false → is_digit x ≡ false → step (minus σ) x ≡ dead
unfolding step
minus_dead σ x k h = rw (k, h)

pub int_digit : (σ : Stack) (x : ℕ) → is_digit x ≡ true → step (int σ) x ≡ to (int σ)
unfolding step
int_digit σ x h = rw h

pub int_ends : (σ : Stack) (x : ℕ) → is_digit x ≡ false → step (int σ) x ≡ step (zero σ) x
unfolding step
int_ends σ x h = rw h

-- frac
pub zero_point : (σ : Stack) → step (zero σ) 46 ≡ to (point σ)
unfolding step frac_step
zero_point σ = refl

pub zero_ends : (σ : Stack) (x : ℕ) → eqb x 46 ≡ false → step (zero σ) x ≡ step (before_exp σ) x
unfolding step frac_step
zero_ends σ x h = rw h

pub point_digit : (σ : Stack) (x : ℕ) → is_digit x ≡ true → step (point σ) x ≡ to (frac σ)
unfolding step
point_digit σ x h = rw h

pub point_dead : (σ : Stack) (x : ℕ) → is_digit x ≡ false → step (point σ) x ≡ dead
unfolding step
point_dead σ x h = rw h

pub frac_digit : (σ : Stack) (x : ℕ) → is_digit x ≡ true → step (frac σ) x ≡ to (frac σ)
unfolding step
frac_digit σ x h = rw h

pub frac_ends : (σ : Stack) (x : ℕ) → is_digit x ≡ false → step (frac σ) x ≡ step (before_exp σ) x
unfolding step
frac_ends σ x h = rw h

-- exp
pub before_exp_e : (σ : Stack) (x : ℕ) → is_e x ≡ true → step (before_exp σ) x ≡ to (e σ)
unfolding step exp_step
before_exp_e σ x h = rw h

pub before_exp_ends : (σ : Stack) (x : ℕ) → is_e x ≡ false → step (before_exp σ) x ≡ step (have σ) x
unfolding step exp_step
before_exp_ends σ x h = rw h

pub e_sign : (σ : Stack) (x : ℕ) → is_sign x ≡ true → step (e σ) x ≡ to (sign σ)
unfolding step
e_sign σ x h = rw h

pub e_digit : (σ : Stack) (x : ℕ) → is_sign x ≡ false → is_digit x ≡ true → step (e σ) x ≡ to (exp σ)
unfolding step
e_digit σ x k h = rw (k, h)

pub e_dead : (σ : Stack) (x : ℕ) → is_sign x ≡ false → is_digit x ≡ false → step (e σ) x ≡ dead
unfolding step
e_dead σ x k h = rw (k, h)

pub sign_digit : (σ : Stack) (x : ℕ) → is_digit x ≡ true → step (sign σ) x ≡ to (exp σ)
unfolding step
sign_digit σ x h = rw h

pub sign_dead : (σ : Stack) (x : ℕ) → is_digit x ≡ false → step (sign σ) x ≡ dead
unfolding step
sign_dead σ x h = rw h

pub exp_digit : (σ : Stack) (x : ℕ) → is_digit x ≡ true → step (exp σ) x ≡ to (exp σ)
unfolding step
exp_digit σ x h = rw h

pub exp_ends : (σ : Stack) (x : ℕ) → is_digit x ≡ false → step (exp σ) x ≡ step (have σ) x
unfolding step
exp_ends σ x h = rw h

-- white space changes nothing between the parts of a text
pub want_ws : (σ : Stack) (x : ℕ) → is_ws x ≡ true → step (want σ) x ≡ to (want σ)
unfolding step
want_ws σ x h = rw h

pub have_ws : (σ : Stack) (x : ℕ) → is_ws x ≡ true → step (have σ) x ≡ to (have σ)
unfolding step have_step
have_ws σ x h = rw h

pub open_array_ws : (b : Bracket) (σ : Stack) (x : ℕ) → is_ws x ≡ true → step (open_array (b ∷ σ)) x ≡ to (open_array (b ∷ σ))
unfolding step
open_array_ws b σ x h = rw h

pub open_object_ws : (b : Bracket) (σ : Stack) (x : ℕ) → is_ws x ≡ true → step (open_object (b ∷ σ)) x ≡ to (open_object (b ∷ σ))
unfolding step
open_object_ws b σ x h = rw h

pub want_name_ws : (σ : Stack) (x : ℕ) → is_ws x ≡ true → step (want_name σ) x ≡ to (want_name σ)
unfolding step
want_name_ws σ x h = rw h

pub want_colon_ws : (σ : Stack) (x : ℕ) → is_ws x ≡ true → step (want_colon σ) x ≡ to (want_colon σ)
unfolding step
want_colon_ws σ x h = rw h

-- a bracket opens while fewer than 32 are open
pub want_array : (σ : Stack) → count σ < DEPTH → step (want σ) 91 ≡ to (open_array (square ∷ σ))
unfolding step begin_step opening is_ws
want_array σ l = rw (lt-ltb (count σ) DEPTH l)

pub want_object : (σ : Stack) → count σ < DEPTH → step (want σ) 123 ≡ to (open_object (curly ∷ σ))
unfolding step begin_step opening is_ws
want_object σ l = rw (lt-ltb (count σ) DEPTH l)

pub full_array : (σ : Stack) → DEPTH ≤ count σ → step (want σ) 91 ≡ dead
unfolding step begin_step opening is_ws
full_array σ l = rw (le-ltb (count σ) DEPTH l)

pub full_object : (σ : Stack) → DEPTH ≤ count σ → step (want σ) 123 ≡ dead
unfolding step begin_step opening is_ws
full_object σ l = rw (le-ltb (count σ) DEPTH l)

-- right behind an opening bracket
pub empty_array : (b : Bracket) (σ : Stack) → step (open_array (b ∷ σ)) 93 ≡ to (have σ)
unfolding step is_ws
empty_array b σ = refl

pub empty_object : (b : Bracket) (σ : Stack) → step (open_object (b ∷ σ)) 125 ≡ to (have σ)
unfolding step is_ws
empty_object b σ = refl

pub first_value : (b : Bracket) (σ : Stack) (x : ℕ) → is_ws x ≡ false → eqb x 93 ≡ false → step (open_array (b ∷ σ)) x ≡ step (want (b ∷ σ)) x
unfolding step
first_value b σ x h k = rw (h, k)

pub first_name : (b : Bracket) (σ : Stack) (x : ℕ) → is_ws x ≡ false → eqb x 125 ≡ false → step (open_object (b ∷ σ)) x ≡ step (want_name (b ∷ σ)) x
unfolding step
first_name b σ x h k = rw (h, k)

-- behind a value
pub array_comma : (σ : Stack) → step (have (square ∷ σ)) 44 ≡ to (want (square ∷ σ))
unfolding step have_step close is_ws
array_comma σ = refl

pub array_end : (σ : Stack) → step (have (square ∷ σ)) 93 ≡ to (have σ)
unfolding step have_step close is_ws
array_end σ = refl

pub array_dead : (σ : Stack) (x : ℕ) → is_ws x ≡ false → eqb x 93 ≡ false → eqb x 44 ≡ false → step (have (square ∷ σ)) x ≡ dead
unfolding step have_step close
array_dead σ x h k l = rw (h, l, k)

pub object_comma : (σ : Stack) → step (have (curly ∷ σ)) 44 ≡ to (want_name (curly ∷ σ))
unfolding step have_step close is_ws
object_comma σ = refl

pub object_end : (σ : Stack) → step (have (curly ∷ σ)) 125 ≡ to (have σ)
unfolding step have_step close is_ws
object_end σ = refl

pub object_dead : (σ : Stack) (x : ℕ) → is_ws x ≡ false → eqb x 125 ≡ false → eqb x 44 ≡ false → step (have (curly ∷ σ)) x ≡ dead
unfolding step have_step close
object_dead σ x h k l = rw (h, l, k)

pub text_end : step (have []) 256 ≡ to done
unfolding step have_step close is_ws
text_end = refl

pub text_dead : (x : ℕ) → is_ws x ≡ false → eqb x 256 ≡ false → step (have []) x ≡ dead
unfolding step have_step close
text_dead x h k = rw (h, k)

-- names and the colon
pub name_quote : (σ : Stack) → step (want_name σ) 34 ≡ to (in_string is_name plain σ)
unfolding step name_step is_ws
name_quote σ = refl

pub name_dead : (σ : Stack) (x : ℕ) → is_ws x ≡ false → eqb x 34 ≡ false → step (want_name σ) x ≡ dead
unfolding step name_step
name_dead σ x h k = rw (h, k)

pub colon : (σ : Stack) → step (want_colon σ) 58 ≡ to (want σ)
unfolding step is_ws
colon σ = refl

pub colon_dead : (σ : Stack) (x : ℕ) → is_ws x ≡ false → eqb x 58 ≡ false → step (want_colon σ) x ≡ dead
unfolding step
colon_dead σ x h k = rw (h, k)

-- values without brackets
pub value_quote : (σ : Stack) → step (want σ) 34 ≡ to (in_string is_value plain σ)
unfolding step begin_step is_ws
value_quote σ = refl

pub value_t : (σ : Stack) → step (want σ) 116 ≡ to (name_rest (114 ∷ 117 ∷ 101 ∷ []) σ)
unfolding step begin_step is_ws is_digit
value_t σ = refl

pub value_f : (σ : Stack) → step (want σ) 102 ≡ to (name_rest (97 ∷ 108 ∷ 115 ∷ 101 ∷ []) σ)
unfolding step begin_step is_ws is_digit
value_f σ = refl

pub value_n : (σ : Stack) → step (want σ) 110 ≡ to (name_rest (117 ∷ 108 ∷ 108 ∷ []) σ)
unfolding step begin_step is_ws is_digit
value_n σ = refl

zero_digit : (x : ℕ) → x ≡ 48 → is_digit x ≡ true
unfolding is_digit
zero_digit x q = rw q

not_zero : (x : ℕ) → is_digit x ≡ false → eqb x 48 ≡ false
not_zero x h = ne_eqb x 48 (λ q. true≢false (sym (zero_digit x q) ∙ h))

pub no_value : (σ : Stack) (x : ℕ) → is_ws x ≡ false → eqb x 34 ≡ false → eqb x 91 ≡ false → eqb x 123 ≡ false → eqb x 45 ≡ false → is_digit x ≡ false →
    eqb x 116 ≡ false → eqb x 102 ≡ false → eqb x 110 ≡ false → step (want σ) x ≡ dead
unfolding step begin_step
no_value σ x a b c d f g h i j = rw (a, b, c, d, f, not_zero x g, g, h, i, j)

-- behind a value that is read alone, anything may follow
pub outside_value : (σ : Stack) (x : ℕ) → is_ws x ≡ false → step (have (outside ∷ σ)) x ≡ to past
unfolding step have_step close
outside_value σ x h = rw h

pub past_stays : (x : ℕ) → step past x ≡ to past
unfolding step
past_stays x = refl

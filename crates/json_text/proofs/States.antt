-- What a state of the machine says of the bytes that led to it: how they begin a text.
use Rattle.std.proofs.Common.{◌≡◌, ℕ, Bool, true, List, [], ◌∷◌, ◌++◌}
use Rattle.json_string.specs.Machine.{StringState, plain, string_run, alive}
use Rattle.json_text.specs.Json.{is_e, is_sign, Ws, Optional, Minus, Counting, Int, Frac, Exp, String, NameSeparator, Json, Value}
use Rattle.json_text.specs.Machine.{Stack, count, square, curly, outside, State, is_name, is_value, want, have, open_array, open_object, want_name, want_colon, in_string, in_name, minus, zero, int, point, frac, e, sign, exp, before_exp, done, past}
use Rattle.json_text.specs.Reading.{AnyValues, AnyMembers}
use Rattle.json_text.proofs.Places.{AnyText}
use Rattle.json_text.proofs.Joining.{Joined, Within}
use Rattle.json_text.proofs.Items.{Started}

abbrev pub AnyString : List ℕ → Type 0
AnyString t = (k : List ℕ) × String t k

-- A value is wanted, by the brackets that are open.
abbrev pub Wanted : Stack → List ℕ → Type 0
Wanted [] t = Ws t
Wanted (square ∷ σ) t = Within (Wanted σ) (count σ) 91 (λ d. Started (AnyValues d)) t
Wanted (curly ∷ σ) t = Within (Wanted σ) (count σ) 123 (λ d. Joined (Started (AnyMembers d)) (Joined AnyString NameSeparator)) t
Wanted (outside ∷ σ) t = ⊥

-- A value was read.
abbrev pub Had : Stack → List ℕ → Type 0
Had [] t = AnyText t
Had (square ∷ σ) t = Within (Wanted σ) (count σ) 91 AnyValues t
Had (curly ∷ σ) t = Within (Wanted σ) (count σ) 123 AnyMembers t
Had (outside ∷ σ) t = ⊥

-- A bracket was opened.
abbrev pub Opened : ℕ → Stack → List ℕ → Type 0
Opened k σ t = Within (Wanted σ) (count σ) k (λ d a. a ≡ []) t

-- A name is wanted.
abbrev pub NameWanted : Stack → List ℕ → Type 0
NameWanted [] t = ⊥
NameWanted (square ∷ σ) t = ⊥
NameWanted (curly ∷ σ) t = Within (Wanted σ) (count σ) 123 (λ d. Started (AnyMembers d)) t
NameWanted (outside ∷ σ) t = ⊥

-- A string up to this state of its own machine.
pub record InString (q : StringState) (t : List ℕ) : Type 0 where
  pub chars : List ℕ
  pub runs : string_run plain chars ≡ q
  pub goes_on : alive q ≡ true
  pub split : t ≡ 34 ∷ chars

-- A literal name that wants these bytes.
pub record InName (bs : List ℕ) (t : List ℕ) : Type 0 where
  pub literal : Json
  pub is_literal : (d : ℕ) → Value d (t ++ bs) literal

-- One byte that passes the test, and two.
abbrev pub One : (ℕ → Bool) → List ℕ → Type 0
One test t = (x : ℕ) × (test x ≡ true) × (t ≡ x ∷ [])

abbrev pub ESign : List ℕ → Type 0
ESign t = (x : ℕ) × (y : ℕ) × (is_e x ≡ true) × (is_sign y ≡ true) × (t ≡ x ∷ y ∷ [])

-- The parts of a number.
abbrev pub Signed : List ℕ → Type 0
Signed t = Joined (Optional Minus) Int t

abbrev pub Mantissa : List ℕ → Type 0
Mantissa t = Joined Signed (Optional Frac) t

abbrev pub InArray : Stack → List ℕ → Type 0
InArray [] t = ⊥
InArray (square ∷ σ) t = Opened 91 σ t
InArray (curly ∷ σ) t = ⊥
InArray (outside ∷ σ) t = ⊥

abbrev pub InObject : Stack → List ℕ → Type 0
InObject [] t = ⊥
InObject (square ∷ σ) t = ⊥
InObject (curly ∷ σ) t = Opened 123 σ t
InObject (outside ∷ σ) t = ⊥

-- The bytes that lead to a state.
abbrev pub Led : State → List ℕ → Type 0
Led (want σ) t = Wanted σ t
Led (have σ) t = Joined (Had σ) Ws t
Led (open_array σ) t = InArray σ t
Led (open_object σ) t = InObject σ t
Led (want_name σ) t = NameWanted σ t
Led (want_colon σ) t = Joined (Joined (NameWanted σ) AnyString) Ws t
Led (in_string is_name q σ) t = Joined (NameWanted σ) (InString q) t
Led (in_string is_value q σ) t = Joined (Wanted σ) (InString q) t
Led (in_name bs σ) t = Joined (Wanted σ) (InName bs) t
Led (minus σ) t = Joined (Wanted σ) (λ a. a ≡ 45 ∷ []) t
Led (zero σ) t = Joined (Wanted σ) Signed t
Led (int σ) t = Joined (Wanted σ) (Joined (Optional Minus) Counting) t
Led (point σ) t = Joined (Wanted σ) (Joined Signed (λ a. a ≡ 46 ∷ [])) t
Led (frac σ) t = Joined (Wanted σ) (Joined Signed Frac) t
Led (e σ) t = Joined (Wanted σ) (Joined Mantissa (One is_e)) t
Led (sign σ) t = Joined (Wanted σ) (Joined Mantissa ESign) t
Led (exp σ) t = Joined (Wanted σ) (Joined Mantissa Exp) t
Led (before_exp σ) t = ⊥
Led done t = (a : List ℕ) × AnyText a × (t ≡ a ++ 256 ∷ [])
Led past t = ⊥

-- A JSON text byte by byte: a machine that stops at the first symbol after which no text goes on.
-- It says where a fault is; what a text is, the grammar in `Json` says. The end of the text is the symbol 256.
use Rattle.std.specs.Prelude.{ℕ, suc, cond, List, [], ◌∷◌, ◌++◌, drop, ◌==◌, nat_lt}
use Rattle.json_string.specs.Machine.{StringState, string_step, plain, wanted, escape, code, code_d, closed, broken}
use Rattle.json_text.specs.Json.{is_ws, is_digit, is_e, is_sign}
use Rattle.json_text.specs.declared.texts.TheConstants.{DEPTH}

-- The brackets that are open, the innermost first. Under them may stand `outside`: then only one value is read, and
-- what follows it is of no concern.
pub data Bracket : Type 0 where
  square : Bracket
  curly : Bracket
  outside : Bracket

abbrev pub Stack : Type 0
Stack = List Bracket

-- How many brackets are open.
abbrev pub count : Stack → ℕ
count [] = 0
count (square ∷ σ) = suc (count σ)
count (curly ∷ σ) = suc (count σ)
count (outside ∷ σ) = count σ

-- What a string is: the name of a member, or a value.
pub data Role : Type 0 where
  is_name : Role
  is_value : Role

pub data State : Type 0 where
  -- a value is wanted, and a value was read
  want : Stack → State
  have : Stack → State
  -- right behind `[` and right behind `{`: the bracket may close again
  open_array : Stack → State
  open_object : Stack → State
  -- a member is wanted; a name was read and the colon is wanted
  want_name : Stack → State
  want_colon : Stack → State
  -- inside a string
  in_string : Role → StringState → Stack → State
  -- inside a literal name: its bytes that are still wanted
  in_name : List ℕ → Stack → State
  -- inside a number: behind the minus, the zero, a digit of the int, the point, a digit of the frac, the e, its sign, a digit of the exp
  minus : Stack → State
  zero : Stack → State
  int : Stack → State
  point : Stack → State
  frac : Stack → State
  e : Stack → State
  sign : Stack → State
  exp : Stack → State
  -- behind a number that may only go on by an e
  before_exp : Stack → State
  -- the text has ended, and: the value has ended that was to be read
  done : State
  past : State

-- What a symbol does.
pub data Next : Type 0 where
  dead : Next
  to : State → Next

-- A bracket is opened where fewer than `DEPTH` are open.
unfoldable pub opening : Stack → State → Next
opening σ s = cond (nat_lt (count σ) DEPTH) (to s) dead

-- Behind a value white space may follow; then, by the innermost bracket, a comma or its end, and the end of the text where none is open.
unfoldable pub close : Stack → ℕ → Next
close [] x = cond (x == 256) (to done) dead
close (square ∷ σ) x = cond (x == 44) (to (want (square ∷ σ))) (cond (x == 93) (to (have σ)) dead)
close (outside ∷ σ) x = to past
close (curly ∷ σ) x = cond (x == 44) (to (want_name (curly ∷ σ))) (cond (x == 125) (to (have σ)) dead)

unfoldable pub have_step : Stack → ℕ → Next
have_step σ x = cond (is_ws x) (to (have σ)) (close σ x)

-- The first symbol of a value.
unfoldable pub begin_step : Stack → ℕ → Next
begin_step σ x =
    cond (x == 34) (to (in_string is_value plain σ))
    (cond (x == 91) (opening σ (open_array (square ∷ σ)))
    (cond (x == 123) (opening σ (open_object (curly ∷ σ)))
    (cond (x == 45) (to (minus σ))
    (cond (x == 48) (to (zero σ))
    (cond (is_digit x) (to (int σ))
    (cond (x == 116) (to (in_name (114 ∷ 117 ∷ 101 ∷ []) σ))
    (cond (x == 102) (to (in_name (97 ∷ 108 ∷ 115 ∷ 101 ∷ []) σ))
    (cond (x == 110) (to (in_name (117 ∷ 108 ∷ 108 ∷ []) σ))
    dead))))))))

unfoldable pub name_step : Stack → ℕ → Next
name_step σ x = cond (x == 34) (to (in_string is_name plain σ)) dead

-- Where a string leads that has ended.
abbrev pub after_string : Role → Stack → State
after_string is_name σ = want_colon σ
after_string is_value σ = have σ

abbrev pub string_next : Role → Stack → StringState → Next
string_next r σ plain = to (in_string r plain σ)
string_next r σ (wanted cs) = to (in_string r (wanted cs) σ)
string_next r σ escape = to (in_string r escape σ)
string_next r σ code = to (in_string r code σ)
string_next r σ code_d = to (in_string r code_d σ)
string_next r σ closed = to (after_string r σ)
string_next r σ broken = dead

-- A literal name's next byte; behind its last byte the value was read.
abbrev pub name_rest : List ℕ → Stack → State
name_rest [] σ = have σ
name_rest (b ∷ bs) σ = in_name (b ∷ bs) σ

-- Behind the whole int, and behind the whole frac.
unfoldable pub exp_step : Stack → ℕ → Next
exp_step σ x = cond (is_e x) (to (e σ)) (have_step σ x)

unfoldable pub frac_step : Stack → ℕ → Next
frac_step σ x = cond (x == 46) (to (point σ)) (exp_step σ x)

unfoldable pub step : State → ℕ → Next
step (want σ) x = cond (is_ws x) (to (want σ)) (begin_step σ x)
step (have σ) x = have_step σ x
step (open_array []) x = dead
step (open_array (b ∷ σ)) x = cond (is_ws x) (to (open_array (b ∷ σ))) (cond (x == 93) (to (have σ)) (begin_step (b ∷ σ) x))
step (open_object []) x = dead
step (open_object (b ∷ σ)) x = cond (is_ws x) (to (open_object (b ∷ σ))) (cond (x == 125) (to (have σ)) (name_step (b ∷ σ) x))
step (want_name σ) x = cond (is_ws x) (to (want_name σ)) (name_step σ x)
step (want_colon σ) x = cond (is_ws x) (to (want_colon σ)) (cond (x == 58) (to (want σ)) dead)
step (in_string r q σ) x = string_next r σ (string_step q x)
step (in_name [] σ) x = dead
step (in_name (b ∷ bs) σ) x = cond (x == b) (to (name_rest bs σ)) dead
step (minus σ) x = cond (x == 48) (to (zero σ)) (cond (is_digit x) (to (int σ)) dead)
step (zero σ) x = frac_step σ x
step (int σ) x = cond (is_digit x) (to (int σ)) (frac_step σ x)
step (point σ) x = cond (is_digit x) (to (frac σ)) dead
step (frac σ) x = cond (is_digit x) (to (frac σ)) (exp_step σ x)
step (e σ) x = cond (is_sign x) (to (sign σ)) (cond (is_digit x) (to (exp σ)) dead)
step (sign σ) x = cond (is_digit x) (to (exp σ)) dead
step (exp σ) x = cond (is_digit x) (to (exp σ)) (have_step σ x)
step (before_exp σ) x = exp_step σ x
step done x = dead
step past x = to past

-- How a run ends: all symbols were read, or the machine stopped before the first of these.
pub data Halt : Type 0 where
  ended : State → Halt
  stopped : List ℕ → Halt

abbrev pub onward : Next → List ℕ → (State → Halt) → Halt
onward dead xs go = stopped xs
onward (to s) xs go = go s

unfoldable pub run : State → List ℕ → Halt
run s [] = ended s
run s (x ∷ xs) = onward (step s x) (x ∷ xs) (λ s'. run s' xs)

-- What is left of a text at a place, with the symbol for its end.
abbrev pub left : ℕ → List ℕ → List ℕ
left i t = drop i t ++ 256 ∷ []

-- The run over what is left of the text at a place.
unfoldable pub from : State → ℕ → List ℕ → Halt
from s i t = run s (left i t)

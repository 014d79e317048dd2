-- The value that a text builds, byte by byte, as a fold over its bytes. It builds some value of other bytes too, of which
-- nothing is said.
use Rattle.std.specs.Prelude.{ℕ, cond, List, [], ◌∷◌, ◌++◌, ◌==◌}
use Rattle.json_string.specs.Decoded.{decoded}
use Rattle.json_string.specs.Machine.{StringState, string_step, plain, wanted, escape, code, code_d, closed, broken}
use Rattle.json_text.specs.Json
use Rattle.json_text.specs.Json.{is_ws, Values, no_values, values, Members, no_members, members, false_name, null_name, true_name, object, array, number, string}

-- What is open: an array and its values so far, an object and its members so far, and the name of the next member.
pub data Frame : Type 0 where
  in_array : Values → Frame
  in_object : Members → Frame
  in_member : Members → List ℕ → Frame

pub data Built : Type 0 where
  -- nothing of a value was read
  next : List Frame → Built
  -- inside a string, with its bytes so far
  in_string : StringState → List ℕ → List Frame → Built
  -- a value was begun or read whole
  value : Json.Json → List Frame → Built

unfoldable pub close_array : Json.Json → List Frame → Built
close_array v [] = value v []
close_array v (in_array vs ∷ σ) = value (array (values vs v)) σ
close_array v (in_object ms ∷ σ) = value v (in_object ms ∷ σ)
close_array v (in_member ms k ∷ σ) = value v (in_member ms k ∷ σ)

unfoldable pub close_object : Json.Json → List Frame → Built
close_object v [] = value v []
close_object v (in_array vs ∷ σ) = value v (in_array vs ∷ σ)
close_object v (in_object ms ∷ σ) = value v (in_object ms ∷ σ)
close_object v (in_member ms k ∷ σ) = value (object (members ms k v)) σ

unfoldable pub comma : Json.Json → List Frame → Built
comma v [] = value v []
comma v (in_array vs ∷ σ) = next (in_array (values vs v) ∷ σ)
comma v (in_object ms ∷ σ) = value v (in_object ms ∷ σ)
comma v (in_member ms k ∷ σ) = next (in_object (members ms k v) ∷ σ)

unfoldable pub name_of : Json.Json → List ℕ
name_of false_name = []
name_of null_name = []
name_of true_name = []
name_of (object ms) = []
name_of (array vs) = []
name_of number = []
name_of (string s) = s

unfoldable pub colon : Json.Json → List Frame → Built
colon v [] = value v []
colon v (in_array vs ∷ σ) = value v (in_array vs ∷ σ)
colon v (in_object ms ∷ σ) = next (in_member ms (name_of v) ∷ σ)
colon v (in_member ms k ∷ σ) = value v (in_member ms k ∷ σ)

unfoldable pub empty : List Frame → Built
empty [] = next []
empty (in_array vs ∷ σ) = value (array vs) σ
empty (in_object ms ∷ σ) = value (object ms) σ
empty (in_member ms k ∷ σ) = next (in_member ms k ∷ σ)

unfoldable pub chars : StringState → List ℕ → ℕ → List Frame → Built
chars plain a x σ = in_string plain (a ++ x ∷ []) σ
chars (wanted cs) a x σ = in_string (wanted cs) (a ++ x ∷ []) σ
chars escape a x σ = in_string escape (a ++ x ∷ []) σ
chars code a x σ = in_string code (a ++ x ∷ []) σ
chars code_d a x σ = in_string code_d (a ++ x ∷ []) σ
chars closed a x σ = value (string (decoded a)) σ
chars broken a x σ = in_string broken (a ++ x ∷ []) σ

unfoldable pub build : Built → ℕ → Built
build (next σ) x =
    cond (is_ws x) (next σ)
    (cond (x == 34) (in_string plain [] σ)
    (cond (x == 91) (next (in_array no_values ∷ σ))
    (cond (x == 123) (next (in_object no_members ∷ σ))
    (cond (x == 93) (empty σ)
    (cond (x == 125) (empty σ)
    (cond (x == 116) (value true_name σ)
    (cond (x == 102) (value false_name σ)
    (cond (x == 110) (value null_name σ)
    (value number σ)))))))))
build (in_string q a σ) x = chars (string_step q x) a x σ
build (value v σ) x =
    cond (x == 44) (comma v σ) (cond (x == 93) (close_array v σ) (cond (x == 125) (close_object v σ) (cond (x == 58) (colon v σ) (value v σ))))

unfoldable pub built : Built → List ℕ → Built
built s [] = s
built s (x ∷ xs) = built (build s x) xs

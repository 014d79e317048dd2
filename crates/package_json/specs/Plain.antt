-- Plain targets of `exports`.
use Rattle.std.specs.Prelude.{ℕ, ◌+◌, Bool, true, false, cond, not, ◌&&◌, ◌||◌, List, [], ◌∷◌, map, codes, ◌==◌, nat_le}
use Rattle.std.specs.Str.{bytes_eq}
use Rattle.path.specs.Path.{proper, every, split}

-- an ASCII letter as a small one
abbrev pub small : ℕ → ℕ
small b = cond (nat_le 65 b && nat_le b 90) (b + 32) b

abbrev pub modules : List ℕ
modules = codes "node_modules"

-- a component that is not empty, `.` or `..`, and not node_modules in any case
unfoldable pub is_component : List ℕ → Bool
is_component c = proper c && not (bytes_eq (map small c) modules)

-- no `*` (42), `%` (37) or `\` (92)
abbrev pub is_plain_byte : ℕ → Bool
is_plain_byte b = not (b == 42 || (b == 37 || b == 92))

unfoldable pub all_plain : List ℕ → Bool
all_plain [] = true
all_plain (b ∷ bs) = is_plain_byte b && all_plain bs

-- what follows the `./`
abbrev pub plain_rest : List ℕ → Bool
plain_rest t = every is_component (split t) && all_plain t

-- It begins with `./` (46, 47), and components joined by single slashes follow.
unfoldable pub plain_target : List ℕ → Bool
plain_target [] = false
plain_target (a ∷ []) = false
plain_target (a ∷ (b ∷ t)) = (a == 46 && b == 47) && plain_rest t

-- A manifest's name at the beginning of a specifier.
use Rattle.std.specs.Prelude.{ℕ, Bool, true, false, ◌&&◌, ◌||◌, List, [], ◌∷◌, ◌==◌}

-- the text ends, or goes on with `/` (47) or `\` (92)
unfoldable pub name_ends : List ℕ → Bool
name_ends [] = true
name_ends (b ∷ bs) = b == 47 || b == 92

-- A name that is the specifier's path part, or its beginning before a `/` or `\`.
unfoldable pub names_part : List ℕ → List ℕ → Bool
names_part [] part = name_ends part
names_part (n ∷ ns) [] = false
names_part (n ∷ ns) (b ∷ bs) = n == b && names_part ns bs

-- The text that an entry is matched as.
use Rattle.std.specs.Prelude.{ℕ, cond, ◌&&◌, List, [], ◌∷◌, ◌==◌}

-- the text without one leading `./` (46, 47)
unfoldable pub undotted : List ℕ → List ℕ
undotted [] = []
undotted (a ∷ []) = a ∷ []
undotted (a ∷ (b ∷ bs)) = cond (a == 46 && b == 47) bs (a ∷ (b ∷ bs))

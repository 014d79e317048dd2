-- A component that is read byte by byte.
use Rattle.std.specs.Prelude.{ℕ, Bool, true, not, List, ◌∷◌, map}
use Rattle.std.specs.Str.{bytes_eq}
use Rattle.package_json.specs.Plain.{small, is_component}
use Rattle.package_json.specs.declared.plain.Part.{Part}
use Rattle.package_json.specs.declared.plain.Part.TheVariants as part

-- Whether a component is one, by what was read of it and by the bytes behind that.
abbrev pub completed : Part → List ℕ → Bool
completed part.Empty rest = is_component rest
completed part.OneDot rest = is_component (46 ∷ rest)
completed part.TwoDots rest = is_component (46 ∷ 46 ∷ rest)
completed (part.Modules letters) rest = not (bytes_eq (map small rest) letters.now)
completed part.Other rest = true

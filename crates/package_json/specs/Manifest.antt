-- What a manifest (package.json) tells a lookup, by the value of its text.
use Rattle.std.specs.Prelude.{ℕ, cond, List, [], ◌∷◌, Some, None, codes, Option}
use Rattle.std.specs.Str.{bytes_eq}
use Rattle.json_text.specs.Json.{Json, false_name, null_name, true_name, object, array, number, string}
use Rattle.json_text.specs.Standing.{Entry, entries, elements, holds_name}
use Rattle.package_json.specs.Plain.{plain_target}
use Rattle.package_json.specs.declared.fields.Field.{Field}
use Rattle.package_json.specs.declared.fields.Field.TheVariants as fields

-- Of members with equal names the first counts, in every object; names are compared decoded. So of some members those are left whose
-- name none before them has.
unfoldable pub firsts : List Entry → List Entry → List Entry
firsts before [] = []
firsts before (e ∷ es) = cond (holds_name e.name before) (firsts (e ∷ before) es) (e ∷ firsts (e ∷ before) es)

abbrev pub counted : Json → List Entry
counted v = firsts [] (entries v)

-- The value of the first member of a name.
unfoldable pub first_named : List ℕ → List Entry → Option Json
first_named k [] = None
first_named k (e ∷ es) = cond (bytes_eq e.name k) (Some e.value) (first_named k es)

-- A root that is no object has no fields.
abbrev pub field_of : List ℕ → Json → Option Json
field_of k v = first_named k (entries v)

-- A field that is no string is absent where a string is wanted.
abbrev pub string_of : Json → Option (List ℕ)
string_of false_name = None
string_of null_name = None
string_of true_name = None
string_of (object ms) = None
string_of (array vs) = None
string_of number = None
string_of (string s) = Some s

abbrev pub of_string : Option Json → Option (List ℕ)
of_string None = None
of_string (Some v) = string_of v

abbrev pub name_of : Field → List ℕ
name_of fields.Name = codes "name"
name_of fields.Main = codes "main"
name_of fields.Types = codes "types"
name_of fields.Typings = codes "typings"

unfoldable pub string_field : Field → Json → Option (List ℕ)
string_field f v = of_string (field_of (name_of f) v)

-- `exports` may have any value; whether it is plain is told.
pub data Exports : Type 0 where
  absent : Exports
  plain : List ℕ → Exports
  other : Exports

abbrev pub exports_of : Option (List ℕ) → Exports
exports_of None = other
exports_of (Some s) = cond (plain_target s) (plain s) other

abbrev pub of_exports : Option Json → Exports
of_exports None = absent
of_exports (Some v) = exports_of (string_of v)

unfoldable pub exports_field : Json → Exports
exports_field v = of_exports (field_of (codes "exports") v)

-- A pattern of `typesVersions` with its targets.
pub record Pattern : Type 0 where
  pub key : List ℕ
  pub targets : List (List ℕ)

-- the strings among some values
unfoldable pub strings : List Json → List (List ℕ)
strings [] = []
strings (v ∷ vs) = elim (string_of v) [ None ↦ strings vs | Some s ↦ s ∷ strings vs ]

-- A string is one target, an array its strings; other values give no pattern.
abbrev pub targets_of : Json → Option (List (List ℕ))
targets_of false_name = None
targets_of null_name = None
targets_of true_name = None
targets_of (object ms) = None
targets_of (array vs) = Some (strings (elements (array vs)))
targets_of number = None
targets_of (string s) = Some (s ∷ [])

abbrev pub onto : List ℕ → Option (List (List ℕ)) → List Pattern → List Pattern
onto k None ps = ps
onto k (Some ts) ps = record { key = k; targets = ts } ∷ ps

-- the patterns that members give, in their order
unfoldable pub patterns_of : List Entry → List Pattern
patterns_of [] = []
patterns_of (e ∷ es) = onto e.name (targets_of e.value) (patterns_of es)

abbrev pub or_else : List Pattern → List Pattern → List Pattern
or_else [] qs = qs
or_else (p ∷ ps) qs = p ∷ ps

-- the patterns of the first range whose object gives any
unfoldable pub first_range : List Entry → List Pattern
first_range [] = []
first_range (e ∷ es) = or_else (patterns_of (counted e.value)) (first_range es)

abbrev pub ranges_of : Option Json → List Entry
ranges_of None = []
ranges_of (Some v) = counted v

-- The version paths.
unfoldable pub version_paths : Json → List Pattern
version_paths v = first_range (ranges_of (field_of (codes "typesVersions") v))

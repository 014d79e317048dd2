-- Some manifests, and what they tell.
use Rattle.std.specs.Prelude.{◌≡◌, [], ◌∷◌, Some, None, codes}
use Rattle.json_text.specs.Json.{Json}
use Rattle.json_text.specs.Value.{Reading, value, fault, reading}
use Rattle.package_json.specs.Manifest.{absent, plain, other, string_field, exports_field, version_paths}
use Rattle.package_json.specs.declared.fields.Field.TheVariants as fields

-- The bytes are read as a value, of which this is said.
abbrev pub Says : Reading → (Json → Type 0) → Type 0
Says (value v) P = P v
Says (fault place) P = ⊥

-- Fields, of which the first counts; plain and other exports; version paths of the first range that gives any; and equal names of ranges and
-- of patterns, whatever their values, also such as are equal only when they are decoded.
abbrev pub SmallManifests : Type 0
SmallManifests =
    Says (reading (codes "{\"name\":\"p\",\"main\":\"a.js\",\"types\":\"a.d.ts\",\"main\":\"b.js\"}")) (λ v. (string_field fields.Main v ≡ Some (codes "a.js")) × (string_field fields.Types v ≡ Some (codes "a.d.ts")) × (string_field fields.Typings v ≡ None) × (exports_field v ≡ absent) × (version_paths v ≡ []))
    × Says (reading (codes "{\"exports\":\"./lib/a.d.ts\"}")) (λ v. exports_field v ≡ plain (codes "./lib/a.d.ts"))
    × Says (reading (codes "{\"exports\":null}")) (λ v. exports_field v ≡ other)
    × Says (reading (codes "{\"typesVersions\":{\"<4\":{},\"*\":{\"*\":[\"ts/*\",1],\"k\":\"v\"}}}")) (λ v. version_paths v ≡ record { key = codes "*"; targets = codes "ts/*" ∷ [] } ∷ record { key = codes "k"; targets = codes "v" ∷ [] } ∷ [])
    × Says (reading (codes "{\"typesVersions\":{\"*\":{},\"*\":{\"a\":\"b\"}}}")) (λ v. version_paths v ≡ [])
    × Says (reading (codes "{\"typesVersions\":{\"*\":{\"a\":1,\"a\":[\"y\"]}}}")) (λ v. version_paths v ≡ [])
    × Says (reading (codes "{\"typesVersions\":{\"*\":{\"a\":[\"x\"],\"a\":[\"y\"]}}}")) (λ v. version_paths v ≡ record { key = codes "a"; targets = codes "x" ∷ [] } ∷ [])
    × Says (reading (codes "{\"typesVersions\":{\"*\":{\"a\":[\"x\"],\"\\u0061\":[\"y\"],\"b\":\"z\"}}}")) (λ v. version_paths v ≡ record { key = codes "a"; targets = codes "x" ∷ [] } ∷ record { key = codes "b"; targets = codes "z" ∷ [] } ∷ [])

-- What the kind of a value tells: whether it is a string, and whether it gives a pattern.
use Rattle.std.proofs.Common.{◌≡◌, ℕ, Bool, true, false, List, is_some, Some, None, refl, ap, ◌∙◌}
use Rattle.std.proofs.lemmas.Bool.{both_ways}
use Rattle.json_text.specs.Json.{Json, Values, false_name, null_name, true_name, object, array, number, string}
use Rattle.json_text.specs.Kinds.{kind}
use Rattle.json_text.specs.declared.find.Kind.{Kind}
use Rattle.json_text.specs.declared.find.Kind.TheVariants as of
use Rattle.package_json.specs.Manifest.{string_of, targets_of}

abbrev pub is_string_kind : Kind → Bool
is_string_kind of.Object = false
is_string_kind of.Array = false
is_string_kind of.String = true
is_string_kind of.Plain = false

abbrev pub is_array_kind : Kind → Bool
is_array_kind of.Object = false
is_array_kind of.Array = true
is_array_kind of.String = false
is_array_kind of.Plain = false

abbrev pub gives_pattern : Kind → Bool
gives_pattern of.Object = false
gives_pattern of.Array = true
gives_pattern of.String = true
gives_pattern of.Plain = false

pub gives_by_kind : (v : Json) → is_some (targets_of v) ≡ gives_pattern (kind v)
gives_by_kind false_name = refl
gives_by_kind null_name = refl
gives_by_kind true_name = refl
gives_by_kind (object ms) = refl
gives_by_kind (array vs) = refl
gives_by_kind number = refl
gives_by_kind (string s) = refl

pub a_string : (v : Json) → is_string_kind (kind v) ≡ true → (s : List ℕ) × (v ≡ string s)
a_string false_name h = absurd (both_ways false refl h)
a_string null_name h = absurd (both_ways false refl h)
a_string true_name h = absurd (both_ways false refl h)
a_string (object ms) h = absurd (both_ways false refl h)
a_string (array vs) h = absurd (both_ways false refl h)
a_string number h = absurd (both_ways false refl h)
a_string (string s) h = (s, refl)

pub no_string : (v : Json) → is_string_kind (kind v) ≡ false → string_of v ≡ None
no_string false_name h = refl
no_string null_name h = refl
no_string true_name h = refl
no_string (object ms) h = refl
no_string (array vs) h = refl
no_string number h = refl
no_string (string s) h = absurd (both_ways true h refl)

pub no_chars : (v : Json) → ((s : List ℕ) → v ≡ string s → ⊥) → string_of v ≡ None
no_chars false_name h = refl
no_chars null_name h = refl
no_chars true_name h = refl
no_chars (object ms) h = refl
no_chars (array vs) h = refl
no_chars number h = refl
no_chars (string s) h = absurd (h s refl)

pub an_array : (v : Json) → is_array_kind (kind v) ≡ true → (vs : Values) × (v ≡ array vs)
an_array false_name h = absurd (both_ways false refl h)
an_array null_name h = absurd (both_ways false refl h)
an_array true_name h = absurd (both_ways false refl h)
an_array (object ms) h = absurd (both_ways false refl h)
an_array (array vs) h = (vs, refl)
an_array number h = absurd (both_ways false refl h)
an_array (string s) h = absurd (both_ways false refl h)

-- a value that gives no pattern has no targets
pub no_targets : (v : Json) → gives_pattern (kind v) ≡ false → (ts : List (List ℕ)) → targets_of v ≡ Some ts → ⊥
no_targets v h ts e = both_ways (is_some (targets_of v)) (gives_by_kind v ∙ h) (ap is_some e)

pub not_an_array : (k : Kind) → (k ≡ of.Array → ⊥) → is_array_kind k ≡ false
not_an_array of.Object h = refl
not_an_array of.Array h = absurd (h refl)
not_an_array of.String h = refl
not_an_array of.Plain h = refl

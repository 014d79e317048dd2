-- The first member of a name, as the definitions and as the walk over the text have it.
use Rattle.std.proofs.Common.{◌≡◌, ℕ, true, false, cond, List, [], ◌∷◌, is_some, Some, None, codes, Option, sym, refl, ap, ◌∙◌, subst, inl, inr}
use Rattle.std.specs.Str.{bytes_eq}
use Rattle.std.specs.Bool.{then_some}
use Rattle.std.proofs.lemmas.Slice.Eq.{bytes_eq-Decides}
use Rattle.std.proofs.lemmas.Bool.{cases_Bool}
use Rattle.json_text.specs.Json.{Json, false_name, null_name, true_name, object, array, number, string}
use Rattle.json_text.specs.Standing.{Entry, entries, ValueAt, FirstNamed, this_one, later_one, NoneNamed, no_entry, another}
use Rattle.package_json.specs.declared.fields.Field.{Field}
use Rattle.package_json.specs.Manifest.{first_named, string_of, of_string, name_of, string_field, absent, plain, other, exports_of, of_exports, exports_field}
use Rattle.package_json.specs.Plain.{plain_target}
use Rattle.package_json.specs.Standing.{StringFound}

not_same : (p q : List ℕ) → (p ≡ q → ⊥) → bytes_eq p q ≡ false
not_same p q ne = elim (cases_Bool (bytes_eq p q)) [ inl same ↦ absurd (ne ((bytes_eq-Decides p q).0 same)) | inr differ ↦ differ ]

pub first_is : (k : List ℕ) (es : List Entry) (w : Json) → FirstNamed k es w → first_named k es ≡ Some w
unfolding first_named
first_is k [] w x = elim x [ ]
first_is k (e ∷ es) w (this_one same) = ap (λ b. cond b (Some e.value) (first_named k es)) ((bytes_eq-Decides e.name k).1 same)
first_is k (e ∷ es) w (later_one ne rest) = ap (λ b. cond b (Some e.value) (first_named k es)) (not_same e.name k ne) ∙ first_is k es w rest

pub none_is : (k : List ℕ) (es : List Entry) → NoneNamed k es → first_named k es ≡ None
unfolding first_named
none_is k [] no_entry = refl
none_is k (e ∷ es) (another ne rest) = ap (λ b. cond b (Some e.value) (first_named k es)) (not_same e.name k ne) ∙ none_is k es rest

-- a value is told by its place exactly if it is a string
string_told : (t : List ℕ) (place last : ℕ) (w : Json) → ValueAt t place last w → StringFound t (then_some (is_some (string_of w)) place) (string_of w)
string_told t place last false_name at = tt
string_told t place last null_name at = tt
string_told t place last true_name at = tt
string_told t place last (object ms) at = tt
string_told t place last (array vs) at = tt
string_told t place last number at = tt
string_told t place last (string s) at = (last, at)

module _ (t : List ℕ) (v : Json) (f : Field) (k : List ℕ) (named : k ≡ name_of f) where
  of_field : (o : Option Json) → first_named k (entries v) ≡ o → string_field f v ≡ of_string o
  unfolding string_field
  of_field o h = ap (λ x. of_string (first_named x (entries v))) (sym named) ∙ ap of_string h

  pub no_field : NoneNamed k (entries v) → StringFound t None (string_field f v)
  no_field h = subst (StringFound t None) (sym (of_field None (none_is k (entries v) h))) tt

  pub found_field : (w : Json) → FirstNamed k (entries v) w → (place last : ℕ) (r : Option ℕ) → ValueAt t place last w → r ≡ then_some (is_some (string_of w)) place → StringFound t r (string_field f v)
  found_field w first place last r at told = rw told (subst (StringFound t (then_some (is_some (string_of w)) place)) (sym (of_field (Some w) (first_is k (entries v) w first))) (string_told t place last w at))

module _ (v : Json) where
  of_exports_lem : (o : Option Json) → first_named (codes "exports") (entries v) ≡ o → exports_field v ≡ of_exports o
  unfolding exports_field
  of_exports_lem o h = ap of_exports h

  pub no_exports : NoneNamed (codes "exports") (entries v) → exports_field v ≡ absent
  no_exports h = of_exports_lem None (none_is (codes "exports") (entries v) h)

  module _ (w : Json) (first : FirstNamed (codes "exports") (entries v) w) where
    found : exports_field v ≡ exports_of (string_of w)
    found = of_exports_lem (Some w) (first_is (codes "exports") (entries v) w first)

    pub exports_no_string : string_of w ≡ None → exports_field v ≡ other
    exports_no_string h = found ∙ ap exports_of h

    pub exports_plain : (s : List ℕ) → w ≡ string s → plain_target s ≡ true → exports_field v ≡ plain s
    exports_plain s h p = found ∙ ap (λ x. exports_of (string_of x)) h ∙ ap (λ b. cond b (plain s) other) p

    pub exports_other : (s : List ℕ) → w ≡ string s → plain_target s ≡ false → exports_field v ≡ other
    exports_other s h p = found ∙ ap (λ x. exports_of (string_of x)) h ∙ ap (λ b. cond b (plain s) other) p

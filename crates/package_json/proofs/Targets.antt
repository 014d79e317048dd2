-- The targets of a pattern, and the patterns of the first range that gives any.
use Rattle.std.proofs.Common.{◌≡◌, ℕ, true, false, List, [], ◌∷◌, Some, None, codes, Option, unwrap_or, sym, refl, ap, ◌∙◌, subst}
use Rattle.std.proofs.lemmas.Bool.{both_ways}
use Rattle.json_text.specs.Json.{Json, Values, array, string}
use Rattle.json_text.specs.Kinds.{kind}
use Rattle.json_text.specs.Standing.{Entry, entries, elements, ValueAt, MemberAt, item, MembersAt, ElementsAt, ElementsFound, FirstNamed, NoneNamed}
use Rattle.package_json.specs.Manifest.{strings, targets_of, counted, first_range, ranges_of, version_paths, first_named}
use Rattle.package_json.specs.Standing.{StringsFound, TargetsAt, alone, among, TargetsFound}
use Rattle.package_json.proofs.ValueKinds.{is_string_kind, is_array_kind, gives_pattern, a_string, an_array, no_targets}
use Rattle.package_json.proofs.Naming.{first_is, none_is}

some_same : {A : Type 0} (a b : A) → ◌≡◌ {A = Option A} (Some a) (Some b) → a ≡ b
some_same a b h = ap (λ o. unwrap_or o a) h

pub member_of : (t : List ℕ) (at : ℕ) (e : Entry) (es : List Entry) → MembersAt t at (e ∷ es) → (end : ℕ) × MemberAt t at end e
member_of t at e es (item end m i) = (end, m)

module _ (t : List ℕ) (v : Json) (ts : List (List ℕ)) (has : targets_of v ≡ Some ts) where
  pub found_alone : (place end : ℕ) → ValueAt t place end v → is_string_kind (kind v) ≡ true → TargetsFound t v (Some place) ts
  found_alone place end at h =
      let s = a_string v h in
      let same : s.0 ∷ [] ≡ ts = some_same (s.0 ∷ []) ts (sym (ap targets_of s.1) ∙ has) in
      subst (TargetsFound t v (Some place)) same (alone s.1 (end, subst (ValueAt t place end) s.1 at))

  pub found_none : gives_pattern (kind v) ≡ false → TargetsFound t v None ts
  found_none h = absurd (no_targets v h ts has)

as_targets : (t : List ℕ) (v : Json) (us : Values) → v ≡ array us → (r : Option ℕ) (ss : List (List ℕ)) → StringsFound t r ss → TargetsFound t v r ss
as_targets t v us e None [] h = tt
as_targets t v us e None (s ∷ ss) h = h
as_targets t v us e (Some at) [] h = h
as_targets t v us e (Some at) (s ∷ ss) h = among us e h

pub found_among : (t : List ℕ) (v : Json) (ts : List (List ℕ)) → targets_of v ≡ Some ts → (r : Option ℕ) → is_array_kind (kind v) ≡ true → StringsFound t r (strings (elements v)) → TargetsFound t v r ts
found_among t v ts has r h found =
    let us = an_array v h in
    let same : strings (elements (array us.0)) ≡ ts = some_same (strings (elements (array us.0))) ts (sym (ap targets_of us.1) ∙ has) in
    as_targets t v us.0 us.1 r ts (subst (StringsFound t r) (ap (λ x. strings (elements x)) us.1 ∙ same) found)

-- the target behind one of a pattern
module _ (t : List ℕ) (at : ℕ) (v : Json) where
  pub next_among : (s : List ℕ) (ss : List (List ℕ)) (next r : Option ℕ) → is_array_kind (kind v) ≡ true → ((w : Json) (vs : List Json) → ElementsAt t at (w ∷ vs) → ElementsFound t next vs) → ((vs : List Json) → ElementsFound t next vs → StringsFound t r (strings vs)) → TargetsAt t at v s ss → TargetsFound t v r ss
  next_among s ss next r h step strings-of (alone e p) = absurd (both_ways (is_array_kind (kind v)) (ap (λ x. is_array_kind (kind x)) e) h)
  next_among s ss next r h step strings-of (among us e p) = as_targets t v us e r ss (subst (StringsFound t r) p.2 (strings-of p.0 (step (string s) p.0 p.1)))

  pub next_none : (s : List ℕ) (ss : List (List ℕ)) → is_array_kind (kind v) ≡ false → TargetsAt t at v s ss → TargetsFound t v None ss
  next_none s ss h (alone e p) = tt
  next_none s ss h (among us e p) = absurd (both_ways (is_array_kind (kind v)) h (ap (λ x. is_array_kind (kind x)) e))

-- the version paths are the patterns of the ranges
paths_of : (v : Json) (o : Option Json) → first_named (codes "typesVersions") (entries v) ≡ o → version_paths v ≡ first_range (ranges_of o)
unfolding version_paths
paths_of v o h = ap (λ x. first_range (ranges_of x)) h

pub versions_of : (v w : Json) → FirstNamed (codes "typesVersions") (entries v) w → version_paths v ≡ first_range (counted w)
versions_of v w h = paths_of v (Some w) (first_is (codes "typesVersions") (entries v) w h)

range_none : first_range [] ≡ []
unfolding first_range
range_none = refl

pub no_versions : (v : Json) → NoneNamed (codes "typesVersions") (entries v) → version_paths v ≡ []
no_versions v h = paths_of v None (none_is (codes "typesVersions") (entries v) h) ∙ range_none

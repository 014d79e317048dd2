-- Where the fields of a manifest stand in its text.
use Rattle.std.specs.Prelude.{◌≡◌, ◌≢◌, ℕ, ◌<◌, ◌≤◌, Bool, cond, List, [], ◌∷◌, length, Some, None, Option}
use Rattle.json_text.specs.Json.{Json, array, string, Values}
use Rattle.json_text.specs.Standing.{Entry, ValueAt, OpensTo, MembersTo, ElementsAt, MembersAt, holds_name}
use Rattle.package_json.specs.Manifest.{Exports, absent, plain, other, Pattern, strings, targets_of, patterns_of, counted}
use Rattle.package_json.specs.declared.fields.Exports as told

-- At the place stands the string.
abbrev pub StringAt : List ℕ → ℕ → List ℕ → Type 0
StringAt t at s = (end : ℕ) × ValueAt t at end (string s)

-- the place of a string, where there is one
abbrev pub StringFound : List ℕ → Option ℕ → Option (List ℕ) → Type 0
StringFound t None None = Unit {0}
StringFound t None (Some s) = ⊥
StringFound t (Some at) None = ⊥
StringFound t (Some at) (Some s) = StringAt t at s

-- what is told of `exports`
abbrev pub ExportsFound : List ℕ → Option told.Exports → Exports → Type 0
ExportsFound t None x = x ≡ absent
ExportsFound t (Some (told.TheVariants.Plain at)) x = (s : List ℕ) × (x ≡ plain s) × StringAt t at s
ExportsFound t (Some told.TheVariants.Other) x = x ≡ other

-- a place that is told with `exports` lies further on, inside the text
abbrev pub ExportsInside : List ℕ → ℕ → Option told.Exports → Type 0
ExportsInside t root None = Unit {0}
ExportsInside t root (Some (told.TheVariants.Plain at)) = (root < at) × (at ≤ length t)
ExportsInside t root (Some told.TheVariants.Other) = Unit {0}

-- A pattern as it stands in a range, and whether its name stood before it: then it is as if absent.
pub record Candidate : Type 0 where
  pub pattern : Pattern
  pub repeated : Bool

abbrev pub offered : List ℕ → Bool → Option (List (List ℕ)) → List Candidate → List Candidate
offered k repeated None cs = cs
offered k repeated (Some ts) cs = record { pattern = record { key = k; targets = ts }; repeated = repeated } ∷ cs

-- the patterns that members give by their values, behind those before them
unfoldable pub candidates : List Entry → List Entry → List Candidate
candidates before [] = []
candidates before (e ∷ es) = offered e.name (holds_name e.name before) (targets_of e.value) (candidates (e ∷ before) es)

-- those of them that count
unfoldable pub kept : List Candidate → List Pattern
kept [] = []
kept (c ∷ cs) = cond c.repeated (kept cs) (c.pattern ∷ kept cs)

-- The place of a member in an object: behind its opening bracket, and behind the members before it, which have these names.
pub record Position (t : List ℕ) (object at : ℕ) (before : List Entry) : Type 0 where
  pub first : ℕ
  pub passed : List Entry
  pub opens : OpensTo 123 125 t object first
  pub reached : MembersTo t first at passed
  pub same_names : (k : List ℕ) → holds_name k before ≡ holds_name k passed

-- At the place stands a member of the range that gives the first of these candidates, and the members from there on give just these.
pub record CandidatesAt (t : List ℕ) (range at : ℕ) (c : Candidate) (cs : List Candidate) : Type 0 where
  pub before : List Entry
  pub member : Entry
  pub others : List Entry
  pub position : Position t range at before
  pub stand : MembersAt t at (member ∷ others)
  pub key : c.pattern.key ≡ member.name
  pub targets : targets_of member.value ≡ Some c.pattern.targets
  pub repeated : c.repeated ≡ holds_name member.name before
  pub rest : candidates (member ∷ before) others ≡ cs

-- The place of the first of a list, where there is one; `At` says what stands there, with those that follow it.
abbrev pub FirstFound : {X : Type 0} → (ℕ → X → List X → Type 0) → Option ℕ → List X → Type 0
FirstFound At None [] = Unit {0}
FirstFound At None (x ∷ xs) = ⊥
FirstFound At (Some at) [] = ⊥
FirstFound At (Some at) (x ∷ xs) = At at x xs

abbrev pub CandidatesFound : List ℕ → ℕ → Option ℕ → List Candidate → Type 0
CandidatesFound t range = FirstFound (CandidatesAt t range)

-- The place of the object whose members are these patterns, exactly where there are any.
abbrev pub RangeFound : List ℕ → Option ℕ → List Pattern → Type 0
RangeFound t None ps = ps ≡ []
RangeFound t (Some object) ps = (end : ℕ) × (v : Json) × ValueAt t object end v × (ps ≡ patterns_of (counted v)) × (ps ≢ [])

-- At the place stands an element that is the first of these strings, and the elements from there on have just these.
abbrev pub StringsAt : List ℕ → ℕ → List ℕ → List (List ℕ) → Type 0
StringsAt t at s ss = (vs : List Json) × (ElementsAt t at (string s ∷ vs)) × (strings vs ≡ ss)

abbrev pub StringsFound : List ℕ → Option ℕ → List (List ℕ) → Type 0
StringsFound t = FirstFound (StringsAt t)

-- At the place stands the first of these targets of a pattern with that value: its one string, or a string of its array.
pub data TargetsAt (t : List ℕ) (at : ℕ) (v : Json) : List ℕ → List (List ℕ) → Type 0 where
  alone : {s : List ℕ} → v ≡ string s → StringAt t at s → TargetsAt t at v s []
  among : {s : List ℕ} {ss : List (List ℕ)} (us : Values) → v ≡ array us → StringsAt t at s ss → TargetsAt t at v s ss

abbrev pub TargetsFound : List ℕ → Json → Option ℕ → List (List ℕ) → Type 0
TargetsFound t v = FirstFound (λ at. TargetsAt t at v)

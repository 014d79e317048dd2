-- What the walks over ranges and over their patterns tell, on the way to the version paths.
use Rattle.std.specs.Prelude.{◌≡◌, ℕ, ◌<◌, ◌≤◌, Bool, true, false, cond, List, [], ◌∷◌, length, IfSome, Some, None, Option}
use Rattle.json_text.specs.Standing.{Entry, ValueAt, MemberAt, CommaTo, MembersAt, MembersFound, holds_name}
use Rattle.package_json.specs.Manifest.{Pattern, patterns_of, counted}
use Rattle.package_json.specs.Standing.{Position}

-- The members of an object that are left from a place on, behind those before them.
abbrev pub MembersLeft : List ℕ → ℕ → List Entry → Option ℕ → List Entry → Type 0
MembersLeft t object before None [] = Unit {0}
MembersLeft t object before None (e ∷ es) = ⊥
MembersLeft t object before (Some at) [] = ⊥
MembersLeft t object before (Some at) (e ∷ es) = Position t object at before × MembersAt t at (e ∷ es)

-- What going on from the member at a place comes to.
pub record NextMember (t : List ℕ) (at : ℕ) (r : Option ℕ) : Type 0 where
  pub those_left : (e : Entry) (es : List Entry) → MembersAt t at (e ∷ es) → MembersFound t r es
  pub right_behind : (end next : ℕ) (e : Entry) → MemberAt t at end e → CommaTo t end next → r ≡ Some next
  pub further : IfSome r (λ next. (at < next) × (next ≤ length t))

-- whether there are any patterns
abbrev pub gives : List Pattern → Bool
gives [] = false
gives (p ∷ ps) = true

-- A range by its member, behind those before it: its object with patterns, or none.
abbrev pub RangeGives : List ℕ → List Entry → Entry → Option ℕ → Type 0
RangeGives t before e None = cond (holds_name e.name before) [] (patterns_of (counted e.value)) ≡ []
RangeGives t before e (Some object) =
    (holds_name e.name before ≡ false) × (gives (patterns_of (counted e.value)) ≡ true) × ((end : ℕ) × ValueAt t object end e.value)

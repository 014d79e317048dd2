-- Where the values of a text stand: a value at a place, and the items of an array or of an object one behind the other.
use Rattle.std.specs.Prelude.{◌≡◌, ℕ, ◌+◌, ◌<◌, ◌≤◌, Bool, true, false, ◌||◌, List, [], ◌∷◌, length, Some, None, Option, ◌≢◌, nat_eq, slice_index_or}
use Rattle.std.specs.List.{between}
use Rattle.std.specs.Str.{bytes_eq}
use Rattle.json_string.specs.String.{Chars}
use Rattle.json_text.specs.Json.{Json, false_name, null_name, true_name, object, array, number, string, Values, no_values, values, Members, no_members, members, Value, all, is_ws, is_digit, is_e}
use Rattle.json_text.specs.declared.texts.TheConstants.{DEPTH}

-- The symbol continues no number.
pub record NoNumber (x : ℕ) : Type 0 where
  pub no_digit : is_digit x ≡ false
  pub no_point : nat_eq x 46 ≡ false
  pub no_e : is_e x ≡ false

-- From `at` to `end` stands the text of this value; it begins right at the place, and no number goes on behind it.
pub record ValueAt (t : List ℕ) (at end : ℕ) (v : Json) : Type 0 where
  pub not_before : at ≤ end
  pub inside : end ≤ length t
  pub starts : is_ws (slice_index_or t at 256) ≡ false
  pub is_value : Value DEPTH (between at end t) v
  pub ends : NoNumber (slice_index_or t end 256)

-- The values of an array in their order, and those before some others.
abbrev pub values_onto : Values → List Json → List Json
values_onto no_values rest = rest
values_onto (values vs v) rest = values_onto vs (v ∷ rest)

-- The elements of a value: those of an array; any other value has none.
abbrev pub elements : Json → List Json
elements false_name = []
elements null_name = []
elements true_name = []
elements (object ms) = []
elements (array vs) = values_onto vs []
elements number = []
elements (string s) = []

-- A member: its decoded name and its value.
pub record Entry : Type 0 where
  pub name : List ℕ
  pub value : Json

abbrev pub entry : List ℕ → Json → Entry
entry k v = record { name = k; value = v }

abbrev pub members_onto : Members → List Entry → List Entry
members_onto no_members rest = rest
members_onto (members ms k v) rest = members_onto ms (entry k v ∷ rest)

-- The members of a value: those of an object; any other value has none.
abbrev pub entries : Json → List Entry
entries false_name = []
entries null_name = []
entries true_name = []
entries (object ms) = members_onto ms []
entries (array vs) = []
entries number = []
entries (string s) = []

-- Bytes that pass the test, from a place up to another where none follows.
pub record Run (test : ℕ → Bool) (t : List ℕ) (at end : ℕ) : Type 0 where
  pub not_before : at ≤ end
  pub inside : end ≤ length t
  pub pass : all test (between at end t) ≡ true
  pub stops : test (slice_index_or t end 256) ≡ false

-- White space from a place up to another, where none follows.
abbrev pub Space : List ℕ → ℕ → ℕ → Type 0
Space t at end = Run is_ws t at end

mutual
  -- At the place stands the first of these items; each is told by the rule from its place to its end, and the bracket closes the list.
  pub data ItemsAt {X : Type 0} (t : List ℕ) (Item : ℕ → ℕ → X → Type 0) (bracket : ℕ) : ℕ → List X → Type 0 where
    item : {at : ℕ} {x : X} {xs : List X} (end : ℕ) → Item at end x → ItemsBehind t Item bracket end xs → ItemsAt t Item bracket at (x ∷ xs)

  -- Behind an item: white space, and the bracket, or a comma, white space and the items that are left.
  pub data ItemsBehind {X : Type 0} (t : List ℕ) (Item : ℕ → ℕ → X → Type 0) (bracket : ℕ) : ℕ → List X → Type 0 where
    closed : {end : ℕ} (place : ℕ) → Space t end place → slice_index_or t place 256 ≡ bracket → ItemsBehind t Item bracket end []
    comma : {end : ℕ} {xs : List X} (place next : ℕ) → Space t end place → slice_index_or t place 256 ≡ 44 → Space t (place + 1) next →
        ItemsAt t Item bracket next xs → ItemsBehind t Item bracket end xs

-- From `at` to `end` stands the name of a member, from its opening quotation mark to its closing one.
pub record NameAt (t : List ℕ) (at end : ℕ) (k : List ℕ) : Type 0 where
  pub opening : slice_index_or t at 256 ≡ 34
  pub not_before : at + 1 ≤ end
  pub inside : end < length t
  pub is_name : Chars (between (at + 1) end t) k
  pub closing : slice_index_or t end 256 ≡ 34

-- From `at` stand a name and a colon, up to a place where no white space is left.
pub record ColonAt (t : List ℕ) (at place : ℕ) (k : List ℕ) : Type 0 where
  pub name_end : ℕ
  pub colon : ℕ
  pub name : NameAt t at name_end k
  pub before_colon : Space t (name_end + 1) colon
  pub colon_there : slice_index_or t colon 256 ≡ 58
  pub behind_colon : Space t (colon + 1) place

-- From `at` to `end` stands a member: its name, a colon and its value.
pub record MemberAt (t : List ℕ) (at end : ℕ) (e : Entry) : Type 0 where
  pub place : ℕ
  pub name : ColonAt t at place e.name
  pub stands : ValueAt t place end e.value

-- White space, a comma and white space, up to where what follows begins.
pub record CommaTo (t : List ℕ) (end next : ℕ) : Type 0 where
  pub comma : ℕ
  pub before_comma : Space t end comma
  pub comma_there : slice_index_or t comma 256 ≡ 44
  pub behind_comma : Space t (comma + 1) next

-- Members from a place up to another, each with the comma behind it.
pub data MembersTo (t : List ℕ) : ℕ → ℕ → List Entry → Type 0 where
  no_member : {at : ℕ} → MembersTo t at at []
  member_and : {at to : ℕ} {e : Entry} {es : List Entry} (end next : ℕ) → MemberAt t at end e → CommaTo t end next → MembersTo t next to es → MembersTo t at to (e ∷ es)

-- An opening bracket, and white space up to a place where it is not closed.
pub record OpensTo (opening closing : ℕ) (t : List ℕ) (at place : ℕ) : Type 0 where
  pub opens : slice_index_or t at 256 ≡ opening
  pub behind_bracket : Space t (at + 1) place
  pub not_closed : slice_index_or t place 256 ≢ closing

-- The place of the first of these items, where there is one.
abbrev pub Found : {X : Type 0} → List ℕ → (ℕ → ℕ → X → Type 0) → ℕ → Option ℕ → List X → Type 0
Found t Item bracket None [] = Unit {0}
Found t Item bracket None (x ∷ xs) = ⊥
Found t Item bracket (Some place) [] = ⊥
Found t Item bracket (Some place) (x ∷ xs) = ItemsAt t Item bracket place (x ∷ xs)

-- The elements of an array from a place on.
abbrev pub ElementsAt : List ℕ → ℕ → List Json → Type 0
ElementsAt t at vs = ItemsAt t (ValueAt t) 93 at vs

abbrev pub ElementsFound : List ℕ → Option ℕ → List Json → Type 0
ElementsFound t r vs = Found t (ValueAt t) 93 r vs

-- The members of an object from a place on.
abbrev pub MembersAt : List ℕ → ℕ → List Entry → Type 0
MembersAt t at es = ItemsAt t (MemberAt t) 125 at es

abbrev pub MembersFound : List ℕ → Option ℕ → List Entry → Type 0
MembersFound t r es = Found t (MemberAt t) 125 r es

-- The first of the members that has this name, and that none of them has it.
pub data FirstNamed (k : List ℕ) : List Entry → Json → Type 0 where
  this_one : {e : Entry} {es : List Entry} → e.name ≡ k → FirstNamed k (e ∷ es) e.value
  later_one : {e : Entry} {es : List Entry} {v : Json} → (e.name ≢ k) → FirstNamed k es v → FirstNamed k (e ∷ es) v

pub data NoneNamed (k : List ℕ) : List Entry → Type 0 where
  no_entry : NoneNamed k []
  another : {e : Entry} {es : List Entry} → (e.name ≢ k) → NoneNamed k es → NoneNamed k (e ∷ es)

-- Whether one of the members has this name.
unfoldable pub holds_name : List ℕ → List Entry → Bool
holds_name k [] = false
holds_name k (e ∷ es) = bytes_eq e.name k || holds_name k es

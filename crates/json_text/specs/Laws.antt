-- The laws of the grammar, as statements.
use Rattle.std.specs.Prelude.{◌≡◌, ℕ, ◌<◌, ◌≤◌, ◌⊎◌, List, [], length, codes}
use Rattle.json_text.specs.Json.{Json, null_name, object, array, number, string, no_values, values, no_members, members, Text, LongestBeginning}
use Rattle.json_text.specs.Standing.{ValueAt}
use Rattle.json_text.specs.Value.{value, fault, reading}
use Rattle.json_text.specs.declared.texts.TheConstants.{DEPTH, TEXT_SIZE}

-- One text has one value.
abbrev pub OneValue : Type 0
OneValue = (t : List ℕ) (v w : Json) → Text DEPTH t v → Text DEPTH t w → v ≡ w

-- One value stands at a place.
abbrev pub OneValueStands : Type 0
OneValueStands = (t : List ℕ) (at end last : ℕ) (v w : Json) → ValueAt t at end v → ValueAt t at last w → v ≡ w

-- The bytes are a text of this value: at most so many bytes, with at most so many brackets open.
abbrev pub IsValue : ℕ → ℕ → List ℕ → Json → Type 0
IsValue size depth t v = (length t ≤ size) × Text depth t v

-- The bytes have their fault at this place: the limit where they are more, and else where their longest beginning ends.
abbrev pub HasFault : ℕ → ℕ → List ℕ → ℕ → Type 0
HasFault size depth t p = ((size < length t) × (p ≡ size)) ⊎ ((length t ≤ size) × LongestBeginning depth t p)

abbrev pub ValueIsRead : Type 0
ValueIsRead = (t : List ℕ) (v : Json) → IsValue TEXT_SIZE DEPTH t v → reading t ≡ value v

abbrev pub ReadIsValue : Type 0
ReadIsValue = (t : List ℕ) (v : Json) → reading t ≡ value v → IsValue TEXT_SIZE DEPTH t v

abbrev pub FaultIsRead : Type 0
FaultIsRead = (t : List ℕ) (p : ℕ) → HasFault TEXT_SIZE DEPTH t p → reading t ≡ fault p

abbrev pub ReadIsFault : Type 0
ReadIsFault = (t : List ℕ) (p : ℕ) → reading t ≡ fault p → HasFault TEXT_SIZE DEPTH t p

-- Reading computes: some texts, with what they are read as.
abbrev pub SmallTextsAreRead : Type 0
SmallTextsAreRead =
    (reading (codes "{\"main\":\"a\"}") ≡ value (object (members no_members (codes "main") (string (codes "a")))))
    × (reading (codes " [ -1.5e9, null, \"\\u0061\" ] ") ≡ value (array (values (values (values no_values number) null_name) (string (codes "a")))))
    × (reading (codes "{\"main\":\"a\"") ≡ fault 11)
    × (reading (codes "[1,]") ≡ fault 3)
    × (reading [] ≡ fault 0)

-- The items of a list in brackets, and what stands before one.
use Rattle.std.proofs.Common.{◌≡◌, ℕ, List, [], ◌++◌}
use Rattle.json_text.specs.Json.{ValueSeparator}
use Rattle.json_text.specs.Machine.{Stack, State, want, want_name}
use Rattle.json_text.specs.Reading.{AnyValue, AnyValues, AnyMember, AnyMembers}
use Rattle.json_text.specs.declared.brackets.Bracket.{Bracket}
use Rattle.json_text.specs.declared.brackets.Bracket.TheVariants.{Square, Curly}

-- One item, and some items, one at least.
abbrev pub AnyItem : Bracket → ℕ → List ℕ → Type 0
AnyItem Square d t = AnyValue d t
AnyItem Curly d t = AnyMember d t

abbrev pub AnyItems : Bracket → ℕ → List ℕ → Type 0
AnyItems Square d t = AnyValues d t
AnyItems Curly d t = AnyMembers d t

-- The state in which an item is wanted.
abbrev pub item_wanted : Bracket → Stack → State
item_wanted Square σ = want σ
item_wanted Curly σ = want_name σ

-- What stands before an item of a list: nothing, or items and a comma.
pub data Started (List-rule : List ℕ → Type 0) (t : List ℕ) : Type 0 where
  at_first : t ≡ [] → Started List-rule t
  behind_comma : (inner comma : List ℕ) → List-rule inner → ValueSeparator comma → t ≡ inner ++ comma → Started List-rule t

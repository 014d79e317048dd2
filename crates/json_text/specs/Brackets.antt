-- What a pair of brackets has in it: square ones the values of an array, curly ones the members of an object.
use Rattle.std.specs.Prelude.{ℕ, List, Option}
use Rattle.json_text.specs.Json.{Json}
use Rattle.json_text.specs.Machine as machine
use Rattle.json_text.specs.Machine.{square, curly}
use Rattle.json_text.specs.Standing.{ElementsFound, MembersFound, elements, entries}
use Rattle.json_text.specs.declared.brackets.Bracket.{Bracket}
use Rattle.json_text.specs.declared.brackets.Bracket.TheVariants.{Square, Curly}

-- The opening bracket, and the closing one.
abbrev pub opening : Bracket → ℕ
opening Square = 91
opening Curly = 123

abbrev pub closing : Bracket → ℕ
closing Square = 93
closing Curly = 125

-- The open bracket on the machine's stack.
abbrev pub mark : Bracket → machine.Bracket
mark Square = square
mark Curly = curly

-- The place of the first item in these brackets, where the value has one.
abbrev pub FirstFound : Bracket → List ℕ → Option ℕ → Json → Type 0
FirstFound Square t r v = ElementsFound t r (elements v)
FirstFound Curly t r v = MembersFound t r (entries v)

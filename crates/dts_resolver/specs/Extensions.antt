-- Masks of extensions: TypeScript is bit 1, JavaScript 2, declaration 4.
use Rattle.std.specs.Prelude.{ℕ, Bool, not, ◌==◌, bit_and}

abbrev pub TypeScript : ℕ
TypeScript = 1

abbrev pub JavaScript : ℕ
JavaScript = 2

abbrev pub Declaration : ℕ
Declaration = 4

-- one mask has all that another has
abbrev pub has : ℕ → ℕ → Bool
has mask other = bit_and mask other == other

-- two masks have something in common
abbrev pub meets : ℕ → ℕ → Bool
meets mask other = not (bit_and mask other == 0)

-- The sizes that a script may ask for.
use Rattle.std.specs.Prelude.{ℕ, ◌≤◌}
use Rattle.script.specs.declared.command.TableSizes.{TableSizes}
use Rattle.script.specs.declared.command.MemorySizes.{MemorySizes}
use Rattle.script.specs.declared.command.Command.{Command}
use Rattle.script.specs.declared.command.Command.TheVariants.{Table, Memo, Memory, AddDirectory, AddFile, Remove, Lookup}

-- at most 16 MiB
abbrev pub Small : ℕ → Type 0
Small n = n ≤ 16777216

abbrev pub SmallTable : TableSizes → Type 0
SmallTable sizes = Small sizes.entries × Small sizes.bytes

abbrev pub SmallMemory : MemorySizes → Type 0
SmallMemory sizes = Small sizes.path × (Small sizes.work × (Small sizes.steps × Small sizes.bytes))

-- Each size that a command gives is small.
abbrev pub SmallSizes : Command → Type 0
SmallSizes (Table sizes) = SmallTable sizes
SmallSizes (Memory sizes) = SmallMemory sizes
SmallSizes (Memo layers) = Unit {0}
SmallSizes (AddDirectory path) = Unit {0}
SmallSizes (AddFile path content) = Unit {0}
SmallSizes (Remove path) = Unit {0}
SmallSizes (Lookup containing specifier mask) = Unit {0}

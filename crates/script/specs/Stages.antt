-- Where the commands that set a run up may stand.
use Rattle.std.specs.Prelude.{Bool, true, false}
use Rattle.script.specs.declared.command.Command.{Command}
use Rattle.script.specs.declared.command.Command.TheVariants.{Table, Memo, Memory, AddDirectory, AddFile, Remove, Lookup}
use Rattle.script.specs.declared.stage.Stage.{Stage}
use Rattle.script.specs.declared.stage.Stage.TheVariants.{First, AfterTable, Later}

-- `table` stands first, `memo` first or right after `table`, and any other command anywhere.
abbrev pub may_stand : Stage → Command → Bool
may_stand First c = true
may_stand AfterTable (Table sizes) = false
may_stand AfterTable (Memo layers) = true
may_stand AfterTable (Memory sizes) = true
may_stand AfterTable (AddDirectory path) = true
may_stand AfterTable (AddFile path content) = true
may_stand AfterTable (Remove path) = true
may_stand AfterTable (Lookup containing specifier mask) = true
may_stand Later (Table sizes) = false
may_stand Later (Memo layers) = false
may_stand Later (Memory sizes) = true
may_stand Later (AddDirectory path) = true
may_stand Later (AddFile path content) = true
may_stand Later (Remove path) = true
may_stand Later (Lookup containing specifier mask) = true

-- the stage behind a command
abbrev pub stage_after : Command → Stage
stage_after (Table sizes) = AfterTable
stage_after (Memo layers) = Later
stage_after (Memory sizes) = Later
stage_after (AddDirectory path) = Later
stage_after (AddFile path content) = Later
stage_after (Remove path) = Later
stage_after (Lookup containing specifier mask) = Later

-- The state is that of the machine after the bytes before `place`, and it goes on.
use Rattle.std.proofs.Common.{◌≡◌, true}
use Rattle.std.specs.List.{between}
use Rattle.json_string.specs.Machine.{plain, string_run, alive}
use Rattle.json_string.specs.Meaning.{meaning}
use Rattle.json_string.proofs.reading.read_string.Given as goal

abbrev pub invariant-loop-place : goal.invariant-loop-place
invariant-loop-place l = (meaning l.state ≡ string_run plain (between l.at l.place l.text)) × (alive (meaning l.state) ≡ true)

use Rattle.std.proofs.Common.{All}
use Rattle.script.specs.Meaning.{Means}
use Rattle.script.proofs.listing.read.Given as goal

-- each of the lines so far means its command
abbrev pub invariant-loop-index : goal.invariant-loop-index
invariant-loop-index l = All (λ line. Means line.text.now line.command) l.lines.items

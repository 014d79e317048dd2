-- Each pattern stands further on.
use Rattle.std.proofs.Common.{length}
use Rattle.manifest.proofs.Walking.{ahead}
use Rattle.manifest.proofs.report.add_patterns.Given as goal

abbrev pub decreases-loop-next : goal.decreases-loop-next
decreases-loop-next l = ahead (length l.text) l.next

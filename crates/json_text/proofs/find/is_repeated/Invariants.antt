-- The members from here up to the one that is asked of have its name exactly if all before it have.
use Rattle.std.proofs.Common.{length}
use Rattle.json_text.proofs.Finding.{ahead}
use Rattle.json_text.proofs.Repeating.{StillBefore}
use Rattle.json_text.proofs.find.is_repeated.Given as goal

abbrev pub invariant-loop-earlier : goal.invariant-loop-earlier
invariant-loop-earlier l = StillBefore l.text l.object l.member l.earlier

abbrev pub decreases-loop-earlier : goal.decreases-loop-earlier
decreases-loop-earlier l = ahead (length l.text) l.earlier

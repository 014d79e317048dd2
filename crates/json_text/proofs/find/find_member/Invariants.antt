-- The members passed over have other names, and stand further on.
use Rattle.std.proofs.Common.{◌<◌, length, IfSome}
use Rattle.json_text.proofs.Finding.{Sought, ahead}
use Rattle.json_text.proofs.find.find_member.Given as goal

abbrev pub invariant-loop-member : goal.invariant-loop-member
invariant-loop-member l = Sought l.text l.at l.name l.member × IfSome l.member (λ place. l.at < place)

abbrev pub decreases-loop-member : goal.decreases-loop-member
decreases-loop-member l = ahead (length l.text) l.member

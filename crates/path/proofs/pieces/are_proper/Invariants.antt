-- The pieces so far are proper, so that those that are left decide.
use Rattle.std.proofs.Common.{◌≡◌, length, take}
use Rattle.std.specs.Option.{option_map}
use Rattle.path.specs.Path.{proper, every, split, behind, pieces_left}
use Rattle.path.proofs.pieces.are_proper.Given as goal

abbrev pub invariant-loop-left : goal.invariant-loop-left
invariant-loop-left g l =
    every proper (split (take l.fn.text.len (g.B.Bytes.to_come l.fn.text.bytes))) ≡ every proper (pieces_left (option_map (λ p. take p.len (g.B.Bytes.to_come p.bytes)) l.left))

abbrev pub decreases-loop-left : goal.decreases-loop-left
decreases-loop-left g l = length (behind (pieces_left (option_map (λ p. take p.len (g.B.Bytes.to_come p.bytes)) l.left)))

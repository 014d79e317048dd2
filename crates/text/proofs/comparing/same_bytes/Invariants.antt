-- The texts are the same exactly if what is left of both is.
use Rattle.std.proofs.Common.{◌≡◌}
use Rattle.text.proofs.comparing.same_bytes.Given as goal

abbrev pub invariant-loop-byte : goal.invariant-loop-byte
invariant-loop-byte g l =
    (g.A.Bytes.to_come l.initial.one ≡ g.B.Bytes.to_come l.initial.other → g.A.Bytes.to_come l.one ≡ g.B.Bytes.to_come l.other)
    × (g.A.Bytes.to_come l.one ≡ g.B.Bytes.to_come l.other → g.A.Bytes.to_come l.initial.one ≡ g.B.Bytes.to_come l.initial.other)

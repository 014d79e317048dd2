-- What was counted and what is left make all.
use Rattle.std.proofs.Common.{◌≡◌, ◌+◌, ◌≤◌, length}
use Rattle.json_string.specs.Decoded.{decoded}
use Rattle.json_string.specs.Left.{left}
use Rattle.patterns.specs.Pattern.{filled}
use Rattle.patterns.proofs.filling.filled_len.Given as goal

abbrev pub invariant-loop-byte : goal.invariant-loop-byte
invariant-loop-byte g l =
    (goal.iterator-loop-byte g).can_next l.byte-iterator × (goal.iterator-loop-byte g).is_finite l.byte-iterator
    × (l.size + length (filled (g.B.Bytes.to_come l.fn.matched) (left l.byte-iterator)) ≡ length (filled (g.B.Bytes.to_come l.fn.matched) (decoded l.target))) × (l.size ≤ l.limit)

-- Where no dot follows, the last dot is the one that is kept.
use Rattle.std.proofs.Common.{◌≡◌, ◌≤◌, length, drop}
use Rattle.dts_resolver.specs.Endings.{from_last_dot}
use Rattle.dts_resolver.proofs.EndingRows.{or_else}
use Rattle.dts_resolver.proofs.endings.last_dot.Given as goal

abbrev pub invariant-loop-i : goal.invariant-loop-i
invariant-loop-i l = (l.last ≤ length l.path) × (from_last_dot l.path ≡ or_else (from_last_dot (drop l.i l.path)) (drop l.last l.path))

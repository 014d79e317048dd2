-- What is written and what is left make the filled-in target, and the memory behind is as before.
use Rattle.std.proofs.Common.{◌≡◌, ◌++◌, List, ℕ}
use Rattle.json_string.specs.Decoded.{decoded}
use Rattle.json_string.specs.Left.{left}
use Rattle.patterns.specs.Pattern.{filled}
use Rattle.json_string.proofs.Filling.{Filled}
use Rattle.patterns.proofs.filling.write_filled.Given as goal

abbrev pub invariant-loop-byte : goal.invariant-loop-byte
invariant-loop-byte g l =
    (goal.iterator-loop-byte g).can_next l.byte-iterator × (goal.iterator-loop-byte g).is_finite l.byte-iterator
    × ((bytes : List ℕ) × Filled bytes l.initial.written.items.now l.written × (bytes ++ filled (g.B.Bytes.to_come l.matched) (left l.byte-iterator) ≡ filled (g.B.Bytes.to_come l.matched) (decoded l.target)))
    × (l.written.items.ghost_name ≡ l.initial.written.items.ghost_name)

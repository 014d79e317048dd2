-- What was given is written, and the memory behind it is as before.
use Rattle.std.proofs.Common.{◌≡◌}
use Rattle.json_string.proofs.Filling.{Filled}
use Rattle.json_string.proofs.decoded.copy_decoded.Given as goal

abbrev pub invariant-loop-byte : goal.invariant-loop-byte
invariant-loop-byte l =
    (goal.iterator-loop-byte).can_next l.byte-iterator × (goal.iterator-loop-byte).is_finite l.byte-iterator
    × Filled l.yielded l.initial.copied.items.now l.copied
    × (l.copied.items.ghost_name ≡ l.initial.copied.items.ghost_name)

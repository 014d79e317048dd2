-- The name begins the specifier exactly if the rest of it begins the rest.
use Rattle.std.proofs.Common.{◌≡◌}
use Rattle.json_string.specs.Decoded.{decoded}
use Rattle.json_string.specs.Left.{left}
use Rattle.patterns.specs.Name.{names_part}
use Rattle.patterns.proofs.names.names_specifier.Given as goal

abbrev pub invariant-loop-byte : goal.invariant-loop-byte
invariant-loop-byte l =
    goal.iterator-loop-byte.can_next l.byte-iterator × goal.iterator-loop-byte.is_finite l.byte-iterator
    × (names_part (decoded l.name) l.part ≡ names_part (left l.byte-iterator) l.rest.rest.now)

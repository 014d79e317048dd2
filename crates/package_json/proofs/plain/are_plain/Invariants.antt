-- What is left behind the part is plain exactly if all is.
use Rattle.std.proofs.Common.{◌≡◌}
use Rattle.json_string.specs.Left.{left}
use Rattle.package_json.specs.Plain.{plain_rest}
use Rattle.package_json.proofs.Components.{plain_by}
use Rattle.package_json.proofs.plain.are_plain.Given as goal

abbrev pub invariant-loop-byte : goal.invariant-loop-byte
invariant-loop-byte l =
    goal.iterator-loop-byte.can_next l.byte-iterator × goal.iterator-loop-byte.is_finite l.byte-iterator
    × (plain_by l.part (left l.byte-iterator) ≡ plain_rest (left l.fn.rest))

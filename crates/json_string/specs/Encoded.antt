-- The bytes of one character.
use Rattle.std.specs.Prelude.{ℕ, List, take}
use Rattle.json_string.specs.declared.piece.Encoded as «struct»

abbrev pub encoded : «struct».Encoded → List ℕ
encoded e = take e.len e.bytes

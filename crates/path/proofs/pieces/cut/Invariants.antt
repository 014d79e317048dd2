-- No slash is among the bytes that were passed.
use Rattle.std.proofs.Common.{◌≡◌, ◌++◌, true, List, ℕ, take}
use Rattle.path.specs.Path.{plain}
use Rattle.path.proofs.pieces.cut.Given as goal

abbrev pub invariant-loop-byte : goal.invariant-loop-byte
invariant-loop-byte g l =
    (passed : List ℕ) × (plain passed ≡ true)
    × (take l.fn.text.len (g.B.Bytes.to_come l.fn.text.bytes) ≡ passed ++ take l.rest.len (g.B.Bytes.to_come l.rest.bytes))

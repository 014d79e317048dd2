-- The pattern matches the text by what the rest of it matches of the rest.
use Rattle.std.proofs.Common.{◌≡◌, take}
use Rattle.json_string.specs.Decoded.{decoded}
use Rattle.json_string.specs.Left.{left}
use Rattle.patterns.specs.Match.{match_of}
use Rattle.patterns.proofs.matching.match_pattern.Given as goal

abbrev pub invariant-loop-byte : goal.invariant-loop-byte
invariant-loop-byte g l =
    match_of (decoded l.pattern) (take l.fn.text.all.len (g.B.Bytes.to_come l.fn.text.all.bytes)) ≡ match_of (left l.suffix) (take l.rest.all.len (g.B.Bytes.to_come l.rest.all.bytes))

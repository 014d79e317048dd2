-- So many bytes were passed over.
use Rattle.std.proofs.Common.{◌≡◌, drop}
use Rattle.text.proofs.bytes.Bytes.pass.Given as goal

abbrev pub invariant-loop : goal.invariant-loop
invariant-loop g l = g.Self.Bytes.to_come l.self ≡ drop l.counter (g.Self.Bytes.to_come l.initial.self)

-- The first piece decides, and then those behind it.
use Rattle.std.proofs.Common.{take, sym, ◌∙◌}
use Rattle.path.proofs.PieceKinds.{fewer_left, proper_passed, improper_found, all_proper}
use Rattle.path.proofs.pieces.are_proper.Goals as goal

pub loop-left-preserved : goal.loop-left-preserved
loop-left-preserved g c = proper_passed (λ p. take p.len (g.B.Bytes.to_come p.bytes)) _ _ _ _ c.in-Some.is c.cut-piece.ensures _ c.loop-left.invariant (sym c.is_proper.ensures ∙ c.if-not-is_proper.false)

pub loop-left-smaller : goal.loop-left-smaller
loop-left-smaller g c = fewer_left (λ p. take p.len (g.B.Bytes.to_come p.bytes)) _ _ _ _ c.in-Some.is c.cut-piece.ensures

pub returns-then-not-is_proper : goal.returns-then-not-is_proper
returns-then-not-is_proper g c = improper_found (λ p. take p.len (g.B.Bytes.to_come p.bytes)) _ _ _ _ c.in-Some.is c.cut-piece.ensures _ c.loop-left.invariant (sym c.is_proper.ensures ∙ c.if-not-is_proper.true)

pub returns : goal.returns
returns g c = all_proper (λ p. take p.len (g.B.Bytes.to_come p.bytes)) _ c.loop-left.left _ c.loop-left.invariant c.in_default.is

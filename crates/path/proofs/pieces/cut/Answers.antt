-- Byte by byte up to a slash.
use Rattle.std.proofs.Common.{◌∷◌, [], ◌++◌, refl, arith}
use Rattle.path.specs.Path.{plain}
use Rattle.path.proofs.Cutting.{plain_push, cut_at, cut_none, passed_more}
use Rattle.path.proofs.pieces.cut.Goals as goal

pub loop-byte-init : goal.loop-byte-init
unfolding plain
loop-byte-init g c = ([], refl, refl)

pub returns-then-byte-eq47 : goal.returns-then-byte-eq47
returns-then-byte-eq47 g c =
    let i = c.loop-byte.invariant in
    cut_at _ i.0 _ i.1 i.2 _ c.in-Some.byte _ _ (omega (arith, c.bytes_left.ensures.number_of_bytes, c.bytes_left-then-byte-eq47.ensures.number_of_bytes)) c.front.ensures.first_bytes c.in-Some.ensures.steps c.if-byte-eq47.true

pub loop-byte-preserved : goal.loop-byte-preserved
loop-byte-preserved g c =
    let i = c.loop-byte.invariant in
    (i.0 ++ c.in-Some.byte ∷ [], plain_push i.0 c.in-Some.byte i.1 c.if-byte-eq47.false, passed_more _ i.0 _ i.1 i.2 c.in-Some.byte _ c.in-Some.ensures.steps)

pub returns : goal.returns
returns g c = let i = c.loop-byte.invariant in cut_none _ i.0 _ i.1 i.2 c.in_default.ensures.steps.0

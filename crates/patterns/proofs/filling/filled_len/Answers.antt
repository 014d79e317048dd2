-- A star adds what was matched, any other byte itself.
use Rattle.std.proofs.Common.{◌≡◌, ◌+◌, [], ◌∷◌, length, ap, ◌∙◌, arith}
use Rattle.std.proofs.lemmas.List.{length-append}
use Rattle.json_string.specs.Left.{left}
use Rattle.patterns.specs.Pattern.{filled}
use Rattle.patterns.proofs.Patterns.{filled_star, filled_byte, filled_none}
use Rattle.patterns.proofs.filling.filled_len.Given.{Over}
use Rattle.patterns.proofs.filling.filled_len.Goals as goal
use Rattle.patterns.proofs.filling.filled_len.Goals.{then-byte-eq-STAR, else-byte-eq-STAR, Joined-byte-eq-STAR}

-- what one byte of the target adds
adds : (g : Over) (c : goal.Joined-byte-eq-STAR g) → length (filled (g.B.Bytes.to_come c.args.matched) (left c.loop-byte.byte-iterator)) ≡ c.if-byte-eq-STAR.more + length (filled (g.B.Bytes.to_come c.args.matched) (left c.next.new.self))
adds g c =
    let m = (g.B.Bytes.to_come c.args.matched) in
    let rest = filled m (left c.next.new.self) in
    let told = c.in-Some.ensures.steps in
    elim c.if-byte-eq-STAR.branch [
      | then-byte-eq-STAR w ↦ ap length (filled_star m _ _ _ told w.if-byte-eq-STAR.true) ∙ omega (arith, length-append m rest, w.more-is)
      | else-byte-eq-STAR w ↦ ap length (filled_byte m _ _ _ told w.if-byte-eq-STAR.false) ∙ omega (arith, length-append (c.in-Some.byte ∷ []) rest, w.more-is)
    ]

pub returns-then-more-limit : goal.returns-then-more-limit
returns-then-more-limit g c = omega (arith, adds g (goal.at.returns-then-more-limit g c).Joined-byte-eq-STAR)

pub loop-byte-preserved : goal.loop-byte-preserved
loop-byte-preserved g c = let e = adds g (goal.at.loop-byte-preserved g c).Joined-byte-eq-STAR in (tt, tt, omega arith, omega arith)

pub returns : goal.returns
returns g c = (omega (arith, ap length (filled_none (g.B.Bytes.to_come c.args.matched) _ c.in-None.ensures.steps.0)), omega arith)

use Rattle.std.proofs.Common.{◌≡◌, ◌-◌, length, drop, arith}
use Rattle.dts_resolver.specs.Endings.{ending_of}
use Rattle.dts_resolver.proofs.EndingRows.{ending_first, ending_second, ending_third, ending_dot, ending_none, stem_is}
use Rattle.dts_resolver.proofs.endings.ending_start.Goals as goal
use Rattle.dts_resolver.proofs.endings.ending_start.Goals.{then-ends_with-2-via-then-ends_with-2, then-ends_with-2-via-else-ends_with-2+then-ends_with-3}

pub returns-then-ends_with : goal.returns-then-ends_with
returns-then-ends_with c =
    let p = c.args.path.now in
    let is : drop (length p - 5) p ≡ ending_of p = ending_first p c.if-ends_with.ensures.value in
    record { ending_from_there = is; stem_before = stem_is p (length p - 5) (omega arith) is; inside = omega arith }

pub returns-then-ends_with-2 : goal.returns-then-ends_with-2
returns-then-ends_with-2 c =
    let p = c.args.path.now in
    let is : drop (length p - 6) p ≡ ending_of p = elim c.then-ends_with-2.branch [
      | then-ends_with-2-via-then-ends_with-2 w ↦ ending_second p c.if-ends_with.ensures.value w.if-ends_with-2.ensures.value
      | then-ends_with-2-via-else-ends_with-2+then-ends_with-3 w ↦
          ending_third p c.if-ends_with.ensures.value w.if-ends_with-2.ensures.value w.if-ends_with-3.ensures.value
    ] in
    record { ending_from_there = is; stem_before = stem_is p (length p - 6) (omega arith) is; inside = omega arith }

pub returns-then-path-dot-lt10 : goal.returns-then-path-dot-lt10
returns-then-path-dot-lt10 c =
    let p = c.args.path.now in
    let dot = c.last_dot-dot.result in
    let is : drop dot p ≡ ending_of p =
    ending_dot p dot c.if-ends_with.ensures.value c.if-ends_with-2.ensures.value c.if-ends_with-3.ensures.value c.last_dot-dot.ensures.from_the_dot_on c.if-path-dot-lt10.true in
    record { ending_from_there = is; stem_before = stem_is p dot c.last_dot-dot.ensures.inside is; inside = c.last_dot-dot.ensures.inside }

pub returns-else-path-dot-lt10 : goal.returns-else-path-dot-lt10
returns-else-path-dot-lt10 c =
    let p = c.args.path.now in
    let is : drop (length p) p ≡ ending_of p =
    ending_none p c.last_dot-dot.result c.if-ends_with.ensures.value c.if-ends_with-2.ensures.value c.if-ends_with-3.ensures.value c.last_dot-dot.ensures.from_the_dot_on c.if-path-dot-lt10.false in
    record { ending_from_there = is; stem_before = stem_is p (length p) (omega arith) is; inside = omega arith }

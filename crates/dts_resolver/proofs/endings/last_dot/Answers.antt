use Rattle.std.proofs.Common.{◌+◌, length, drop, sym, ap, ◌∙◌, arith}
use Rattle.std.proofs.lemmas.List.{drop_all}
use Rattle.dts_resolver.specs.Endings.{from_last_dot}
use Rattle.dts_resolver.proofs.EndingRows.{or_else, or_nothing, dot_at, dot_past, dot_none}
use Rattle.dts_resolver.proofs.endings.last_dot.Goals as goal
use Rattle.dts_resolver.proofs.endings.last_dot.Goals.{then-b-eq46, else-b-eq46}

pub loop-i-init : goal.loop-i-init
loop-i-init c =
    let p = c.args.path.now in
    (omega arith, sym (or_nothing (from_last_dot p) (drop (length p) p) (drop_all (length p) p (omega arith))))

pub loop-i-preserved : goal.loop-i-preserved
loop-i-preserved c =
    let p = c.args.path.now in
    let i = c.loop-i.i in
    let last = c.loop-i.last in
    elim c.if-b-eq46.branch [
      | then-b-eq46 w ↦ (
        omega (arith, w.last-is),
        c.loop-i.invariant.1 ∙ dot_at p (drop last p) i c.loop-i-test.true w.if-b-eq46.true ∙ ap (λ n. or_else (from_last_dot (drop (i + 1) p)) (drop n p)) (sym w.last-is),
      )
      | else-b-eq46 w ↦ (
        omega (arith, w.last-is),
        c.loop-i.invariant.1 ∙ dot_past p (drop last p) i c.loop-i-test.true w.if-b-eq46.false ∙ ap (λ n. or_else (from_last_dot (drop (i + 1) p)) (drop n p)) (sym w.last-is),
      )
    ]

pub returns : goal.returns
returns c = record {
  from_the_dot_on = sym (c.loop-i.invariant.1 ∙ dot_none c.args.path.now _ c.loop-i.i c.loop-i-test.false);
  inside = c.loop-i.invariant.0;
}

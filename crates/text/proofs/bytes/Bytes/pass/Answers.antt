-- Each byte that is passed over is the next; where none is, all were passed over.
use Rattle.std.proofs.Common.{drop, ap, ◌∙◌, arith}
use Rattle.std.proofs.lemmas.List.{drop-drop}
use Rattle.text.proofs.Coming.{behind_next, behind_none}
use Rattle.text.proofs.bytes.Bytes.pass.Goals as goal

pub returns-then-is_none : goal.returns-then-is_none
returns-then-is_none g c = record {
  all_but_the_first = behind_none _ _ _ _ _ c.loop.counter c.args.count (g.met.Self.Bytes.gives_the_first _ _ _ c.next.ensures.steps) c.is_none.ensures c.if-is_none.true c.loop.invariant c.loop-test.true;
}

pub loop-preserved : goal.loop-preserved
loop-preserved g c =
    behind_next _ _ _ (g.met.Self.Bytes.gives_the_first _ _ _ c.next.ensures.steps) ∙ ap (drop 1) c.loop.invariant ∙ drop-drop 1 c.loop.counter (g.Self.Bytes.to_come c.args.self.now)

pub returns : goal.returns
returns g c = record { all_but_the_first = c.loop.invariant ∙ ap (λ n. drop n (g.Self.Bytes.to_come c.args.self.now)) (omega arith) }

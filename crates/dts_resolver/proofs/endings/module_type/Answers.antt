use Rattle.std.proofs.Common.{true, false, codes, sym, ◌∙◌}
use Rattle.std.proofs.lemmas.Bool.{cond-true, cond-false}
use Rattle.dts_resolver.specs.Endings.{type_of}
use Rattle.dts_resolver.proofs.EndingRows.{ends_told}
use Rattle.dts_resolver.proofs.endings.module_type.Goals as goal

pub returns-then-ends_with : goal.returns-then-ends_with
unfolding type_of
returns-then-ends_with c = record {
  by_ending =
      sym (cond-true _ _ _ (ends_told c.args.path.now (codes ".mts") true c.if-ends_with.ensures.value));
}

pub returns-then-ends_with-2 : goal.returns-then-ends_with-2
unfolding type_of
returns-then-ends_with-2 c = record {
  by_ending =
      sym (cond-false _ _ _ (ends_told c.args.path.now (codes ".mts") false c.if-ends_with.ensures.value)
      ∙ cond-true _ _ _ (ends_told c.args.path.now (codes ".cts") true c.if-ends_with-2.ensures.value));
}

pub returns-then-ends_with-3 : goal.returns-then-ends_with-3
unfolding type_of
returns-then-ends_with-3 c = record {
  by_ending =
      sym (cond-false _ _ _ (ends_told c.args.path.now (codes ".mts") false c.if-ends_with.ensures.value)
      ∙ cond-false _ _ _ (ends_told c.args.path.now (codes ".cts") false c.if-ends_with-2.ensures.value)
      ∙ cond-true _ _ _ (ends_told c.args.path.now (codes ".json") true c.if-ends_with-3.ensures.value));
}

pub returns : goal.returns
unfolding type_of
returns c = record {
  by_ending =
      sym (cond-false _ _ _ (ends_told c.args.path.now (codes ".mts") false c.if-ends_with.ensures.value)
      ∙ cond-false _ _ _ (ends_told c.args.path.now (codes ".cts") false c.if-ends_with-2.ensures.value)
      ∙ cond-false _ _ _ (ends_told c.args.path.now (codes ".json") false c.if-ends_with-3.ensures.value));
}

use Rattle.std.proofs.Common.{true, false, sym, ◌∙◌}
use Rattle.dts_resolver.proofs.CheckOrder.{given_is}
use Rattle.dts_resolver.proofs.checks.check_given.Goals as goal

pub returns-then-not-is_enough-clause-first_that_fails : goal.returns-then-not-is_enough-clause-first_that_fails
returns-then-not-is_enough-clause-first_that_fails c = sym (given_is _ _ _ _ _ false (sym c.if-not-is_enough.ensures.both_sizes))

pub returns-clause-first_that_fails : goal.returns-clause-first_that_fails
returns-clause-first_that_fails c = c.check_texts.ensures.first_that_fails ∙ sym (given_is _ _ _ _ _ true (sym c.if-not-is_enough.ensures.both_sizes))

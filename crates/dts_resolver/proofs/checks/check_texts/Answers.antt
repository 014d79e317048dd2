use Rattle.std.proofs.Common.{true, false, sym, refl}
use Rattle.dts_resolver.proofs.CheckOrder.{texts_are}
use Rattle.dts_resolver.proofs.checks.check_texts.Goals as goal

pub returns-in_default-clause-first_that_fails : goal.returns-in_default-clause-first_that_fails
returns-in_default-clause-first_that_fails c = sym (texts_are _ _ _ false _ c.in_default.ensures.of_a_normal_text refl)

pub returns-then-not-is_text-clause-first_that_fails : goal.returns-then-not-is_text-clause-first_that_fails
returns-then-not-is_text-clause-first_that_fails c = sym (texts_are _ _ _ true false c.in-Some.ensures.of_a_normal_text.0 (sym c.if-not-is_text.ensures.short_utf8))

pub returns-clause-first_that_fails : goal.returns-clause-first_that_fails
returns-clause-first_that_fails c = sym (texts_are _ _ _ true true c.in-Some.ensures.of_a_normal_text.0 (sym c.if-not-is_text.ensures.short_utf8))

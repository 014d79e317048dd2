use Rattle.std.proofs.Common.{true, false, sym, ◌∙◌, arith}
use Rattle.std.proofs.lemmas.List.{at_drop_all}
use Rattle.search.specs.Memory.{question_of, told}
use Rattle.search.proofs.TrailMemory.{told_at, told_none}
use Rattle.search.proofs.trail.reply_told.Goals as goal

pub loop-step-preserved : goal.loop-step-preserved
loop-step-preserved c =
    sym (told_at _ c.args.steps.now _ c.loop-step.step-index _ false c.loop-step-test.true (sym c.if-answers.ensures.same_question)) ∙ c.loop-step.invariant

pub returns-then-answers-clause-first_told : goal.returns-then-answers-clause-first_told
returns-then-answers-clause-first_told c =
    sym (told_at _ c.args.steps.now _ c.loop-step.step-index _ true c.loop-step-test.true (sym c.if-answers.ensures.same_question)) ∙ c.loop-step.invariant

pub returns-clause-first_told : goal.returns-clause-first_told
returns-clause-first_told c = sym (sym c.loop-step.invariant ∙ at_drop_all (λ ss. told c.args.bytes.now ss (question_of c.args.sort c.args.path.now)) c.args.steps.now _ (omega arith) ∙ told_none _ _)

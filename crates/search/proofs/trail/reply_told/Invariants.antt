-- the steps before the place tell nothing of the question
use Rattle.std.proofs.Common.{◌≡◌, drop}
use Rattle.search.specs.Memory.{question_of, told}
use Rattle.search.proofs.trail.reply_told.Given as goal

abbrev pub invariant-loop-step : goal.invariant-loop-step
invariant-loop-step l = told l.bytes (drop l.step-index l.steps) (question_of l.sort l.path) ≡ told l.bytes l.steps (question_of l.sort l.path)

-- What the places from this one on answer, those from the first on answer.
use Rattle.std.proofs.Common.{ℕ, ◌^◌, Option}
use Rattle.package_json.specs.Walking.{FirstAnswer}
use Rattle.package_json.proofs.Walking.{ahead}
use Rattle.package_json.proofs.versions.first_answer.Given as goal

abbrev pub invariant-loop-at : goal.invariant-loop-at
invariant-loop-at g l =
    goal.N-IsAlwaysCallable g l.next × goal.A-IsAlwaysCallable g l.answer
    × ((r : Option ℕ) → FirstAnswer (goal.N-post g l.next) (goal.A-post g l.answer) l.at r → FirstAnswer (goal.N-post g l.next) (goal.A-post g l.answer) l.fn.from r)

abbrev pub decreases-loop-at : goal.decreases-loop-at
decreases-loop-at g l = ahead (2 ^ 64) l.at

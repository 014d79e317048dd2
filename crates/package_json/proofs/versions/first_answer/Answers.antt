-- One place more answers, or leads to the next.
use Rattle.std.proofs.Common.{sym}
use Rattle.package_json.specs.Walking.{over}
use Rattle.package_json.proofs.Walking.{stops, goes_on}
use Rattle.package_json.proofs.versions.first_answer.Goals as goal

pub returns-then-is_some : goal.returns-then-is_some
returns-then-is_some g c = c.loop-at.invariant.2 _ (stops _ c.in-Some.place c.answer-found.result c.in-Some.is c.answer-found.ensures (sym c.if-is_some.ensures))

pub loop-at-preserved : goal.loop-at-preserved
loop-at-preserved g c = (
  c.loop-at.invariant.0,
  c.loop-at.invariant.1,
  λ r h. c.loop-at.invariant.2 r (goes_on _ c.in-Some.place c.answer-found.result c.next-at.result r c.in-Some.is c.answer-found.ensures (sym c.if-is_some.ensures) c.next-at.ensures h),
)

pub returns : goal.returns
returns g c = c.loop-at.invariant.2 _ (rw c.in_default.is over)

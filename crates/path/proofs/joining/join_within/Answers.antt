-- Each way through the code is one of the cases of joining.
use Rattle.std.proofs.Common.{sym, arith}
use Rattle.path.proofs.Walking.{same_further, joining_no_directory, joining_none, joining_slash, joining_other, walked_nothing}
use Rattle.path.proofs.Reporting.{reports_same, reports_nothing}
use Rattle.path.proofs.joining.join_within.Goals as goal

pub returns-then-not-is_normal-clause-by_components : goal.returns-then-not-is_normal-clause-by_components
returns-then-not-is_normal-clause-by_components g c = joining_no_directory _ _ _ (sym c.if-not-is_normal.ensures.by_components)

pub returns-in-None-clause-by_components : goal.returns-in-None-clause-by_components
returns-in-None-clause-by_components g c = joining_none _ _ _ (sym c.if-not-is_normal.ensures.by_components) c.in-None.ensures.steps.0

pub returns-in-Some-eq47-clause-by_components : goal.returns-in-Some-eq47-clause-by_components
returns-in-Some-eq47-clause-by_components g c =
    reports_same c.put_itself.result c.put_itself.new.room _ _ (joining_slash _ _ _ _ (sym c.if-not-is_normal.ensures.by_components) _ c.in-Some-eq47.ensures.steps c.in-Some-eq47.field-0-test) c.put_itself.ensures.by_components

pub returns-in-Some-eq47-clause-kept_behind : goal.returns-in-Some-eq47-clause-kept_behind
returns-in-Some-eq47-clause-kept_behind g c = same_further _ _ c.put_itself.new.room c.args.room.now (omega arith) c.put_itself.ensures.kept_behind

pub returns-in-Some-clause-by_components : goal.returns-in-Some-clause-by_components
returns-in-Some-clause-by_components g c =
    reports_same c.walk_pieces.result c.walk_pieces.new.room _ _ (joining_other _ _ _ _ (sym c.if-not-is_normal.ensures.by_components) _ c.in-Some.ensures.steps c.in-Some.field-0-test.1) c.walk_pieces.ensures.by_components

pub returns-in-Some-clause-kept_if_nothing : goal.returns-in-Some-clause-kept_if_nothing
returns-in-Some-clause-kept_if_nothing g c = λ e. absurd (reports_nothing _ _ _ (walked_nothing _ _ _ _) c.walk_pieces.ensures.by_components e)

use Rattle.std.proofs.Common.{sym, ap, ◌∙◌}
use Rattle.search.specs.Memory.{limits_of}
use Rattle.search.specs.Asking.{along}
use Rattle.search.specs.Course.{course_of}
use Rattle.dts_resolver.specs.Endings.{row_trials, ending_trials}
use Rattle.dts_resolver.proofs.FileStepRows.{ending_none, ending_row, row_found, row_of_others, went_nowhere}
use Rattle.search.proofs.CourseWalks.{walked_paths}
use Rattle.dts_resolver.proofs.file_step.try_ending.Goals as goal

pub returns-then-is_empty-clause-tried : goal.returns-then-is_empty-clause-tried
returns-then-is_empty-clause-tried g c =
    let mask = c.args.mask in
    let stem = c.args.stem.now in
    let ending = c.args.ending.now in
    λ s qs h. (qs, (h, went_nowhere (limits_of (along c.args.searcher.now)) (g.S.FileSystem.tree c.args.searcher.now.source.store.now) (ending_trials mask stem ending) qs (ending_none mask stem ending (sym c.is_empty.ensures ∙ c.if-is_empty.true))))

pub returns-in-Some-clause-tried : goal.returns-in-Some-clause-tried
returns-in-Some-clause-tried g c =
    let mask = c.args.mask in
    let stem = c.args.stem.now in
    let ending = c.args.ending.now in
    let row = ap (row_trials mask stem) (c.in-Some.ensures.in_order ending) ∙ row_found mask stem ending c.of.result c.of.ensures.by_ending ∙ sym (ending_row mask stem ending (sym c.is_empty.ensures ∙ c.if-is_empty.false)) in
    λ s. walked_paths (g.S.FileSystem.tree c.args.searcher.now.source.store.now) (along c.args.searcher.now) (along c.try_row.new.searcher) _ _ (course_of c.try_row.result c.try_row.new.candidate) row (c.try_row.ensures.tried s)

pub returns-in-None-clause-tried : goal.returns-in-None-clause-tried
returns-in-None-clause-tried g c =
    let mask = c.args.mask in
    let stem = c.args.stem.now in
    let ending = c.args.ending.now in
    let row = row_of_others mask stem ending c.of.result c.in-None.ensures.in_order ∙ row_found mask stem ending c.of.result c.of.ensures.by_ending ∙ sym (ending_row mask stem ending (sym c.is_empty.ensures ∙ c.if-is_empty.false)) in
    λ s. walked_paths (g.S.FileSystem.tree c.args.searcher.now.source.store.now) (along c.args.searcher.now) (along c.try_column.new.searcher) _ _ (course_of c.try_column.result c.try_column.new.candidate) row (c.try_column.ensures.tried s)

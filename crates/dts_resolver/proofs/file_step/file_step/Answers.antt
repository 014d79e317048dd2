use Rattle.std.proofs.Common.{◌∙◌}
use Rattle.std.proofs.lemmas.Result.{err_from_is_err_and}
use Rattle.search.specs.Asking.{along}
use Rattle.search.specs.Course.{course_of, chose, broke}
use Rattle.dts_resolver.specs.Endings.{plain_row, row_trials, ending_trials}
use Rattle.search.proofs.TrailMemory.{asked_twice}
use Rattle.dts_resolver.proofs.FileStepRows.{file_trials_lem}
use Rattle.search.proofs.CourseWalks.{walked_then, walked_chose, walked_broke, walked_paths}
use Rattle.dts_resolver.proofs.file_step.file_step.Goals as goal

pub returns-in_err-end-clause-tried : goal.returns-in_err-end-clause-tried
returns-in_err-end-clause-tried g c =
    let tree = g.S.FileSystem.tree c.args.searcher.now.source.store.now in
    let mask = c.args.mask in
    let path = c.args.path.now in
    let trials = file_trials_lem mask path c.front.result.now c.after.result.now (c.front.ensures.first_elements ∙ c.ending_start-at.ensures.stem_before) (c.after.ensures.all_but_the_first ∙ c.ending_start-at.ensures.ending_from_there) in
    let last = c.in_err-end.ensures in
    let exit = err_from_is_err_and c.from_residual.result c.from_residual.ensures.1 in
    rw (exit.1, exit.2) (λ s. walked_paths tree (along c.args.searcher.now) (along c.try_ending.new.searcher) _ _ (broke _) trials (walked_broke tree (along c.args.searcher.now) (along c.try_ending.new.searcher) _ (row_trials mask path plain_row) _ (last.tried s)))

pub returns-in-Some-clause-tried : goal.returns-in-Some-clause-tried
returns-in-Some-clause-tried g c =
    let tree = g.S.FileSystem.tree c.args.searcher.now.source.store.now in
    let mask = c.args.mask in
    let path = c.args.path.now in
    let trials = file_trials_lem mask path c.front.result.now c.after.result.now (c.front.ensures.first_elements ∙ c.ending_start-at.ensures.stem_before) (c.after.ensures.all_but_the_first ∙ c.ending_start-at.ensures.ending_from_there) in
    let last = rw c.in-Some.is at c.in_ok-end.ensures in
    λ s. walked_paths tree (along c.args.searcher.now) (along c.try_ending.new.searcher) _ _ (chose _) trials (walked_chose tree (along c.args.searcher.now) (along c.try_ending.new.searcher) _ (row_trials mask path plain_row) _ (last.tried s))

pub returns : goal.returns
returns g c =
    let tree = g.S.FileSystem.tree c.args.searcher.now.source.store.now in
    let mask = c.args.mask in
    let path = c.args.path.now in
    let trials = file_trials_lem mask path c.front.result.now c.after.result.now (c.front.ensures.first_elements ∙ c.ending_start-at.ensures.stem_before) (c.after.ensures.all_but_the_first ∙ c.ending_start-at.ensures.ending_from_there) in
    let first = rw c.in_default.is at c.in_ok-end.ensures in
    let last = c.try_row.ensures in
    record {
      tried = λ s. walked_paths tree (along c.args.searcher.now) (along c.try_row.new.searcher) _ _ (course_of c.try_row.result c.try_row.new.candidate) trials
          (walked_then tree (along c.args.searcher.now) (along c.try_ending.new.searcher) (ending_trials mask c.front.result.now c.after.result.now) (row_trials mask path plain_row) (along c.try_row.new.searcher) (g.S.FileSystem.tree c.try_ending.new.searcher.source.store.now) (course_of c.try_row.result c.try_row.new.candidate) first.only_asked.questioned.grew (first.only_asked.questioned.same_tree s) (first.tried s) (last.tried (first.only_asked.questioned.stays_sound s)));
      only_asked = asked_twice _ _ _ _ _ _ first.only_asked last.only_asked;
    }

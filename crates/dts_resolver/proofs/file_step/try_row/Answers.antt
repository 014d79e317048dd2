use Rattle.std.proofs.Common.{◌+◌, map, drop, ap, arith}
use Rattle.std.proofs.lemmas.List.{take_all}
use Rattle.std.proofs.lemmas.Result.{err_from_is_err_and}
use Rattle.search.specs.Memory.{limits_of}
use Rattle.search.specs.Asking.{along}
use Rattle.search.specs.Course.{went_on, chose, broke}
use Rattle.dts_resolver.specs.Endings.{row_trials}
use Rattle.dts_resolver.specs.Rows.{named_column}
use Rattle.search.proofs.TrailMemory.{asked_nothing, asked_twice}
use Rattle.dts_resolver.proofs.FileStepRows.{row_none, row_onward, row_whole, went_nowhere}
use Rattle.search.proofs.CourseWalks.{walked_chose, walked_broke, walked_paths}
use Rattle.dts_resolver.proofs.file_step.try_row.Goals as goal

pub loop-sort-init : goal.loop-sort-init
loop-sort-init g c = record {
  tried = λ s qs h. (qs, (h, went_nowhere (limits_of (along c.args.searcher.now)) (g.S.FileSystem.tree c.args.searcher.now.source.store.now) _ qs (row_none c.args.mask c.args.stem.now)));
  asked = asked_nothing _ _ _ c.args.searcher.now;
}

pub returns-in_err-end : goal.returns-in_err-end
returns-in_err-end g c =
    let inv = c.loop-sort.invariant in
    let last = c.in_err-end.ensures in
    let exit = err_from_is_err_and c.from_residual.result c.from_residual.ensures.1 in
    rw (exit.1, exit.2) (record {
      tried = λ s.
          walked_paths (g.S.FileSystem.tree c.args.searcher.now.source.store.now) (along c.args.searcher.now) (along c.try_column.new.searcher) _ _ (broke _) (row_whole c.args.mask c.args.stem.now c.args.row.now (c.loop-sort.sort-index + 1))
          (walked_broke (g.S.FileSystem.tree c.args.searcher.now.source.store.now) (along c.args.searcher.now) (along c.try_column.new.searcher) _ (row_trials c.args.mask c.args.stem.now (map named_column (drop (c.loop-sort.sort-index + 1) c.args.row.now))) _ (row_onward (g.S.FileSystem.tree c.args.searcher.now.source.store.now) (g.S.FileSystem.tree c.loop-sort.searcher.source.store.now) c.args.mask (inv.asked.questioned.same_tree s) c.args.stem.now c.args.row.now c.loop-sort.sort-index _ c.loop-sort-test.true (along c.args.searcher.now) (along c.loop-sort.searcher) (along c.try_column.new.searcher) inv.asked.questioned.grew (inv.tried s) (broke _) (last.tried (inv.asked.questioned.stays_sound s))));
      only_asked = asked_twice _ _ _ _ _ _ inv.asked last.only_asked;
    })

pub returns-in-Some : goal.returns-in-Some
returns-in-Some g c =
    let inv = c.loop-sort.invariant in
    let last = rw c.in-Some.is at c.in_ok-end.ensures in
    record {
      tried = λ s.
          walked_paths (g.S.FileSystem.tree c.args.searcher.now.source.store.now) (along c.args.searcher.now) (along c.try_column.new.searcher) _ _ (chose _) (row_whole c.args.mask c.args.stem.now c.args.row.now (c.loop-sort.sort-index + 1))
          (walked_chose (g.S.FileSystem.tree c.args.searcher.now.source.store.now) (along c.args.searcher.now) (along c.try_column.new.searcher) _ (row_trials c.args.mask c.args.stem.now (map named_column (drop (c.loop-sort.sort-index + 1) c.args.row.now))) _ (row_onward (g.S.FileSystem.tree c.args.searcher.now.source.store.now) (g.S.FileSystem.tree c.loop-sort.searcher.source.store.now) c.args.mask (inv.asked.questioned.same_tree s) c.args.stem.now c.args.row.now c.loop-sort.sort-index _ c.loop-sort-test.true (along c.args.searcher.now) (along c.loop-sort.searcher) (along c.try_column.new.searcher) inv.asked.questioned.grew (inv.tried s) (chose _) (last.tried (inv.asked.questioned.stays_sound s))));
      only_asked = asked_twice _ _ _ _ _ _ inv.asked last.only_asked;
    }

pub loop-sort-preserved : goal.loop-sort-preserved
loop-sort-preserved g c =
    let inv = c.loop-sort.invariant in
    let last = rw c.in_default.is at c.in_ok-end.ensures in
    record {
      tried = λ s. row_onward (g.S.FileSystem.tree c.args.searcher.now.source.store.now) (g.S.FileSystem.tree c.loop-sort.searcher.source.store.now) c.args.mask (inv.asked.questioned.same_tree s) c.args.stem.now c.args.row.now c.loop-sort.sort-index _ c.loop-sort-test.true (along c.args.searcher.now) (along c.loop-sort.searcher) (along c.try_column.new.searcher) inv.asked.questioned.grew (inv.tried s) went_on (last.tried (inv.asked.questioned.stays_sound s));
      asked = asked_twice _ _ _ _ _ _ inv.asked last.only_asked;
    }

pub returns : goal.returns
returns g c =
    let inv = c.loop-sort.invariant in
    record {
      tried = λ s. walked_paths (g.S.FileSystem.tree c.args.searcher.now.source.store.now) (along c.args.searcher.now) (along c.loop-sort.searcher) _ _ went_on (ap (λ xs. row_trials c.args.mask c.args.stem.now (map named_column xs)) (take_all c.loop-sort.sort-index c.args.row.now (omega arith))) (inv.tried s);
      only_asked = inv.asked;
    }

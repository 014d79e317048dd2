-- the columns before the place were tried and found nothing
use Rattle.std.proofs.Common.{map, take}
use Rattle.search.specs.Search.{try_all}
use Rattle.search.specs.Asking.{along, Asked}
use Rattle.search.specs.Course.{went_on, Walked}
use Rattle.dts_resolver.specs.Endings.{row_trials}
use Rattle.dts_resolver.specs.Rows.{named_column}
use Rattle.dts_resolver.proofs.file_step.try_row.Given as goal

abbrev pub invariant-loop-sort : goal.invariant-loop-sort
invariant-loop-sort g l = record {
  tried : g.S.FileSystem.sound l.initial.searcher.source.store.now → Walked (g.S.FileSystem.tree l.initial.searcher.source.store.now) (along l.initial.searcher) (along l.searcher) (try_all (row_trials l.mask l.stem (map named_column (take l.sort-index l.row)))) went_on;
  asked : Asked g.S.FileSystem.tree g.S.FileSystem.space g.S.FileSystem.sound l.initial.searcher l.searcher;
}

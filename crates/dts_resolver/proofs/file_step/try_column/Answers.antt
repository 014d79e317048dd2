use Rattle.std.proofs.Common.{[], ◌∷◌, ◌++◌, sym, ap, ◌∙◌}
use Rattle.search.specs.Memory.{limits_of}
use Rattle.search.specs.Asking.{along}
use Rattle.dts_resolver.specs.Extensions.{has}
use Rattle.dts_resolver.specs.Endings.{row_trials}
use Rattle.dts_resolver.specs.Rows.{column_of, suffix_of}
use Rattle.dts_resolver.proofs.FileStepRows.{row_allowed, row_barred, went_paths, went_nowhere}
use Rattle.dts_resolver.proofs.file_step.try_column.Goals as goal

pub returns-then-not-contains-clause-tried : goal.returns-then-not-contains-clause-tried
returns-then-not-contains-clause-tried g c =
    let mask = c.args.mask in
    let stem = c.args.stem.now in
    let column = column_of c.args.sort c.args.suffix in
    let barred = sym (c.if-not-contains.ensures.has_all ∙ ap (has mask) c.from.ensures) in
    λ s qs h. (qs, (h, went_nowhere (limits_of (along c.args.searcher.now)) (g.S.FileSystem.tree c.args.searcher.now.source.store.now) (row_trials mask stem (column ∷ [])) qs (row_barred mask stem column barred)))

pub returns-clause-tried : goal.returns-clause-tried
returns-clause-tried g c =
    let mask = c.args.mask in
    let stem = c.args.stem.now in
    let column = column_of c.args.sort c.args.suffix in
    let allowed = sym (c.if-not-contains.ensures.has_all ∙ ap (has mask) c.from.ensures) in
    λ s qs h.
    let w = c.try_file.ensures.tried s qs h in
    (w.0, (w.1.0, went_paths (limits_of (along c.args.searcher.now)) (g.S.FileSystem.tree c.args.searcher.now.source.store.now) ((stem ++ suffix_of c.args.suffix) ∷ []) (row_trials mask stem (column ∷ [])) qs _ w.0 (sym (row_allowed mask stem column allowed)) w.1.1))

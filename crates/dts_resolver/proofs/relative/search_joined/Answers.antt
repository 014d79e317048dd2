use Rattle.std.proofs.Common.{◌≡◌, min, length, sym, ap, ◌∙◌, arith}
use Rattle.std.proofs.lemmas.Result.{err_from_is_err_and}
use Rattle.path.specs.Path.{joining, names}
use Rattle.search.specs.declared.error.Refusal.TheVariants.{LongPath}
use Rattle.search.specs.Search.{none_left, refused, none}
use Rattle.search.specs.Asking.{along}
use Rattle.search.specs.Course.{outcome_of}
use Rattle.dts_resolver.specs.Steps.{on, file_step, directory_step}
use Rattle.search.proofs.CourseEnds.{finished_none, finished_refused, finished_same}
use Rattle.dts_resolver.proofs.relative.search_joined.Goals as goal

pub returns-in_err-end-clause-searched : goal.returns-in_err-end-clause-searched
returns-in_err-end-clause-searched g c =
    let size : min 1024 (length c.args.joined.now) ≡ 1024 = omega arith in
    let joined = ap (λ n. joining n c.args.directory.now c.args.part.now) (sym size) ∙ c.in_err-end.ensures.by_components in
    let exit = err_from_is_err_and c.from_residual.result c.from_residual.ensures.1 in
    rw (exit.1, exit.2) (λ s. finished_same (g.S.FileSystem.tree c.args.searcher.now.source.store.now) (along c.args.searcher.now) (along c.args.searcher.now) _ _ (refused LongPath) (ap (λ n. on n (λ p. file_step c.args.mask p (directory_step p none_left)) none_left) (sym joined)) (finished_refused _ _ LongPath))

pub returns-in_default-clause-searched : goal.returns-in_default-clause-searched
returns-in_default-clause-searched g c =
    let size : min 1024 (length c.args.joined.now) ≡ 1024 = omega arith in
    let told = rw c.in_default.is at c.in_ok-end.ensures in
    let joined = ap (λ n. joining n c.args.directory.now c.args.part.now) (sym size) ∙ told.by_components in
    λ s. finished_same (g.S.FileSystem.tree c.args.searcher.now.source.store.now) (along c.args.searcher.now) (along c.args.searcher.now) _ _ none (ap (λ n. on n (λ p. file_step c.args.mask p (directory_step p none_left)) none_left) (sym joined)) (finished_none _ _)

pub returns-clause-searched : goal.returns-clause-searched
returns-clause-searched g c =
    let size : min 1024 (length c.args.joined.now) ≡ 1024 = omega arith in
    let told = rw c.in-Some.is at c.in_ok-end.ensures in
    let joined = ap (λ n. joining n c.args.directory.now c.args.part.now) (sym size) ∙ told.by_components.1 ∙ ap names (sym c.front.ensures.first_elements) in
    let last = c.search_path.ensures in
    λ s. finished_same (g.S.FileSystem.tree c.args.searcher.now.source.store.now) (along c.args.searcher.now) (along c.search_path.new.searcher) _ _ (outcome_of c.search_path.result c.search_path.new.candidate) (ap (λ n. on n (λ p. file_step c.args.mask p (directory_step p none_left)) none_left) (sym joined)) (last.searched s)

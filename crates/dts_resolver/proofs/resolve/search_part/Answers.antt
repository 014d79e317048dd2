use Rattle.std.proofs.Common.{true, false, sym}
use Rattle.search.specs.declared.error.Refusal.TheVariants.{Unfinished}
use Rattle.search.specs.Search.{refused, none}
use Rattle.search.specs.Asking.{along}
use Rattle.search.specs.Course.{outcome_of}
use Rattle.search.proofs.CourseEnds.{finished_none, finished_refused, finished_same}
use Rattle.dts_resolver.proofs.RelativeSearch.{search_of_joined, search_of_bare}
use Rattle.dts_resolver.proofs.resolve.search_part.Goals as goal

pub returns-then-is_joined-clause-searched : goal.returns-then-is_joined-clause-searched
returns-then-is_joined-clause-searched g c =
    let whole = search_of_joined c.args.mask c.args.directory.now c.args.part.now (sym c.if-is_joined.ensures.dot_or_slash) in
    let last = c.search_joined.ensures in
    λ s. finished_same (g.S.FileSystem.tree c.args.searcher.now.source.store.now) (along c.args.searcher.now) (along c.search_joined.new.searcher) _ _ (outcome_of c.search_joined.result c.search_joined.new.candidate) whole (last.searched s)

pub returns-then-has_colon-clause-searched : goal.returns-then-has_colon-clause-searched
returns-then-has_colon-clause-searched g c =
    let whole = search_of_bare c.args.mask c.args.directory.now c.args.part.now true (sym c.if-is_joined.ensures.dot_or_slash) (sym c.if-has_colon.ensures.somewhere) in
    λ s. finished_same (g.S.FileSystem.tree c.args.searcher.now.source.store.now) (along c.args.searcher.now) (along c.args.searcher.now) _ _ none whole (finished_none _ _)

pub returns-clause-searched : goal.returns-clause-searched
returns-clause-searched g c =
    let whole = search_of_bare c.args.mask c.args.directory.now c.args.part.now false (sym c.if-is_joined.ensures.dot_or_slash) (sym c.if-has_colon.ensures.somewhere) in
    λ s. finished_same (g.S.FileSystem.tree c.args.searcher.now.source.store.now) (along c.args.searcher.now) (along c.args.searcher.now) _ _ (refused Unfinished) whole (finished_refused _ _ Unfinished)

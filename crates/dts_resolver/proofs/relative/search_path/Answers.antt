use Rattle.std.proofs.lemmas.Result.{err_from_is_err_and}
use Rattle.search.specs.declared.error.Refusal.TheVariants.{Unfinished}
use Rattle.search.specs.Search.{none_left, refused, none, try_all}
use Rattle.search.specs.Memory.{limits_of}
use Rattle.search.specs.Asking.{along}
use Rattle.dts_resolver.specs.Endings.{file_trials}
use Rattle.dts_resolver.specs.Steps.{directory_step}
use Rattle.search.proofs.TrailMemory.{asked_twice}
use Rattle.search.proofs.CourseEnds.{finished_chose, finished_broke, finished_then}
use Rattle.dts_resolver.proofs.RelativeSearch.{a_directory, no_directory, directory_full}
use Rattle.dts_resolver.proofs.relative.search_path.Goals as goal

pub returns-in_err-end-clause-searched : goal.returns-in_err-end-clause-searched
returns-in_err-end-clause-searched g c =
    let last = c.in_err-end.ensures in
    let exit = err_from_is_err_and c.from_residual.result c.from_residual.ensures.1 in
    rw (exit.1, exit.2) (λ s. finished_broke (g.S.FileSystem.tree c.args.searcher.now.source.store.now) (along c.args.searcher.now) (along c.file_step.new.searcher) (try_all (file_trials c.args.mask c.args.path.now)) (directory_step c.args.path.now none_left) _ (last.tried s))

pub returns-in-Some-clause-searched : goal.returns-in-Some-clause-searched
returns-in-Some-clause-searched g c =
    let last = rw c.in-Some.is at c.in_ok-end.ensures in
    λ s. finished_chose (g.S.FileSystem.tree c.args.searcher.now.source.store.now) (along c.args.searcher.now) (along c.file_step.new.searcher) (try_all (file_trials c.args.mask c.args.path.now)) (directory_step c.args.path.now none_left) _ (last.tried s)

pub returns-in_err-ask_kind : goal.returns-in_err-ask_kind
returns-in_err-ask_kind g c =
    let tree = g.S.FileSystem.tree c.args.searcher.now.source.store.now in
    let tree' = g.S.FileSystem.tree c.file_step.new.searcher.source.store.now in
    let first = rw c.in_default.is at c.in_ok-end.ensures in
    let last = c.in_err-ask_kind.ensures in
    let exit = err_from_is_err_and c.from_residual-in_err-ask_kind.result c.from_residual-in_err-ask_kind.ensures.1 in
    rw (exit.1, exit.2) (record {
      searched = λ s.
          finished_then tree (along c.args.searcher.now) (along c.file_step.new.searcher) (try_all (file_trials c.args.mask c.args.path.now)) (directory_step c.args.path.now none_left) (along c.ask_kind.new.self) tree' (refused _) first.only_asked.questioned.grew (first.only_asked.questioned.same_tree s) (first.tried s)
          (λ qs h. directory_full tree' (limits_of (along c.file_step.new.searcher)) (along c.ask_kind.new.self) c.args.path.now qs _ (last.noted_and_answered (first.only_asked.questioned.stays_sound s) qs h));
      only_asked = asked_twice _ _ _ _ _ _ first.only_asked last.only_asked;
    })

pub returns-in-Directory : goal.returns-in-Directory
returns-in-Directory g c =
    let tree = g.S.FileSystem.tree c.args.searcher.now.source.store.now in
    let tree' = g.S.FileSystem.tree c.file_step.new.searcher.source.store.now in
    let first = rw c.in_default.is at c.in_ok-end.ensures in
    let last = c.in_ok-ask_kind.ensures in
    record {
      searched = λ s.
          finished_then tree (along c.args.searcher.now) (along c.file_step.new.searcher) (try_all (file_trials c.args.mask c.args.path.now)) (directory_step c.args.path.now none_left) (along c.ask_kind.new.self) tree' (refused Unfinished) first.only_asked.questioned.grew (first.only_asked.questioned.same_tree s) (first.tried s)
          (λ qs h. a_directory tree' (limits_of (along c.file_step.new.searcher)) (along c.ask_kind.new.self) c.args.path.now qs _ c.in-Directory.is (last.noted_and_answered (first.only_asked.questioned.stays_sound s) qs h));
      only_asked = asked_twice _ _ _ _ _ _ first.only_asked last.only_asked;
    }

pub returns-in_default-2 : goal.returns-in_default-2
returns-in_default-2 g c =
    let tree = g.S.FileSystem.tree c.args.searcher.now.source.store.now in
    let tree' = g.S.FileSystem.tree c.file_step.new.searcher.source.store.now in
    let first = rw c.in_default.is at c.in_ok-end.ensures in
    let last = c.in_ok-ask_kind.ensures in
    record {
      searched = λ s.
          finished_then tree (along c.args.searcher.now) (along c.file_step.new.searcher) (try_all (file_trials c.args.mask c.args.path.now)) (directory_step c.args.path.now none_left) (along c.ask_kind.new.self) tree' none first.only_asked.questioned.grew (first.only_asked.questioned.same_tree s) (first.tried s)
          (λ qs h. no_directory tree' (limits_of (along c.file_step.new.searcher)) (along c.ask_kind.new.self) c.args.path.now qs _ c.in_default-2.not-Directory (last.noted_and_answered (first.only_asked.questioned.stays_sound s) qs h));
      only_asked = asked_twice _ _ _ _ _ _ first.only_asked last.only_asked;
    }

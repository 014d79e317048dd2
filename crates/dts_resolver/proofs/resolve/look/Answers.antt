use Rattle.std.proofs.Common.{◌≡◌, ◌++◌, length, take, drop, Some, sym, refl, ap, ◌∙◌, subst, rules, arith}
use Rattle.std.proofs.lemmas.List.{take_at}
use Rattle.std.proofs.lemmas.Result.{err_from_is_err_and}
use Rattle.search.specs.Search.{refused, none, chosen}
use Rattle.search.specs.Asking.{along}
use Rattle.search.proofs.TrailMemory.{asked_nothing}
use Rattle.dts_resolver.specs.Specifier.{unescaped}
use Rattle.dts_resolver.specs.Answer.{Looked}
use Rattle.dts_resolver.proofs.LookupPart.{fits_whole, part_read, looked_refused, looked_up_lem, by_check, by_no_check}
use Rattle.dts_resolver.proofs.resolve.look.Goals as goal

pub unwrap-end-requires : goal.unwrap-end-requires
unwrap-end-requires g c = fits_whole c.unescape.result c.args.raw.now _ (omega arith) c.requires.1.1 c.unescape.ensures.fits_or_not

pub returns-in_err-check_part : goal.returns-in_err-check_part
returns-in_err-check_part g c =
    let raw = c.args.raw.now in
    let read = part_read c.unescape.result raw _ _ c.front-part.result.now _ c.unescape.ensures.fits_or_not c.unescape.ensures.written_before_the_rest (search rules) c.front-part.ensures.first_elements in
    let exit = err_from_is_err_and c.from_residual.result c.from_residual.ensures.1 in
    rw (exit.1, exit.2) (record {
      searched = λ s. looked_refused (g.S.FileSystem.tree c.args.searcher.now.source.store.now) (along c.args.searcher.now) (along c.args.searcher.now) c.args.mask c.args.directory.now c.front-part.result.now (unescaped raw) read _ c.in_err-check_part.ensures.first_that_fails;
      refused_by_a_check = by_check _ (unescaped raw) c.front-part.result.now _ read c.in_err-check_part.ensures.first_that_fails (refl, refl);
      fills_the_buffer = refl;
      told_length = refl;
      only_asked = asked_nothing _ _ _ c.args.searcher.now;
    })

pub returns-in_err-end : goal.returns-in_err-end
returns-in_err-end g c =
    let raw = c.args.raw.now in
    let read = part_read c.unescape.result raw _ _ c.front-part.result.now _ c.unescape.ensures.fits_or_not c.unescape.ensures.written_before_the_rest (search rules) c.front-part.ensures.first_elements in
    let checked = c.in_ok-check_part.ensures.first_that_fails in
    let last = c.in_err-end.ensures in
    let exit = err_from_is_err_and c.from_residual-in_err-end.result c.from_residual-in_err-end.ensures.1 in
    rw (exit.1, exit.2) (record {
      searched = λ s. looked_up_lem (g.S.FileSystem.tree c.args.searcher.now.source.store.now) (along c.args.searcher.now) (along c.search_part.new.searcher) c.args.mask c.args.directory.now c.front-part.result.now (unescaped raw) read (refused _) checked (last.searched s);
      refused_by_a_check = by_no_check _ (unescaped raw) c.front-part.result.now read checked;
      fills_the_buffer = refl;
      told_length = refl;
      only_asked = last.only_asked;
    })

pub returns-in_default : goal.returns-in_default
returns-in_default g c =
    let raw = c.args.raw.now in
    let read = part_read c.unescape.result raw _ _ c.front-part.result.now _ c.unescape.ensures.fits_or_not c.unescape.ensures.written_before_the_rest (search rules) c.front-part.ensures.first_elements in
    let checked = c.in_ok-check_part.ensures.first_that_fails in
    let last = rw c.in_default.is at c.in_ok-end.ensures in
    record {
      searched = λ s. looked_up_lem (g.S.FileSystem.tree c.args.searcher.now.source.store.now) (along c.args.searcher.now) (along c.search_part.new.searcher) c.args.mask c.args.directory.now c.front-part.result.now (unescaped raw) read none checked (last.searched s);
      refused_by_a_check = by_no_check _ (unescaped raw) c.front-part.result.now read checked;
      fills_the_buffer = refl;
      told_length = refl;
      only_asked = last.only_asked;
    }

pub returns : goal.returns
returns g c =
    let raw = c.args.raw.now in
    let read = part_read c.unescape.result raw _ _ c.front-part.result.now _ c.unescape.ensures.fits_or_not c.unescape.ensures.written_before_the_rest (search rules) c.front-part.ensures.first_elements in
    let checked = c.in_ok-check_part.ensures.first_that_fails in
    let last = rw c.in-Some.is at c.in_ok-end.ensures in
    let p = c.front.result.now in
    let before = c.args.path.now in
    let after = c.fill.new.path in
    let whole : take c.fill.result after ≡ p = ap (take c.fill.result) c.fill.ensures.rest_as_before ∙ take_at p (drop (length p) before) c.fill.result (sym c.fill.ensures.told_length) in
    record {
      searched = λ s.
          subst (λ x. Looked (g.S.FileSystem.tree c.args.searcher.now.source.store.now) (along c.args.searcher.now) (along c.search_part.new.searcher) c.args.mask c.args.directory.now (unescaped raw) (chosen x)) (sym (whole ∙ c.front.ensures.first_elements))
          (looked_up_lem (g.S.FileSystem.tree c.args.searcher.now.source.store.now) (along c.args.searcher.now) (along c.search_part.new.searcher) c.args.mask c.args.directory.now c.front-part.result.now (unescaped raw) read (chosen _) checked (last.searched s));
      refused_by_a_check = by_no_check _ (unescaped raw) c.front-part.result.now read checked;
      fills_the_buffer = c.fill.ensures.rest_as_before ∙ ap (λ x. x ++ drop (length x) before) (sym whole);
      told_length = ap Some (c.fill.ensures.told_length ∙ ap length (sym whole));
      only_asked = last.only_asked;
    }

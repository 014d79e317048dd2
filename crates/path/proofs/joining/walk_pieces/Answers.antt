-- The directory is put first, and the pieces are walked from it.
use Rattle.std.proofs.Common.{◌≡◌, is_ok, length, take, sym, ap, ◌∙◌, arith, rules}
use Rattle.std.proofs.lemmas.Bool.{leb-true, leb-false}
use Rattle.std.proofs.lemmas.Result.{err_from_is_err_and}
use Rattle.list.specs.Held.{capacity}
use Rattle.path.specs.Path.{components, split, walk, names}
use Rattle.path.proofs.Walking.{walked_kept, within_fits, within_over}
use Rattle.path.proofs.Reporting.{told_of, kept_of, begun}
use Rattle.path.proofs.joining.walk_pieces.Goals as goal

pub returns-in_err-append-clause-by_components : goal.returns-in_err-append-clause-by_components
returns-in_err-append-clause-by_components g c =
    let p = err_from_is_err_and c.from_residual.result c.from_residual.ensures.1 in
    let over = leb-false _ _ (sym c.in_err-append.ensures.fits) in
    rw p.1 (within_over _ _ _ (omega (arith, over, c.new-path.ensures.holds_none, ap length c.new-path.ensures.memory_as_before)))

pub returns-in_err-put_pieces-clause-by_components : goal.returns-in_err-put_pieces-clause-by_components
returns-in_err-put_pieces-clause-by_components g c =
    let d = c.args.directory.now in
    let put = c.in_ok-append.ensures in
    let from = begun c.new-path.result c.append.new.self d c.new-path.ensures.holds_none put.all_more in
    let size : capacity c.append.new.self ≡ length c.args.room.now = put.same_capacity ∙ ap length c.new-path.ensures.memory_as_before in
    let fits = leb-true _ _ (sym put.fits) in
    let p = err_from_is_err_and c.from_residual-in_err-put_pieces.result c.from_residual-in_err-put_pieces.ensures.1 in
    rw p.1 (within_fits _ _ _ (omega (arith, fits, c.new-path.ensures.holds_none, ap length c.new-path.ensures.memory_as_before))
    ∙ ap (λ n. walk n (components d) (split (take c.args.subpath.len (g.B.Bytes.to_come c.args.subpath.bytes)))) (sym size) ∙ ap (λ q. walk (capacity c.append.new.self) (components q) (split (take c.args.subpath.len (g.B.Bytes.to_come c.args.subpath.bytes)))) (sym from) ∙ c.in_err-put_pieces.ensures.over)

pub returns-in_err-put_pieces-clause-kept_behind : goal.returns-in_err-put_pieces-clause-kept_behind
returns-in_err-put_pieces-clause-kept_behind g c =
    let put = c.append.ensures in
    kept_of c.put_pieces.new.path.items.now _ _ (search rules)
    (walked_kept c.new-path.result c.append.new.self c.put_pieces.new.path _ (is_ok c.append.result) _ _ c.new-path.ensures.holds_none c.new-path.ensures.memory_as_before put.counted put.others_as_before put.same_capacity c.put_pieces.ensures.kept_behind)

pub returns-clause-by_components : goal.returns-clause-by_components
returns-clause-by_components g c =
    let d = c.args.directory.now in
    let put = c.in_ok-append.ensures in
    let path = c.put_pieces.new.path in
    let from = begun c.new-path.result c.append.new.self d c.new-path.ensures.holds_none put.all_more in
    let size : capacity c.append.new.self ≡ length c.args.room.now = put.same_capacity ∙ ap length c.new-path.ensures.memory_as_before in
    let fits = leb-true _ _ (sym put.fits) in
    told_of path.items.now _ _ (search rules) (
      omega (arith, path.within, c.len.ensures.count),
      within_fits _ _ _ (omega (arith, fits, c.new-path.ensures.holds_none, ap length c.new-path.ensures.memory_as_before))
          ∙ ap (λ n. walk n (components d) (split (take c.args.subpath.len (g.B.Bytes.to_come c.args.subpath.bytes)))) (sym size) ∙ ap (λ q. walk (capacity c.append.new.self) (components q) (split (take c.args.subpath.len (g.B.Bytes.to_come c.args.subpath.bytes)))) (sym from)
          ∙ c.in_ok-put_pieces.ensures.by_components ∙ ap (λ n. names (take n path.items.now)) (sym c.len.ensures.count),
    )

pub returns-clause-kept_behind : goal.returns-clause-kept_behind
returns-clause-kept_behind g c =
    let put = c.append.ensures in
    kept_of c.put_pieces.new.path.items.now _ _ (search rules)
    (walked_kept c.new-path.result c.append.new.self c.put_pieces.new.path _ (is_ok c.append.result) _ _ c.new-path.ensures.holds_none c.new-path.ensures.memory_as_before put.counted put.others_as_before put.same_capacity c.put_pieces.ensures.kept_behind)

-- A normal subpath is put as it is.
use Rattle.std.proofs.Common.{is_ok, length, take, drop, sym, ap, ◌∙◌, arith, rules}
use Rattle.std.proofs.lemmas.Bool.{leb-true, leb-false}
use Rattle.std.proofs.lemmas.Result.{err_from_is_err_and}
use Rattle.list.proofs.Held.{kept_by}
use Rattle.path.specs.Path.{names}
use Rattle.path.proofs.Walking.{within_fits, within_over, itself_not_normal, itself_normal}
use Rattle.path.proofs.Reporting.{told_of, kept_of, begun}
use Rattle.path.proofs.joining.put_itself.Goals as goal

pub returns-then-not-is_normal_text-clause-by_components : goal.returns-then-not-is_normal_text-clause-by_components
returns-then-not-is_normal_text-clause-by_components g c = itself_not_normal _ _ (sym c.if-not-is_normal_text.ensures)

pub returns-in_err-append-clause-by_components : goal.returns-in_err-append-clause-by_components
returns-in_err-append-clause-by_components g c =
    let over = leb-false _ _ (sym c.in_err-append.ensures.fits) in
    let p = err_from_is_err_and c.from_residual.result c.from_residual.ensures.1 in
    rw p.1 (itself_normal _ _ (sym c.if-not-is_normal_text.ensures) ∙ within_over _ _ _ (omega (arith, over, c.new-path.ensures.holds_none, ap length c.new-path.ensures.memory_as_before)))

pub returns-clause-by_components : goal.returns-clause-by_components
returns-clause-by_components g c =
    let put = c.in_ok-append.ensures in
    let path = c.append.new.to in
    let fits = leb-true _ _ (sym put.fits) in
    told_of path.items.now _ _ (search rules) (
      omega (arith, path.within, c.len.ensures.count),
      itself_normal _ _ (sym c.if-not-is_normal_text.ensures)
          ∙ within_fits _ _ _ (omega (arith, fits, c.new-path.ensures.holds_none, ap length c.new-path.ensures.memory_as_before))
          ∙ ap names (sym (begun c.new-path.result path _ c.new-path.ensures.holds_none put.all_more))
          ∙ ap (λ n. names (take n path.items.now)) (sym c.len.ensures.count),
    )

pub returns-clause-kept_behind : goal.returns-clause-kept_behind
returns-clause-kept_behind g c =
    let put = c.append.ensures in
    let k = length (take c.args.subpath.len (g.B.Bytes.to_come c.args.subpath.bytes)) in
    kept_of c.append.new.to.items.now _ _ (search rules)
    (kept_by c.new-path.result c.append.new.to (is_ok c.append.result) k k put.counted put.others_as_before put.same_capacity (omega (arith, c.new-path.ensures.holds_none))
    ∙ ap (drop k) c.new-path.ensures.memory_as_before)

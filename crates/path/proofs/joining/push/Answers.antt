-- A slash is put first, and then the component; the slash of `/` is there already.
use Rattle.std.proofs.Common.{is_ok, take, refl, sym, ◌∙◌, arith}
use Rattle.std.proofs.lemmas.Bool.{ltb-false}
use Rattle.std.proofs.lemmas.Result.{err_from_is_err_and}
use Rattle.list.specs.Held.{held}
use Rattle.list.proofs.Held.{held_count, extended_by, kept_from, kept_by}
use Rattle.path.proofs.Walking.{root_slash, behind_slash, component_put, component_over, component_full}
use Rattle.path.proofs.joining.push.Goals as goal

pub returns-then-len-eq1-clause-by_components : goal.returns-then-len-eq1-clause-by_components
returns-then-len-eq1-clause-by_components g c =
    let path = c.args.path.now in
    component_put c.append.result _ _ _ _ (root_slash _ c.requires (held_count path path.within ∙ sym c.len.ensures.count ∙ c.if-len-eq1.true)) c.append.ensures.all_more

pub returns-then-len-eq1-clause-over : goal.returns-then-len-eq1-clause-over
returns-then-len-eq1-clause-over g c =
    let path = c.args.path.now in
    let count = held_count path path.within in
    component_over c.append.result _ _ _ _ _ _ (root_slash _ c.requires (count ∙ sym c.len.ensures.count ∙ c.if-len-eq1.true)) count c.append.ensures.fits refl

pub returns-then-len-eq1-clause-kept_behind : goal.returns-then-len-eq1-clause-kept_behind
returns-then-len-eq1-clause-kept_behind g c =
    let appended = c.append.ensures in
    kept_by c.args.path.now c.append.new.to (is_ok c.append.result) _ _ appended.counted appended.others_as_before appended.same_capacity (omega arith)

pub returns-then-bytes_left-room-clause-over : goal.returns-then-bytes_left-room-clause-over
returns-then-bytes_left-room-clause-over g c =
    let path = c.args.path.now in
    let count = held_count path path.within in
    component_full (held path) (take c.args.component.len (g.B.Bytes.to_come c.args.component.bytes)) path.len _ c.requires (λ e. c.if-len-eq1.false (c.len.ensures.count ∙ sym count ∙ e)) count
    (omega (arith, c.if-bytes_left-room.true, c.bytes_left.ensures.number_of_bytes, c.room.ensures.free_count))

pub returns-in_err-push-clause-over : goal.returns-in_err-push-clause-over
returns-in_err-push-clause-over g c =
    let path = c.args.path.now in
    let count = held_count path path.within in
    let p = err_from_is_err_and c.from_residual.result c.from_residual.ensures.1 in
    rw p.1 (component_full (held path) (take c.args.component.len (g.B.Bytes.to_come c.args.component.bytes)) path.len _ c.requires (λ e. c.if-len-eq1.false (c.len.ensures.count ∙ sym count ∙ e)) count
    (omega (arith, ltb-false _ _ (sym c.in_err-push.ensures.fits))))

pub returns-clause-by_components : goal.returns-clause-by_components
returns-clause-by_components g c =
    let path = c.args.path.now in
    let count = held_count path path.within in
    component_put c.append-2.result _ _ _ _ (behind_slash _ _ c.requires (λ e. c.if-len-eq1.false (c.len.ensures.count ∙ sym count ∙ e)) c.in_ok-push.ensures.one_more) c.append-2.ensures.all_more

pub returns-clause-over : goal.returns-clause-over
returns-clause-over g c =
    let path = c.args.path.now in
    let count = held_count path path.within in
    let slashed = c.push.new.self in
    component_over c.append-2.result _ _ _ _ _ _ (behind_slash _ _ c.requires (λ e. c.if-len-eq1.false (c.len.ensures.count ∙ sym count ∙ e)) c.in_ok-push.ensures.one_more) (held_count slashed slashed.within)
    c.append-2.ensures.fits c.push.ensures.same_capacity

pub returns-clause-kept_behind : goal.returns-clause-kept_behind
returns-clause-kept_behind g c =
    let appended = c.append-2.ensures in
    let pushed = c.push.ensures in
    let grew = extended_by c.args.path.now c.push.new.self (is_ok c.push.result) 1 pushed.counted pushed.others_as_before pushed.same_capacity in
    kept_by c.push.new.self c.append-2.new.to (is_ok c.append-2.result) _ _ appended.counted appended.others_as_before appended.same_capacity (omega (arith, c.in_ok-push.ensures.counted))
    ∙ kept_from _ _ _ grew (omega (arith, c.in_ok-push.ensures.counted))

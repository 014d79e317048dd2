-- The value that stands there is read, and what follows it.
use Rattle.std.proofs.Common.{◌≡◌, ◌+◌, true, false, eqb, get_or, sym, subst, arith}
use Rattle.std.proofs.lemmas.Bool.{eqb-true}
use Rattle.std.proofs.lemmas.List.{get_or_default}
use Rattle.json_text.specs.Standing.{Space, NoNumber}
use Rattle.json_text.proofs.Standings.{value_stands, comma_number}
use Rattle.json_text.proofs.Walking.{told_ok, told_err, read_to, stands_unstopped, comma_once}
use Rattle.json_text.proofs.walk.behind_value.Goals as goal

pub returns-in_err-place-clause-behind : goal.returns-in_err-place-clause-behind
returns-in_err-place-clause-behind c = λ end place v p s l.
    let n = c.in_ok-value.ensures in
    let f = told_err c.element.result _ _ c.in_err-place.ensures.value c.element.ensures in
    absurd (stands_unstopped c.args.text.now c.args.at end f.0.place v p (simp (n.0, n.1) at f.1))

pub returns-in_err-after-clause-behind : goal.returns-in_err-after-clause-behind
returns-in_err-after-clause-behind c = λ end place v p s l.
    let n = c.in_ok-value.ensures in
    let r = simp (n.0, n.1) at (told_ok c.element.result _ _ c.in_ok-place.place c.in_ok-place.ensures.value c.element.ensures) in
    let m = c.moved_to-end.ensures in
    rw c.from_residual-in_err-after.ensures
    (subst (λ i. eqb (get_or c.args.text.now i 256) 44 ≡ false)
    (read_to c.args.text.now c.args.at end c.in_ok-place.place place v (λ i m. omega (arith, c.type_inv.text i, get_or_default c.args.text.now i 0 256 m)) p s l r.0 r.1)
    (simp (m.same_text, m.there, n.0) at c.in_err-after.ensures))

pub returns-clause-behind : goal.returns-clause-behind
returns-clause-behind c = λ end place v p s l.
    let n = c.in_ok-value.ensures in
    let r = simp (n.0, n.1) at (told_ok c.element.result _ _ c.in_ok-place.place c.in_ok-place.ensures.value c.element.ensures) in
    let m = c.moved_to-end.ensures in
    let o = simp (m.same_text, m.there, n.0) at c.in_ok-after.ensures in
    subst (λ i. Space c.args.text.now (i + 1) c.skip_ws-item.result.start.at × (eqb (get_or c.args.text.now i 256) 44 ≡ true))
    (read_to c.args.text.now c.args.at end c.in_ok-place.place place v (λ i m. omega (arith, c.type_inv.text i, get_or_default c.args.text.now i 0 256 m)) p s l r.0 r.1)
    (simp (o.1.same_text, o.1.one_further) at c.skip_ws-item.ensures.space, o.0)

pub returns-clause-behind_a_value : goal.returns-clause-behind_a_value
returns-clause-behind_a_value c =
    let t = c.args.text.now in
    let n = c.in_ok-value.ensures in
    let r = simp (n.0, n.1) at (told_ok c.element.result _ _ c.in_ok-place.place c.in_ok-place.ensures.value c.element.ensures) in
    let m = c.moved_to-end.ensures in
    let o = simp (m.same_text, m.there, n.0) at c.in_ok-after.ensures in
    let comma : get_or t c.in_ok-place.place 256 ≡ 44 = eqb-true _ _ o.0 in
    let v = value_stands t c.args.at c.in_ok-place.place (simp (n.0, n.1) at c.in_ok-value.value.no_space) r.1 (subst NoNumber (sym comma) comma_number) r.0 in (
      v.0,
      v.1,
      v.2,
      record { comma = c.in_ok-place.place; before_comma = v.3; comma_there = comma; behind_comma = simp (o.1.same_text, o.1.one_further) at c.skip_ws-item.ensures.space },
    )

pub returns-in_err-place-clause-right_behind : goal.returns-in_err-place-clause-right_behind
returns-in_err-place-clause-right_behind c = λ end next v p m. comma_once c.args.text.now end next m _ (returns-in_err-place-clause-behind c end m.comma v p m.before_comma (omega (arith, m.comma_there)))

pub returns-in_err-after-clause-right_behind : goal.returns-in_err-after-clause-right_behind
returns-in_err-after-clause-right_behind c = λ end next v p m. comma_once c.args.text.now end next m _ (returns-in_err-after-clause-behind c end m.comma v p m.before_comma (omega (arith, m.comma_there)))

pub returns-clause-right_behind : goal.returns-clause-right_behind
returns-clause-right_behind c = λ end next v p m. comma_once c.args.text.now end next m _ (returns-clause-behind c end m.comma v p m.before_comma (omega (arith, m.comma_there)))

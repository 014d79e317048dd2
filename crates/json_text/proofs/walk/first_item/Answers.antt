-- White space, and the closing bracket or an item; or no opening bracket.
use Rattle.std.proofs.Common.{None, Some, ◌+◌, get_or, ap, ◌∙◌}
use Rattle.std.proofs.lemmas.Bool.{eqb-true, eqb-false}
use Rattle.json_text.proofs.Segments.{space_once}
use Rattle.json_text.proofs.Walking.{first_in, none_in, none_past}
use Rattle.json_text.proofs.walk.first_item.Goals as goal

pub returns-in_err-after-clause-of_the_value_there : goal.returns-in_err-after-clause-of_the_value_there
returns-in_err-after-clause-of_the_value_there c =
    let n = c.in_ok-new.ensures in
    let k = simp (n.0, n.1, c.opening.ensures) at c.in_err-after.ensures in
    rw c.from_residual-in_err-after.ensures (λ end v p. none_in c.args.bracket c.args.text.now c.args.at end v p (eqb-false _ _ k))

pub returns-in-Some-clause-of_the_value_there : goal.returns-in-Some-clause-of_the_value_there
returns-in-Some-clause-of_the_value_there c =
    let n = c.in_ok-new.ensures in
    let o = simp (n.0, n.1, c.opening.ensures) at c.in_ok-after.ensures in
    let w = simp (o.1.same_text, o.1.one_further) at c.skip_ws-first.ensures.space in
    let same = c.skip_ws-first.ensures.same_text ∙ o.1.same_text in
    let e = simp (same, c.closing.ensures) at c.in-Some.ensures in
    λ end v p. first_in c.args.bracket c.args.text.now c.args.at end v p (eqb-true _ _ o.0) None (c.skip_ws-first.result.start.at, w, e.0)

pub returns-in-None-clause-of_the_value_there : goal.returns-in-None-clause-of_the_value_there
returns-in-None-clause-of_the_value_there c =
    let n = c.in_ok-new.ensures in
    let o = simp (n.0, n.1, c.opening.ensures) at c.in_ok-after.ensures in
    let w = simp (o.1.same_text, o.1.one_further) at c.skip_ws-first.ensures.space in
    let same = c.skip_ws-first.ensures.same_text ∙ o.1.same_text in
    let e = simp (same, c.closing.ensures) at c.in-None.ensures in
    λ end v p. first_in c.args.bracket c.args.text.now c.args.at end v p (eqb-true _ _ o.0) (Some c.skip_ws-first.result.start.at) (w, e)

pub returns-in_err-new-clause-behind_the_bracket : goal.returns-in_err-new-clause-behind_the_bracket
returns-in_err-new-clause-behind_the_bracket c = rw c.from_residual.ensures (λ place p. none_past c.args.bracket c.args.text.now c.args.at place c.in_err-new.ensures p)

pub returns-in_err-after-clause-behind_the_bracket : goal.returns-in_err-after-clause-behind_the_bracket
returns-in_err-after-clause-behind_the_bracket c =
    let n = c.in_ok-new.ensures in
    let k = simp (n.0, n.1, c.opening.ensures) at c.in_err-after.ensures in
    rw c.from_residual-in_err-after.ensures (λ place p. eqb-false _ _ k p.opens)

pub returns-in-Some-clause-behind_the_bracket : goal.returns-in-Some-clause-behind_the_bracket
returns-in-Some-clause-behind_the_bracket c =
    let n = c.in_ok-new.ensures in
    let o = simp (n.0, n.1, c.opening.ensures) at c.in_ok-after.ensures in
    let w = simp (o.1.same_text, o.1.one_further) at c.skip_ws-first.ensures.space in
    let same = c.skip_ws-first.ensures.same_text ∙ o.1.same_text in
    let e = simp (same, c.closing.ensures) at c.in-Some.ensures in
    λ place p. p.not_closed (ap (λ i. get_or c.args.text.now i 256) (space_once c.args.text.now (c.args.at + 1) place c.skip_ws-first.result.start.at p.behind_bracket w) ∙ eqb-true _ _ e.0)

pub returns-in-None-clause-behind_the_bracket : goal.returns-in-None-clause-behind_the_bracket
returns-in-None-clause-behind_the_bracket c =
    let n = c.in_ok-new.ensures in
    let o = simp (n.0, n.1, c.opening.ensures) at c.in_ok-after.ensures in
    let w = simp (o.1.same_text, o.1.one_further) at c.skip_ws-first.ensures.space in
    let same = c.skip_ws-first.ensures.same_text ∙ o.1.same_text in
    let e = simp (same, c.closing.ensures) at c.in-None.ensures in
    record { opens = eqb-true _ _ o.0; behind_bracket = w; not_closed = eqb-false _ _ e }

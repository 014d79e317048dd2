-- The one string that stands there, if one does.
use Rattle.std.proofs.Common.{sym, subst, arith}
use Rattle.std.specs.List.{between}
use Rattle.std.proofs.lemmas.Bool.{eqb-true, eqb-false}
use Rattle.json_string.specs.String.{Chars}
use Rattle.json_text.proofs.Standings.{value_first}
use Rattle.json_text.proofs.MemberStandings.{string_there, no_string, chars_there, no_fault_there}
use Rattle.json_text.proofs.Walking.{told_ok, told_err}
use Rattle.json_text.proofs.walk.chars_at.Goals as goal

pub returns-in_err-chars-clause-of_the_value_there : goal.returns-in_err-chars-clause-of_the_value_there
returns-in_err-chars-clause-of_the_value_there c =
    let n = c.in_ok-new.ensures in
    rw c.from_residual-in_err-chars.ensures
    (λ end v p. no_string v _ (value_first c.args.text.now c.args.at end v p).1 (eqb-false _ _ (simp (n.0, n.1) at c.in_err-chars.ensures)))

pub returns-in_err-end-clause-of_the_value_there : goal.returns-in_err-end-clause-of_the_value_there
returns-in_err-end-clause-of_the_value_there c =
    let n = c.in_ok-new.ensures in
    let o = simp (n.0, n.1) at c.in_ok-chars.ensures in
    let m = simp o.1.one_further at (c.read_string.ensures.string_or_fault (omega (arith, o.1.inside, o.1.one_further))) in
    λ end v p.
    let q = string_there c.args.text.now c.args.at end v p (eqb-true _ _ o.0) in
    let f = told_err c.read_string.result _ _ c.in_err-end.ensures.value m in
    absurd (no_fault_there c.args.text.now c.args.at q.2.0 f.0.place q.0 q.2.1 f.1)

pub returns-clause-of_the_value_there : goal.returns-clause-of_the_value_there
returns-clause-of_the_value_there c =
    let n = c.in_ok-new.ensures in
    let o = simp (n.0, n.1) at c.in_ok-chars.ensures in
    let m = simp o.1.one_further at (c.read_string.ensures.string_or_fault (omega (arith, o.1.inside, o.1.one_further))) in
    λ end v p.
    let q = string_there c.args.text.now c.args.at end v p (eqb-true _ _ o.0) in
    let h = told_ok c.read_string.result _ _ c.in_ok-end.end c.in_ok-end.ensures.value m in
    (q.0, q.1, subst (λ i. Chars (between i c.in_ok-end.end c.args.text.now) q.0) (sym o.1.one_further) (chars_there c.args.text.now c.args.at q.2.0 c.in_ok-end.end q.0 q.2.1 h))

-- The name and the colon that stand there are read.
use Rattle.std.proofs.Common.{sym, ◌∙◌}
use Rattle.std.proofs.lemmas.Bool.{true≢false}
use Rattle.json_text.proofs.Walking.{told_ok, told_err, member_start, member_value, member_unstopped}
use Rattle.json_text.proofs.walk.member_value.Goals as goal

pub returns-in_err-new-clause-of_the_member_there : goal.returns-in_err-new-clause-of_the_member_there
returns-in_err-new-clause-of_the_member_there c = λ end e m.
    let s = member_start c.args.text.now c.args.at end e m in
    absurd (true≢false (sym (c.in_err-new.ensures s.0) ∙ s.1))

pub returns-in_err-value-clause-of_the_member_there : goal.returns-in_err-value-clause-of_the_member_there
returns-in_err-value-clause-of_the_member_there c = λ end e m.
    let n = c.in_ok-new.ensures in
    let f = told_err c.name_and_colon.result _ _ c.in_err-value.ensures.value (simp (n.0, n.1) at c.name_and_colon.ensures.reading) in
    absurd (member_unstopped c.args.text.now c.args.at end f.0.place e m f.1)

pub returns-clause-of_the_member_there : goal.returns-clause-of_the_member_there
returns-clause-of_the_member_there c = λ end e m.
    let n = c.in_ok-new.ensures in
    member_value c.args.text.now c.args.at end c.in_ok-value.value.start.at e m (told_ok c.name_and_colon.result _ _ c.in_ok-value.value c.in_ok-value.ensures.value (simp (n.0, n.1) at c.name_and_colon.ensures.stands))

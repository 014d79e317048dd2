-- What follows the value of the member.
use Rattle.std.proofs.Common.{arith}
use Rattle.json_text.specs.Standing.{MemberAt}
use Rattle.json_text.proofs.Walking.{next_by, some_item, member_behind}
use Rattle.json_text.proofs.walk.next_member.Goals as goal

pub returns-in_err-place-clause-of_the_members_there : goal.returns-in_err-place-clause-of_the_members_there
returns-in_err-place-clause-of_the_members_there c = λ e es p. let m = some_item p in absurd (c.in_err-place.ensures.of_the_member_there m.0 e m.1)

pub returns-clause-of_the_members_there : goal.returns-clause-of_the_members_there
returns-clause-of_the_members_there c = λ e es p.
    next_by c.args.text.now (MemberAt c.args.text.now) 125 c.args.at e es (omega arith) (λ q. omega arith) c.behind_value.result
    (λ end place m s l. c.behind_value.ensures.behind end place e.value (c.in_ok-place.ensures.of_the_member_there end e m) s l) p

pub returns-in_err-place-clause-right_behind : goal.returns-in_err-place-clause-right_behind
returns-in_err-place-clause-right_behind c = λ end next e m p. absurd (c.in_err-place.ensures.of_the_member_there end e m)

pub returns-clause-right_behind : goal.returns-clause-right_behind
returns-clause-right_behind c = λ end next e m p. c.behind_value.ensures.right_behind end next e.value (c.in_ok-place.ensures.of_the_member_there end e m) p

pub returns-clause-behind_a_member : goal.returns-clause-behind_a_member
returns-clause-behind_a_member c = member_behind c.args.text.now c.args.at c.in_ok-place.place c.behind_value.result c.in_ok-place.ensures.behind_a_name c.behind_value.ensures.behind_a_value

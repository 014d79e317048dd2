-- Each member but the last that is looked at has another name, and stands further on.
use Rattle.std.proofs.Common.{◌<◌, sym, ◌∙◌, subst, IfSome, rules}
use Rattle.std.proofs.lemmas.Bool.{true≢false}
use Rattle.json_text.proofs.Walking.{opened_further}
use Rattle.json_text.proofs.Finding.{Sought, sought_next, sought_here, sought_none, further_on, passed_on}
use Rattle.json_text.proofs.find.find_member.Goals as goal

pub loop-member-init : goal.loop-member-init
loop-member-init c = (search rules, opened_further 123 125 c.args.text.now c.args.at c.first_member-member.result c.first_member-member.ensures.behind_the_bracket)

pub returns-then-is_named : goal.returns-then-is_named
returns-then-is_named c =
    let passed : c.args.at < c.in-Some.place = subst (λ m. IfSome m (λ place. c.args.at < place)) c.in-Some.is c.loop-member.invariant.1 in
    record {
      first_of_the_name =
          sought_here c.args.text.now c.args.at c.args.name.now c.in-Some.place c.member_value.result
          (subst (Sought c.args.text.now c.args.at c.args.name.now) c.in-Some.is c.loop-member.invariant.0)
          (λ end e m. (c.is_named.ensures end e m).0 c.if-is_named.true) c.member_value.ensures.of_the_member_there;
      further = further_on c.args.at c.in-Some.place c.args.text.now c.member_value.result passed c.member_value.ensures.further;
    }

pub loop-member-preserved : goal.loop-member-preserved
loop-member-preserved c =
    let passed : c.args.at < c.in-Some.place = subst (λ m. IfSome m (λ place. c.args.at < place)) c.in-Some.is c.loop-member.invariant.1 in (
      sought_next c.args.text.now c.args.at c.args.name.now c.in-Some.place c.next_member-member.result
          (subst (Sought c.args.text.now c.args.at c.args.name.now) c.in-Some.is c.loop-member.invariant.0)
          (λ end e m q. true≢false (sym ((c.is_named.ensures end e m).1 q) ∙ c.if-is_named.false)) c.next_member-member.ensures.of_the_members_there,
      passed_on c.args.at c.in-Some.place c.args.text.now c.next_member-member.result passed c.next_member-member.ensures.further,
    )

pub returns : goal.returns
returns c = record {
  first_of_the_name = sought_none c.args.text.now c.args.at c.args.name.now
      (subst (Sought c.args.text.now c.args.at c.args.name.now) c.in_default.is c.loop-member.invariant.0);
  further = tt;
}

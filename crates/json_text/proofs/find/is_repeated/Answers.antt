-- Each member but the last that is looked at has another name.
use Rattle.std.proofs.Common.{sym, ◌∙◌, subst}
use Rattle.std.proofs.lemmas.Bool.{true≢false}
use Rattle.json_string.proofs.Decoding.{chars_decoded}
use Rattle.json_text.proofs.Repeating.{StillBefore, from_first, at_the_member, name_there, name_elsewhere, never_none}
use Rattle.json_text.proofs.find.is_repeated.Goals as goal

pub returns-in_default : goal.returns-in_default
returns-in_default c = record { by_the_members_before = λ first end before e o m i. absurd (rw c.in_default.is at (c.chars_at.ensures.of_the_member_there end e i)) }

pub loop-earlier-init : goal.loop-earlier-init
loop-earlier-init c = from_first c.args.text.now c.args.object c.args.member c.first_member-earlier.result c.first_member-earlier.ensures.behind_the_bracket

pub returns-then-place-member : goal.returns-then-place-member
returns-then-place-member c = record {
  by_the_members_before = λ first end before e o m i.
      at_the_member c.args.text.now c.args.object c.args.member c.in-Some-earlier.place c.loop-earlier.earlier c.in-Some-earlier.is c.loop-earlier.invariant first end before e o m i c.if-place-member.true;
}

pub returns-then-has_same_name : goal.returns-then-has_same_name
returns-then-has_same_name c = record {
  by_the_members_before = λ first end before e o m i.
      let name = chars_decoded c.in-Some.chars.now e.name (c.in-Some.ensures.of_the_member_there end e i) in
      name_there c.args.text.now c.args.object c.args.member c.in-Some-earlier.place c.loop-earlier.earlier c.in-Some-earlier.is c.loop-earlier.invariant first end before e o m i c.if-place-member.false
      (λ last x n. (c.has_same_name.ensures last x n).0 c.if-has_same_name.true ∙ name);
}

pub loop-earlier-preserved : goal.loop-earlier-preserved
loop-earlier-preserved c = λ first end before e o m i.
    let name = chars_decoded c.in-Some.chars.now e.name (c.in-Some.ensures.of_the_member_there end e i) in
    name_elsewhere c.args.text.now c.args.object c.args.member c.in-Some-earlier.place c.loop-earlier.earlier c.in-Some-earlier.is c.loop-earlier.invariant first end before e o m i c.if-place-member.false
    c.next_member-earlier.result c.next_member-earlier.ensures.right_behind
    (λ last x n same. true≢false (sym ((c.has_same_name.ensures last x n).1 (same ∙ sym name)) ∙ c.if-has_same_name.false))

pub returns : goal.returns
returns c = record {
  by_the_members_before = λ first end before e o m i.
      absurd (never_none c.args.text.now c.args.object c.args.member (subst (StillBefore c.args.text.now c.args.object c.args.member) c.in_default-earlier.is c.loop-earlier.invariant) first end before e o m i);
}

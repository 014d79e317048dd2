use Rattle.std.proofs.Common.{sym, ap, ◌∙◌, arith}
use Rattle.std.specs.Bool.{then_some}
use Rattle.package_json.proofs.ValueKinds.{gives_pattern, gives_by_kind}
use Rattle.package_json.proofs.Walking.{if_itself}
use Rattle.package_json.proofs.versions.fn.giving_from.giving.Goals as goal
use Rattle.package_json.proofs.versions.fn.giving_from.giving.Goals.{in-String, in_default}

pub returns-in_err-place : goal.returns-in_err-place
returns-in_err-place c = record { of_the_member_there = λ end e m. absurd (c.in_err-place.ensures.of_the_member_there end e m); itself = rw c.from_residual.ensures tt }

pub returns : goal.returns
returns c = record {
  of_the_member_there = λ end e m.
      let of_kind = gives_by_kind e.value ∙ ap gives_pattern (sym (c.kind_at.ensures.of_the_value_there _ _ (c.in_ok-place.ensures.of_the_member_there end e m))) in
      c.then_some.ensures ∙ ap (λ b. then_some b c.args.member) (elim c.match-matches.branch [ in-String w ↦ grind arith | in_default w ↦ grind arith ]);
  itself = rw c.then_some.ensures (if_itself _ c.args.member);
}

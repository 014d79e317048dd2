-- The object of the range that stands there, by its patterns and by the names before.
use Rattle.std.proofs.Common.{[], not, length, ap, sym, ◌∙◌}
use Rattle.package_json.specs.Ranges.{gives}
use Rattle.package_json.proofs.Counting.{kept_are_patterns, repeated_member, gives_none, counts_told, then_further}
use Rattle.json_text.specs.Standing.{entries}
use Rattle.package_json.proofs.versions.giving_object.Goals as goal

pub returns-in_err-object : goal.returns-in_err-object
returns-in_err-object c = rw c.from_residual.ensures (record { of_the_range_there = λ before end e p m. absurd (c.in_err-object.ensures.of_the_member_there end e m); further = tt })

pub returns-then-not-gives_any : goal.returns-then-not-gives_any
returns-then-not-gives_any c = record {
  of_the_range_there = λ before end e p m.
      gives_none c.args.text.now before e
      (sym (ap gives (kept_are_patterns [] (entries e.value))) ∙ sym (c.gives_any.ensures end e.value (c.in_ok-object.ensures.of_the_member_there end e m)) ∙ c.if-not-gives_any.true);
  further = tt;
}

pub returns : goal.returns
returns c = record {
  of_the_range_there = λ before end e p m.
      let at = c.in_ok-object.ensures.of_the_member_there end e m in
      rw c.then_some.ensures
      (counts_told c.args.text.now before e c.in_ok-object.object end c.is_repeated.result
      (sym (ap gives (kept_are_patterns [] (entries e.value))) ∙ sym (c.gives_any.ensures end e.value at) ∙ c.if-not-gives_any.false)
      (repeated_member c.args.text.now c.args.versions c.args.range c.is_repeated.result c.is_repeated.ensures.by_the_members_before before end e p m) at);
  further = rw c.then_some.ensures (then_further (not c.is_repeated.result) c.args.range (length c.args.text.now) c.in_ok-object.object c.in_ok-object.ensures.further);
}

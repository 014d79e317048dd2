-- The next string of an array; behind one string alone there is none.
use Rattle.std.proofs.Common.{sym, ap, ◌∙◌}
use Rattle.package_json.proofs.ValueKinds.{is_array_kind, not_an_array}
use Rattle.package_json.proofs.Targets.{next_among, next_none}
use Rattle.package_json.proofs.versions.next_target.Goals as goal

pub returns-in-Array : goal.returns-in-Array
returns-in-Array c = record {
  of_those_left = λ end v s ss at target.
      next_among _ c.args.target v s ss c.next_element.result c.string_from.result (ap is_array_kind (sym (c.in-Array.ensures.of_the_value_there _ _ at)))
      c.next_element.ensures.of_the_elements_there c.string_from.ensures.first_string target;
  further = c.string_from.ensures.not_back c.args.target c.next_element.ensures.further;
}

pub returns-in_default : goal.returns-in_default
returns-in_default c = record {
  of_those_left = λ end v s ss at target.
      next_none _ c.args.target v s ss (ap is_array_kind (sym (c.kind_at.ensures.of_the_value_there _ _ at)) ∙ not_an_array c.kind_at.result c.in_default.not-Array) target;
  further = tt;
}

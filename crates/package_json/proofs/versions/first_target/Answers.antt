-- One string, or the first string of an array.
use Rattle.std.proofs.Common.{◌≡◌, false, length, sym, ap, arith}
use Rattle.json_text.specs.Kinds.{kind}
use Rattle.json_text.specs.Standing.{elements}
use Rattle.package_json.proofs.ValueKinds.{is_string_kind, is_array_kind, gives_pattern}
use Rattle.package_json.proofs.Targets.{found_alone, found_among, found_none}
use Rattle.package_json.proofs.Walking.{opened_inside, not_before, string_inside}
use Rattle.package_json.proofs.versions.first_target.Goals as goal

pub returns-in-String : goal.returns-in-String
returns-in-String c = record {
  of_the_value_there = λ end v ts at has. found_alone _ v ts has c.args.value end at (ap is_string_kind (sym (c.in-String.ensures.of_the_value_there _ _ at)));
  not_back = (omega arith, string_inside c.args.text.now c.args.value c.in-String.ensures.by_the_byte_there);
}

pub returns-in-Array : goal.returns-in-Array
returns-in-Array c = record {
  of_the_value_there = λ end v ts at has.
      found_among _ v ts has c.string_from.result (ap is_array_kind (sym (c.in-Array.ensures.of_the_value_there _ _ at)))
      (c.string_from.ensures.first_string (elements v) (c.first_element.ensures.of_the_value_there _ _ at));
  not_back = not_before c.args.value (length c.args.text.now) c.string_from.result
      (c.string_from.ensures.not_back c.args.value (opened_inside 91 93 c.args.text.now c.args.value c.first_element.result c.first_element.ensures.behind_the_bracket));
}

pub returns-in-Object : goal.returns-in-Object
returns-in-Object c = record {
  of_the_value_there = λ end v ts at has.
      let of_kind = c.kind_at.ensures.of_the_value_there _ _ at in
      let none : gives_pattern (kind v) ≡ false = grind arith in
      found_none c.args.text.now v ts has none;
  not_back = tt;
}

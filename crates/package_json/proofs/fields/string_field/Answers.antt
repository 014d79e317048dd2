use Rattle.std.proofs.Common.{◌∙◌, length}
use Rattle.package_json.proofs.Walking.{same_place}
use Rattle.package_json.proofs.Naming.{no_field, found_field}
use Rattle.package_json.proofs.fields.string_field.Goals as goal

pub returns-in_err-find_member : goal.returns-in_err-find_member
returns-in_err-find_member c = rw c.from_residual.ensures (record { first_of_the_name = λ end v at. no_field c.args.text.now v c.args.field _ (c.as_bytes.ensures.value ∙ c.name.ensures.of_the_member) (c.in_err-find_member.ensures.first_of_the_name end v at); further = tt })

pub returns : goal.returns
returns c = record {
  first_of_the_name = λ end v at.
      let found = c.in_ok-find_member.ensures.first_of_the_name end v at in
      found_field c.args.text.now v c.args.field _ (c.as_bytes.ensures.value ∙ c.name.ensures.of_the_member) found.1 found.2 c.in_ok-find_member.field-0 found.0 c.string_at.result found.3 (c.string_at.ensures.where_a_string_stands _ _ found.3);
  further = same_place c.in_ok-find_member.field-0 c.args.root (length c.args.text.now) c.string_at.result c.string_at.ensures.itself c.in_ok-find_member.ensures.further;
}

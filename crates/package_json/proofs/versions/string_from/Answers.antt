use Rattle.std.proofs.Common.{length, rules}
use Rattle.package_json.proofs.Giving.{first_strings}
use Rattle.package_json.proofs.Walking.{not_back}
use Rattle.package_json.proofs.versions.string_from.Goals as goal

pub returns : goal.returns
returns c = record {
  first_string = first_strings c.args.text.now (λ at r n. search rules) (λ at r a. search rules) c.first_answer.ensures;
  not_back = not_back (length c.args.text.now) (λ at r n. search rules) (λ at r a. search rules) c.first_answer.ensures;
}

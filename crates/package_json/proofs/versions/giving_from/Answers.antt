use Rattle.std.proofs.Common.{length, rules}
use Rattle.package_json.specs.Ranges.{NextMember}
use Rattle.package_json.proofs.Giving.{first_gives}
use Rattle.package_json.proofs.Walking.{not_back}
use Rattle.package_json.proofs.versions.giving_from.Goals as goal

pub returns : goal.returns
returns c = record {
  first_that_gives = λ range before es left. first_gives c.args.text.now range (λ at r n. search rules) (λ at r a. search rules) c.first_answer.ensures before es left;
  not_back = not_back (length c.args.text.now) (λ at r n. let next : NextMember c.args.text.now at r = search rules in next.further) (λ at r a. search rules) c.first_answer.ensures;
}

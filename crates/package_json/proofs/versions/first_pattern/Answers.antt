-- The first member that gives a pattern, from the first member on.
use Rattle.std.proofs.Common.{[]}
use Rattle.package_json.proofs.Positions.{left_from_first}
use Rattle.package_json.proofs.Walking.{opened_inside, opens_at}
use Rattle.package_json.proofs.versions.first_pattern.Goals as goal

pub returns : goal.returns
returns c =
    let t = c.args.text.now in
    record {
      of_the_value_there = λ end v at.
          c.giving_from.ensures.first_that_gives c.args.range [] _
          (left_from_first t c.args.range c.first_member.result _ (opens_at 123 125 t c.args.range c.first_member.result c.first_member.ensures.behind_the_bracket) (c.first_member.ensures.of_the_value_there end v at));
      further = c.giving_from.ensures.not_back c.args.range (opened_inside 123 125 t c.args.range c.first_member.result c.first_member.ensures.behind_the_bracket);
    }

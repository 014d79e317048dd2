-- The first member that gives a pattern, from the next member on.
use Rattle.std.proofs.Common.{◌∷◌, subst}
use Rattle.package_json.specs.Standing.{CandidatesFound}
use Rattle.package_json.proofs.Positions.{left_next}
use Rattle.package_json.proofs.versions.next_pattern.Goals as goal

pub returns : goal.returns
returns c =
    let n = c.next_member.ensures in
    record {
      of_those_left = λ range x cs at.
          subst (CandidatesFound c.args.text.now range c.giving_from.result) at.rest
          (c.giving_from.ensures.first_that_gives range (at.member ∷ at.before) at.others
          (left_next c.args.text.now range c.args.pattern at.before at.member at.others c.next_member.result (record { those_left = n.of_the_members_there; right_behind = n.right_behind; further = n.further }) at.position at.stand));
      further = c.giving_from.ensures.not_back c.args.pattern n.further;
    }

-- Each range before the one that is told has no pattern, or does not count.
use Rattle.std.proofs.Common.{[], length, rules, sym, subst}
use Rattle.package_json.specs.Standing.{RangeFound}
use Rattle.package_json.specs.Ranges.{NextMember}
use Rattle.package_json.proofs.Positions.{left_from_first}
use Rattle.package_json.proofs.Giving.{first_ranges}
use Rattle.package_json.proofs.Targets.{no_versions, versions_of}
use Rattle.package_json.proofs.Walking.{lies_further, from_further, opened_inside, opens_at}
use Rattle.package_json.proofs.versions.version_range.Goals as goal

pub returns-in_err-versions : goal.returns-in_err-versions
returns-in_err-versions c = rw c.from_residual.ensures (record { of_the_version_paths = λ end v at. no_versions v (c.in_err-versions.ensures.first_of_the_name end v at); further = tt })

pub returns : goal.returns
returns c =
    let t = c.args.text.now in
    let versions = c.in_ok-versions.versions in
    record {
      of_the_version_paths = λ end v at.
          let found = c.in_ok-versions.ensures.first_of_the_name end v at in
          subst (RangeFound t c.first_answer.result) (sym (versions_of v found.1 found.2))
          (first_ranges t versions (λ place r n. search rules) (λ place r a. search rules) c.first_answer.ensures [] _
          (left_from_first t versions c.first_member.result _ (opens_at 123 125 t versions c.first_member.result c.first_member.ensures.behind_the_bracket) (c.first_member.ensures.of_the_value_there _ _ found.3)));
      further = from_further c.args.root versions (length t) c.first_answer.result c.in_ok-versions.ensures.further.0
          (lies_further (length t) (λ place r n. let next : NextMember t place r = search rules in next.further) (λ place r a. search rules) c.first_answer.ensures versions (opened_inside 123 125 t versions c.first_member.result c.first_member.ensures.behind_the_bracket));
    }

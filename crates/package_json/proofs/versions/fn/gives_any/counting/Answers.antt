-- A candidate counts if its name did not stand before.
use Rattle.std.proofs.Common.{not, ap, ◌∙◌}
use Rattle.std.specs.Bool.{then_some}
use Rattle.package_json.proofs.Counting.{repeated_candidate}
use Rattle.package_json.proofs.versions.fn.gives_any.counting.Goals as goal

pub returns : goal.returns
returns c = λ x cs at. c.then_some.ensures ∙ ap (λ b. then_some (not b) c.args.pattern) (repeated_candidate c.captures.text.now c.captures.object c.args.pattern c.is_repeated.result c.is_repeated.ensures.by_the_members_before x cs at)

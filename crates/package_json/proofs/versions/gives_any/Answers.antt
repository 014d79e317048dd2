-- The first candidate that counts is found if there is one.
use Rattle.std.proofs.Common.{rules, ◌∙◌}
use Rattle.package_json.proofs.Giving.{any_counts}
use Rattle.package_json.proofs.versions.gives_any.Goals as goal

pub returns : goal.returns
returns c = λ end v at.
    c.is_some.ensures ∙ any_counts c.args.text.now c.args.object (λ place r n. search rules) (λ place r a. search rules) c.first_answer.ensures _ (c.first_pattern.ensures.of_the_value_there end v at)

-- What may still become of the component.
use Rattle.std.proofs.Common.{sym, ◌∙◌, arith}
use Rattle.std.proofs.lemmas.Bool.{ne_eqb}
use Rattle.std.proofs.lemmas.Bool.Decides.{nat_tests}
use Rattle.path.specs.Path.{stays, goes_up, proper}
use Rattle.package_json.specs.Plain.{is_component}
use Rattle.package_json.proofs.Components.{no_dot_first}
use Rattle.package_json.proofs.plain.Part.then.Goals as goal

pub returns-in-Empty-default : goal.returns-in-Empty-default
returns-in-Empty-default c = λ rest. c.modules_letter.ensures rest ∙ sym (rw c.in-Empty-default.is-0 (no_dot_first c.args.byte rest (ne_eqb _ _ c.in-Empty-default.is-1.1)))

pub returns-in-OneDot-default : goal.returns-in-OneDot-default
unfolding is_component proper stays goes_up
returns-in-OneDot-default c = λ rest. grind (arith, nat_tests)

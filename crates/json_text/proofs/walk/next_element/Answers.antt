-- What follows the value of the element.
use Rattle.std.proofs.Common.{arith}
use Rattle.json_text.specs.Standing.{ValueAt}
use Rattle.json_text.proofs.Walking.{next_by}
use Rattle.json_text.proofs.walk.next_element.Goals as goal

pub returns-clause-of_the_elements_there : goal.returns-clause-of_the_elements_there
returns-clause-of_the_elements_there c = λ v vs p.
    next_by c.args.text.now (ValueAt c.args.text.now) 93 c.args.at v vs (omega arith) (λ e. omega arith) c.behind_value.result
    (λ end place q s l. c.behind_value.ensures.behind end place v q s l) p

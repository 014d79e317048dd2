use Rattle.std.proofs.Common.{sym, ◌∙◌, rules}
use Rattle.table.proofs.TableOrder.{sought_past, sought_there}
use Rattle.table.proofs.order.find.Goals as goal

pub returns-in_err-e : goal.returns-in_err-e
returns-in_err-e c = record { first = λ s. c.from_residual.ensures ∙ sym (sought_past _ _ _ _ (c.place.ensures.those_before s) (search rules)) }

pub returns : goal.returns
returns c = record {
  first = λ s.
      let there = sought_there _ _ _ _ (c.place.ensures.those_before s) (c.place.ensures.those_not_before s) s (search rules) c.in_ok-e.field-0.now (search rules) in
      search (rules, there);
}

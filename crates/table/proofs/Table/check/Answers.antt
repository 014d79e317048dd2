use Rattle.std.proofs.Common.{true, false, sym, refl}
use Rattle.file_system.proofs.StoreChecks.{addition_is}
use Rattle.table.proofs.Table.check.Goals as goal

pub returns-then-not-is_admissible : goal.returns-then-not-is_admissible
returns-then-not-is_admissible c = record {
  first_that_fails = λ s.
      sym (addition_is _ _ _ _ false _ _ _ (sym c.if-not-is_admissible.ensures.within_the_limits) refl refl refl);
}

pub returns-then-not-has_place : goal.returns-then-not-has_place
returns-then-not-has_place c = record {
  first_that_fails = λ s.
      sym (addition_is _ _ _ _ true false _ _ (sym c.if-not-is_admissible.ensures.within_the_limits) (sym (c.if-not-has_place.ensures.in_a_directory s)) refl refl);
}

pub returns-then-not-is_free : goal.returns-then-not-is_free
returns-then-not-is_free c = record {
  first_that_fails = λ s.
      sym (addition_is _ _ _ _ true true false _ (sym c.if-not-is_admissible.ensures.within_the_limits) (sym (c.if-not-has_place.ensures.in_a_directory s)) (sym (c.if-not-is_free.ensures.holds_nothing s)) refl);
}

pub returns-then-not-has_space : goal.returns-then-not-has_space
returns-then-not-has_space c = record {
  first_that_fails = λ s.
      sym (addition_is _ _ _ _ true true true false (sym c.if-not-is_admissible.ensures.within_the_limits) (sym (c.if-not-has_place.ensures.in_a_directory s)) (sym (c.if-not-is_free.ensures.holds_nothing s)) (sym (c.if-not-has_space.ensures.exact_rule s)));
}

pub returns : goal.returns
returns c = record {
  first_that_fails = λ s.
      sym (addition_is _ _ _ _ true true true true (sym c.if-not-is_admissible.ensures.within_the_limits) (sym (c.if-not-has_place.ensures.in_a_directory s)) (sym (c.if-not-is_free.ensures.holds_nothing s)) (sym (c.if-not-has_space.ensures.exact_rule s)));
}

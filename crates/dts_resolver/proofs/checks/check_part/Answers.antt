use Rattle.std.proofs.Common.{sym, arith}
use Rattle.dts_resolver.proofs.CheckOrder.{no_part, first_slash, first_hash, first_other}
use Rattle.dts_resolver.proofs.checks.check_part.Goals as goal

pub returns-in-empty : goal.returns-in-empty
returns-in-empty c = record { first_that_fails = sym (no_part c.args.part.now c.in-empty.len_below) }

pub returns-in-47 : goal.returns-in-47
returns-in-47 c = record { first_that_fails = sym (first_slash c.args.part.now c.in-47.len_at_least (omega arith) (sym c.if-not-is_normal.ensures.by_components)) }

pub returns-in-35 : goal.returns-in-35
returns-in-35 c = record { first_that_fails = sym (first_hash c.args.part.now c.in-35.len_at_least (omega arith)) }

pub returns-in_default : goal.returns-in_default
returns-in_default c = record { first_that_fails = sym (first_other c.args.part.now c.in-47.len_at_least (λ e. sym c.if-not-is_normal.ensures.by_components) (λ e. omega arith)) }

pub returns-in_default-2 : goal.returns-in_default-2
returns-in_default-2 c = record { first_that_fails = sym (first_other c.args.part.now c.in_default.len_at_least (λ e. absurd (omega arith)) (λ e. omega arith)) }

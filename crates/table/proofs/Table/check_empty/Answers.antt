use Rattle.std.proofs.Common.{sym}
use Rattle.std.proofs.lemmas.Bool.{not-true, not-false}
use Rattle.list.specs.Held.{held}
use Rattle.table.proofs.TableChildren.{no_child, some_child}
use Rattle.table.proofs.Table.check_empty.Goals as goal

pub returns-then-is_empty : goal.returns-then-is_empty
returns-then-is_empty c = record { last_check = λ s. no_child (held c.args.self.now.entries) (held c.args.self.now.bytes) c.args.path.now (not-true _ (sym c.if-is_empty.ensures.no_child)) }

pub returns-else-is_empty : goal.returns-else-is_empty
returns-else-is_empty c = record { last_check = λ s. some_child (held c.args.self.now.entries) (held c.args.self.now.bytes) c.args.path.now (not-false _ (sym c.if-is_empty.ensures.no_child)) }

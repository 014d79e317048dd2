use Rattle.std.proofs.Common.{not, ap, rules, tests}
use Rattle.std.proofs.lemmas.Iterator.{YieldsList-from_slice}
use Rattle.std.proofs.lemmas.Iterator.Search.{any_from_yields_List}
use Rattle.list.specs.Held.{held}
use Rattle.table.specs.Parts.{is_child}
use Rattle.table.proofs.Table.is_empty.Goals as goal

pub returns : goal.returns
returns c = record {
  no_child = ap not (any_from_yields_List (λ e. is_child (held c.args.self.now.bytes) c.args.path.now e) _ _ c.any.result c.any.ensures.ran (YieldsList-from_slice (held c.args.self.now.entries) cc) (λ x b q k. search (rules, tests)));
}

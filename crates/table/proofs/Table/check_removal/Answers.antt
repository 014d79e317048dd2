use Rattle.std.proofs.Common.{sym}
use Rattle.table.specs.Table.{table_tree}
use Rattle.table.proofs.TableChildren.{removal_of_directory}
use Rattle.table.proofs.Table.check_removal.Goals as goal

pub returns-in-Directory : goal.returns-in-Directory
returns-in-Directory c = record {
  first_that_fails = λ s. removal_of_directory (table_tree c.args.self.now) c.args.path.now c.check_empty.result (sym c.if-not-is_storable.ensures.storable_path) (sym (c.if-not-has_place.ensures.in_a_directory s)) (c.in-Directory.ensures.follows_the_tree s) (c.check_empty.ensures.last_check s);
}

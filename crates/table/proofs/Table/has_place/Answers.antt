use Rattle.std.proofs.Common.{true, false, sym, refl, ap, ◌∙◌}
use Rattle.file_system.specs.Tree.{is_directory}
use Rattle.table.specs.Table.{table_tree}
use Rattle.file_system.proofs.StoreChecks.{place_is}
use Rattle.table.proofs.Table.has_place.Goals as goal

pub returns-in-None : goal.returns-in-None
returns-in-None c = record { in_a_directory = λ s. sym (place_is (table_tree c.args.self.now) c.args.path.now false _ c.in-None.ensures.without_last_component refl) }

pub returns-in-Some : goal.returns-in-Some
returns-in-Some c =
    let t = table_tree c.args.self.now in
    let found = c.in-Some.ensures.without_last_component in
    record { in_a_directory = λ s. sym (place_is t c.args.path.now true c.is_directory.result found.0 (ap (λ q. is_directory (t q)) (sym found.1) ∙ sym (c.is_directory.ensures.holds_a_directory s))) }

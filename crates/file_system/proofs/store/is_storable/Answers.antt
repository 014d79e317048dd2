use Rattle.std.proofs.Common.{true, false, sym, refl, ◌∙◌}
use Rattle.file_system.proofs.StoreChecks.{storable_is}
use Rattle.file_system.proofs.store.is_storable.Goals as goal

pub returns-then-is_normal : goal.returns-then-is_normal
returns-then-is_normal c = record { storable_path = sym (storable_is _ true _ (sym c.if-is_normal.ensures.by_components) refl) }

pub returns-else-is_normal : goal.returns-else-is_normal
returns-else-is_normal c = record { storable_path = c.if-is_normal.false ∙ sym (storable_is _ false _ (sym c.if-is_normal.ensures.by_components) refl) }

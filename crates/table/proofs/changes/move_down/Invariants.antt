use Rattle.std.proofs.Common.{◌≡◌, ◌++◌, map, take, drop}
use Rattle.list.specs.Held.{held, capacity}
use Rattle.table.specs.Parts.{moved}
use Rattle.table.proofs.changes.move_down.Given as goal

-- the entries so far were moved
abbrev pub invariant-loop-at : goal.invariant-loop-at
invariant-loop-at l =
    (held l.entries ≡ map (moved l.start l.size) (take l.at (held l.fn.entries)) ++ drop l.at (held l.fn.entries))
    × (l.entries.len ≡ l.fn.entries.len)
    × (capacity l.entries ≡ capacity l.fn.entries)
    × (l.entries.items.ghost_name ≡ l.fn.entries.items.ghost_name)

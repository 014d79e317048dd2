use Rattle.std.proofs.Common.{◌≡◌, ◌≤◌, map, take, drop}
use Rattle.memo.specs.Memo.{item_of, without}
use Rattle.memo.proofs.record.keep_others.Given as goal

abbrev pub invariant-loop-i : goal.invariant-loop-i
invariant-loop-i l =
    (l.count ≤ l.i)
    × (map item_of (take l.count l.records) ≡ without l.path (map item_of (take l.i l.initial.records)))
    × (drop l.i l.records ≡ drop l.i l.initial.records)

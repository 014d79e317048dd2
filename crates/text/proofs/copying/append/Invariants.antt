-- What was added and what is left make the text.
use Rattle.std.proofs.Common.{◌≡◌, ◌++◌, List, ℕ}
use Rattle.text.proofs.Appending.{Appended}
use Rattle.text.proofs.copying.append.Given as goal

abbrev pub invariant-loop-byte : goal.invariant-loop-byte
invariant-loop-byte g l =
    ((bytes : List ℕ) × Appended bytes l.initial.to l.to × (bytes ++ g.B.Bytes.to_come l.rest ≡ g.B.Bytes.to_come l.initial.rest))
    × (l.to.items.ghost_name ≡ l.initial.to.items.ghost_name)

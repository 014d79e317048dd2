-- The exact rule of space, by the room that is left.
use Rattle.std.proofs.Common.{◌≡◌, ℕ, ◌+◌, ◌-◌, ◌<◌, ◌≤◌, true, ◌&&◌, ltb, leb, length, sym, ap, ◌∙◌, arith}
use Rattle.list.specs.Held.{held, capacity}
use Rattle.list.proofs.Held.{held_count, room_for_one, room_for_more}
use Rattle.table.specs.declared.Table as declared
use Rattle.file_system.specs.Tree.{Path}
use Rattle.table.specs.Table.{total, space_of, table_space}
use Rattle.table.specs.Sound.{table_sound}
use Rattle.std.proofs.lemmas.Bool.{and_parts, ltb-true, leb-true}

-- the rule by the room that is left in both lists
pub by_room : (t : declared.Table) (p : Path) (size : ℕ) → table_sound t → table_space t p size ≡ (ltb 0 (capacity t.entries - t.entries.len) && leb (length p + size) (capacity t.bytes - t.bytes.len))
unfolding space_of
by_room t p size s =
    let entries = held_count t.entries s.entries in
    let bytes = held_count t.bytes s.room in
    let one = room_for_one (capacity t.entries) t.entries.len in
    let rest = room_for_more (capacity t.bytes) t.bytes.len (length p + size) s.room in
    ap (λ n. ltb n (capacity t.entries) && leb (total (held t.entries) + (length p + size)) (capacity t.bytes)) entries
    ∙ ap (λ n. ltb t.entries.len (capacity t.entries) && leb (n + (length p + size)) (capacity t.bytes)) (s.exact ∙ bytes)
    ∙ sym (ap (λ b. b && leb (length p + size) (capacity t.bytes - t.bytes.len)) one ∙ ap (λ b. ltb t.entries.len (capacity t.entries) && b) rest)

pub has_room : (t : declared.Table) (p : Path) (size : ℕ) → table_sound t → table_space t p size ≡ true → (t.entries.len < capacity t.entries) × (t.bytes.len + (length p + size) ≤ capacity t.bytes)
has_room t p size s yes-room =
    let left = capacity t.entries - t.entries.len in
    let rest = capacity t.bytes - t.bytes.len in
    let parts = and_parts (ltb 0 left) (leb (length p + size) rest) (sym (by_room t p size s) ∙ yes-room) in
    (omega (arith, ltb-true 0 left parts.0), omega (arith, leb-true (length p + size) rest parts.1, s.room))

-- What a change takes of the lent memory, or gives back: so the rule of space is exact from one change to the next.
use base.Fml.{GName}
use Rattle.std.specs.Prelude.{◌≡◌, ℕ, ◌+◌, List, length, Ok, Err, Result}
use Rattle.list.specs.Held.{held, capacity}
use Rattle.file_system.specs.declared.store.Refusal.{Refusal}
use Rattle.file_system.specs.Tree.{Node, nothing, directory, file}
use Rattle.table.specs.declared.entry.Entry.{Entry}
use Rattle.table.specs.declared.Table.{Table}
use Rattle.table.specs.Table.{total}

-- how many bytes of content a node has
abbrev pub content_size : Node → ℕ
content_size nothing = 0
content_size directory = 0
content_size (file content) = length content

-- the two slices as they are, and the name of each
abbrev pub entry_memory : Table → List Entry
entry_memory t = t.entries.items.now

abbrev pub byte_memory : Table → List ℕ
byte_memory t = t.bytes.items.now

abbrev pub entry_slice : Table → GName
entry_slice t = t.entries.items.ghost_name

abbrev pub byte_slice : Table → GName
byte_slice t = t.bytes.items.ghost_name

-- A change keeps both slices, with their lengths.
pub record SameSlices (before after : Table) : Type 0 where
  pub entries : entry_slice after ≡ entry_slice before
  pub bytes : byte_slice after ≡ byte_slice before
  pub entries_capacity : capacity after.entries ≡ capacity before.entries
  pub bytes_capacity : capacity after.bytes ≡ capacity before.bytes

-- An accepted addition takes one entry and so many bytes,
pub record Taken (before after : Table) (bytes : ℕ) : Type 0 where
  pub one_entry : length (held after.entries) ≡ length (held before.entries) + 1
  pub its_bytes : total (held after.entries) ≡ total (held before.entries) + bytes

-- ... and a refused one takes nothing.
abbrev pub Takes : Result (Unit {0}) Refusal → ℕ → Table → Table → Type 0
Takes (Ok _) bytes before after = Taken before after bytes
Takes (Err _) bytes before after = after ≡ before

-- An accepted removal gives one entry and so many bytes back,
pub record GivenBack (before after : Table) (bytes : ℕ) : Type 0 where
  pub one_entry : length (held after.entries) + 1 ≡ length (held before.entries)
  pub its_bytes : total (held after.entries) + bytes ≡ total (held before.entries)

-- ... and a refused one gives nothing back.
abbrev pub GivesBack : Result (Unit {0}) Refusal → ℕ → Table → Table → Type 0
GivesBack (Ok _) bytes before after = GivenBack before after bytes
GivesBack (Err _) bytes before after = after ≡ before

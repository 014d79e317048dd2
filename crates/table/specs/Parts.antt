-- What the parts of a change come to. Only functions that no caller sees cite these.
use Rattle.std.specs.Prelude.{◌≡◌, ℕ, ◌+◌, ◌-◌, Bool, true, false, cond, ◌&&◌, List, [], ◌∷◌, ◌++◌, length, map, take, drop, Some, None, Ok, Err, Option, Result, nat_lt}
use Rattle.std.specs.List.{AllByRecursion}
use Rattle.std.specs.Option.{option_map}
use Rattle.std.specs.Str.{bytes_eq}
use Rattle.path.specs.Path.{has_parent, parent_of}
use Rattle.list.specs.Held.{held, Within}
use Rattle.file_system.specs.declared.store.Refusal.{Refusal}
use Rattle.file_system.specs.declared.store.Refusal.TheVariants.{NotAdmissible, NoParent, Conflict, NoSpace}
use Rattle.file_system.specs.Tree.{Path, Node, nothing, directory, file, Tree}
use Rattle.file_system.specs.Store.{Removable, NotRemovable}
use Rattle.table.specs.declared.entry.Entry.{Entry}
use Rattle.table.specs.declared.node.Node as held_node
use Rattle.table.specs.declared.node.Node.TheVariants.{Nothing, Directory, File}
use Rattle.table.specs.declared.Table.{Table}
use Rattle.table.specs.Table.{path_of, size_of}
use Rattle.table.specs.Sound.{before}

-- the node that a path holds, as it is handed on in code
abbrev pub meant : held_node.Node → Node
meant Nothing = nothing
meant Directory = directory
meant (File content) = file content.now

-- the bytes of a content: none for a directory
abbrev pub bytes_of : Option (List ℕ) → List ℕ
bytes_of None = []
bytes_of (Some content) = content

-- a file with a content, or a directory where there is none
abbrev pub node_with : Option (List ℕ) → Node
node_with None = directory
node_with (Some content) = file content

-- the entry for a path and a content that are put behind the bytes held
abbrev pub entry_for : List ℕ → Path → Option (List ℕ) → Entry
entry_for bytes p content = record { start = length bytes; path = length p; content = option_map length content }

-- whether its path comes before p, the same answer for each of the entries
abbrev pub AllBefore : List ℕ → Path → Bool → List Entry → Type 0
AllBefore bytes p b es = AllByRecursion (λ e. before (path_of bytes e) p ≡ b) es

-- One entry more, between those whose paths come before p and the others, and its bytes behind those held.
pub record Inserted (before after : Table) (p : Path) (e : Entry) (more : List ℕ) : Type 0 where
  pub at : ℕ
  pub entries : held after.entries ≡ take at (held before.entries) ++ e ∷ drop at (held before.entries)
  pub bytes : held after.bytes ≡ held before.bytes ++ more
  pub those_before : AllBefore (held before.bytes) p true (take at (held before.entries))
  pub those_not_before : AllBefore (held before.bytes) p false (drop at (held before.entries))
  pub entries_within : Within after.entries
  pub bytes_within : Within after.bytes

-- an entry whose bytes stand behind a gap moves down by its size
abbrev pub moved : ℕ → ℕ → Entry → Entry
moved start size e = record { start = cond (nat_lt start e.start) (e.start - size) e.start; path = e.path; content = e.content }

-- the bytes without those of a gap
abbrev pub closed : ℕ → ℕ → List ℕ → List ℕ
closed start size bytes = take start bytes ++ drop (start + size) bytes

-- One entry less, the one with the path p, and its bytes given back.
pub record Removed (before after : Table) (p : Path) : Type 0 where
  pub at : ℕ
  pub entry : Entry
  pub there : held before.entries ≡ take at (held before.entries) ++ entry ∷ drop (at + 1) (held before.entries)
  pub path : path_of (held before.bytes) entry ≡ p
  pub those_before : AllBefore (held before.bytes) p true (take at (held before.entries))
  pub entries : held after.entries ≡ map (moved entry.start (size_of entry)) (take at (held before.entries) ++ drop (at + 1) (held before.entries))
  pub bytes : held after.bytes ≡ closed entry.start (size_of entry) (held before.bytes)
  pub entries_within : Within after.entries
  pub bytes_within : Within after.bytes

-- whether an entry stands directly in a directory
abbrev pub is_child : List ℕ → Path → Entry → Bool
is_child bytes p e = has_parent (path_of bytes e) && bytes_eq (parent_of (path_of bytes e)) p

-- the last check of the removal of a directory
abbrev pub LastCheck : Tree → Path → Result (Unit {0}) Refusal → Type 0
LastCheck t p (Ok _) = Removable t p directory
LastCheck t p (Err Conflict) = NotRemovable t p directory
LastCheck t p (Err NotAdmissible) = ⊥
LastCheck t p (Err NoParent) = ⊥
LastCheck t p (Err NoSpace) = ⊥

-- What a table means: its entries by the bytes that they name.
use Rattle.std.specs.Prelude.{ℕ, ◌+◌, Bool, cond, ◌&&◌, List, [], ◌∷◌, length, take, drop, Some, None, Option, nat_le, nat_lt}
use Rattle.std.specs.Str.{bytes_eq}
use Rattle.list.specs.Held.{held, capacity}
use Rattle.file_system.specs.Tree.{Path, Node, nothing, directory, file, Tree}
use Rattle.table.specs.declared.entry.Entry.{Entry}
use Rattle.table.specs.declared.Table.{Table}

-- the path of an entry, among the bytes that the table holds
abbrev pub path_of : List ℕ → Entry → Path
path_of bytes e = take e.path (drop e.start bytes)

-- how many bytes of content there are: none for a directory
abbrev pub length_of : Option ℕ → ℕ
length_of None = 0
length_of (Some n) = n

-- a directory, or a file with the first bytes of what follows its path
abbrev pub node_from : List ℕ → Option ℕ → Node
node_from rest None = directory
node_from rest (Some n) = file (take n rest)

-- what an entry stands for; a file's content follows its path
abbrev pub node_of : List ℕ → Entry → Node
node_of bytes e = node_from (drop e.path (drop e.start bytes)) e.content

-- how many bytes an entry takes, and how many several take
abbrev pub size_of : Entry → ℕ
size_of e = e.path + length_of e.content

abbrev pub total : List Entry → ℕ
total [] = 0
total (e ∷ es) = size_of e + total es

-- the first entry with a path
unfoldable pub sought : List ℕ → List Entry → Path → Option Entry
sought bytes [] p = None
sought bytes (e ∷ es) p = cond (bytes_eq (path_of bytes e) p) (Some e) (sought bytes es p)

abbrev pub node_at : List ℕ → Option Entry → Node
node_at bytes None = nothing
node_at bytes (Some e) = node_of bytes e

-- `/` is a directory that takes no entry
unfoldable pub tree_of : List Entry → List ℕ → Tree
tree_of es bytes p = cond (bytes_eq p (47 ∷ [])) directory (node_at bytes (sought bytes es p))

-- fewer entries than there is room for, and all paths and contents, the new one included, within the bytes
unfoldable pub space_of : ℕ → ℕ → List Entry → Path → ℕ → Bool
space_of n b es p size = nat_lt (length es) n && nat_le (total es + (length p + size)) b

abbrev pub table_tree : Table → Tree
table_tree t = tree_of (held t.entries) (held t.bytes)

abbrev pub table_space : Table → Path → ℕ → Bool
table_space t = space_of (capacity t.entries) (capacity t.bytes) (held t.entries)

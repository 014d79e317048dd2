-- A store's meaning: what each path holds.
use Rattle.std.specs.Prelude.{◌≡◌, ℕ, Bool, true, false, ◌&&◌, List, length, ◌≢◌, nat_le}
use Rattle.path.specs.Path.{normal}
use Rattle.file_system.specs.declared.store.Kind.{Kind}
use Rattle.file_system.specs.declared.store.Kind.TheVariants.{Nothing, Directory, File}

-- a path is its bytes
abbrev pub Path : Type 0
Path = List ℕ

pub data Node : Type 0 where
  nothing : Node
  directory : Node
  file : List ℕ → Node

abbrev pub Tree : Type 0
Tree = Path → Node

abbrev pub kind_of : Node → Kind
kind_of nothing = Nothing
kind_of directory = Directory
kind_of (file b) = File

abbrev pub is_directory : Node → Bool
is_directory nothing = false
is_directory directory = true
is_directory (file b) = false

abbrev pub is_nothing : Node → Bool
is_nothing nothing = true
is_nothing directory = false
is_nothing (file b) = false

-- a path that a store can hold: normal, and at most 1,024 bytes long
unfoldable pub storable : Path → Bool
storable p = normal p && nat_le (length p) 1024

-- one path is made as asked, and no other is altered
pub record Changed (before after : Tree) (p : Path) (node : Node) : Type 0 where
  pub here : after p ≡ node
  pub elsewhere : (q : Path) → (q ≢ p) → after q ≡ before q

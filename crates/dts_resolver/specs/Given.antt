-- What a lookup is given, besides a store.
use Rattle.std.specs.Prelude.{ℕ, List}
use Rattle.file_system.specs.Tree.{Path}
use Rattle.search.specs.Search.{Limits}

-- Two texts, a mask, and the lengths of the four lent pieces.
pub record Given : Type 0 where
  pub containing : Path
  pub specifier : List ℕ
  pub mask : ℕ
  pub path_size : ℕ
  pub work_size : ℕ
  pub limits : Limits

-- When a table is sound: its entries stand in path order, name bytes that are held and are theirs alone, and there are no
-- other bytes.
use Rattle.std.specs.Prelude.{◌≡◌, ℕ, ◌+◌, ◌≤◌, ◌⊎◌, Bool, true, false, cond, List, [], ◌∷◌, length, nat_eq, nat_lt}
use Rattle.std.specs.List.{AllByRecursion}
use Rattle.list.specs.Held.{held, Within}
use Rattle.file_system.specs.Tree.{Path, storable}
use Rattle.table.specs.declared.entry.Entry.{Entry}
use Rattle.table.specs.declared.Table.{Table}
use Rattle.table.specs.Table.{path_of, size_of, total}

-- Byte by byte: a path comes before another if it has the smaller byte where they first differ, or if it ends where the
-- other goes on.
unfoldable pub before : Path → Path → Bool
before [] [] = false
before [] (y ∷ ys) = true
before (x ∷ xs) [] = false
before (x ∷ xs) (y ∷ ys) = cond (nat_eq x y) (before xs ys) (nat_lt x y)

-- p comes before the path of each of the entries
abbrev pub AllAfter : List ℕ → Path → List Entry → Type 0
AllAfter bytes p es = AllByRecursion (λ e. before p (path_of bytes e) ≡ true) es

-- The entries stand in the order of their paths, no path twice.
abbrev pub Sorted : List ℕ → List Entry → Type 0
Sorted bytes [] = Unit {0}
Sorted bytes (e ∷ es) = AllAfter bytes (path_of bytes e) es × Sorted bytes es

-- Each entry lies within the bytes that are held, and its path is one that a store can hold.
abbrev pub Placed : List ℕ → List Entry → Type 0
Placed bytes [] = Unit {0}
Placed bytes (e ∷ es) = (e.start + size_of e ≤ length bytes) × (storable (path_of bytes e) ≡ true) × Placed bytes es

-- Two entries share no bytes.
abbrev pub Apart : Entry → Entry → Type 0
Apart e f = (e.start + size_of e ≤ f.start) ⊎ (f.start + size_of f ≤ e.start)

abbrev pub ApartFrom : Entry → List Entry → Type 0
ApartFrom e [] = Unit {0}
ApartFrom e (f ∷ es) = Apart e f × ApartFrom e es

-- No two of the entries share bytes.
abbrev pub AllApart : List Entry → Type 0
AllApart [] = Unit {0}
AllApart (e ∷ es) = ApartFrom e es × AllApart es

pub record Sound (entries_within : Type 0) (bytes_within : Type 0) (es : List Entry) (bytes : List ℕ) : Type 0 where
  pub entries : entries_within
  pub room : bytes_within
  pub placed : Placed bytes es
  pub sorted : Sorted bytes es
  pub exact : total es ≡ length bytes
  pub apart : AllApart es

abbrev pub table_sound : Table → Type 0
table_sound t = Sound (Within t.entries) (Within t.bytes) (held t.entries) (held t.bytes)

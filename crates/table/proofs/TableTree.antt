-- The first entry with a path, and what a tree holds there.
use Rattle.std.proofs.Common.{◌≡◌, ℕ, Bool, true, false, cond, List, [], ◌∷◌, Some, None, refl, ap}
use Rattle.std.specs.Str.{bytes_eq}
use Rattle.table.specs.declared.entry.Entry.{Entry}
use Rattle.file_system.specs.Tree.{Path, directory}
use Rattle.table.specs.Table.{path_of, node_at, sought, tree_of}

pub sought_none : (bytes : List ℕ) (p : Path) → sought bytes [] p ≡ None
unfolding sought
sought_none bytes p = refl

pub sought_one : (bytes : List ℕ) (e : Entry) (es : List Entry) (p : Path) (r : Bool) → bytes_eq (path_of bytes e) p ≡ r → sought bytes (e ∷ es) p ≡ cond r (Some e) (sought bytes es p)
unfolding sought
sought_one bytes e es p r h = ap (λ b. cond b (Some e) (sought bytes es p)) h

pub tree_root : (es : List Entry) (bytes : List ℕ) (p : Path) → bytes_eq p (47 ∷ []) ≡ true → tree_of es bytes p ≡ directory
unfolding tree_of
tree_root es bytes p h = ap (λ b. cond b directory (node_at bytes (sought bytes es p))) h

pub tree_entry : (es : List Entry) (bytes : List ℕ) (p : Path) → bytes_eq p (47 ∷ []) ≡ false → tree_of es bytes p ≡ node_at bytes (sought bytes es p)
unfolding tree_of
tree_entry es bytes p h = ap (λ b. cond b directory (node_at bytes (sought bytes es p))) h

-- The proof of the trait's law for tables: a path that no store can hold is nothing. It stands here since a proof that an
-- `impl` names has to.
use Rattle.std.specs.Prelude.{◌≡◌, ℕ, true, false, cond, List, [], ◌∷◌, Some, None}
use Rattle.std.specs.Str.{bytes_eq}
use Rattle.std.proofs.Common.{sym, refl, ap, ◌∙◌, inl, inr}
use Rattle.std.proofs.lemmas.Bool.{cases_Bool, both_ways}
use Rattle.std.proofs.lemmas.Slice.Eq.{bytes_eq-Decides}
use Rattle.path.specs.Path.{normal, every, components}
use Rattle.list.specs.Held.{held}
use Rattle.file_system.specs.Tree.{Path, nothing, directory, storable}
use Rattle.table.specs.declared.entry.Entry.{Entry}
use Rattle.table.specs.declared.Table.{Table}
use Rattle.table.specs.Table.{path_of, sought, node_at, tree_of, table_tree}
use Rattle.table.specs.Sound.{Placed, table_sound}

none_sought : (bytes : List ℕ) (es : List Entry) (p : Path) → Placed bytes es → storable p ≡ false → sought bytes es p ≡ None
unfolding sought
none_sought bytes [] p h no_store = refl
none_sought bytes (e ∷ es) p h no_store = elim (cases_Bool (bytes_eq (path_of bytes e) p)) [
  | inl same ↦ absurd (both_ways (storable p) no_store (ap storable (sym ((bytes_eq-Decides (path_of bytes e) p).0 same)) ∙ h.1))
  | inr other ↦ ap (λ b. cond b (Some e) (sought bytes es p)) other ∙ none_sought bytes es p h.2 no_store
]

root_is_storable : storable (47 ∷ []) ≡ true
unfolding storable normal every components
root_is_storable = refl

-- A path that no store can hold is nothing in the tree of entries that are placed.
pub only_storable : (es : List Entry) (bytes : List ℕ) → Placed bytes es → (p : Path) → storable p ≡ false → tree_of es bytes p ≡ nothing
unfolding tree_of
only_storable es bytes placed p no_store = elim (cases_Bool (bytes_eq p (47 ∷ []))) [
  | inl root ↦ absurd (both_ways (storable p) no_store (ap storable ((bytes_eq-Decides p (47 ∷ [])).0 root) ∙ root_is_storable))
  | inr other ↦ ap (λ b. cond b directory (node_at bytes (sought bytes es p))) other ∙ ap (node_at bytes) (none_sought bytes es p placed no_store)
]

pub holds_only_storable : (t : Table) → table_sound t → (p : Path) → storable p ≡ false → table_tree t p ≡ nothing
holds_only_storable t s = only_storable (held t.entries) (held t.bytes) s.placed

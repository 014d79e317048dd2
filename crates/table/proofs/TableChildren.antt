-- What stands directly in a directory of a table.
use Rattle.std.proofs.Common.{◌≡◌, ℕ, Bool, true, false, ◌&&◌, ◌||◌, List, [], ◌∷◌, is_some, Some, None, Ok, Err, Option, Result, sym, refl, ap, ◌∙◌, subst, inl, inr}
use Rattle.std.specs.List.{list_any}
use Rattle.std.specs.Str.{bytes_eq}
use Rattle.std.proofs.lemmas.Slice.Eq.{bytes_eq-Decides}
use Rattle.std.proofs.lemmas.Bool.{cases_Bool, both_ways, and_parts}
use Rattle.path.specs.Path.{has_parent, parent_of}
use Rattle.file_system.specs.declared.store.Refusal.{Refusal}
use Rattle.file_system.specs.declared.store.Refusal.TheVariants.{NotAdmissible, NoParent, Conflict, NoSpace}
use Rattle.table.specs.declared.entry.Entry.{Entry}
use Rattle.file_system.specs.Tree.{Path, Node, directory, Tree, is_nothing, storable}
use Rattle.file_system.specs.Store.{has_place, Removable, NotRemovable, Removal}
use Rattle.table.specs.Table.{path_of, node_from, node_at, sought, tree_of}
use Rattle.table.specs.Parts.{is_child, LastCheck}
use Rattle.file_system.proofs.StoreChecks.{not_the_root}
use Rattle.table.proofs.TableTree.{sought_one, sought_none, tree_entry}

module _ (bs : List ℕ) (p : Path) where
  child : Entry → Bool
  child e = is_child bs p e

  any_one : (e : Entry) (es : List Entry) (b : Bool) → is_child bs p e ≡ b → list_any (λ x. is_child bs p x) (e ∷ es) ≡ (b || list_any (λ x. is_child bs p x) es)
  any_one e es b h = ap (λ c. c || list_any (λ x. is_child bs p x) es) h

  -- a path in the directory is nowhere among entries that do not stand in it
  none_there : (es : List Entry) (q : Path) → list_any (λ x. is_child bs p x) es ≡ false → has_parent q ≡ true → parent_of q ≡ p → sought bs es q ≡ None
  none_there [] q h parent above = sought_none bs q
  none_there (e ∷ es) q h parent above = elim (cases_Bool (bytes_eq (path_of bs e) q)) [
    | inl same ↦
        let path = (bytes_eq-Decides (path_of bs e) q).0 same in
        let stands : is_child bs p e ≡ true =
        ap (λ x. has_parent x && bytes_eq (parent_of x) p) path ∙ ap (λ b. b && bytes_eq (parent_of q) p) parent ∙ (bytes_eq-Decides (parent_of q) p).1 above in
        absurd (both_ways (list_any (λ x. is_child bs p x) (e ∷ es)) h (any_one e es true stands))
    | inr other ↦ sought_one bs e es q false other ∙ elim (cases_Bool (is_child bs p e)) [
      | inl stands ↦ absurd (both_ways (list_any (λ x. is_child bs p x) (e ∷ es)) h (any_one e es true stands))
      | inr not ↦ none_there es q (sym (any_one e es false not) ∙ h) parent above
    ]
  ]

  -- an entry that stands in it is found at its path
  some_there : (es : List Entry) → list_any (λ x. is_child bs p x) es ≡ true → (q : Path) × ((has_parent q ≡ true) × (parent_of q ≡ p) × ((x : Entry) × (sought bs es q ≡ Some x)))
  some_there [] h = absurd (both_ways false refl h)
  some_there (e ∷ es) h = elim (cases_Bool (is_child bs p e)) [
    | inl stands ↦
        let parts = and_parts (has_parent (path_of bs e)) (bytes_eq (parent_of (path_of bs e)) p) stands in
        (path_of bs e, (parts.0, (bytes_eq-Decides (parent_of (path_of bs e)) p).0 parts.1, (e, sought_one bs e es (path_of bs e) true ((bytes_eq-Decides (path_of bs e) (path_of bs e)).1 refl))))
    | inr not ↦
        let rest = some_there es (sym (any_one e es false not) ∙ h) in
        elim (cases_Bool (bytes_eq (path_of bs e) rest.0)) [
          | inl same ↦ (rest.0, (rest.1.0, rest.1.1, (e, sought_one bs e es rest.0 true same)))
          | inr other ↦ (rest.0, (rest.1.0, rest.1.1, (rest.1.2.0, sought_one bs e es rest.0 false other ∙ rest.1.2.1)))
        ]
  ]

something : (rest : List ℕ) (c : Option ℕ) → is_nothing (node_from rest c) ≡ false
something rest None = refl
something rest (Some n) = refl

pub no_child : (es : List Entry) (bs : List ℕ) (p : Path) → list_any (λ x. is_child bs p x) es ≡ false → Removable (tree_of es bs) p directory
no_child es bs p h = λ q parent above. tree_entry es bs q (not_the_root q parent) ∙ ap (node_at bs) (none_there bs p es q h parent above)

pub some_child : (es : List Entry) (bs : List ℕ) (p : Path) → list_any (λ x. is_child bs p x) es ≡ true → NotRemovable (tree_of es bs) p directory
some_child es bs p h =
    let c = some_there bs p es h in (
      c.0,
      (
        c.1.0,
        c.1.1,
        λ e. both_ways (is_nothing (tree_of es bs c.0)) (ap is_nothing (tree_entry es bs c.0 (not_the_root c.0 c.1.0) ∙ ap (node_at bs) c.1.2.1) ∙ something (_) c.1.2.0.content) (ap is_nothing e),
      ),
    )

-- the whole answer of a removal that comes to its last check
pub removal_of_directory : (t : Tree) (p : Path) (r : Result (Unit {0}) Refusal) → storable p ≡ true → has_place t p ≡ true → directory ≡ t p → LastCheck t p r → Removal t p r
removal_of_directory t p (Ok u) can place there last = (can, place, subst (λ (n : Node). Removable t p n) there last)
removal_of_directory t p (Err NotAdmissible) can place there last = absurd last
removal_of_directory t p (Err NoParent) can place there last = absurd last
removal_of_directory t p (Err Conflict) can place there last = (can, place, subst (λ (n : Node). NotRemovable t p n) there last)
removal_of_directory t p (Err NoSpace) can place there last = absurd last

-- a path that a removal may take has an entry
pub entry_there : (t : Tree) (p : Path) (n : Node) (bs : List ℕ) (o : Option Entry) → n ≡ node_at bs o → Removable t p n → is_some o ≡ true
entry_there t p n bs None e h = absurd (subst (λ (m : Node). Removable t p m) e h)
entry_there t p n bs (Some x) e h = refl

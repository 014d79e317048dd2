-- The order of paths, and what it says of entries that stand in it.
use Rattle.std.proofs.Common.{◌≡◌, ℕ, ◌+◌, ◌<◌, ◌≤◌, zero, suc, Bool, true, false, cond, List, [], ◌∷◌, ◌++◌, length, take, drop, Some, None, sym, refl, ap, ◌∙◌, subst, inl, inr, arith}
use Rattle.std.specs.List.{slice_index_or}
use Rattle.std.specs.List.Sorted.{IsPartitionedBy, IsPartitionPoint}
use Rattle.std.specs.Str.{bytes_eq}
use Rattle.std.specs.Bool.{then_some}
use Rattle.std.specs.Cmp.Lexicographic.{slice_cmp, texts_ties}
use Rattle.std.specs.Ordering.{nat_cmp, is_lt, is_eq, ordering_reverse}
use Rattle.std.specs.declared.cmp.Ordering.{Ordering}
use Rattle.std.specs.declared.cmp.Ordering.TheVariants.{Less, Equal, Greater}
use Rattle.std.proofs.lemmas.Bool.{cases_Bool, both_ways}
use Rattle.std.proofs.lemmas.Bool.Decides.{nat_tests}
use Rattle.std.proofs.lemmas.Cmp.{nat_list_cmp_total, tied_itself, same_from_slice_cmp}
use Rattle.std.proofs.lemmas.List.{get_or-take, get_or-drop, length-take-le, length-drop, take-append-drop, drop_more, at_drop_all}
use Rattle.std.proofs.lemmas.List.Elements.{recursion_from_All}
use Rattle.std.proofs.lemmas.Slice.Eq.{bytes_eq-Decides}
use Rattle.table.specs.declared.entry.Entry.{Entry}
use Rattle.file_system.specs.Tree.{Path}
use Rattle.table.specs.Table.{path_of, sought}
use Rattle.table.specs.Sound.{before, AllAfter, Sorted}
use Rattle.table.specs.Parts.{AllBefore}
use Rattle.table.proofs.TableTree.{sought_none, sought_one}

-- the order is the library's order of lists of bytes
pub before_is : (p q : Path) → is_lt (slice_cmp nat_cmp p q) ≡ before p q
unfolding before
before_is p q = same_from_slice_cmp nat_cmp is_lt before refl (λ _ _. refl) (λ _ _. refl) (λ x y xs ys o h. grind (arith, nat_tests)) p q (slice_cmp nat_cmp p q) refl

less : (o : Ordering) → is_lt o ≡ true → o ≡ Less
less Less h = refl
less Equal h = absurd (both_ways false refl h)
less Greater h = absurd (both_ways false refl h)

turned : (o : Ordering) → is_lt o ≡ false → is_eq o ≡ false → is_lt (ordering_reverse o) ≡ true
turned Less h g = absurd (both_ways true h refl)
turned Equal h g = absurd (both_ways true g refl)
turned Greater h g = refl

pub not_before_itself : (p : Path) → before p p ≡ false
not_before_itself p = sym (before_is p p) ∙ ap is_lt (tied_itself nat_list_cmp_total p)

transitive : (p q r : Path) → before p q ≡ true → before q r ≡ true → before p r ≡ true
transitive p q r a b = sym (before_is p r) ∙ ap is_lt (nat_list_cmp_total.trans p q r (less _ (before_is p q ∙ a)) (less _ (before_is q r ∙ b)))

-- of two paths that differ, one comes before the other
pub comes_after : (p q : Path) → before p q ≡ false → bytes_eq p q ≡ false → before q p ≡ true
comes_after p q a other =
    sym (before_is q p) ∙ ap is_lt (nat_list_cmp_total.antisymm q p)
    ∙ turned (slice_cmp nat_cmp p q) (before_is p q ∙ a) (sym (texts_ties p q) ∙ other)

differs : (q p : Path) → before q p ≡ true → bytes_eq q p ≡ false
differs q p h = elim (cases_Bool (bytes_eq q p)) [
  | inl same ↦ absurd (both_ways (before q p) (ap (λ x. before x p) ((bytes_eq-Decides q p).0 same) ∙ not_before_itself p) h)
  | inr other ↦ other
]

some_or_none : (b : Bool) (e : Entry) → cond b (Some e) None ≡ then_some b e
some_or_none true e = refl
some_or_none false e = refl

module _ (bytes : List ℕ) where
  after_at : (p : Path) (es : List Entry) (i : ℕ) (d : Entry) → AllAfter bytes p es → i < length es → before p (path_of bytes (slice_index_or es i d)) ≡ true
  after_at p [] i d h l = absurd (omega arith)
  after_at p (e ∷ es) zero d h l = h.0
  after_at p (e ∷ es) (suc i) d h l = after_at p es i d h.1 (omega arith)

  -- no entry whose path comes before p stands behind one whose path does not
  pub parted : (p : Path) (es : List Entry) → Sorted bytes es → IsPartitionedBy (λ e. before (path_of bytes e) p) es
  parted p [] s i j d le l h = absurd (omega arith)
  parted p (e ∷ es) s zero zero d le l h = h
  parted p (e ∷ es) s zero (suc j) d le l h = transitive (path_of bytes e) (path_of bytes (slice_index_or es j d)) p (after_at (path_of bytes e) es j d s.0 (omega arith)) h
  parted p (e ∷ es) s (suc i) zero d le l h = absurd (omega arith)
  parted p (e ∷ es) s (suc i) (suc j) d le l h = parted p es s.1 i j d (omega arith) (omega arith) h

  -- the entries on both sides of the place that parts them
  module _ (p : Path) (es : List Entry) (at : ℕ) (inside : at ≤ length es) (point : IsPartitionPoint (λ e. before (path_of bytes e) p ≡ true) (λ e. before (path_of bytes e) p ≡ false) es at) where
    pub all_before : AllBefore bytes p true (take at es)
    all_before = recursion_from_All _ (take at es) (λ k d h.
        let below : k < at = omega (arith, length-take-le at es inside) in
        subst (λ e. before (path_of bytes e) p ≡ true) (sym (get_or-take at es k d below)) (point.0 k d (omega arith) below))

    pub none_before : AllBefore bytes p false (drop at es)
    none_before = recursion_from_All _ (drop at es) (λ k d h.
        subst (λ e. before (path_of bytes e) p ≡ false) (sym (get_or-drop at es k d)) (point.1 (at + k) d (omega arith) (omega (arith, length-drop at es))))

  -- what is sought is not among the entries whose paths come before
  pub sought_behind : (p : Path) (xs ys : List Entry) → AllBefore bytes p true xs → sought bytes (xs ++ ys) p ≡ sought bytes ys p
  sought_behind p [] ys h = refl
  sought_behind p (x ∷ xs) ys h = sought_one bytes x (xs ++ ys) p false (differs (path_of bytes x) p h.0) ∙ sought_behind p xs ys h.1

  -- ... nor behind an entry whose path does not
  pub none_behind : (p q : Path) (es : List Entry) → before q p ≡ false → AllAfter bytes q es → sought bytes es p ≡ None
  none_behind p q [] h a = sought_none bytes p
  none_behind p q (e ∷ es) h a =
      sought_one bytes e es p false (elim (cases_Bool (bytes_eq (path_of bytes e) p)) [
        | inl same ↦ absurd (both_ways (before q p) h (ap (before q) (sym ((bytes_eq-Decides (path_of bytes e) p).0 same)) ∙ a.0))
        | inr other ↦ other
      ])
      ∙ none_behind p q es h a.1

  sorted_drop : (n : ℕ) (es : List Entry) → Sorted bytes es → Sorted bytes (drop n es)
  sorted_drop zero es s = s
  sorted_drop (suc n) [] s = s
  sorted_drop (suc n) (e ∷ es) s = sorted_drop n es s.1

  -- What is sought can only stand at the place that parts the entries.
  module _ (p : Path) (es : List Entry) (at : ℕ) (those_before : AllBefore bytes p true (take at es)) where
    from_there : sought bytes es p ≡ sought bytes (drop at es) p
    from_there = ap (λ xs. sought bytes xs p) (sym (take-append-drop at es)) ∙ sought_behind p (take at es) (drop at es) those_before

    pub sought_past : length es ≤ at → sought bytes es p ≡ None
    sought_past h = from_there ∙ at_drop_all (λ xs. sought bytes xs p) es at h ∙ sought_none bytes p

    pub sought_there : AllBefore bytes p false (drop at es) → Sorted bytes es → at < length es → (e : Entry) → e ≡ slice_index_or es at e → sought bytes es p ≡ then_some (bytes_eq (path_of bytes e) p) e
    sought_there those_not_before s inside e here =
        let split : drop at es ≡ e ∷ drop (at + 1) es = drop_more es at e inside ∙ ap (λ x. x ∷ drop (at + 1) es) (sym here) in
        let rest : Sorted bytes (e ∷ drop (at + 1) es) = subst (Sorted bytes) split (sorted_drop at es s) in
        let first : AllBefore bytes p false (e ∷ drop (at + 1) es) = subst (AllBefore bytes p false) split those_not_before in
        from_there ∙ ap (λ xs. sought bytes xs p) split ∙ sought_one bytes e (drop (at + 1) es) p _ refl
        ∙ ap (cond (bytes_eq (path_of bytes e) p) (Some e)) (none_behind p (path_of bytes e) (drop (at + 1) es) first.0 rest.0)
        ∙ some_or_none (bytes_eq (path_of bytes e) p) e

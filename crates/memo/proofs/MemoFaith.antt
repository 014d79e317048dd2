-- Remembered kinds that agree with a tree: after a question, after one more, and after a change.
use Rattle.std.proofs.Common.{◌≡◌, ℕ, zero, suc, ◌-◌, true, false, List, [], ◌∷◌, ◌++◌, length, drop, Some, sym, ap, ◌∙◌, subst, inl, inr, arith}
use Rattle.std.specs.Str.{bytes_eq}
use Rattle.std.proofs.lemmas.Slice.Eq.{bytes_eq-Decides}
use Rattle.std.proofs.lemmas.Bool.{cases_Bool, both_ways}
use Rattle.file_system.specs.declared.store.Kind.{Kind}
use Rattle.file_system.specs.Tree.{Path, Node, Tree, kind_of, storable, Changed}
use Rattle.memo.specs.Memo.{Item, item, recalled, latest, entered, without, Agrees, Faithful}
use Rattle.memo.proofs.MemoRecords.{recalled_none, recalled_one, without_none, without_one}

-- what a recalled kind tells of the tree
pub recalled_agrees : (t : Tree) (xs : List Item) (p : Path) (k : Kind) → Faithful t xs → recalled xs p ≡ Some k → Agrees t (item p k)
recalled_agrees t [] p k h e = let z : ◌≡◌ {A = ℕ} 0 1 = cc (e, recalled_none p) in absurd (omega arith)
recalled_agrees t (x ∷ xs) p k h e = elim (cases_Bool (bytes_eq x.path p)) [
  | inl same ↦
      let path = (bytes_eq-Decides x.path p).0 same in
      let kind : x.kind ≡ k = cc (e, recalled_one x xs p true same) in
      record {
        can_store = ap storable (sym path) ∙ h.0.can_store;
        same_kind = sym kind ∙ h.0.same_kind ∙ ap (λ q. kind_of (t q)) path;
      }
  | inr other ↦ recalled_agrees t xs p k h.1 (sym (recalled_one x xs p false other) ∙ e)
]

pushed_faithful : (t : Tree) (xs : List Item) (x : Item) → Faithful t xs → Agrees t x → Faithful t (xs ++ x ∷ [])
pushed_faithful t [] x h new = (new, tt)
pushed_faithful t (y ∷ xs) x h new = (h.0, pushed_faithful t xs x h.1 new)

rest_faithful : (t : Tree) (n : ℕ) (xs : List Item) → Faithful t xs → Faithful t (drop n xs)
rest_faithful t zero xs h = h
rest_faithful t (suc n) [] h = tt
rest_faithful t (suc n) (x ∷ xs) h = rest_faithful t n xs h.1

pub entered_faithful : (t : Tree) (xs : List Item) (x : Item) → Faithful t xs → Agrees t x → Faithful t (entered xs x)
unfolding entered latest
entered_faithful t xs x h new = rest_faithful t (length (xs ++ x ∷ []) - 64) (xs ++ x ∷ []) (pushed_faithful t xs x h new)

module _ (t t' : Tree) (p : Path) (node : Node) (changed : Changed t t' p node) where
  still_agrees : (x : Item) → bytes_eq x.path p ≡ false → Agrees t x → Agrees t' x
  still_agrees x other a = record {
    can_store = a.can_store;
    same_kind = a.same_kind ∙ ap kind_of (sym (changed.elsewhere x.path (λ e. both_ways (bytes_eq x.path p) other ((bytes_eq-Decides x.path p).1 e))));
  }

  pub others_faithful : (xs : List Item) → Faithful t xs → Faithful t' (without p xs)
  others_faithful [] h = subst (λ (ys : List Item). Faithful t' ys) (sym (without_none p)) tt
  others_faithful (x ∷ xs) h = elim (cases_Bool (bytes_eq x.path p)) [
    | inl same ↦ subst (λ (ys : List Item). Faithful t' ys) (sym (without_one p x xs true same)) (others_faithful xs h.1)
    | inr other ↦ subst (λ (ys : List Item). Faithful t' ys) (sym (without_one p x xs false other)) (still_agrees x other h.0, others_faithful xs h.1)
  ]

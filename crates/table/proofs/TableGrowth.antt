-- A table with one entry more: the new path is as asked, and no other is altered.
use Rattle.std.proofs.Common.{◌≡◌, ℕ, ◌+◌, ◌≤◌, Bool, true, false, cond, List, [], ◌∷◌, ◌++◌, length, take, drop, is_some, Some, None, Option, sym, refl, ap, ◌∙◌, subst, inl, inr, arith}
use denote.Ref.{Bor}
use Rattle.std.specs.Option.{option_map, unwrap_or}
use Rattle.std.specs.Str.{bytes_eq}
use Rattle.std.proofs.lemmas.Slice.Eq.{bytes_eq-Decides}
use Rattle.std.proofs.lemmas.List.{length-append, length-drop, drop-append-le, take-append-le, drop_at, take_at, take_all}
use Rattle.std.proofs.lemmas.Bool.{cases_Bool, both_ways}
use Rattle.table.specs.declared.entry.Entry.{Entry}
use Rattle.file_system.specs.Tree.{Path, Node, nothing, directory, file, is_nothing, storable, Changed}
use Rattle.table.specs.Table.{path_of, length_of, node_from, node_of, size_of, total, sought, node_at, tree_of}
use Rattle.table.specs.Sound.{before, AllAfter, Sorted, Placed}
use Rattle.table.specs.Parts.{AllBefore, bytes_of, node_with, entry_for}
use Rattle.table.proofs.TableOrder.{comes_after, sought_behind}
use Rattle.table.proofs.TableTree.{sought_one, sought_none, tree_root, tree_entry}

some_is_none : (e : Entry) → ◌≡◌ {A = Option Entry} (Some e) None → ⊥
some_is_none e h = both_ways true (ap is_some h) refl

module _ (bs more : List ℕ) where
  rest_kept : (n : ℕ) → n ≤ length bs → drop n (bs ++ more) ≡ drop n bs ++ more
  rest_kept n h = drop-append-le n bs more h

  from_kept : (rest : List ℕ) (content : Option ℕ) → length_of content ≤ length rest → node_from (rest ++ more) content ≡ node_from rest content
  from_kept rest None h = refl
  from_kept rest (Some n) h = ap file (take-append-le n rest more h)

  path_kept : (e : Entry) → e.start + size_of e ≤ length bs → path_of (bs ++ more) e ≡ path_of bs e
  path_kept e h =
      let inside : e.path ≤ length (drop e.start bs) = omega (arith, length-drop e.start bs) in
      ap (take e.path) (rest_kept e.start (omega arith)) ∙ take-append-le e.path (drop e.start bs) more inside

  node_kept : (e : Entry) → e.start + size_of e ≤ length bs → node_of (bs ++ more) e ≡ node_of bs e
  node_kept e h =
      let tail = drop e.start bs in
      let inside : e.path ≤ length tail = omega (arith, length-drop e.start bs) in
      let content : length_of e.content ≤ length (drop e.path tail) = omega (arith, length-drop e.path tail, length-drop e.start bs) in
      ap (λ xs. node_from (drop e.path xs) e.content) (rest_kept e.start (omega arith))
      ∙ ap (λ xs. node_from xs e.content) (drop-append-le e.path tail more inside)
      ∙ from_kept (drop e.path tail) e.content content

  path_same : (e : Entry) (q : Path) (b : Bool) → e.start + size_of e ≤ length bs → bytes_eq (path_of bs e) q ≡ b → bytes_eq (path_of (bs ++ more) e) q ≡ b
  path_same e q b h same = ap (λ p. bytes_eq p q) (path_kept e h) ∙ same

  -- the same entries, with more bytes behind theirs
  kept : (es : List Entry) (q : Path) → Placed bs es → node_at (bs ++ more) (sought (bs ++ more) es q) ≡ node_at bs (sought bs es q)
  kept [] q h = ap (node_at (bs ++ more)) (sought_none (bs ++ more) q) ∙ sym (ap (node_at bs) (sought_none bs q))
  kept (x ∷ es) q h = elim (cases_Bool (bytes_eq (path_of bs x) q)) [
    | inl same ↦
        ap (node_at (bs ++ more)) (sought_one (bs ++ more) x es q true (path_same x q true h.0 same))
        ∙ node_kept x h.0
        ∙ sym (ap (node_at bs) (sought_one bs x es q true same))
    | inr other ↦
        ap (node_at (bs ++ more)) (sought_one (bs ++ more) x es q false (path_same x q false h.0 other))
        ∙ kept es q h.2
        ∙ sym (ap (node_at bs) (sought_one bs x es q false other))
  ]

  -- an entry put among them is passed over by what seeks another path
  passed_over : (xs ys : List Entry) (e : Entry) (q : Path) → bytes_eq (path_of (bs ++ more) e) q ≡ false → sought (bs ++ more) (xs ++ e ∷ ys) q ≡ sought (bs ++ more) (xs ++ ys) q
  passed_over [] ys e q other = sought_one (bs ++ more) e ys q false other
  passed_over (x ∷ xs) ys e q other =
      let first = bytes_eq (path_of (bs ++ more) x) q in
      sought_one (bs ++ more) x (xs ++ e ∷ ys) q first refl ∙ ap (cond first (Some x)) (passed_over xs ys e q other)
      ∙ sym (sought_one (bs ++ more) x (xs ++ ys) q first refl)

  -- ... and found where its path was nowhere before
  found : (xs ys : List Entry) (e : Entry) (q : Path) → Placed bs (xs ++ ys) → sought bs (xs ++ ys) q ≡ None → bytes_eq (path_of (bs ++ more) e) q ≡ true → sought (bs ++ more) (xs ++ e ∷ ys) q ≡ Some e
  found [] ys e q h none same = sought_one (bs ++ more) e ys q true same
  found (x ∷ xs) ys e q h none same = elim (cases_Bool (bytes_eq (path_of bs x) q)) [
    | inl here ↦ absurd (some_is_none x (sym (sought_one bs x (xs ++ ys) q true here) ∙ none))
    | inr other ↦
        sought_one (bs ++ more) x (xs ++ e ∷ ys) q false (path_same x q false h.0 other)
        ∙ found xs ys e q h.2 (sym (sought_one bs x (xs ++ ys) q false other) ∙ none) same
  ]

  placed_kept : (es : List Entry) → Placed bs es → Placed (bs ++ more) es
  placed_kept [] h = tt
  placed_kept (x ∷ es) h = (omega (arith, h.0, length-append bs more), ap storable (path_kept x h.0) ∙ h.1, placed_kept es h.2)

  placed_more : (xs ys : List Entry) (e : Entry) → Placed bs (xs ++ ys) → e.start + size_of e ≤ length (bs ++ more) → storable (path_of (bs ++ more) e) ≡ true → Placed (bs ++ more) (xs ++ e ∷ ys)
  placed_more [] ys e h inside ok = (inside, ok, placed_kept ys h)
  placed_more (x ∷ xs) ys e h inside ok =
      (omega (arith, h.0, length-append bs more), ap storable (path_kept x h.0) ∙ h.1, placed_more xs ys e h.2 inside ok)

  after_kept : (p : Path) (es : List Entry) → Placed bs es → AllAfter bs p es → AllAfter (bs ++ more) p es
  after_kept p [] h a = tt
  after_kept p (x ∷ es) h a = (ap (before p) (path_kept x h.0) ∙ a.0, after_kept p es h.2 a.1)

  -- an entry whose path comes after p, among others that do
  after_with : (p : Path) (xs ys : List Entry) (e : Entry) → Placed bs (xs ++ ys) → AllAfter bs p (xs ++ ys) → before p (path_of (bs ++ more) e) ≡ true → AllAfter (bs ++ more) p (xs ++ e ∷ ys)
  after_with p [] ys e h a new = (new, after_kept p ys h a)
  after_with p (x ∷ xs) ys e h a new = (ap (before p) (path_kept x h.0) ∙ a.0, after_with p xs ys e h.2 a.1 new)

  sorted_kept : (es : List Entry) → Placed bs es → Sorted bs es → Sorted (bs ++ more) es
  sorted_kept [] h s = tt
  sorted_kept (x ∷ es) h s = (subst (λ p. AllAfter (bs ++ more) p es) (sym (path_kept x h.0)) (after_kept (path_of bs x) es h.2 s.0), sorted_kept es h.2 s.1)

  -- an entry between those whose paths come before its path and those whose paths come after it
  sorted_more : (xs ys : List Entry) (e : Entry) (p : Path) → path_of (bs ++ more) e ≡ p → Placed bs (xs ++ ys) → Sorted bs (xs ++ ys) → AllBefore bs p true xs → AllAfter bs p ys → Sorted (bs ++ more) (xs ++ e ∷ ys)
  sorted_more [] ys e p same h s b a = (subst (λ q. AllAfter (bs ++ more) q ys) (sym same) (after_kept p ys h a), sorted_kept ys h s)
  sorted_more (x ∷ xs) ys e p same h s b a = (
    subst (λ q. AllAfter (bs ++ more) q (xs ++ e ∷ ys)) (sym (path_kept x h.0))
        (after_with (path_of bs x) xs ys e h.2 s.0 (ap (before (path_of bs x)) same ∙ b.0)),
    sorted_more xs ys e p same h.2 s.1 b.1 a,
  )

-- a path that is nowhere, and that the paths of entries do not come before, comes before theirs
not_before : (bs : List ℕ) (p : Path) (es : List Entry) → sought bs es p ≡ None → AllBefore bs p false es → AllAfter bs p es
not_before bs p [] none h = tt
not_before bs p (x ∷ es) none h = elim (cases_Bool (bytes_eq (path_of bs x) p)) [
  | inl here ↦ absurd (some_is_none x (sym (sought_one bs x es p true here) ∙ none))
  | inr other ↦ (comes_after (path_of bs x) p h.0 other, not_before bs p es (sym (sought_one bs x es p false other) ∙ none) h.1)
]

total_more : (xs ys : List Entry) (e : Entry) → total (xs ++ e ∷ ys) ≡ total (xs ++ ys) + size_of e
total_more [] ys e = omega arith
total_more (x ∷ xs) ys e = omega (arith, total_more xs ys e)

node_is_something : (rest : List ℕ) (content : Option ℕ) → node_from rest content ≡ nothing → ⊥
node_is_something rest None e = let z : ◌≡◌ {A = ℕ} 0 1 = cc in omega arith
node_is_something rest (Some n) e = let z : ◌≡◌ {A = ℕ} 0 1 = cc in omega arith

none_found : (bs : List ℕ) (o : Option Entry) → node_at bs o ≡ nothing → o ≡ None
none_found bs None e = refl
none_found bs (Some x) e = absurd (node_is_something _ x.content e)

is_nothing_lem : (n : Node) → is_nothing n ≡ true → n ≡ nothing
is_nothing_lem nothing e = refl
is_nothing_lem directory e = absurd (both_ways false refl e)
is_nothing_lem (file b) e = absurd (both_ways false refl e)

-- a path of a store that is not `/` and holds nothing
no_entry_at : (es : List Entry) (bs : List ℕ) (p : Path) → bytes_eq p (47 ∷ []) ≡ false → is_nothing (tree_of es bs p) ≡ true → sought bs es p ≡ None
no_entry_at es bs p other empty = none_found bs (sought bs es p) (sym (tree_entry es bs p other) ∙ is_nothing_lem (tree_of es bs p) empty)

-- the bytes of a content that is given, none for a directory
pub bytes_given : (o : Option (Bor (List ℕ))) {r : Bor (List ℕ)} (d : Bor (List ℕ)) → r ≡ unwrap_or o d → d.now ≡ [] → r.now ≡ bytes_of (option_map (λ c. c.now) o)
bytes_given None d e none = ap (λ x. x.now) e ∙ none
bytes_given (Some c) d e none = ap (λ x. x.now) e

pub lengths_given : (o : Option (Bor (List ℕ))) → option_map (λ c. length c.now) o ≡ option_map length (option_map (λ c. c.now) o)
lengths_given None = refl
lengths_given (Some c) = refl

whole : (content : Option (List ℕ)) → length_of (option_map length content) ≡ length (bytes_of content)
whole None = refl
whole (Some bytes) = refl

new_from : (content : Option (List ℕ)) → node_from (bytes_of content) (option_map length content) ≡ node_with content
new_from None = refl
new_from (Some bytes) = ap file (take_all (length bytes) bytes (omega arith))

-- a new path and its content, in an entry between xs and ys
module _ (xs ys : List Entry) (bs : List ℕ) (p : Path) (content : Option (List ℕ)) where
  abbrev more : List ℕ
  more = p ++ bytes_of content

  abbrev e : Entry
  e = entry_for bs p content

  new_path : path_of (bs ++ more) e ≡ p
  new_path = ap (take (length p)) (drop_at bs more (length bs) refl) ∙ take_at p (bytes_of content) (length p) refl

  new_node : node_of (bs ++ more) e ≡ node_with content
  new_node =
      ap (λ zs. node_from (drop (length p) zs) e.content) (drop_at bs more (length bs) refl)
      ∙ ap (λ zs. node_from zs e.content) (drop_at p (bytes_of content) (length p) refl)
      ∙ new_from content

  differs : (q : Path) → (q ≡ p → ⊥) → bytes_eq (path_of (bs ++ more) e) q ≡ false
  differs q ne = elim (cases_Bool (bytes_eq (path_of (bs ++ more) e) q)) [ inl same ↦ absurd (ne (sym ((bytes_eq-Decides (path_of (bs ++ more) e) q).0 same) ∙ new_path)) | inr other ↦ other ]

  module _ (placed : Placed bs (xs ++ ys)) where
    module _ (not_root : bytes_eq p (47 ∷ []) ≡ false) (empty : is_nothing (tree_of (xs ++ ys) bs p) ≡ true) where
      nowhere : sought bs (xs ++ ys) p ≡ None
      nowhere = no_entry_at (xs ++ ys) bs p not_root empty

      pub changed : Changed (tree_of (xs ++ ys) bs) (tree_of (xs ++ e ∷ ys) (bs ++ more)) p (node_with content)
      changed = record {
        here =
            tree_entry (xs ++ e ∷ ys) (bs ++ more) p not_root
            ∙ ap (node_at (bs ++ more)) (found bs more xs ys e p placed nowhere ((bytes_eq-Decides (path_of (bs ++ more) e) p).1 new_path))
            ∙ new_node;
        elsewhere = λ q ne. elim (cases_Bool (bytes_eq q (47 ∷ []))) [
          | inl root ↦ tree_root (xs ++ e ∷ ys) (bs ++ more) q root ∙ sym (tree_root (xs ++ ys) bs q root)
          | inr other ↦
              tree_entry (xs ++ e ∷ ys) (bs ++ more) q other ∙ ap (node_at (bs ++ more)) (passed_over bs more xs ys e q (differs q ne))
              ∙ kept bs more (xs ++ ys) q placed ∙ sym (tree_entry (xs ++ ys) bs q other)
        ];
      }

      pub still_sorted : Sorted bs (xs ++ ys) → AllBefore bs p true xs → AllBefore bs p false ys → Sorted (bs ++ more) (xs ++ e ∷ ys)
      still_sorted s b a = sorted_more bs more xs ys e p new_path placed s b (not_before bs p ys (sym (sought_behind bs p xs ys b) ∙ nowhere) a)

    pub still_placed : storable p ≡ true → Placed (bs ++ more) (xs ++ e ∷ ys)
    still_placed ok = placed_more bs more xs ys e placed (omega (arith, whole content, length-append bs more, length-append p (bytes_of content))) (ap storable new_path ∙ ok)

  pub still_exact : total (xs ++ ys) ≡ length bs → total (xs ++ e ∷ ys) ≡ length (bs ++ more)
  still_exact exact = omega (arith, exact, total_more xs ys e, whole content, length-append bs more, length-append p (bytes_of content))

-- A table with one entry less, whose bytes are given back: its path holds nothing, and no other is altered.
use Rattle.std.proofs.Common.{◌≡◌, ℕ, ◌+◌, ◌-◌, ◌<◌, ◌≤◌, ◌⊎◌, zero, suc, Bool, true, false, cond, ltb, List, [], ◌∷◌, ◌++◌, length, map, take, drop, set, get_or, Some, None, Option, sym, refl, ap, ◌∙◌, subst, inl, inr, arith}
use Rattle.std.specs.Str.{bytes_eq}
use Rattle.std.proofs.lemmas.Slice.Eq.{bytes_eq-Decides}
use Rattle.std.proofs.lemmas.List.{length-append, length-drop, length-map, length-take-le, drop-append-le, take-append-le, drop_at, take-take, drop-drop, drop-take}
use Rattle.std.proofs.lemmas.Bool.{cases_Bool, ltb-true, ltb-false}
use Rattle.table.specs.declared.entry.Entry.{Entry}
use Rattle.file_system.specs.Tree.{Path, nothing, file, storable, Changed}
use Rattle.table.specs.Table.{path_of, length_of, node_from, node_of, size_of, total, sought, node_at, tree_of}
use Rattle.table.specs.Sound.{before, AllAfter, Sorted, Placed, Apart, ApartFrom, AllApart}
use Rattle.table.specs.Space.{content_size}
use Rattle.table.specs.Parts.{AllBefore, entry_for, moved, closed}
use Rattle.table.proofs.TableOrder.{sought_behind, none_behind, not_before_itself}
use Rattle.table.proofs.TableTree.{sought_one, sought_none, tree_root, tree_entry}

-- an entry behind all bytes shares none with those placed among them
apart_from_end : (bs : List ℕ) (es : List Entry) (e : Entry) → e.start ≡ length bs → Placed bs es → ApartFrom e es
apart_from_end bs [] e h placed = tt
apart_from_end bs (f ∷ es) e h placed = (inr (omega (arith, h, placed.0)), apart_from_end bs es e h placed.2)

apart_with : (bs : List ℕ) (f e : Entry) (xs ys : List Entry) → e.start ≡ length bs → f.start + size_of f ≤ length bs → ApartFrom f (xs ++ ys) → ApartFrom f (xs ++ e ∷ ys)
apart_with bs f e [] ys h placed a = (inl (omega (arith, h, placed)), a)
apart_with bs f e (x ∷ xs) ys h placed a = (a.0, apart_with bs f e xs ys h placed a.1)

apart_more : (bs : List ℕ) (e : Entry) (xs ys : List Entry) → e.start ≡ length bs → Placed bs (xs ++ ys) → AllApart (xs ++ ys) → AllApart (xs ++ e ∷ ys)
apart_more bs e [] ys h placed a = (apart_from_end bs ys e h placed, a)
apart_more bs e (x ∷ xs) ys h placed a = (apart_with bs x e xs ys h placed.0 a.0, apart_more bs e xs ys h placed.2 a.1)

pub still_apart : (xs ys : List Entry) (bs : List ℕ) (p : Path) (content : Option (List ℕ)) → Placed bs (xs ++ ys) → AllApart (xs ++ ys) → AllApart (xs ++ entry_for bs p content ∷ ys)
still_apart xs ys bs p content placed a = apart_more bs (entry_for bs p content) xs ys refl placed a

-- without the entry in the middle
placed_less : (bs : List ℕ) (xs ys : List Entry) (e : Entry) → Placed bs (xs ++ e ∷ ys) → Placed bs (xs ++ ys)
placed_less bs [] ys e h = h.2
placed_less bs (x ∷ xs) ys e h = (h.0, h.1, placed_less bs xs ys e h.2)

pub placed_there : (bs : List ℕ) (xs ys : List Entry) (e : Entry) → Placed bs (xs ++ e ∷ ys) → e.start + size_of e ≤ length bs
placed_there bs [] ys e h = h.0
placed_there bs (x ∷ xs) ys e h = placed_there bs xs ys e h.2

after_less : (bs : List ℕ) (p : Path) (xs ys : List Entry) (e : Entry) → AllAfter bs p (xs ++ e ∷ ys) → AllAfter bs p (xs ++ ys)
after_less bs p [] ys e h = h.1
after_less bs p (x ∷ xs) ys e h = (h.0, after_less bs p xs ys e h.1)

sorted_less : (bs : List ℕ) (xs ys : List Entry) (e : Entry) → Sorted bs (xs ++ e ∷ ys) → Sorted bs (xs ++ ys)
sorted_less bs [] ys e h = h.1
sorted_less bs (x ∷ xs) ys e h = (after_less bs (path_of bs x) xs ys e h.0, sorted_less bs xs ys e h.1)

sorted_there : (bs : List ℕ) (xs ys : List Entry) (e : Entry) → Sorted bs (xs ++ e ∷ ys) → AllAfter bs (path_of bs e) ys
sorted_there bs [] ys e h = h.0
sorted_there bs (x ∷ xs) ys e h = sorted_there bs xs ys e h.1

from_less : (f : Entry) (xs ys : List Entry) (e : Entry) → ApartFrom f (xs ++ e ∷ ys) → ApartFrom f (xs ++ ys)
from_less f [] ys e h = h.1
from_less f (x ∷ xs) ys e h = (h.0, from_less f xs ys e h.1)

apart_less : (xs ys : List Entry) (e : Entry) → AllApart (xs ++ e ∷ ys) → AllApart (xs ++ ys)
apart_less [] ys e h = h.1
apart_less (x ∷ xs) ys e h = (from_less x xs ys e h.0, apart_less xs ys e h.1)

pub total_less : (xs ys : List Entry) (e : Entry) → total (xs ++ e ∷ ys) ≡ size_of e + total (xs ++ ys)
total_less [] ys e = refl
total_less (x ∷ xs) ys e = omega (arith, total_less xs ys e)

-- an entry is clear of a gap of n bytes at s
abbrev Clear : ℕ → ℕ → Entry → Type 0
Clear s n f = (f.start + size_of f ≤ s) ⊎ (s + n ≤ f.start)

abbrev AllClear : ℕ → ℕ → List Entry → Type 0
AllClear s n [] = Unit {0}
AllClear s n (f ∷ es) = Clear s n f × AllClear s n es

clear_from : (e : Entry) (es : List Entry) → ApartFrom e es → AllClear e.start (size_of e) es
clear_from e [] h = tt
clear_from e (f ∷ es) h = (elim h.0 [ inl a ↦ inr a | inr b ↦ inl b ], clear_from e es h.1)

apart_there : (f : Entry) (xs ys : List Entry) (e : Entry) → ApartFrom f (xs ++ e ∷ ys) → Apart f e
apart_there f [] ys e h = h.0
apart_there f (x ∷ xs) ys e h = apart_there f xs ys e h.1

all_clear : (xs ys : List Entry) (e : Entry) → AllApart (xs ++ e ∷ ys) → AllClear e.start (size_of e) (xs ++ ys)
all_clear [] ys e h = clear_from e ys h.0
all_clear (x ∷ xs) ys e h = (apart_there x xs ys e h.0, all_clear xs ys e h.1)

-- a gap of n bytes at s is closed
module _ (bs : List ℕ) (s n : ℕ) (inside : s + n ≤ length bs) where
  abbrev less : List ℕ
  less = closed s n bs

  less_length : length less + n ≡ length bs
  less_length = omega (arith, length-append (take s bs) (drop (s + n) bs), length-take-le s bs (omega (arith, inside)), length-drop (s + n) bs, inside)

  start_if : (f : Entry) (b : Bool) → ltb s f.start ≡ b → (moved s n f).start ≡ cond b (f.start - n) f.start
  start_if f b e = ap (λ x. cond x (f.start - n) f.start) e

  start_before : (f : Entry) → f.start + size_of f ≤ s → (moved s n f).start ≡ f.start
  start_before f h = elim (cases_Bool (ltb s f.start)) [
    | inl behind ↦ absurd (omega (arith, ltb-true s f.start behind, h))
    | inr other ↦ start_if f false other
  ]

  start_after : (f : Entry) → s + n ≤ f.start → (moved s n f).start ≡ f.start - n
  start_after f h = elim (cases_Bool (ltb s f.start)) [
    | inl behind ↦ start_if f true behind
    | inr other ↦ start_if f false other ∙ not_below other
  ]
    where
      not_below : ltb s f.start ≡ false → f.start ≡ f.start - n
      not_below other = omega (arith, ltb-false s f.start other, h)

  -- the bytes of an entry are the same
  same_bytes : (f : Entry) (k : ℕ) → Clear s n f → k ≤ size_of f → f.start + size_of f ≤ length bs → take k (drop (moved s n f).start less) ≡ take k (drop f.start bs)
  same_bytes f k clear part placed = elim clear [
    | inl below ↦
        let short = length-take-le s bs (omega (arith, inside)) in
        let front : f.start ≤ length (take s bs) = omega (arith, short, below) in
        let rest : k ≤ length (drop f.start (take s bs)) = omega (arith, length-drop f.start (take s bs), short, below, part) in
        let sum : f.start + (s - f.start) ≡ s = omega (arith, below) in
        ap (λ i. take k (drop i less)) (start_before f below)
        ∙ ap (take k) (drop-append-le f.start (take s bs) (drop (s + n) bs) front)
        ∙ take-append-le k (drop f.start (take s bs)) (drop (s + n) bs) rest
        ∙ ap (λ i. take k (drop f.start (take i bs))) (sym sum)
        ∙ ap (take k) (drop-take f.start (s - f.start) bs)
        ∙ take-take k (s - f.start) (drop f.start bs) (omega (arith, below, part))
    | inr above ↦
        let short = length-take-le s bs (omega (arith, inside)) in
        let there : (f.start - n) ≡ s + ((f.start - n) - s) = omega (arith, above) in
        let back : (s + n) + ((f.start - n) - s) ≡ f.start = omega (arith, above) in
        ap (λ i. take k (drop i less)) (start_after f above ∙ there)
        ∙ ap (take k) (sym (drop-drop ((f.start - n) - s) s less) ∙ ap (drop ((f.start - n) - s)) (drop_at (take s bs) (drop (s + n) bs) s short) ∙ drop-drop ((f.start - n) - s) (s + n) bs ∙ ap (λ i. drop i bs) back)
  ]

  path_moved : (f : Entry) → Clear s n f → f.start + size_of f ≤ length bs → path_of less (moved s n f) ≡ path_of bs f
  path_moved f clear placed = same_bytes f f.path clear (omega arith) placed

  content_moved : (f : Entry) (c : Option ℕ) → f.path + length_of c ≤ size_of f → Clear s n f → f.start + size_of f ≤ length bs → node_from (drop f.path (drop (moved s n f).start less)) c ≡ node_from (drop f.path (drop f.start bs)) c
  content_moved f None fits clear placed = refl
  content_moved f (Some k) fits clear placed =
      ap file (sym (drop-take f.path k (drop (moved s n f).start less)) ∙ ap (drop f.path) (same_bytes f (f.path + k) clear fits placed) ∙ drop-take f.path k (drop f.start bs))

  node_moved : (f : Entry) → Clear s n f → f.start + size_of f ≤ length bs → node_of less (moved s n f) ≡ node_of bs f
  node_moved f clear placed = content_moved f f.content (omega arith) clear placed

  path_is : (f : Entry) (q : Path) (b : Bool) → Clear s n f → f.start + size_of f ≤ length bs → bytes_eq (path_of bs f) q ≡ b → bytes_eq (path_of less (moved s n f)) q ≡ b
  path_is f q b clear placed e = ap (λ p. bytes_eq p q) (path_moved f clear placed) ∙ e

  -- the entries moved hold what they held
  kept : (es : List Entry) (q : Path) → AllClear s n es → Placed bs es → node_at less (sought less (map (moved s n) es) q) ≡ node_at bs (sought bs es q)
  kept [] q clear h = ap (node_at less) (sought_none less q) ∙ sym (ap (node_at bs) (sought_none bs q))
  kept (f ∷ es) q clear h = elim (cases_Bool (bytes_eq (path_of bs f) q)) [
    | inl same ↦
        ap (node_at less) (sought_one less (moved s n f) (map (moved s n) es) q true (path_is f q true clear.0 h.0 same))
        ∙ node_moved f clear.0 h.0
        ∙ sym (ap (node_at bs) (sought_one bs f es q true same))
    | inr other ↦
        ap (node_at less) (sought_one less (moved s n f) (map (moved s n) es) q false (path_is f q false clear.0 h.0 other))
        ∙ kept es q clear.1 h.2
        ∙ sym (ap (node_at bs) (sought_one bs f es q false other))
  ]

  -- they are placed, in order and apart as they were
  placed_one : (f : Entry) → Clear s n f → f.start + size_of f ≤ length bs → (moved s n f).start + size_of f ≤ length less
  placed_one f clear placed = elim clear [
    | inl below ↦ omega (arith, start_before f below, less_length, below, inside)
    | inr above ↦ omega (arith, start_after f above, less_length, above, placed)
  ]

  placed_moved : (es : List Entry) → AllClear s n es → Placed bs es → Placed less (map (moved s n) es)
  placed_moved [] clear h = tt
  placed_moved (f ∷ es) clear h = (placed_one f clear.0 h.0, ap storable (path_moved f clear.0 h.0) ∙ h.1, placed_moved es clear.1 h.2)

  after_moved : (p : Path) (es : List Entry) → AllClear s n es → Placed bs es → AllAfter bs p es → AllAfter less p (map (moved s n) es)
  after_moved p [] clear h a = tt
  after_moved p (f ∷ es) clear h a = (ap (before p) (path_moved f clear.0 h.0) ∙ a.0, after_moved p es clear.1 h.2 a.1)

  sorted_moved : (es : List Entry) → AllClear s n es → Placed bs es → Sorted bs es → Sorted less (map (moved s n) es)
  sorted_moved [] clear h a = tt
  sorted_moved (f ∷ es) clear h a =
      (subst (λ (p : Path). AllAfter less p (map (moved s n) es)) (sym (path_moved f clear.0 h.0)) (after_moved (path_of bs f) es clear.1 h.2 a.0), sorted_moved es clear.1 h.2 a.1)

  apart_one : (e f : Entry) → Clear s n e → Clear s n f → Apart e f → Apart (moved s n e) (moved s n f)
  apart_one e f a b h = elim a [
    | inl e_below ↦ elim b [
      | inl f_below ↦ elim h [ inl x ↦ inl (omega (arith, start_before e e_below, start_before f f_below, x)) | inr y ↦ inr (omega (arith, start_before e e_below, start_before f f_below, y)) ]
      | inr f_above ↦ inl (omega (arith, start_before e e_below, start_after f f_above, e_below, f_above))
    ]
    | inr e_above ↦ elim b [
      | inl f_below ↦ inr (omega (arith, start_after e e_above, start_before f f_below, e_above, f_below))
      | inr f_above ↦ elim h [ inl x ↦ inl (omega (arith, start_after e e_above, start_after f f_above, e_above, f_above, x)) | inr y ↦ inr (omega (arith, start_after e e_above, start_after f f_above, e_above, f_above, y)) ]
    ]
  ]

  from_moved : (e : Entry) (es : List Entry) → Clear s n e → AllClear s n es → ApartFrom e es → ApartFrom (moved s n e) (map (moved s n) es)
  from_moved e [] a clear h = tt
  from_moved e (f ∷ es) a clear h = (apart_one e f a clear.0 h.0, from_moved e es a clear.1 h.1)

  apart_moved : (es : List Entry) → AllClear s n es → AllApart es → AllApart (map (moved s n) es)
  apart_moved [] clear h = tt
  apart_moved (e ∷ es) clear h = (from_moved e es clear.0 clear.1 h.0, apart_moved es clear.1 h.1)

  total_moved : (es : List Entry) → total (map (moved s n) es) ≡ total es
  total_moved [] = refl
  total_moved (f ∷ es) = ap (λ k. size_of f + k) (total_moved es)

content_whole : (rest : List ℕ) (c : Option ℕ) → length_of c ≤ length rest → content_size (node_from rest c) ≡ length_of c
content_whole rest None h = refl
content_whole rest (Some n) h = length-take-le n rest h

-- the entry e, with the path p, is taken out from between xs and ys, and its bytes are given back
module _ (xs ys : List Entry) (e : Entry) (bs : List ℕ) (p : Path) (named : path_of bs e ≡ p) (placed : Placed bs (xs ++ e ∷ ys)) (apart : AllApart (xs ++ e ∷ ys)) (sorted : Sorted bs (xs ++ e ∷ ys)) where
  abbrev s : ℕ
  s = e.start

  abbrev n : ℕ
  n = size_of e

  abbrev es' : List Entry
  es' = map (moved e.start (size_of e)) (xs ++ ys)

  abbrev bs' : List ℕ
  bs' = closed e.start (size_of e) bs

  inside : s + n ≤ length bs
  inside = placed_there bs xs ys e placed

  clear : AllClear s n (xs ++ ys)
  clear = all_clear xs ys e apart

  others : Placed bs (xs ++ ys)
  others = placed_less bs xs ys e placed

  pub placed_after : Placed bs' es'
  placed_after = placed_moved bs s n inside (xs ++ ys) clear others

  pub sorted_after : Sorted bs' es'
  sorted_after = sorted_moved bs s n inside (xs ++ ys) clear others (sorted_less bs xs ys e sorted)

  pub apart_after : AllApart es'
  apart_after = apart_moved bs s n inside (xs ++ ys) clear (apart_less xs ys e apart)

  pub exact_after : total (xs ++ e ∷ ys) ≡ length bs → total es' ≡ length bs'
  exact_after exact = omega (arith, total_moved bs s n inside (xs ++ ys), total_less xs ys e, exact, less_length bs s n inside)

  skipped : (zs : List Entry) (q : Path) → (q ≡ p → ⊥) → sought bs (zs ++ e ∷ ys) q ≡ sought bs (zs ++ ys) q
  skipped [] q ne = sought_one bs e ys q false (elim (cases_Bool (bytes_eq (path_of bs e) q)) [ inl same ↦ absurd (ne (sym ((bytes_eq-Decides (path_of bs e) q).0 same) ∙ named)) | inr other ↦ other ])
  skipped (z ∷ zs) q ne =
      let first = bytes_eq (path_of bs z) q in
      sought_one bs z (zs ++ e ∷ ys) q first refl ∙ ap (cond first (Some z)) (skipped zs q ne) ∙ sym (sought_one bs z (zs ++ ys) q first refl)

  gone : AllBefore bs p true xs → sought bs (xs ++ ys) p ≡ None
  gone first = sought_behind bs p xs ys first ∙ none_behind bs p (path_of bs e) ys (ap (before (path_of bs e)) (sym named) ∙ not_before_itself (path_of bs e)) (sorted_there bs xs ys e sorted)

  pub changed : AllBefore bs p true xs → bytes_eq p (47 ∷ []) ≡ false → Changed (tree_of (xs ++ e ∷ ys) bs) (tree_of es' bs') p nothing
  changed first not_root = record {
    here = tree_entry es' bs' p not_root ∙ kept bs s n inside (xs ++ ys) p clear others ∙ ap (node_at bs) (gone first);
    elsewhere = λ q ne. elim (cases_Bool (bytes_eq q (47 ∷ []))) [
      | inl root ↦ tree_root es' bs' q root ∙ sym (tree_root (xs ++ e ∷ ys) bs q root)
      | inr other ↦ tree_entry es' bs' q other ∙ kept bs s n inside (xs ++ ys) q clear others ∙ ap (node_at bs) (sym (skipped xs q ne)) ∙ sym (tree_entry (xs ++ e ∷ ys) bs q other)
    ];
  }

  found : AllBefore bs p true xs → bytes_eq p (47 ∷ []) ≡ false → tree_of (xs ++ e ∷ ys) bs p ≡ node_of bs e
  found first not_root = tree_entry (xs ++ e ∷ ys) bs p not_root ∙ ap (node_at bs) (sought_behind bs p xs (e ∷ ys) first ∙ sought_one bs e ys p true ((bytes_eq-Decides (path_of bs e) p).1 named))

  path_size : length p ≡ e.path
  path_size = sym (ap length named) ∙ length-take-le e.path (drop e.start bs) (omega (arith, inside, length-drop e.start bs))

  -- the bytes that are given back are those of the path and of its content
  pub size_given_back : AllBefore bs p true xs → bytes_eq p (47 ∷ []) ≡ false → size_of e ≡ length p + content_size (tree_of (xs ++ e ∷ ys) bs p)
  size_given_back first not_root =
      let content : content_size (node_of bs e) ≡ length_of e.content = content_whole (drop e.path (drop e.start bs)) e.content (omega (arith, inside, length-drop e.start bs, length-drop e.path (drop e.start bs))) in
      omega (arith, path_size, content, ap content_size (found first not_root))

  pub total_given_back : total es' + size_of e ≡ total (xs ++ e ∷ ys)
  total_given_back = omega (arith, total_moved bs s n inside (xs ++ ys), total_less xs ys e)

  pub one_less : length es' + 1 ≡ length (xs ++ e ∷ ys)
  one_less = omega (arith, length-map (xs ++ ys) (moved e.start (size_of e)), length-append xs ys, length-append xs (e ∷ ys))

-- one entry more was moved
pub move_one : (f : Entry → Entry) (i : ℕ) (es : List Entry) (e : Entry) → i < length es → e ≡ get_or (map f (take i es) ++ drop i es) i e → set (map f (take i es) ++ drop i es) i (f e) ≡ map f (take (i + 1) es) ++ drop (i + 1) es
move_one f i [] e h is = absurd (omega arith)
move_one f zero (x ∷ es) e h is = let one : zero + 1 ≡ suc zero = omega arith in ap (λ y. f y ∷ es) is ∙ ap (λ n. map f (take n (x ∷ es)) ++ drop n (x ∷ es)) (sym one)
move_one f (suc i) (x ∷ es) e h is =
    let next : suc i + 1 ≡ suc (i + 1) = omega arith in
    ap (λ ys. f x ∷ ys) (move_one f i es e (omega arith) is) ∙ ap (λ n. map f (take n (x ∷ es)) ++ drop n (x ∷ es)) (sym next)

-- First in, first out: what is remembered after one more, and after any number of new paths.
use Rattle.std.proofs.Common.{◌≡◌, ℕ, ◌-◌, ◌<◌, ◌≤◌, Bool, true, false, cond, List, [], ◌∷◌, ◌++◌, length, drop, sym, refl, ap, ◌∙◌, inl, inr, arith}
use Rattle.std.proofs.lemmas.List.{append-nil, append_assoc, length-append, length_push, length-drop, drop-append-le, drop-drop}
use Rattle.std.proofs.lemmas.Bool.{cases_lt}
use Rattle.file_system.specs.declared.store.Kind.{Kind}
use Rattle.file_system.specs.Tree.{Path, storable}
use Rattle.memo.specs.Memo.{Item, item, latest, entered, knows, after_asking, after_all, AllNew}

-- the latest, by how many there are too many
latest_but : (xs : List Item) (n : ℕ) → length xs - 64 ≡ n → latest xs ≡ drop n xs
unfolding latest
latest_but xs n e = ap (λ k. drop k xs) e

pub latest_short : (xs : List Item) → length (latest xs) ≤ 64
unfolding latest
latest_short xs = omega (arith, length-drop (length xs - 64) xs)

pub entered_short : (xs : List Item) (x : Item) → length (entered xs x) ≤ 64
unfolding entered
entered_short xs x = latest_short (xs ++ x ∷ [])

pub entered_room : (xs : List Item) (x : Item) → length xs < 64 → entered xs x ≡ xs ++ x ∷ []
unfolding entered
entered_room xs x less = latest_but (xs ++ x ∷ []) 0 (omega (arith, length_push xs x))

pub entered_full : (xs : List Item) (x : Item) → length xs ≡ 64 → entered xs x ≡ drop 1 xs ++ x ∷ []
unfolding entered
entered_full xs x full = latest_but (xs ++ x ∷ []) 1 (omega (arith, length_push xs x)) ∙ drop-append-le 1 xs (x ∷ []) (omega arith)

-- what is remembered after a question, by whether the path was remembered and can be stored
pub asked_by : (xs : List Item) (p : Path) (k : Kind) (b s : Bool) → knows xs p ≡ b → storable p ≡ s → after_asking xs p k ≡ cond b xs (cond s (entered xs (item p k)) xs)
unfolding after_asking
asked_by xs p k b s known stored =
    ap (λ c. cond c xs (cond (storable p) (entered xs (item p k)) xs)) known ∙ ap (λ c. cond b xs (cond c (entered xs (item p k)) xs)) stored

-- one out of more than 64 does not alter the latest
latest_rest : (xs : List Item) → 64 < length xs → latest (drop 1 xs) ≡ latest xs
latest_rest xs more =
    latest_but (drop 1 xs) (length xs - 65) (omega (arith, length-drop 1 xs))
    ∙ drop-drop (length xs - 65) 1 xs
    ∙ ap (λ n. drop n xs) (omega arith)
    ∙ sym (latest_but xs (length xs - 64) refl)

one_more : (xs : List Item) (x : Item) (ys : List Item) → length xs ≤ 64 → latest (entered xs x ++ ys) ≡ latest (xs ++ x ∷ ys)
one_more xs x ys short = elim (cases_lt (length xs) 64) [
  | inl less ↦ ap (λ zs. latest (zs ++ ys)) (entered_room xs x less) ∙ ap latest (append_assoc xs (x ∷ []) ys)
  | inr full ↦
      ap (λ zs. latest (zs ++ ys)) (entered_full xs x (omega arith))
      ∙ ap latest (append_assoc (drop 1 xs) (x ∷ []) ys ∙ sym (drop-append-le 1 xs (x ∷ ys) (omega arith)))
      ∙ latest_rest (xs ++ x ∷ ys) (omega (arith, length-append xs (x ∷ ys)))
]

pub keeps_the_latest : (xs qs : List Item) → length xs ≤ 64 → AllNew xs qs → after_all xs qs ≡ latest (xs ++ qs)
keeps_the_latest xs [] short new = sym (ap latest (append-nil xs) ∙ latest_but xs 0 (omega arith))
keeps_the_latest xs (q ∷ qs) short new =
    let next = asked_by xs q.path q.kind false true new.0 new.1 in
    keeps_the_latest (after_asking xs q.path q.kind) qs (omega (arith, ap length next, entered_short xs q)) new.2
    ∙ ap (λ zs. latest (zs ++ qs)) next
    ∙ one_more xs q qs short

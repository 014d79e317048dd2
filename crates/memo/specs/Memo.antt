-- What a layer that remembers kinds holds: paths with their kinds, the one held the longest first.
use Rattle.std.specs.Prelude.{◌≡◌, ℕ, ◌-◌, ◌%◌, Bool, true, false, cond, List, [], ◌∷◌, ◌++◌, map, length, take, drop, is_some, nat_lt, Some, None, Ok, Err, Option, Result}
use Rattle.std.specs.Str.{bytes_eq}
use Rattle.file_system.specs.declared.store.Kind.{Kind}
use Rattle.file_system.specs.declared.store.Refusal.{Refusal}
use Rattle.memo.specs.declared.Memo as layer
use Rattle.memo.specs.declared.record.Record.{Record}
use Rattle.memo.specs.declared.remembered_kinds.RememberedKinds.{RememberedKinds}
use Rattle.file_system.specs.Tree.{Path, Tree, kind_of, storable}

-- the store below a layer, and the kinds that the layer remembers
abbrev pub below : {S : Type 0} → layer.Memo S → S
below m = m.store

abbrev pub kinds_of : {S : Type 0} → layer.Memo S → RememberedKinds
kinds_of m = m.kinds

-- a path that is remembered, with its kind
pub record Item : Type 0 where
  pub path : Path
  pub kind : Kind

abbrev pub item : Path → Kind → Item
item p k = record { path = p; kind = k }

abbrev pub item_of : Record → Item
item_of r = item (take r.length r.path) r.kind

-- Records in use, the one held the longest first: those from it on, and then those that were written over.
abbrev pub in_turn : ℕ → ℕ → List Record → List Record
in_turn oldest count rs = drop oldest (take count rs) ++ take oldest rs

-- the place of the one held the longest: the first until all 64 are in use, and then where the next is written
abbrev pub first_place : RememberedKinds → ℕ
first_place k = cond (nat_lt k.count 64) 0 (k.oldest % 64)

-- what is remembered, the one held the longest first
abbrev pub remembered : RememberedKinds → List Item
remembered k = map item_of (in_turn (first_place k) k.count k.records)

-- the kind that is remembered of a path
unfoldable pub recalled : List Item → Path → Option Kind
recalled [] p = None
recalled (x ∷ xs) p = cond (bytes_eq x.path p) (Some x.kind) (recalled xs p)

-- the latest 64
unfoldable pub latest : List Item → List Item
latest xs = drop (length xs - 64) xs

-- First in, first out: one more comes last, and the latest 64 stay.
unfoldable pub entered : List Item → Item → List Item
entered xs x = latest (xs ++ x ∷ [])

-- whether a path is remembered
abbrev pub knows : List Item → Path → Bool
knows xs p = is_some (recalled xs p)

-- What is remembered after a question that was told a kind: the same where the path was remembered or no store can
-- hold it, and else the path comes last.
unfoldable pub after_asking : List Item → Path → Kind → List Item
after_asking xs p k = cond (knows xs p) xs (cond (storable p) (entered xs (item p k)) xs)

-- what is remembered after questions in turn, each with the kind that was told
abbrev pub after_all : List Item → List Item → List Item
after_all xs [] = xs
after_all xs (q ∷ qs) = after_all (after_asking xs q.path q.kind) qs

-- Each path can be stored, and was not remembered when it was asked.
abbrev pub AllNew : List Item → List Item → Type 0
AllNew xs [] = Unit {0}
AllNew xs (q ∷ qs) = (knows xs q.path ≡ false) × (storable q.path ≡ true) × AllNew (after_asking xs q.path q.kind) qs

-- all but a path, in the same order
unfoldable pub without : Path → List Item → List Item
without p [] = []
without p (x ∷ xs) = cond (bytes_eq x.path p) (without p xs) (x ∷ without p xs)

-- What is remembered after a change: where it was accepted all but the path, and else the same.
abbrev pub after_change : Result (Unit {0}) Refusal → Path → List Item → List Item
after_change (Ok _) p xs = without p xs
after_change (Err _) p xs = xs

-- A remembered kind that a tree agrees with: it is that of its path, which a store can hold.
pub record Agrees (t : Tree) (x : Item) : Type 0 where
  pub can_store : storable x.path ≡ true
  pub same_kind : x.kind ≡ kind_of (t x.path)

abbrev pub Faithful : Tree → List Item → Type 0
Faithful t [] = Unit {0}
Faithful t (x ∷ xs) = Agrees t x × Faithful t xs

-- The layer over a sound store, with that tree, that tells no stale kind.
abbrev pub memo_sound : Type 0 → Tree → RememberedKinds → Type 0
memo_sound below t k = below × Faithful t (remembered k)

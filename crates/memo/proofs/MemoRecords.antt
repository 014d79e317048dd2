-- Records of paths as what is remembered: one more, one path sought, and all but one path.
use Rattle.std.proofs.Common.{◌≡◌, ℕ, ◌+◌, ◌<◌, ◌≤◌, ◌⊎◌, ◌%◌, Bool, true, false, cond, ltb, List, [], ◌∷◌, ◌++◌, map, length, get_or, take, drop, set, Some, None, Option, sym, refl, ap, ◌∙◌, inl, inr, arith}
use denote.Ref.{Bor}
use Rattle.std.specs.List.{find}
use Rattle.std.specs.Option.{option_map}
use Rattle.std.specs.Str.{bytes_eq}
use Rattle.std.proofs.lemmas.List.{append-nil, append_assoc, map_push, length-append, length-map, length-set, length-take, length-take-le, length-drop, take_more, take_more_set, take_all, drop_all, drop-append-le, drop-map, drop-drop, drop-set-lt, get_or-drop}
use Rattle.std.proofs.lemmas.Bool.{cases_Bool, cases_lt, lt-ltb, le-ltb}
use Rattle.file_system.specs.declared.store.Kind.{Kind}
use Rattle.memo.specs.declared.record.Record.{Record}
use Rattle.file_system.specs.Tree.{Path}
use Rattle.memo.specs.Memo.{Item, item_of, in_turn, recalled, entered, without}
use Rattle.memo.proofs.MemoFifo.{entered_room, entered_full}

-- records before any was written over
pub from_first : (count : ℕ) (rs : List Record) → in_turn 0 count rs ≡ take count rs
from_first count rs = append-nil (take count rs)

-- all records in use
in_use : (oldest count : ℕ) (rs : List Record) → length rs ≡ 64 → 64 ≤ count → in_turn oldest count rs ≡ drop oldest rs ++ take oldest rs
in_use oldest count rs whole full = ap (λ xs. drop oldest xs ++ take oldest rs) (take_all count rs (omega arith))

in_use_length : (oldest : ℕ) (rs : List Record) → length rs ≡ 64 → oldest < 64 → length (drop oldest rs ++ take oldest rs) ≡ 64
in_use_length oldest rs whole less = omega (arith, length-append (drop oldest rs) (take oldest rs), length-drop oldest rs, length-take-le oldest rs (omega arith))

-- the place of the one held the longest
pub until_full : (count oldest : ℕ) → count < 64 → cond (ltb count 64) 0 (oldest % 64) ≡ 0
until_full count oldest less = ap (λ b. cond b 0 (oldest % 64)) (lt-ltb count 64 less)

pub once_full : (count oldest : ℕ) → 64 ≤ count → cond (ltb count 64) 0 (oldest % 64) ≡ oldest % 64
once_full count oldest full = ap (λ b. cond b 0 (oldest % 64)) (le-ltb count 64 full)

pub at_first : (b : Bool) → cond b 0 (0 % 64) ≡ 0
at_first true = refl
at_first false = refl

pub place_within : (b : Bool) (n : ℕ) → cond b 0 (n % 64) < 64
place_within true n = omega arith
place_within false n = omega arith

pub in_turn_short : (first count : ℕ) (rs : List Record) → length rs ≡ 64 → (count < 64 → first ≡ 0) → length (map item_of (in_turn first count rs)) ≤ 64
in_turn_short first count rs whole start =
    let size = length-map (in_turn first count rs) item_of ∙ length-append (drop first (take count rs)) (take first rs) in
    elim (cases_lt count 64) [
      | inl less ↦ omega (arith, size, length-drop first (take count rs), length-take count rs, length-take first rs, start less, whole)
      | inr full ↦ omega (arith, size, length-drop first (take count rs), length-take count rs, length-take first rs, whole)
    ]

-- one record more, where there is room, and where the oldest was written over
module _ (rs : List Record) (n : ℕ) (r : Record) (whole : length rs ≡ 64) (less : n < 64) where
  pub with_room : map item_of (in_turn 0 (n + 1) (set rs n r)) ≡ entered (map item_of (in_turn 0 n rs)) (item_of r)
  with_room =
      let count = length-map (take n rs) item_of ∙ length-take-le n rs (omega arith) in
      ap (map item_of) (from_first (n + 1) (set rs n r) ∙ take_more_set rs n r (omega arith))
      ∙ map_push item_of (take n rs) r
      ∙ sym (entered_room (map item_of (take n rs)) (item_of r) (omega (arith, count)))
      ∙ ap (λ xs. entered (map item_of xs) (item_of r)) (sym (from_first n rs))

  written : length (set rs n r) ≡ 64
  written = length-set rs n r ∙ whole

  -- the next is the oldest then, after the last one the first
  turned : (next : ℕ) → ((n + 1 < 64) × (next ≡ n + 1)) ⊎ ((n + 1 ≡ 64) × (next ≡ 0)) → drop next (set rs n r) ++ take next (set rs n r) ≡ drop (n + 1) (set rs n r) ++ take (n + 1) (set rs n r)
  turned next (inl a) = ap (λ k. drop k (set rs n r) ++ take k (set rs n r)) a.1
  turned next (inr a) =
      ap (λ k. drop k (set rs n r) ++ take k (set rs n r)) a.1
      ∙ append-nil (set rs n r)
      ∙ sym (take_all (n + 1) (set rs n r) (omega (arith, written, a.0)))
      ∙ ap (λ xs. xs ++ take (n + 1) (set rs n r)) (sym (drop_all (n + 1) (set rs n r) (omega (arith, written, a.0))))

  without_oldest : drop 1 (drop n rs ++ take n rs) ≡ drop (n + 1) rs ++ take n rs
  without_oldest = drop-append-le 1 (drop n rs) (take n rs) (omega (arith, length-drop n rs)) ∙ ap (λ xs. xs ++ take n rs) (drop-drop 1 n rs)

  pub room_made : (next count : ℕ) → 64 ≤ count → ((n + 1 < 64) × (next ≡ n + 1)) ⊎ ((n + 1 ≡ 64) × (next ≡ 0)) → map item_of (in_turn next count (set rs n r)) ≡ entered (map item_of (in_turn n count rs)) (item_of r)
  room_made next count full turn =
      let before = drop n rs ++ take n rs in
      let one_more : in_turn next count (set rs n r) ≡ drop 1 before ++ r ∷ [] =
      in_use next count (set rs n r) written full ∙ turned next turn
      ∙ ap (λ xs. xs ++ take (n + 1) (set rs n r)) (drop-set-lt (n + 1) rs n r (omega arith))
      ∙ ap (λ xs. drop (n + 1) rs ++ xs) (take_more_set rs n r (omega arith))
      ∙ sym (append_assoc (drop (n + 1) rs) (take n rs) (r ∷ []))
      ∙ ap (λ xs. xs ++ r ∷ []) (sym without_oldest) in
      ap (map item_of) one_more
      ∙ map_push item_of (drop 1 before) r
      ∙ ap (λ xs. xs ++ item_of r ∷ []) (sym (drop-map item_of 1 before))
      ∙ sym (entered_full (map item_of before) (item_of r) (length-map before item_of ∙ in_use_length n rs whole less))
      ∙ ap (λ xs. entered (map item_of xs) (item_of r)) (sym (in_use n count rs whole full))

-- records turned so that the one held the longest is the first
pub straight : (first count : ℕ) (rs turned : List Record) → turned ≡ drop first rs ++ take first rs → length rs ≡ 64 → first < 64 → (count < 64 → first ≡ 0) → take count turned ≡ in_turn first count rs
straight first count rs turned e whole within start = elim (cases_lt count 64) [
  | inl less ↦ ap (take count) (e ∙ ap (λ k. drop k rs ++ take k rs) (start less) ∙ append-nil rs) ∙ sym (ap (λ k. in_turn k count rs) (start less) ∙ from_first count rs)
  | inr full ↦ take_all count turned (omega (arith, ap length e, in_use_length first rs whole within)) ∙ e ∙ sym (in_use first count rs whole full)
]

-- the kind in the first record of a path is in the record that the library's `find` gives
pub recalled_found : (rs : List Record) (p : Path) → option_map (λ r. r.kind) (find (λ r. bytes_eq (take r.length r.path) p) rs) ≡ recalled (map item_of rs) p
unfolding recalled
recalled_found [] p = refl
recalled_found (r ∷ rs) p = elim (cases_Bool (bytes_eq (take r.length r.path) p)) [
  | inl same ↦ ap (λ b. option_map (λ x. x.kind) (cond b (Some r) (find (λ x. bytes_eq (take x.length x.path) p) rs))) same ∙ ap (λ b. cond b (Some r.kind) (recalled (map item_of rs) p)) (sym same)
  | inr other ↦
      ap (λ b. option_map (λ x. x.kind) (cond b (Some r) (find (λ x. bytes_eq (take x.length x.path) p) rs))) other ∙ recalled_found rs p
      ∙ ap (λ b. cond b (Some r.kind) (recalled (map item_of rs) p)) (sym other)
]

pub recalled_none : (p : Path) → recalled [] p ≡ None
unfolding recalled
recalled_none p = refl

pub recalled_one : (x : Item) (xs : List Item) (p : Path) (r : Bool) → bytes_eq x.path p ≡ r → recalled (x ∷ xs) p ≡ cond r (Some x.kind) (recalled xs p)
unfolding recalled
recalled_one x xs p r h = ap (λ b. cond b (Some x.kind) (recalled xs p)) h

pub kind_found : (o : Option (Bor Record)) → option_map (λ r. r.now.kind) o ≡ option_map (λ r. r.kind) (option_map (λ r. r.now) o)
kind_found None = refl
kind_found (Some r) = refl

pub without_none : (p : Path) → without p [] ≡ []
unfolding without
without_none p = refl

pub without_one : (p : Path) (x : Item) (xs : List Item) (r : Bool) → bytes_eq x.path p ≡ r → without p (x ∷ xs) ≡ cond r (without p xs) (x ∷ without p xs)
unfolding without
without_one p x xs r h = ap (λ b. cond b (without p xs) (x ∷ without p xs)) h

-- what one part tells of a path, and another behind it
pub recalled_first : (xs ys : List Item) (p : Path) (k : Kind) → recalled xs p ≡ Some k → recalled (xs ++ ys) p ≡ Some k
unfolding recalled
recalled_first [] ys p k e = let z : ◌≡◌ {A = ℕ} 0 1 = cc in absurd (omega arith)
recalled_first (x ∷ xs) ys p k e = elim (cases_Bool (bytes_eq x.path p)) [
  | inl same ↦ recalled_one x (xs ++ ys) p true same ∙ sym (recalled_one x xs p true same) ∙ e
  | inr other ↦ recalled_one x (xs ++ ys) p false other ∙ recalled_first xs ys p k (sym (recalled_one x xs p false other) ∙ e)
]

no_kind : (k : Kind) → Some k ≡ None → ⊥
no_kind k e = let z : ◌≡◌ {A = ℕ} 0 1 = cc in absurd (omega arith)

pub recalled_later : (xs ys : List Item) (p : Path) → recalled xs p ≡ None → recalled (xs ++ ys) p ≡ recalled ys p
unfolding recalled
recalled_later [] ys p e = refl
recalled_later (x ∷ xs) ys p e = elim (cases_Bool (bytes_eq x.path p)) [
  | inl same ↦ absurd (no_kind x.kind (sym (recalled_one x xs p true same) ∙ e))
  | inr other ↦ recalled_one x (xs ++ ys) p false other ∙ recalled_later xs ys p (sym (recalled_one x xs p false other) ∙ e)
]

-- where a path is not remembered, all are others
pub without_unknown : (xs : List Item) (p : Path) → recalled xs p ≡ None → without p xs ≡ xs
unfolding without
without_unknown [] p e = refl
without_unknown (x ∷ xs) p e = elim (cases_Bool (bytes_eq x.path p)) [
  | inl same ↦ absurd (no_kind x.kind (sym (recalled_one x xs p true same) ∙ e))
  | inr other ↦ without_one p x xs false other ∙ ap (λ ys. x ∷ ys) (without_unknown xs p (sym (recalled_one x xs p false other) ∙ e))
]

pushed : (y : Item) (ys : List Item) (x : Item) (r : Bool) → y ∷ cond r ys (ys ++ x ∷ []) ≡ cond r (y ∷ ys) (y ∷ (ys ++ x ∷ []))
pushed y ys x true = refl
pushed y ys x false = refl

pub without_push : (p : Path) (xs : List Item) (x : Item) (r : Bool) → bytes_eq x.path p ≡ r → without p (xs ++ x ∷ []) ≡ cond r (without p xs) (without p xs ++ x ∷ [])
unfolding without
without_push p [] x true h = without_one p x [] true h
without_push p [] x false h = without_one p x [] false h
without_push p (y ∷ xs) x r h = elim (cases_Bool (bytes_eq y.path p)) [
  | inl same ↦ without_one p y (xs ++ x ∷ []) true same ∙ without_push p xs x r h ∙ ap (λ ys. cond r ys (ys ++ x ∷ [])) (sym (without_one p y xs true same))
  | inr other ↦
      without_one p y (xs ++ x ∷ []) false other
      ∙ ap (λ ys. y ∷ ys) (without_push p xs x r h)
      ∙ pushed y (without p xs) x r
      ∙ ap (λ ys. cond r ys (ys ++ x ∷ [])) (sym (without_one p y xs false other))
]

-- what stands behind one place more, also after a write before it
pub behind_next : (rs₀ rs : List Record) (i : ℕ) → drop i rs ≡ drop i rs₀ → drop (i + 1) rs ≡ drop (i + 1) rs₀
behind_next rs₀ rs i behind = sym (drop-drop 1 i rs) ∙ ap (drop 1) behind ∙ drop-drop 1 i rs₀

pub behind_kept : (rs₀ rs : List Record) (i n : ℕ) (r : Record) → n ≤ i → drop i rs ≡ drop i rs₀ → drop (i + 1) (set rs n r) ≡ drop (i + 1) rs₀
behind_kept rs₀ rs i n r below behind = drop-set-lt (i + 1) rs n r (omega arith) ∙ behind_next rs₀ rs i behind

-- One step of moving the records of other paths to the front: n are there, of the first i.
module _ (p : Path) (rs₀ rs : List Record) (i n : ℕ) (d : Record) (below : n ≤ i) (inside : i < length rs₀) (same_length : length rs ≡ length rs₀) (before : map item_of (take n rs) ≡ without p (map item_of (take i rs₀))) (behind : drop i rs ≡ drop i rs₀) where
  same_record : get_or rs i d ≡ get_or rs₀ i d
  same_record =
      let here : i + 0 ≡ i = omega arith in
      ap (λ k. get_or rs k d) (sym here) ∙ sym (get_or-drop i rs 0 d) ∙ ap (λ xs. get_or xs 0 d) behind ∙ get_or-drop i rs₀ 0 d ∙ ap (λ k. get_or rs₀ k d) here

  next : (b : Bool) → bytes_eq (item_of (get_or rs i d)).path p ≡ b → without p (map item_of (take (i + 1) rs₀)) ≡ cond b (map item_of (take n rs)) (map item_of (take n rs) ++ item_of (get_or rs i d) ∷ [])
  next b h =
      ap (λ xs. without p (map item_of xs)) (take_more rs₀ i d inside)
      ∙ ap (without p) (map_push item_of (take i rs₀) (get_or rs₀ i d))
      ∙ ap (λ r. without p (map item_of (take i rs₀) ++ item_of r ∷ [])) (sym same_record)
      ∙ without_push p (map item_of (take i rs₀)) (item_of (get_or rs i d)) b h
      ∙ ap (λ xs. cond b xs (xs ++ item_of (get_or rs i d) ∷ [])) (sym before)

  pub next_dropped : bytes_eq (item_of (get_or rs i d)).path p ≡ true → map item_of (take n rs) ≡ without p (map item_of (take (i + 1) rs₀))
  next_dropped h = sym (next true h)

  pub next_kept : bytes_eq (item_of (get_or rs i d)).path p ≡ false → map item_of (take (n + 1) (set rs n (get_or rs i d))) ≡ without p (map item_of (take (i + 1) rs₀))
  next_kept h =
      ap (map item_of) (take_more_set rs n (get_or rs i d) (omega (arith, same_length)))
      ∙ map_push item_of (take n rs) (get_or rs i d)
      ∙ sym (next false h)

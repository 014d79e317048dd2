-- How a trail lies in memory: with one question more, and what it tells of a path.
use Rattle.std.proofs.Common.{◌≡◌, ℕ, ◌+◌, ◌-◌, ◌<◌, Bool, true, false, cond, ◌&&◌, ◌||◌, ltb, leb, eqb, List, [], ◌∷◌, ◌++◌, length, get_or, take, drop, Some, None, Option, sym, refl, ap, ◌∙◌, arith}
use Rattle.list.specs.Held.{held, capacity}
use Rattle.list.proofs.Held.{held_none, held_count, room_for_one, room_for_more, extended_none, extended_twice}
use Rattle.std.specs.Str.{bytes_eq}
use Rattle.std.proofs.lemmas.Slice.Eq.{bytes_eq-Decides}
use Rattle.std.proofs.lemmas.Bool.{and_from, and_right, eq-eqb}
use Rattle.std.proofs.lemmas.List.{append_assoc, append-nil, length-append, drop_at, take_at, at_drop_more}
use Rattle.file_system.specs.Tree.{Path, Node, nothing, directory, file, Tree}
use Rattle.file_system.specs.declared.store.Kind as kinds
use Rattle.file_system.specs.Store.{told as read_told, filled}
use Rattle.search.specs.declared.trail.Presence.TheVariants.{Absent}
use Rattle.search.specs.declared.trail.Reply.{Reply}
use Rattle.search.specs.declared.trail.Reply.TheVariants.{Kind, Manifest}
use Rattle.search.specs.declared.trail.Step.{Step}
use Rattle.search.specs.Search.{Question, kind_asked, manifest_at, path_of, same_question, Trail, on_trail, path_bytes, Limits, room, Noted, full, noted, note}
use Rattle.search.specs.Memory.{InMemory, Grew, presence_of, presence_told, kind_in, reply_of, steps_from, limits_of, Holds, bytes_told, LaidOut, same_sort, answers, told}
use Rattle.search.proofs.TrailNoting.{is_same}
use Rattle.search.specs.Asking.{store_of, along, Questioned, Asked}
use Rattle.search.specs.declared.searcher.Searcher.{Searcher}

pub bytes_more : (qs : Trail) (q : Question) → path_bytes (qs ++ q ∷ []) ≡ path_bytes qs ++ path_of q
bytes_more [] q = append-nil (path_of q)
bytes_more (x ∷ qs) q = ap (λ bs. path_of x ++ bs) (bytes_more qs q) ∙ sym (append_assoc (path_of x) (path_bytes qs) (path_of q))

abbrev step : Tree → ℕ → Question → Step
step t at q = record { start = at; length = length (path_of q); reply = reply_of t q }

pub steps_more : (t : Tree) (at : ℕ) (qs : Trail) (q : Question) → steps_from t at (qs ++ q ∷ []) ≡ steps_from t at qs ++ record { start = at + length (path_bytes qs); length = length (path_of q); reply = reply_of t q } ∷ []
steps_more t at [] q = let e : at ≡ at + 0 = omega arith in ap (λ n. step t n q ∷ []) e
steps_more t at (x ∷ qs) q =
    let e : (at + length (path_of x)) + length (path_bytes qs) ≡ at + length (path_of x ++ path_bytes qs) = omega (arith, length-append (path_of x) (path_bytes qs)) in
    ap (λ ss. step t at x ∷ ss) (steps_more t (at + length (path_of x)) qs q ∙ ap (λ n. steps_from t (at + length (path_of x)) qs ++ step t n q ∷ []) e)

pub steps_length : (t : Tree) (at : ℕ) (qs : Trail) → length (steps_from t at qs) ≡ length qs
steps_length t at [] = refl
steps_length t at (q ∷ qs) = omega (arith, steps_length t (at + length (path_of q)) qs)

module _ (tree : Tree) (t : InMemory) (qs : Trail) (h : Holds tree t qs) where
  pub steps_count : t.steps.len ≡ length qs
  steps_count = sym (held_count t.steps h.steps_within) ∙ ap length h.steps ∙ steps_length tree 0 qs

  pub bytes_count : t.bytes.len ≡ length (path_bytes qs)
  bytes_count = sym (held_count t.bytes h.bytes_within) ∙ ap length h.bytes

  pub room_is : (q : Question) → room (limits_of t) qs q ≡ (ltb 0 (capacity t.steps - t.steps.len) && leb (length (path_of q)) (capacity t.bytes - t.bytes.len))
  unfolding room
  room_is q =
      ap (λ n. ltb n (capacity t.steps) && leb (length (path_bytes qs) + length (path_of q)) (capacity t.bytes)) (sym steps_count)
      ∙ ap (λ n. ltb t.steps.len (capacity t.steps) && leb (n + length (path_of q)) (capacity t.bytes)) (sym bytes_count)
      ∙ sym (ap (λ b. b && leb (length (path_of q)) (capacity t.bytes - t.bytes.len)) (room_for_one (capacity t.steps) t.steps.len)
      ∙ ap (λ b. ltb t.steps.len (capacity t.steps) && b) (room_for_more (capacity t.bytes) t.bytes.len (length (path_of q)) h.bytes_within))

told_one : (bytes : List ℕ) (s : Step) (ss : List Step) (q : Question) → told bytes (s ∷ ss) q ≡ cond (answers bytes s q) (Some s.reply) (told bytes ss q)
unfolding told
told_one bytes s ss q = refl

pub told_none : (bytes : List ℕ) (q : Question) → told bytes [] q ≡ None
unfolding told
told_none bytes q = refl

pub told_at : (bytes : List ℕ) (ss : List Step) (q : Question) (i : ℕ) (d : Step) (b : Bool) → i < length ss → answers bytes (get_or ss i d) q ≡ b → told bytes (drop i ss) q ≡ cond b (Some (get_or ss i d).reply) (told bytes (drop (i + 1) ss) q)
told_at bytes ss q i d b l h =
    at_drop_more (λ xs. told bytes xs q) ss i d l ∙ told_one bytes (get_or ss i d) (drop (i + 1) ss) q
    ∙ ap (λ x. cond x (Some (get_or ss i d).reply) (told bytes (drop (i + 1) ss) q)) h

-- two paths are the same exactly if their lengths and their bytes agree
about_is : (p q : Path) (b : Bool) → bytes_eq q p ≡ b → (eqb (length q) (length p) && bytes_eq q p) ≡ b
about_is p q true e = and_from (eqb (length q) (length p)) (bytes_eq q p) (eq-eqb (length q) (length p) (ap length ((bytes_eq-Decides q p).0 e))) e
about_is p q false e = and_right (eqb (length q) (length p)) (bytes_eq q p) e

-- a step answers the question that it was noted for, and no other
sorted : (tree : Tree) (x q : Question) → (same_sort (reply_of tree x) q && bytes_eq (path_of x) (path_of q)) ≡ same_question x q
sorted tree (kind_asked p) (kind_asked r) = refl
sorted tree (kind_asked p) (manifest_at r) = refl
sorted tree (manifest_at p) (kind_asked r) = refl
sorted tree (manifest_at p) (manifest_at r) = refl

-- what the steps of a trail tell of a question, the bytes before them being `front`
module _ (tree : Tree) (q : Question) where
  abbrev found : Trail → Option Reply
  found qs = cond (on_trail qs q) (Some (reply_of tree q)) None

  one : (x : Question) (b : Bool) → same_question x q ≡ b → (qs : Trail) → cond b (Some (reply_of tree x)) (found qs) ≡ cond (same_question x q || on_trail qs q) (Some (reply_of tree q)) None
  one x true e qs = ap (λ y. Some (reply_of tree y)) (is_same x q e) ∙ sym (ap (λ b. cond (b || on_trail qs q) (Some (reply_of tree q)) None) e)
  one x false e qs = sym (ap (λ b. cond (b || on_trail qs q) (Some (reply_of tree q)) None) e)

  told_of : (front : List ℕ) (qs : Trail) → told (front ++ path_bytes qs) (steps_from tree (length front) qs) q ≡ found qs
  unfolding on_trail
  told_of front [] = told_none (front ++ []) q
  told_of front (x ∷ qs) =
      let bytes = front ++ (path_of x ++ path_bytes qs) in
      let here : take (length (path_of x)) (drop (length front) bytes) ≡ path_of x = ap (take (length (path_of x))) (drop_at front (path_of x ++ path_bytes qs) (length front) refl) ∙ take_at (path_of x) (path_bytes qs) (length (path_of x)) refl in
      let rest : told bytes (steps_from tree (length front + length (path_of x)) qs) q ≡ found qs =
      ap (λ bs. told bs (steps_from tree (length front + length (path_of x)) qs) q) (sym (append_assoc front (path_of x) (path_bytes qs)))
      ∙ ap (λ n. told ((front ++ path_of x) ++ path_bytes qs) (steps_from tree n qs) q) (sym (length-append front (path_of x)))
      ∙ told_of (front ++ path_of x) qs in
      told_one bytes (step tree (length front) x) (steps_from tree (length front + length (path_of x)) qs) q
      ∙ ap (λ y. cond (same_sort (reply_of tree x) q && (eqb (length (path_of x)) (length (path_of q)) && bytes_eq y (path_of q))) (Some (reply_of tree x)) (told bytes (steps_from tree (length front + length (path_of x)) qs) q)) here
      ∙ ap (λ b. cond (same_sort (reply_of tree x) q && b) (Some (reply_of tree x)) (told bytes (steps_from tree (length front + length (path_of x)) qs) q)) (about_is (path_of q) (path_of x) (bytes_eq (path_of x) (path_of q)) refl)
      ∙ ap (λ b. cond b (Some (reply_of tree x)) (told bytes (steps_from tree (length front + length (path_of x)) qs) q)) (sorted tree x q)
      ∙ ap (cond (same_question x q) (Some (reply_of tree x))) rest
      ∙ one x (same_question x q) refl qs

pub told_is : (tree : Tree) (t : InMemory) (qs : Trail) (q : Question) → Holds tree t qs → told (held t.bytes) (held t.steps) q ≡ cond (on_trail qs q) (Some (reply_of tree q)) None
told_is tree t qs q h =
    ap (λ bs. told bs (held t.steps) q) h.bytes ∙ ap (λ ss. told (path_bytes qs) ss q) h.steps ∙ told_of tree q [] qs

-- what a search of the trail says of the question
pub is_on_trail : {A : Type 0} (b : Bool) (r r' : A) → Some r ≡ cond b (Some r') None → (b ≡ true) × (r ≡ r')
is_on_trail true r r' e = (refl, cc)
is_on_trail false r r' e = let z : ◌≡◌ {A = ℕ} 0 1 = cc in absurd (omega arith)

pub is_new : {A : Type 0} (b : Bool) (r : A) → None ≡ cond b (Some r) None → b ≡ false
is_new true r e = let z : ◌≡◌ {A = ℕ} 0 1 = cc in absurd (omega arith)
is_new false r e = refl

-- the same of kinds alone
pub kind_told : (b : Bool) (r : Option Reply) (x : Reply) (k : kinds.Kind) → r ≡ cond b (Some (Kind k)) None → r ≡ Some x → kind_in x ≡ cond b (Some k) None
kind_told true r x k e h = let same : x ≡ Kind k = cc in ap kind_in same
kind_told false r x k e h = let z : ◌≡◌ {A = ℕ} 0 1 = cc in absurd (omega arith)

pub no_kind_told : (b : Bool) (r : Option Reply) (k : kinds.Kind) → r ≡ cond b (Some (Kind k)) None → r ≡ None → None ≡ cond b (Some k) None
no_kind_told true r k e h = let z : ◌≡◌ {A = ℕ} 0 1 = cc in absurd (omega arith)
no_kind_told false r k e h = refl

-- what a read tells, by what a step keeps of it
pub presence_is : (n : Node) (from size : ℕ) → presence_told (read_told n from size) ≡ presence_of n
presence_is nothing from size = refl
presence_is directory from size = refl
presence_is (file content) from size = refl

pub absent_is : (n : Node) (from size : ℕ) (into : List ℕ) → Manifest Absent ≡ Manifest (presence_of n) → (None ≡ read_told n from size) × (into ≡ filled n from into)
absent_is nothing from size into e = (refl, refl)
absent_is directory from size into e = (refl, refl)
absent_is (file content) from size into e = let z : ◌≡◌ {A = ℕ} 0 1 = cc in absurd (omega arith)

-- noting, by whether the question is on the trail and whether there is room
module _ (l : Limits) (qs : Trail) (q : Question) where
  abbrev noting : Bool → Bool → Noted
  noting there fits = cond there (noted qs) (cond fits (noted (qs ++ q ∷ [])) full)

  pub note_is : (there fits : Bool) → on_trail qs q ≡ there → room l qs q ≡ fits → note l qs q ≡ cond there (noted qs) (cond fits (noted (qs ++ q ∷ [])) full)
  unfolding note
  note_is there fits a b = ap (λ x. noting x (room l qs q)) a ∙ ap (noting there) b

grew_none : (t : InMemory) → Grew t t
grew_none t = record { steps = extended_none t.steps; bytes = extended_none t.bytes }

grew_twice : (t u v : InMemory) → Grew t u → Grew u v → Grew t v
grew_twice t u v a b = record {
  steps = extended_twice t.steps u.steps v.steps a.steps b.steps;
  bytes = extended_twice t.bytes u.bytes v.bytes a.bytes b.bytes;
}

-- no question, and questions after questions
module _ {S : Type 0} (meant : S → Tree) (space : S → Path → ℕ → Bool) (sound : S → Type 0) where
  pub questioned_nothing : (x : S) (t : InMemory) → Questioned meant space sound x x t t
  questioned_nothing x t = record {
    same_tree = λ s. refl;
    same_space = λ s. refl;
    stays_sound = λ s. s;
    unasked = λ e. refl;
    grew = grew_none t;
    laid_out = λ h. h;
  }

  questioned_twice : (x y z : S) (t u v : InMemory) → Questioned meant space sound x y t u → Questioned meant space sound y z u v → Questioned meant space sound x z t v
  questioned_twice x y z t u v a b = record {
    same_tree = λ s. b.same_tree (a.stays_sound s) ∙ a.same_tree s;
    same_space = λ s. b.same_space (a.stays_sound s) ∙ a.same_space s;
    stays_sound = λ s. b.stays_sound (a.stays_sound s);
    unasked = λ e. b.unasked (omega (arith, e, a.grew.steps.longer, b.grew.steps.longer)) ∙ a.unasked (omega (arith, e, a.grew.steps.longer, b.grew.steps.longer));
    grew = grew_twice t u v a.grew b.grew;
    laid_out = λ h. b.laid_out (a.laid_out h);
  }

  pub asked_nothing : (x : Searcher S) → Asked meant space sound x x
  asked_nothing x = record {
    questioned = questioned_nothing (store_of x) (along x);
    same_store = refl;
    same_steps = refl;
    same_bytes = refl;
    steps_memory = refl;
    bytes_memory = refl;
  }

  pub asked_twice : (x y z : Searcher S) → Asked meant space sound x y → Asked meant space sound y z → Asked meant space sound x z
  asked_twice x y z a b = record {
    questioned = questioned_twice (store_of x) (store_of y) (store_of z) (along x) (along y) (along z) a.questioned b.questioned;
    same_store = b.same_store ∙ a.same_store;
    same_steps = b.same_steps ∙ a.same_steps;
    same_bytes = b.same_bytes ∙ a.same_bytes;
    steps_memory = b.steps_memory ∙ a.steps_memory;
    bytes_memory = b.bytes_memory ∙ a.bytes_memory;
  }

-- two lists without elements hold a trail without questions
pub holds_nothing : (tree : Tree) (t : InMemory) → t.steps.len ≡ 0 → t.bytes.len ≡ 0 → Holds tree t []
holds_nothing tree t s b = record {
  steps = held_none t.steps s;
  bytes = held_none t.bytes b;
  steps_within = omega (arith, s);
  bytes_within = omega (arith, b);
}

pub laid_out_nothing : (t : InMemory) → t.steps.len ≡ 0 → t.bytes.len ≡ 0 → LaidOut t
laid_out_nothing t s b = ap bytes_told (held_none t.steps s) ∙ sym b

-- the bytes of one step more
pub bytes_told_more : (ss : List Step) (s : Step) → bytes_told (ss ++ s ∷ []) ≡ bytes_told ss + s.length
bytes_told_more [] s = omega arith
bytes_told_more (x ∷ ss) s = omega (arith, bytes_told_more ss s)

-- What the struct that asks a store does to it and to the trail.
use Rattle.std.specs.Prelude.{◌≡◌, ℕ, Bool, List, length, Ok, Err, Some, None, Option}
use Rattle.std.specs.Borrow.{MutBor}
use Rattle.std.specs.declared.result.Result as results
use Rattle.file_system.specs.declared.store.Kind.{Kind}
use Rattle.file_system.specs.declared.store.Part.{Part}
use Rattle.file_system.specs.Store.{told, filled}
use Rattle.file_system.specs.Tree.{Path, Node, Tree, kind_of}
use Rattle.search.specs.declared.error.Refusal.{Refusal}
use Rattle.search.specs.declared.error.Refusal.TheVariants.{TrailFull}
use Rattle.search.specs.declared.searcher.Source.{Source}
use Rattle.search.specs.declared.searcher.Searcher.{Searcher}
use Rattle.search.specs.Search.{kind_asked, manifest_at, Trail, full, noted, note}
use Rattle.search.specs.Memory.{InMemory, in_lists, limits_of, Holds, LaidOut, Grew}

-- the store that was handed over
abbrev pub store_in : {S : Type 0} → Source S → S
store_in s = s.store.now

-- It is the store that was handed over, as it was.
pub record Over {S : Type 0} (store : MutBor S) (s : Source S) : Type 0 where
  pub as_before : store_in s ≡ store.now
  pub same_store : s.store.ghost_name ≡ store.ghost_name

-- the store that is asked, and the trail
abbrev pub store_of : {S : Type 0} → Searcher S → S
store_of s = store_in s.source

abbrev pub along : {S : Type 0} → Searcher S → InMemory
along s = in_lists s.steps.now s.bytes.now

-- A store was questioned along a trail: it means what it meant, and is exactly as it was where the trail has no step. The trail
-- only grew.
pub record Questioned {S : Type 0} (tree : S → Tree) (space : S → Path → ℕ → Bool) (sound : S → Type 0) (before after : S) (t u : InMemory) : Type 0 where
  pub same_tree : sound before → tree after ≡ tree before
  pub same_space : sound before → space after ≡ space before
  pub stays_sound : sound before → sound after
  pub unasked : u.steps.len ≡ 0 → after ≡ before
  pub grew : Grew t u
  pub laid_out : LaidOut t → LaidOut u

-- A searcher questioned its store; store, lists and memory are still the ones that were handed over.
pub record Asked {S : Type 0} (tree : S → Tree) (space : S → Path → ℕ → Bool) (sound : S → Type 0) (before after : Searcher S) : Type 0 where
  pub questioned : Questioned tree space sound (store_of before) (store_of after) (along before) (along after)
  pub same_store : after.source.store.ghost_name ≡ before.source.store.ghost_name
  pub same_steps : after.steps.ghost_name ≡ before.steps.ghost_name
  pub same_bytes : after.bytes.ghost_name ≡ before.bytes.ghost_name
  pub steps_memory : after.steps.now.items.ghost_name ≡ before.steps.now.items.ghost_name
  pub bytes_memory : after.bytes.now.items.ghost_name ≡ before.bytes.now.items.ghost_name

-- What a kind question comes to: it is noted and answered from the tree, or there is no room for it.
abbrev pub Answered : Tree → InMemory → InMemory → Path → results.Result Kind Refusal → Trail → Type 0
Answered tree before after p (Ok k) qs = (qs' : Trail) × (Holds tree after qs' × (note (limits_of before) qs (kind_asked p) ≡ noted qs') × (k ≡ kind_of (tree p)))
Answered tree before after p (Err e) qs = (Holds tree after qs) × (note (limits_of before) qs (kind_asked p) ≡ full) × (e ≡ TrailFull)

-- What a read of a manifest comes to: it is noted and told from the tree, as far as it fits into so many bytes, or there is no
-- room for it.
abbrev pub Read : Tree → InMemory → InMemory → Path → ℕ → results.Result (Option Part) Refusal → Trail → Type 0
Read tree before after p size (Ok part) qs = (qs' : Trail) × (Holds tree after qs' × (note (limits_of before) qs (manifest_at p) ≡ noted qs') × (part ≡ told (tree p) 0 size))
Read tree before after p size (Err e) qs = (Holds tree after qs) × (note (limits_of before) qs (manifest_at p) ≡ full) × (e ≡ TrailFull)

-- What the lent bytes hold after a read that told a part of a file; where there is no file they are as before.
abbrev pub Written : Node → List ℕ → List ℕ → Option Part → Type 0
Written n before after None = after ≡ before
Written n before after (Some part) = (Some part ≡ told n 0 (length before)) × (after ≡ filled n 0 before)

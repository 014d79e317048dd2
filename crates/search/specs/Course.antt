-- How a part of a search went, as a law over every rest of the search; and how a whole search did.
use Rattle.std.specs.Prelude.{◌≡◌, ℕ, List, take, Some, None, Ok, Err, Option}
use Rattle.std.specs.declared.result.Result as results
use Rattle.file_system.specs.Tree.{Path, Tree}
use Rattle.search.specs.declared.error.Refusal.{Refusal}
use Rattle.search.specs.declared.searcher.Searcher.{Searcher}
use Rattle.search.specs.Search.{Search, Limits, Trail, Outcome, none, chosen, refused, result, run, try_all}
use Rattle.search.specs.Memory.{InMemory, limits_of, Holds}
use Rattle.search.specs.Asking.{store_of, along}

-- it found nothing and the search goes on, or it chose a path, or it was refused
pub data Course : Type 0 where
  went_on : Course
  chose : Path → Course
  broke : Refusal → Course

-- the course that a result tells, where a chosen path stands at the start of some bytes
abbrev pub course_of : results.Result (Option ℕ) Refusal → List ℕ → Course
course_of (Ok None) bytes = went_on
course_of (Ok (Some n)) bytes = chose (take n bytes)
course_of (Err e) bytes = broke e

-- `part s` is the part followed by the rest `s`: whatever the rest, from the trail `qs` the search goes on with it
-- from `qs'`, or it ends there.
unfoldable pub Went : Limits → Tree → (Search → Search) → Trail → Course → Trail → Type 0
Went l t part qs went_on qs' = (s : Search) → run l t (part s) qs ≡ run l t s qs'
Went l t part qs (chose p) qs' = (s : Search) → run l t (part s) qs ≡ result (chosen p) qs'
Went l t part qs (broke e) qs' = (s : Search) → run l t (part s) qs ≡ result (refused e) qs'

-- A part of a search was carried out, from any trail that the memory holds.
abbrev pub Walked : Tree → InMemory → InMemory → (Search → Search) → Course → Type 0
Walked tree before after part course = (qs : Trail) → Holds tree before qs → (qs' : Trail) × (Holds tree after qs' × Went (limits_of before) tree part qs course qs')

-- the outcome that a result tells, where a chosen path stands at the start of some bytes
abbrev pub outcome_of : results.Result (Option ℕ) Refusal → List ℕ → Outcome
outcome_of (Ok None) bytes = none
outcome_of (Ok (Some n)) bytes = chosen (take n bytes)
outcome_of (Err e) bytes = refused e

-- A whole search was carried out, from any trail that the memory holds.
abbrev pub Finished : Tree → InMemory → InMemory → Search → Outcome → Type 0
Finished tree before after whole o = (qs : Trail) → Holds tree before qs → (qs' : Trail) × (Holds tree after qs' × (run (limits_of before) tree whole qs ≡ result o qs'))

-- Paths were tried in turn, in the tree of a searcher's store and from any trail that its memory holds.
abbrev pub Tried : {S : Type 0} → (S → Tree) → (S → Type 0) → Searcher S → Searcher S → List Path → Course → Type 0
Tried tree sound before after paths course = sound (store_of before) → Walked (tree (store_of before)) (along before) (along after) (try_all paths) course

-- ... and a whole search was carried out there.
abbrev pub Searched : {S : Type 0} → (S → Tree) → (S → Type 0) → Searcher S → Searcher S → Search → Outcome → Type 0
Searched tree sound before after whole o = sound (store_of before) → Finished (tree (store_of before)) (along before) (along after) whole o

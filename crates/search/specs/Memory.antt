-- How a trail lies in the lent memory.
use Rattle.std.specs.Prelude.{◌≡◌, ℕ, ◌+◌, Bool, true, false, cond, ◌&&◌, List, [], ◌∷◌, length, take, drop, Some, None, Option, ◌==◌}
use Rattle.std.specs.Str.{bytes_eq}
use Rattle.list.specs.Held.{held, capacity, Within, Extended}
use Rattle.list.specs.declared.List as lists
use Rattle.file_system.specs.declared.store.Kind as kinds
use Rattle.file_system.specs.declared.store.Part.{Part}
use Rattle.file_system.specs.Tree.{Path, Node, Tree, kind_of}
use Rattle.search.specs.declared.trail.Presence.{Presence}
use Rattle.search.specs.declared.trail.Presence.TheVariants.{Absent, Present}
use Rattle.search.specs.declared.trail.Reply.{Reply}
use Rattle.search.specs.declared.trail.Reply.TheVariants.{Kind, Manifest}
use Rattle.search.specs.declared.trail.Sort.{Sort}
use Rattle.search.specs.declared.trail.Sort.TheVariants as sorts
use Rattle.search.specs.declared.trail.Step.{Step}
use Rattle.search.specs.Search.{Question, kind_asked, manifest_at, path_of, Trail, path_bytes, Limits, is_file}

-- A trail in memory: the list of its steps, and the list of the bytes of their paths.
pub record InMemory : Type 0 where
  pub steps : lists.List Step
  pub bytes : lists.List ℕ

abbrev pub in_lists : lists.List Step → lists.List ℕ → InMemory
in_lists steps bytes = record { steps = steps; bytes = bytes }

-- the path of a step, in the bytes of its trail
abbrev pub path_at : List ℕ → Step → Path
path_at bytes s = take s.length (drop s.start bytes)

-- whether a manifest is there: a file, as a read tells
abbrev pub presence_of : Node → Presence
presence_of n = cond (is_file n) Present Absent

abbrev pub presence_told : Option Part → Presence
presence_told None = Absent
presence_told (Some part) = Present

-- the reply that a tree gives; of a manifest a step keeps only whether it is a file
abbrev pub reply_of : Tree → Question → Reply
reply_of t (kind_asked p) = Kind (kind_of (t p))
reply_of t (manifest_at p) = Manifest (presence_of (t p))

-- The steps of a trail: each has the place of its path, the paths standing one after the other, and its reply.
abbrev pub steps_from : Tree → ℕ → Trail → List Step
steps_from t at [] = []
steps_from t at (q ∷ qs) = record { start = at; length = length (path_of q); reply = reply_of t q } ∷ steps_from t (at + length (path_of q)) qs

abbrev pub limits_of : InMemory → Limits
limits_of t = record { steps = capacity t.steps; bytes = capacity t.bytes }

-- The memory holds a trail, with the replies that a tree gives.
pub record Holds (tree : Tree) (t : InMemory) (qs : Trail) : Type 0 where
  pub steps : held t.steps ≡ steps_from tree 0 qs
  pub bytes : held t.bytes ≡ path_bytes qs
  pub steps_within : Within t.steps
  pub bytes_within : Within t.bytes

-- how many bytes the paths of some steps have
abbrev pub bytes_told : List Step → ℕ
bytes_told [] = 0
bytes_told (s ∷ ss) = s.length + bytes_told ss

-- The bytes that are held are those of the steps' paths, whatever was replied.
abbrev pub LaidOut : InMemory → Type 0
LaidOut t = bytes_told (held t.steps) ≡ t.bytes.len

-- A trail only grows: the memory behind it is as before.
pub record Grew (before after : InMemory) : Type 0 where
  pub steps : Extended before.steps after.steps
  pub bytes : Extended before.bytes after.bytes

-- the kind that a reply tells, if it is one
abbrev pub kind_in : Reply → Option kinds.Kind
kind_in (Kind k) = Some k
kind_in (Manifest m) = None

-- the question of a sort about a path
abbrev pub question_of : Sort → Path → Question
question_of sorts.Kind p = kind_asked p
question_of sorts.Manifest p = manifest_at p

-- A step has the reply to a question if it is of the same sort, and about the same path; only where the lengths agree are the
-- bytes compared.
abbrev pub same_sort : Reply → Question → Bool
same_sort (Kind k) (kind_asked p) = true
same_sort (Kind k) (manifest_at p) = false
same_sort (Manifest m) (kind_asked p) = false
same_sort (Manifest m) (manifest_at p) = true

abbrev pub answers : List ℕ → Step → Question → Bool
answers bytes s q = same_sort s.reply q && (s.length == length (path_of q) && bytes_eq (path_at bytes s) (path_of q))

unfoldable pub told : List ℕ → List Step → Question → Option Reply
told bytes [] q = None
told bytes (s ∷ ss) q = cond (answers bytes s q) (Some s.reply) (told bytes ss q)

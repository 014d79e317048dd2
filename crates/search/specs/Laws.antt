-- Laws over every search, from any trail on.
use Rattle.std.specs.Prelude.{◌≡◌, ℕ, ◌≤◌, Bool, false, ◌⊎◌, List, [], ◌∷◌, ◌++◌, length, codes, Decides}
use Rattle.file_system.specs.Tree.{Path, nothing, file, Tree, kind_of}
use Rattle.search.specs.Search.{Search, Question, kind_asked, manifest_at, Limits, Trail, path_bytes, Result, chosen, run, content_of, ends_with}
use Rattle.search.specs.Needs.{comes_to, needs, firsts, all_fit, within_limits}

-- A run of a search comes to what the search comes to without limits, and leaves a trail of just what it needs; unless there
-- is no room for a new question, where it is refused with the longest beginning that fits.
abbrev pub IsWhatItNeeds : Limits → Tree → Search → Trail → Type 0
IsWhatItNeeds l t s qs = run l t s qs ≡ within_limits l qs (comes_to t s) (firsts qs (needs t s))

abbrev pub RunIsWhatItNeeds : Type 0
RunIsWhatItNeeds = (l : Limits) (t : Tree) (s : Search) (qs : Trail) → IsWhatItNeeds l t s qs

-- New questions all fit behind a trail exactly if the trail with them has no more steps and bytes than the limits.
pub record Fits (l : Limits) (qs : Trail) : Type 0 where
  pub steps : length qs ≤ l.steps
  pub bytes : length (path_bytes qs) ≤ l.bytes

abbrev pub FitByTotals : Type 0
FitByTotals = (l : Limits) (qs : Trail) (q : Question) (new : Trail) → Decides (all_fit l qs (q ∷ new)) (Fits l (qs ++ q ∷ new))

-- Two trees give the same reply: the same kind, or the same manifest with the same bytes.
abbrev pub SameReply : Tree → Tree → Question → Type 0
SameReply t t' (kind_asked p) = kind_of (t' p) ≡ kind_of (t p)
SameReply t t' (manifest_at p) = content_of (t' p) ≡ content_of (t p)

-- ... to every question of a trail
abbrev pub SameReplies : Tree → Tree → Trail → Type 0
SameReplies t t' [] = Unit {0}
SameReplies t t' (q ∷ qs) = SameReply t t' q × SameReplies t t' qs

-- Another tree that gives the same reply to every question on the trail that a search leaves: it comes to the same there.
abbrev pub SameRepliesSameAnswer : Type 0
SameRepliesSameAnswer = (l : Limits) (t t' : Tree) (s : Search) (qs : Trail) → SameReplies t t' (run l t s qs).trail → run l t' s qs ≡ run l t s qs

-- a path called package.json
unfoldable pub is_manifest : Path → Bool
is_manifest p = ends_with p (codes "/package.json")

-- a file that the second tree has and the first has not, not called package.json
pub record NewFile (t t' : Tree) (p : Path) : Type 0 where
  pub before : t p ≡ nothing
  pub content : List ℕ
  pub after : t' p ≡ file content
  pub no_manifest : is_manifest p ≡ false

-- Only files were added, none of them called package.json.
abbrev pub OnlyFilesAdded : Tree → Tree → Type 0
OnlyFilesAdded t t' = (p : Path) → (t' p ≡ t p) ⊎ NewFile t t' p

-- outcome and trail are the same, or a newly added file is chosen
abbrev pub SameOrNew : Tree → Tree → Result → Result → Type 0
SameOrNew t t' r r' = (r' ≡ r) ⊎ ((p : Path) × (r'.outcome ≡ chosen p) × NewFile t t' p)

-- Another tree in which only files were added: a search comes to the same there, or it chooses one of those files.
abbrev pub AddedFilesAreHarmless : Type 0
AddedFilesAreHarmless = (l : Limits) (t t' : Tree) → OnlyFilesAdded t t' → (s : Search) (qs : Trail) → SameOrNew t t' (run l t s qs) (run l t' s qs)

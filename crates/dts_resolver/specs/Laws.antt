-- Laws of a lookup.
use Rattle.std.specs.Prelude.{◌≡◌, ℕ, ◌⊎◌, List, [], Decides, IsUtf8}
use Rattle.file_system.specs.Tree.{Tree}
use Rattle.search.specs.declared.error.Refusal.TheVariants.{TrailFull}
use Rattle.search.specs.Search.{Outcome, refused}
use Rattle.search.specs.Needs.{comes_to}
use Rattle.search.specs.Laws.{SameReplies, OnlyFilesAdded, SameOrNew, IsWhatItNeeds}
use Rattle.dts_resolver.specs.Given.{Given}
use Rattle.dts_resolver.specs.Checks.{utf8}
use Rattle.dts_resolver.specs.Trials.{ended, trials}
use Rattle.dts_resolver.specs.Steps.{search_for, looked_up}

-- Without limits a lookup comes to the outcome of the first of its trials that succeeds or stops,
abbrev pub EndsAsItsTrials : Type 0
EndsAsItsTrials = (t : Tree) (g : Given) → comes_to t (search_for g) ≡ ended t (trials t g)

-- ... and so it does within limits, unless it is refused with 8.
abbrev pub UnlessFull : Outcome → Outcome → Type 0
UnlessFull o wanted = (o ≡ refused TrailFull) ⊎ (o ≡ wanted)

-- A lookup asks what its search needs, each question once and in order of first need, and nothing else; where those do not
-- all find room it is refused with 8.
abbrev pub AsksWhatItNeeds : Tree → Given → Type 0
AsksWhatItNeeds t g = IsWhatItNeeds g.limits t (search_for g) []

-- A tree that gives the same reply to each question on the trail of a lookup comes to the same,
abbrev pub KeepsItsAnswer : Tree → Given → Type 0
KeepsItsAnswer tree g = (t : Tree) → SameReplies tree t (looked_up tree g).trail → looked_up t g ≡ looked_up tree g

-- ... and one in which only files were added to the same, or to one of those files.
abbrev pub MindsOnlyNewFiles : Tree → Given → Type 0
MindsOnlyNewFiles tree g = (t : Tree) → OnlyFilesAdded tree t → SameOrNew tree t (looked_up tree g) (looked_up t g)

-- The definition of UTF-8 and the library's agree.
abbrev pub Utf8IsTheLibrarys : Type 0
Utf8IsTheLibrarys = (bytes : List ℕ) → Decides (utf8 bytes) (IsUtf8 bytes)

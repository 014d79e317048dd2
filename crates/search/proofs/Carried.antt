-- How far a search was carried out, one part after the other.
use Rattle.std.proofs.Common.{◌≡◌, List}
use Rattle.file_system.specs.Tree.{Path, Tree}
use Rattle.search.specs.Search.{Search, Limits, Trail, Outcome, chosen, refused, result, run}
use Rattle.search.specs.Memory.{InMemory, limits_of, Holds}
use Rattle.search.specs.Course.{Course, went_on, chose, broke}

-- where a search stands: a search is left, or it has come to its outcome
pub data Stand : Type 0 where
  left : Search → Stand
  over : Outcome → Stand

-- where it stands behind a part of it that went so, followed by a rest
abbrev pub stand_of : Course → Search → Stand
stand_of went_on s = left s
stand_of (chose p) s = over (chosen p)
stand_of (broke e) s = over (refused e)

-- From a trail on a search goes as what is left of it from another one, or has come to its outcome.
unfoldable pub Goes : Limits → Tree → Search → Trail → Stand → Trail → Type 0
Goes l t s qs (left s') qs' = run l t s qs ≡ run l t s' qs'
Goes l t s qs (over o) qs' = run l t s qs ≡ result o qs'

-- A search was carried out so far, from any trail that the memory holds.
abbrev pub Leads : Tree → InMemory → InMemory → Search → Stand → Type 0
Leads tree before after s stand = (qs : Trail) → Holds tree before qs → (qs' : Trail) × (Holds tree after qs' × Goes (limits_of before) tree s qs stand qs')

-- The laws of patterns, as statements.
use Rattle.std.specs.Prelude.{◌≡◌, ℕ, List, Some, codes}
use Rattle.patterns.specs.Pattern.{Matches, filled}
use Rattle.patterns.specs.Match.{match_of}

-- A pattern matches in one way at most.
abbrev pub OneMatch : Type 0
OneMatch = (pattern text m n : List ℕ) → Matches pattern text m → Matches pattern text n → m ≡ n

-- The first star splits a pattern and a later one is a plain byte, while all stars of a target are filled:
-- `a*b*` matches `a1b*`, and whatever it matches there makes `1/1` of the target `*/*`.
abbrev pub FirstStarSplits : Type 0
FirstStarSplits =
    Matches (codes "a*b*") (codes "a1b*") (codes "1")
    × ((m : List ℕ) → Matches (codes "a*b*") (codes "a1b*") m → filled m (codes "*/*") ≡ codes "1/1")

-- The function tells the part that the relation has, and only such a one.
abbrev pub MatchIsTold : Type 0
MatchIsTold = (pattern text m : List ℕ) → Matches pattern text m → match_of pattern text ≡ Some m

abbrev pub ToldIsMatch : Type 0
ToldIsMatch = (pattern text m : List ℕ) → match_of pattern text ≡ Some m → Matches pattern text m

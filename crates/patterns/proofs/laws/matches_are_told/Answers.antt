-- The laws, as they are proved.
use Rattle.patterns.proofs.MatchOf.{told, tells}
use Rattle.patterns.proofs.laws.matches_are_told.Goals as goal

pub returns : goal.returns
returns c = record { match_is_told = told; told_is_match = tells }

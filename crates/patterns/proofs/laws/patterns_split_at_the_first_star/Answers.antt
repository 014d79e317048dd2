-- The laws, as they are proved.
use Rattle.patterns.proofs.Patterns.{one_match, first_star_splits}
use Rattle.patterns.proofs.laws.patterns_split_at_the_first_star.Goals as goal

pub returns : goal.returns
returns c = record { one_match = one_match; first_star_splits = first_star_splits }

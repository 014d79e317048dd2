use Rattle.std.proofs.Common.{[]}
use Rattle.package_json.proofs.Counting.{kept_are_patterns}
use Rattle.package_json.proofs.laws.first_of_equal_patterns_counts.Goals as goal

pub returns : goal.returns
returns c = record { kept_are_the_patterns = kept_are_patterns [] }

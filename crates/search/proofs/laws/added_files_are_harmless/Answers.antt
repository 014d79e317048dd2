use Rattle.search.proofs.SearchAdditions.{proved}
use Rattle.search.proofs.laws.added_files_are_harmless.Goals as goal

pub returns : goal.returns
returns c = record { added_files_are_harmless = proved }

use Rattle.search.proofs.SearchNeeds.{run_is_what_it_needs}
use Rattle.search.proofs.SearchFits.{proved}
use Rattle.search.proofs.laws.run_is_what_it_needs.Goals as goal

pub returns : goal.returns
returns c = record { run_is_what_it_needs = run_is_what_it_needs; fit_by_totals = proved }

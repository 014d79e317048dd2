-- The parent is a front of the path; `/`, which has none, stays.
use Rattle.path.proofs.Walking.{above_or_root}
use Rattle.path.proofs.joining.length_above.Goals as goal

pub returns-clause-front : goal.returns-clause-front
returns-clause-front c =
    let told = c.parent.ensures in
    above_or_root c.parent.result _ c.requires c.unwrap_or.ensures told.without_last_component told.front_of_path

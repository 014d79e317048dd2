use Rattle.dts_resolver.proofs.LookupTrials.{proved}
use Rattle.dts_resolver.proofs.laws.lookups_end_as_their_trials.Goals as goal

pub returns : goal.returns
returns c = record { ends_as_its_trials = proved }

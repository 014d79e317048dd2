-- The laws, as they are proved.
use Rattle.json_string.proofs.Running.{run_broken}
use Rattle.json_string.proofs.Beginnings.{alive_begins, begins_alive, no_byte_breaks}
use Rattle.json_string.proofs.laws.machine_breaks_where_no_string_goes_on.Goals as goal

pub returns : goal.returns
returns c = record { going_on_begins_a_string = alive_begins; what_begins_a_string_goes_on = begins_alive; broken_stays = run_broken; no_byte_breaks = no_byte_breaks }

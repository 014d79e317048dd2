-- The law, as it is proved.
use Rattle.json_string.proofs.Decoding.{chars_decoded}
use Rattle.json_string.proofs.laws.chars_have_one_decoding.Goals as goal

pub returns : goal.returns
returns c = record { chars_are_decoded = chars_decoded }

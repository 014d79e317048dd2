-- A fold builds the one value.
use Rattle.json_text.proofs.OneValue.{one_text, one_stands}
use Rattle.json_text.proofs.laws.text_has_one_value.Goals as goal

pub returns : goal.returns
returns c = record { one_value = one_text; one_value_stands = one_stands }

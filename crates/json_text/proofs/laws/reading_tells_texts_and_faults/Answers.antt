-- The verdict is right, and a text builds its value.
use Rattle.json_text.proofs.Told.{value_is_read, read_is_value, fault_is_read, read_is_fault}
use Rattle.json_text.proofs.laws.reading_tells_texts_and_faults.Goals as goal

pub returns : goal.returns
returns c = record { value_is_read = value_is_read; read_is_value = read_is_value; fault_is_read = fault_is_read; read_is_fault = read_is_fault }

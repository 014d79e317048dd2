-- The laws, as they are proved.
use Rattle.json_string.proofs.Complete.{chars_read, chars_close}
use Rattle.json_string.proofs.Sound.{read_chars}
use Rattle.json_string.proofs.laws.machine_reads_the_grammar.Goals as goal

pub returns : goal.returns
returns c = record { chars_are_read = chars_read; read_are_chars = read_chars; quotation_mark_closes = chars_close }

-- The laws, as they are proved.
use Rattle.json_string.proofs.Codes.{unescaped_codes, codes_unescaped, chars_text}
use Rattle.json_string.proofs.laws.chars_are_utf8.Goals as goal

pub returns : goal.returns
returns c = record { unescaped_are_codes = unescaped_codes; codes_are_unescaped = codes_unescaped; chars_are_text = chars_text }

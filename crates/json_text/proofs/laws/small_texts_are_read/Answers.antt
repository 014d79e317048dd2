-- Each is found by computing: the machine's verdict, and the value that the fold builds. A text of 16,000 bytes takes about a second.
use Rattle.std.specs.Prelude.{refl}
use Rattle.json_string.specs.String.{holds, in_a_range}
use Rattle.json_string.specs.Machine.{row_step, string_step}
use Rattle.json_string.specs.Decoded.{decoded, decoded_after, first_piece, coded_piece, code_at, escape_value, hex_value}
use Rattle.json_text.specs.Json.{is_ws, is_digit, is_e, is_sign}
use Rattle.json_text.specs.Machine.{opening, close, have_step, begin_step, name_step, exp_step, frac_step, step}
use Rattle.json_text.specs.Fold.{close_array, close_object, comma, name_of, colon, empty, chars, build, built}
use Rattle.json_text.specs.Value.{verdict, reading}
use Rattle.json_text.proofs.laws.small_texts_are_read.Goals as goal

pub returns : goal.returns
unfolding reading verdict step opening close have_step begin_step name_step exp_step frac_step is_ws is_digit is_e is_sign row_step string_step holds in_a_range close_array close_object comma name_of colon empty chars build built decoded decoded_after first_piece coded_piece code_at escape_value hex_value lib.Utf8.encode
returns c = record { small_texts = (refl, refl, refl, refl, refl) }

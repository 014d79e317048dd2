-- Each is found by computing, from its bytes on.
use Rattle.std.specs.Prelude.{refl}
use Rattle.path.specs.Path.{proper, stays, goes_up, every, split, onto}
use Rattle.json_string.specs.String.{holds, in_a_range}
use Rattle.json_string.specs.Machine.{row_step, string_step}
use Rattle.json_string.specs.Decoded.{decoded, decoded_after, first_piece, coded_piece, code_at, escape_value, hex_value}
use Rattle.json_text.specs.Json.{is_ws, is_digit, is_e, is_sign}
use Rattle.json_text.specs.Machine.{opening, close, have_step, begin_step, name_step, exp_step, frac_step, step}
use Rattle.json_text.specs.Fold.{close_array, close_object, comma, name_of, colon, empty, chars, build, built}
use Rattle.json_text.specs.Value.{verdict, reading}
use Rattle.json_text.specs.Standing.{holds_name}
use Rattle.package_json.specs.Plain.{is_component, all_plain, plain_target}
use Rattle.package_json.specs.Manifest.{firsts, first_named, string_field, exports_field, strings, patterns_of, first_range, version_paths}
use Rattle.package_json.proofs.laws.small_manifests_are_read.Goals as goal

pub returns : goal.returns
unfolding reading verdict step opening close have_step begin_step name_step exp_step frac_step is_ws is_digit is_e is_sign row_step string_step holds in_a_range close_array close_object comma name_of colon empty chars build built decoded decoded_after first_piece coded_piece code_at escape_value hex_value lib.Utf8.encode proper stays goes_up every split onto holds_name is_component all_plain plain_target firsts first_named string_field exports_field strings patterns_of first_range version_paths
returns c = record { small_manifests = ((refl, refl, refl, refl, refl), refl, refl, refl, refl, refl, refl, refl) }

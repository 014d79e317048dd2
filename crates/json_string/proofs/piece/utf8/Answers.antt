-- Two to four bytes, as the code is large.
use Rattle.std.proofs.Common.{arith}
use lib.Utf8.{encode}
use Rattle.std.proofs.lemmas.Bool.Decides.{nat_tests}
use Rattle.json_string.proofs.piece.utf8.Goals as goal

pub returns-in-128-to-2047 : goal.returns-in-128-to-2047
unfolding encode
returns-in-128-to-2047 c = grind (arith, nat_tests)

pub returns-in-2048-to-65535 : goal.returns-in-2048-to-65535
unfolding encode
returns-in-2048-to-65535 c = grind (arith, nat_tests)

pub returns-in_default : goal.returns-in_default
unfolding encode
returns-in_default c = grind (arith, nat_tests)

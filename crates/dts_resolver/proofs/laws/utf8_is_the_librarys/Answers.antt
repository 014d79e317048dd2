use Rattle.dts_resolver.proofs.Utf8Test.{utf8_decides}
use Rattle.dts_resolver.proofs.laws.utf8_is_the_librarys.Goals as goal

pub returns : goal.returns
returns c = record { utf8_is_the_librarys = utf8_decides }

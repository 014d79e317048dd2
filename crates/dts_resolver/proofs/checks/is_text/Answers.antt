use Rattle.std.proofs.Common.{true, false, sym, ◌∙◌}
use Rattle.dts_resolver.proofs.CheckOrder.{text_is}
use Rattle.dts_resolver.proofs.Utf8Test.{utf8_is}
use Rattle.dts_resolver.proofs.checks.is_text.Goals as goal

pub returns-then-is_utf8 : goal.returns-then-is_utf8
returns-then-is_utf8 c = record { short_utf8 = sym (text_is c.args.bytes.now true (sym c.if-is_utf8.true ∙ utf8_is c.args.bytes.now c.is_utf8.result c.is_utf8.ensures.exactly_utf8)) }

pub returns-else-is_utf8 : goal.returns-else-is_utf8
returns-else-is_utf8 c = record { short_utf8 = c.if-is_utf8.false ∙ sym (text_is c.args.bytes.now false (sym c.if-is_utf8.false ∙ utf8_is c.args.bytes.now c.is_utf8.result c.is_utf8.ensures.exactly_utf8)) }

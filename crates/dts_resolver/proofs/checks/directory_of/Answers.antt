use Rattle.std.proofs.Common.{sym}
use Rattle.dts_resolver.proofs.CheckOrder.{directory_of_root, directory_by_parent}
use Rattle.dts_resolver.proofs.checks.directory_of.Goals as goal

pub returns-then-eq : goal.returns-then-eq
returns-then-eq c = record { of_a_normal_text = directory_of_root c.args.containing.now (sym c.if-not-is_text.ensures.short_utf8) (cc) }

pub returns : goal.returns
returns c = record { of_a_normal_text = directory_by_parent c.args.containing.now (sym c.if-not-is_text.ensures.short_utf8) c.parent.result (cc) c.parent.ensures.without_last_component }

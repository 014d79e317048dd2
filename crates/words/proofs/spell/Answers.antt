-- A byte that may not stand plain is escaped.
use Rattle.std.proofs.Common.{sym, arith}
use Rattle.words.proofs.Words.{pushed_escape}
use Rattle.words.proofs.spell.Goals as goal

pub returns-else-plain : goal.returns-else-plain
returns-else-plain c = pushed_escape c.push_str.result _ _ _ c.args.byte (omega arith) (sym c.if-plain.ensures) c.percent_encode_byte.ensures c.push_str.ensures.bytes

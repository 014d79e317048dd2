use Rattle.std.proofs.Common.{eqb, rules}
use Rattle.std.specs.List.{list_any}
use Rattle.dts_resolver.proofs.LookupAnswer.{through}
use Rattle.dts_resolver.proofs.SpecifierParts.{holds_any}
use Rattle.dts_resolver.proofs.resolve.has_colon.Goals as goal

pub returns : goal.returns
returns c = record { somewhere = through (list_any (λ b. eqb b 58) c.args.part.now) (search rules) (holds_any 58 c.args.part.now) }

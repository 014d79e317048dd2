use Rattle.std.proofs.lemmas.Nat.{or_lt}
use Rattle.dts_resolver.proofs.extensions.Extensions.union.Goals as goal

pub invariant_of-result : goal.invariant_of-result
invariant_of-result c = or_lt 3 c.self.inside.bits c.other.inside.bits c.self.invariant c.other.invariant

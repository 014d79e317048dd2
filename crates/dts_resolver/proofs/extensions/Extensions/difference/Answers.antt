use Rattle.dts_resolver.proofs.MaskBits.{less_small, less_apart, less_joined}
use Rattle.dts_resolver.proofs.extensions.Extensions.difference.Goals as goal

pub invariant_of-result : goal.invariant_of-result
invariant_of-result c = less_small c.self.inside.bits c.other.inside.bits c.self.invariant c.other.invariant

pub returns : goal.returns
returns c = rw (← c.self.view_is, ← c.other.view_is) (record {
  nothing_of_the_other = less_apart c.self.inside.bits c.other.inside.bits c.self.invariant c.other.invariant;
  all_else = less_joined c.self.inside.bits c.other.inside.bits c.self.invariant c.other.invariant;
})

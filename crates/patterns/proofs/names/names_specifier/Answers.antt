-- Byte by byte.
use Rattle.text.proofs.Coming.{byte_comes, other_comes}
use Rattle.patterns.proofs.NameParts.{same_byte, other_byte, at_its_end}
use Rattle.patterns.proofs.names.names_specifier.Goals as goal

pub loop-byte-preserved : goal.loop-byte-preserved
loop-byte-preserved c = (
  tt,
  tt,
  same_byte _ _ _ _ c.loop-byte.invariant.2 c.in-Some.byte _ _ c.in-Some.ensures.steps (byte_comes c.in-Some.byte _ _ _ _ c.next-in-loop-byte.ensures.steps c.ne.ensures c.if-ne.false),
)

pub returns-then-ne : goal.returns-then-ne
returns-then-ne c = record {
  by_its_beginning = other_byte _ _ _ _ c.loop-byte.invariant.2 c.in-Some.byte _ c.in-Some.ensures.steps (λ u. other_comes c.in-Some.byte _ _ _ _ u c.next-in-loop-byte.ensures.steps c.ne.ensures c.if-ne.true);
}

pub returns : goal.returns
returns c = record { by_its_beginning = at_its_end _ _ _ _ c.loop-byte.invariant.2 _ _ _ c.in-None.ensures.steps.0 c.next-2.ensures.steps c.ends_name.ensures }

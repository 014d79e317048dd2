-- The next of the first bytes is the next of all.
use Rattle.text.proofs.Coming.{next_of_first}
use Rattle.text.proofs.part.PartIterator.next.Goals as goal

pub returns-clause-steps : goal.returns-clause-steps
returns-clause-steps g c = next_of_first _ _ _ _ c.if-self-eq0.false (g.met.B.Bytes.gives_the_first _ _ _ c.next-byte.ensures.steps)

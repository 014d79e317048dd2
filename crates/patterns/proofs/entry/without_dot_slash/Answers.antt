-- The first two bytes tell.
use Rattle.text.proofs.Coming.{byte_comes, other_comes}
use Rattle.patterns.proofs.Undotted.{both, no_dot, no_slash}
use Rattle.patterns.proofs.entry.without_dot_slash.Goals as goal
use Rattle.patterns.proofs.entry.without_dot_slash.Goals.{then-ne-via-then-ne, then-ne-via-else-ne+then-ne-2}

pub returns-then-ne : goal.returns-then-ne
returns-then-ne g c = record {
  one_taken_off = elim c.then-ne.branch [
    | then-ne-via-then-ne w ↦ no_dot _ (λ u. other_comes 46 _ _ _ _ u (g.met.B.Bytes.gives_the_first _ _ _ c.next.ensures.steps) c.ne.ensures w.if-ne.true)
    | then-ne-via-else-ne+then-ne-2 w ↦
        no_slash _ _ (byte_comes 46 _ _ _ _ (g.met.B.Bytes.gives_the_first _ _ _ c.next.ensures.steps) c.ne.ensures w.if-ne.false)
        (λ v. other_comes 47 _ _ _ _ v (g.met.B.Bytes.gives_the_first _ _ _ w.next-else-ne.ensures.steps) w.ne-else-ne.ensures w.if-ne-2.true)
  ];
}

pub returns : goal.returns
returns g c = record {
  one_taken_off = both _ _ _ (byte_comes 46 _ _ _ _ (g.met.B.Bytes.gives_the_first _ _ _ c.next.ensures.steps) c.ne.ensures c.if-ne.false)
      (byte_comes 47 _ _ _ _ (g.met.B.Bytes.gives_the_first _ _ _ c.next-else-ne.ensures.steps) c.ne-else-ne.ensures c.if-ne-2.false);
}

-- The first byte tells, and then what stands behind it.
use Rattle.text.proofs.Coming.{byte_comes, other_comes}
use Rattle.path.proofs.Normality.{normal_other, normal_slash_alone, normal_slash_pieces}
use Rattle.path.proofs.components.is_normal_text.Goals as goal

pub returns-then-ne : goal.returns-then-ne
returns-then-ne g c = normal_other _ (λ u. other_comes 47 _ _ _ _ u c.next.ensures.steps c.ne.ensures c.if-ne.true)

pub returns-then-bytes_left-eq0 : goal.returns-then-bytes_left-eq0
returns-then-bytes_left-eq0 g c = normal_slash_alone _ _ _ (byte_comes 47 _ _ _ _ c.next.ensures.steps c.ne.ensures c.if-ne.false) c.bytes_left.ensures.number_of_bytes c.if-bytes_left-eq0.true

pub returns-else-bytes_left-eq0 : goal.returns-else-bytes_left-eq0
returns-else-bytes_left-eq0 g c = normal_slash_pieces _ _ _ _ (byte_comes 47 _ _ _ _ c.next.ensures.steps c.ne.ensures c.if-ne.false) c.bytes_left.ensures.number_of_bytes c.if-bytes_left-eq0.false c.are_proper.ensures

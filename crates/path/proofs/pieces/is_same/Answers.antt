-- A piece without bytes is empty, and otherwise it is to be `.`.
use Rattle.path.proofs.PieceKinds.{empty_stays, dot_stays}
use Rattle.path.proofs.pieces.is_same.Goals as goal

pub returns-then-bytes_left-eq0 : goal.returns-then-bytes_left-eq0
returns-then-bytes_left-eq0 g c = empty_stays _ _ c.bytes_left.ensures.number_of_bytes c.if-bytes_left-eq0.true

pub returns-else-bytes_left-eq0 : goal.returns-else-bytes_left-eq0
returns-else-bytes_left-eq0 g c = dot_stays _ _ _ c.bytes_left.ensures.number_of_bytes c.if-bytes_left-eq0.false (rw c.new.ensures.all_to_come at c.same_bytes.ensures.exactly_if_the_same)

-- The same bytes are `..`.
use Rattle.path.proofs.PieceKinds.{dots_go_up}
use Rattle.path.proofs.pieces.is_up.Goals as goal

pub returns : goal.returns
returns g c = dots_go_up _ _ (rw c.new.ensures.all_to_come at c.same_bytes.ensures.exactly_if_the_same)

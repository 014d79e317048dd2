use Rattle.std.proofs.Common.{refl}
use Rattle.list.proofs.TakenOut.{held_without, free_behind}
use Rattle.list.proofs.removal.take_out.Goals as goal

pub returns-clause-held_without : goal.returns-clause-held_without
returns-clause-held_without g c = held_without _ _ _ c.args.at c.args.end c.args.count _ c.requires.1 c.requires.0 refl c.rotate_left.ensures.after refl

pub returns-clause-free_behind : goal.returns-clause-free_behind
returns-clause-free_behind g c = free_behind _ _ _ c.args.at c.args.end c.args.count _ c.requires.1 c.requires.0 refl c.rotate_left.ensures.after refl

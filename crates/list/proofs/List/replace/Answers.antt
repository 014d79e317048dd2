use Rattle.list.proofs.TakenOut.{take_set}
use Rattle.list.proofs.List.replace.Goals as goal

pub returns-then-at-self-clause-that_place : goal.returns-then-at-self-clause-that_place
returns-then-at-self-clause-that_place g c = take_set c.args.self.now.len c.args.at c.args.self.now.items.now c.args.x

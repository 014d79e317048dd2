use Rattle.std.proofs.Common.{◌≡◌, min, length, rules}
use Rattle.replay.proofs.ReplayMemory.{in_parts}
use Rattle.replay.proofs.looking.look_up_in_part.Goals as goal

pub returns-clause-told_of_it : goal.returns-clause-told_of_it
returns-clause-told_of_it g c =
    let lengths = c.args.asked.now.lengths in
    let path : c.min-path_end.result ≡ min lengths.path (length c.args.path.now) = search rules in
    let work : c.min-work_end.result ≡ min lengths.work (length c.args.work.now) = search rules in
    let steps : c.min-steps_end.result ≡ min lengths.steps (length c.args.steps.now) = search rules in
    let bytes : c.min-bytes_end.result ≡ min lengths.bytes (length c.args.bytes.now) = search rules in
    in_parts g.S.FileSystem.sound g.S.FileSystem.tree g.S.FileSystem.space (g.O.Observer.told c.args.observer.now) (g.O.Observer.told c.look_up_in_all.new.observer) c.look_up_in_all.result c.args.asked.now c.args.store.now c.look_up_in_all.new.store
    c.args.path.now c.args.work.now c.args.steps.now c.args.bytes.now c.min-path_end.result c.min-work_end.result c.min-steps_end.result c.min-bytes_end.result
    c.look_up_in_all.new.path c.look_up_in_all.new.work c.look_up_in_all.new.steps c.look_up_in_all.new.bytes
    path work steps bytes (search rules) (search rules) (search rules) (search rules) c.look_up_in_all.ensures.told_of_it

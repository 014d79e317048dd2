use Rattle.std.proofs.Common.{◌+◌, ◌-◌, ◌&&◌, leb, length, sym, ap, ◌∙◌, arith}
use Rattle.list.specs.Held.{capacity}
use Rattle.std.proofs.lemmas.Bool.{lt-ltb, le-ltb}
use Rattle.table.proofs.TableSpace.{by_room}
use Rattle.table.proofs.Table.has_space.Goals as goal

pub returns-then-room-gt0 : goal.returns-then-room-gt0
returns-then-room-gt0 c =
    let t = c.args.self.now in
    let bytes = length c.args.path.now + c.args.size in
    let fits = leb bytes (capacity t.bytes - t.bytes.len) in
    let one = lt-ltb 0 (capacity t.entries - t.entries.len) (omega (arith, c.room.ensures.free_count)) in
    record { exact_rule = λ s. c.fit.ensures.within ∙ ap (leb bytes) c.room-then-room-gt0.ensures.free_count ∙ sym (by_room t c.args.path.now c.args.size s ∙ ap (λ b. b && fits) one) }

pub returns-else-room-gt0 : goal.returns-else-room-gt0
returns-else-room-gt0 c =
    let t = c.args.self.now in
    let fits = leb (length c.args.path.now + c.args.size) (capacity t.bytes - t.bytes.len) in
    let none = le-ltb 0 (capacity t.entries - t.entries.len) (omega (arith, c.room.ensures.free_count)) in
    record { exact_rule = λ s. le-ltb 0 c.room.result c.if-room-gt0.false ∙ sym (by_room t c.args.path.now c.args.size s ∙ ap (λ b. b && fits) none) }

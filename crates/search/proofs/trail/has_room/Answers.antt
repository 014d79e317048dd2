use Rattle.std.proofs.Common.{◌-◌, ◌&&◌, leb, ltb, length, sym, ap, ◌∙◌, arith}
use Rattle.list.specs.Held.{capacity}
use Rattle.std.proofs.lemmas.Bool.{lt-ltb, le-ltb}
use Rattle.search.specs.Memory.{in_lists}
use Rattle.search.proofs.TrailMemory.{room_is}
use Rattle.search.proofs.trail.has_room.Goals as goal

pub returns-then-room-gt0-clause-entry_and_bytes : goal.returns-then-room-gt0-clause-entry_and_bytes
returns-then-room-gt0-clause-entry_and_bytes c =
    let t = in_lists c.args.steps.now c.args.bytes.now in
    let fits = leb (length c.args.path.now) (capacity t.bytes - t.bytes.len) in
    let one = lt-ltb 0 (capacity t.steps - t.steps.len) (omega (arith, c.room.ensures.free_count)) in
    λ tree qs h q e. ap (leb (length c.args.path.now)) c.room-then-room-gt0.ensures.free_count ∙ sym (room_is tree t qs h q ∙ ap (λ p. ltb 0 (capacity t.steps - t.steps.len) && leb (length p) (capacity t.bytes - t.bytes.len)) e ∙ ap (λ b. b && fits) one)

pub returns-else-room-gt0-clause-entry_and_bytes : goal.returns-else-room-gt0-clause-entry_and_bytes
returns-else-room-gt0-clause-entry_and_bytes c =
    let t = in_lists c.args.steps.now c.args.bytes.now in
    let fits = leb (length c.args.path.now) (capacity t.bytes - t.bytes.len) in
    let none = le-ltb 0 (capacity t.steps - t.steps.len) (omega (arith, c.room.ensures.free_count)) in
    λ tree qs h q e. le-ltb 0 c.room.result c.if-room-gt0.false ∙ sym (room_is tree t qs h q ∙ ap (λ p. ltb 0 (capacity t.steps - t.steps.len) && leb (length p) (capacity t.bytes - t.bytes.len)) e ∙ ap (λ b. b && fits) none)

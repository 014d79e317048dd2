use Rattle.std.proofs.Common.{◌<◌, ◌++◌, map, take, drop, set, get_or, length, ap, ◌∙◌, arith}
use Rattle.list.specs.Held.{held, capacity}
use Rattle.list.proofs.Held.{held_count}
use Rattle.table.specs.Parts.{moved}
use Rattle.table.proofs.TableShrinking.{move_one}
use Rattle.table.proofs.changes.move_down.Goals as goal
use Rattle.table.proofs.changes.move_down.Goals.{in-Some, in_default}

pub loop-at-preserved : goal.loop-at-preserved
loop-at-preserved c =
    let es = held c.args.entries.now in
    let at = c.loop-at.at in
    let f = moved c.args.start c.args.size in
    let now = c.loop-at.invariant.0 in
    let count = held_count c.args.entries.now c.args.entries.now.within in
    let count_now = held_count c.loop-at.entries c.loop-at.entries.within in
    let inside : at < length es = omega (arith, count, c.len-at-end.ensures.count, c.loop-at-test.true) in
    elim c.match-get.branch [
      | in-Some w ↦
          let e = w.in-Some.e in
          let there = w.in-Some.ensures.element.1 e in (
            ap held w.entries-is ∙ w.replace.ensures.that_place ∙ ap (λ xs. set xs at w.moved.result) now ∙ ap (set (map f (take at es) ++ drop at es) at) w.moved.ensures.down_if_behind
                ∙ move_one f at es e inside (there ∙ ap (λ xs. get_or xs at e) now),
            ap (λ l. l.len) w.entries-is ∙ w.replace.ensures.counted ∙ c.loop-at.invariant.1,
            ap capacity w.entries-is ∙ w.replace.ensures.same_capacity ∙ c.loop-at.invariant.2,
            ap (λ l. l.items.ghost_name) w.entries-is ∙ w.replace.ensures.same_memory ∙ c.loop-at.invariant.3,
          )
      | in_default w ↦ absurd (omega (arith, w.in_default.ensures.element, count_now, c.loop-at.invariant.1, inside, count))
    ]

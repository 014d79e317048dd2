-- One byte more is written: there is room for as many as are taken.
use Rattle.std.proofs.Common.{◌≤◌, ◌++◌, [], ◌∷◌, length, take, drop, ap, ◌∙◌, sym, arith, rules}
use Rattle.std.specs.Result.{is_ok}
use Rattle.std.specs.Iterator.{YieldsFirst}
use Rattle.std.specs.Iterator.Adapters.{take_steps, skip_steps}
use Rattle.std.proofs.lemmas.List.{length-take, map-id}
use Rattle.std.proofs.lemmas.Iterator.{YieldsList, YieldsList-from_take}
use Rattle.std.proofs.lemmas.Iterator.Adapters.{YieldsList-from_skip}
use Rattle.std.proofs.lemmas.Iterator.Consumers.{YieldsList-at, YieldsList-from_first, YieldsList-end}
use Rattle.json_string.specs.Decoded.{decoded}
use Rattle.json_string.specs.Left.{left}
use Rattle.json_string.proofs.Filling.{filled_more, filled_memory, through, first_of_all}
use Rattle.json_string.proofs.decoded.copy_decoded.Goals as goal
use Rattle.json_string.proofs.decoded.copy_decoded.Goals.{After-into_iter-byte-iterator}

-- what is taken
taken : (c : After-into_iter-byte-iterator) → YieldsList (take_steps (skip_steps (YieldsFirst left))) (λ x. x) c.into_iter-byte-iterator.result (take c.min-room.result (drop c.args.from (decoded c.args.text.now)))
taken c =
    YieldsList-at c.into_iter-byte-iterator.ensures.into_iter_gives
    (YieldsList-from_take _ (YieldsList-at c.take-byte-items.ensures.source
    (YieldsList-from_skip _ (YieldsList-at c.skip.ensures.source (YieldsList-from_first (λ x. x) left _ c.new.ensures.all_to_come)) c.skip.ensures.count)) c.take-byte-items.ensures.count)

pub loop-byte-preserved : goal.loop-byte-preserved
loop-byte-preserved c =
    let i = c.loop-byte.invariant in
    let told = c.push.ensures in (
      tt,
      tt,
      filled_more _ _ (c.in-Some.byte ∷ []) _ _ (is_ok c.push.result) i.2 (ap is_ok c.unwrap.ensures) told.one_more told.others_as_before told.counted told.same_capacity,
      told.same_memory ∙ i.3,
    )

pub returns : goal.returns
returns c =
    let i = c.loop-byte.invariant.2 in
    let D = drop c.args.from (decoded c.args.text.now) in
    let all = YieldsList-end (taken (goal.at.returns c).After-into_iter-byte-iterator) _ _ c.loop-byte.yielded_by _ c.next.new.self c.in-None.is c.next.ensures.steps in
    let items = sym (map-id c.loop-byte.yielded) ∙ all.0 in
    let count = c.len.ensures.count ∙ i.counted ∙ all.1 in
    let fewer : c.len.result ≤ c.min-room.result = omega (arith, count, length-take c.min-room.result D) in
    record {
      how_many = count ∙ ap (λ n. length (take n D)) c.min-room.ensures;
      stored =
          through c.loop-byte.copied.items.now (search rules)
          (filled_memory c.loop-byte.copied i ∙ first_of_all _ D _ c.len.result c.min-room.result items (c.len.ensures.count ∙ i.counted) fewer ∙ ap (λ m. take c.len.result D ++ drop c.len.result m) c.new-copied.ensures.memory_as_before);
    }

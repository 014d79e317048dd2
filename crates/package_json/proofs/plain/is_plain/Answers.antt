use Rattle.std.proofs.Common.{sym, ap, ◌∙◌}
use Rattle.package_json.specs.Plain.{plain_target}
use Rattle.package_json.proofs.Components.{comes_next, comes_other, target_first, target_second, target_both}
use Rattle.package_json.proofs.plain.is_plain.Goals as goal
use Rattle.package_json.proofs.plain.is_plain.Goals.{then-ne-via-then-ne, then-ne-via-else-ne+then-ne-2}

pub returns-then-ne : goal.returns-then-ne
returns-then-ne c =
    let begin = ap plain_target (sym c.new-decoder.ensures.all_to_come) in
    elim c.then-ne.branch [
      | then-ne-via-then-ne w ↦ record { by_components = sym (begin ∙ target_first _ _ (comes_other 46 _ _ c.next.result c.ne.result c.next.ensures.steps c.ne.ensures w.if-ne.true)) }
      | then-ne-via-else-ne+then-ne-2 w ↦ record {
        by_components =
            sym (begin ∙ target_second _ _ (comes_next 46 _ _ c.next.result c.ne.result c.next.ensures.steps c.ne.ensures w.if-ne.false) _
            (comes_other 47 _ _ w.next-else-ne.result w.ne-else-ne.result w.next-else-ne.ensures.steps w.ne-else-ne.ensures w.if-ne-2.true));
      }
    ]

pub returns : goal.returns
returns c =
    let both = target_both _ _ (comes_next 46 _ _ c.next.result c.ne.result c.next.ensures.steps c.ne.ensures c.if-ne.false) _ (comes_next 47 _ _ c.next-else-ne.result c.ne-else-ne.result c.next-else-ne.ensures.steps c.ne-else-ne.ensures c.if-ne-2.false) in
    record { by_components = c.are_plain.ensures ∙ sym (ap plain_target (sym c.new-decoder.ensures.all_to_come) ∙ both) }

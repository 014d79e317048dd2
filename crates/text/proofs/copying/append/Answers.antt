-- One byte more.
use Rattle.std.proofs.Common.{◌∷◌, [], ◌++◌, ap, ◌∙◌, sym, append_assoc}
use Rattle.std.specs.Result.{is_ok}
use Rattle.text.proofs.Appending.{appended_more}
use Rattle.text.proofs.copying.append.Goals as goal

pub loop-byte-preserved : goal.loop-byte-preserved
loop-byte-preserved g c =
    let i = c.loop-byte.invariant.0 in
    let part = c.in-Some.byte ∷ [] in
    let told = c.push.ensures in
    let next = g.met.B.Bytes.gives_the_first _ _ _ c.in-Some.ensures.steps in (
      (
        i.0 ++ part,
        appended_more i.0 c.in-Some.byte _ _ _ (is_ok c.push.result) i.1 (ap is_ok c.unwrap.ensures) told.one_more told.others_as_before told.counted told.same_capacity,
        append_assoc i.0 part (g.B.Bytes.to_come c.next.new.self) ∙ ap (λ x. i.0 ++ x) (sym next) ∙ i.2,
      ),
      told.same_memory ∙ c.loop-byte.invariant.1,
    )

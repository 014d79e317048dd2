use Rattle.std.proofs.Common.{ap, ◌∙◌}
use Rattle.list.specs.Held.{held}
use Rattle.search.specs.Memory.{in_lists, question_of, told}
use Rattle.search.proofs.TrailMemory.{told_is}
use Rattle.search.proofs.trail.known.Goals as goal

pub returns-clause-told_by_the_trail : goal.returns-clause-told_by_the_trail
returns-clause-told_by_the_trail c =
    let trail = in_lists c.args.steps.now c.args.bytes.now in
    let q = question_of c.args.sort c.args.path.now in
    λ t qs h.
    c.reply_told.ensures.first_told
    ∙ ap (λ bs. told bs c.as_slice.result.now q) c.as_slice-2.ensures.elements
    ∙ ap (λ ss. told (held trail.bytes) ss q) c.as_slice.ensures.elements
    ∙ told_is t trail qs q h

-- What both decoders have to give is what the texts stand for.
use Rattle.std.proofs.Common.{sym, ◌∙◌}
use Rattle.json_string.proofs.Decoding.{chars_decoded}
use Rattle.json_text.proofs.find.is_same_decoded.Goals as goal

pub returns : goal.returns
returns c = λ d h.
    let told = c.same_bytes.ensures.exactly_if_the_same in
    let one = c.new.ensures.all_to_come ∙ chars_decoded _ d h in
    let other = c.new-2.ensures.all_to_come in
    (λ t. sym one ∙ told.0 t ∙ other, λ e. told.1 (one ∙ e ∙ sym other))

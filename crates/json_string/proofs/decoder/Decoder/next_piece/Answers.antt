-- What comes next is the first piece of the rest.
use Rattle.std.proofs.Common.{◌<◌, length, slice_get, sym, ap, ◌∙◌}
use Rattle.json_string.specs.Encoded.{encoded}
use Rattle.json_string.proofs.Decoding.{none_to_come, next_to_come, first_to_come, piece_some}
use Rattle.json_string.proofs.decoder.Decoder.next_piece.Goals as goal

pub returns-then-is_empty : goal.returns-then-is_empty
returns-then-is_empty c =
    let none = none_to_come (encoded c.args.self.now.piece) c.args.self.now.given _ c.requires (sym c.if-is_empty.ensures) in
    (none, none)

pub returns : goal.returns
returns c =
    let told = c.first_decoding-decoding.ensures in
    let come = next_to_come (encoded c.args.self.now.piece) c.args.self.now.given _ _ _ _ c.requires (sym c.if-is_empty.ensures) told.takes told.stands_for c.after-self.ensures.all_but_the_first in
    let some : 0 < length (encoded c.first_decoding-decoding.result.bytes) = rw told.stands_for (piece_some _) in
    first_to_come _ _ _ _ come some (c.copied.ensures ∙ c.first.ensures.value ∙ ap (λ s. slice_get s 0) c.as_slice.ensures)

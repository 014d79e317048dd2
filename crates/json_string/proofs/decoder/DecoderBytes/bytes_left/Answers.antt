-- There are no more bytes to come than a piece and the rest of the text have.
use Rattle.std.proofs.Common.{drop, inl, arith}
use Rattle.std.proofs.lemmas.List.{length-append, length-drop, length-take}
use Rattle.json_string.specs.Encoded.{encoded}
use Rattle.json_string.specs.Decoded.{decoded}
use Rattle.json_string.proofs.Lengths.{decoded_length}
use Rattle.json_string.proofs.decoder.DecoderBytes.bytes_left.Goals as goal

pub count-requires-clause-fits : goal.count-requires-clause-fits
count-requires-clause-fits c =
    let d = c.args.self.now in
    inl (omega (arith, length-append (drop d.given (encoded d.piece)) (decoded d.rest.now), length-drop d.given (encoded d.piece), length-take d.piece.len d.piece.bytes, decoded_length d.rest.now))

-- What the structs of the decoder hold, and what a decoder has still to give.
use Rattle.std.specs.Prelude.{ℕ, List, ◌++◌, drop}
use Rattle.json_string.specs.declared.decoder.Decoder.{Decoder}
use Rattle.json_string.specs.Encoded.{encoded}
use Rattle.json_string.specs.Decoded.{decoded}

-- The bytes that are to come: those of the piece at hand that were not given, and all of what follows it.
abbrev pub left : Decoder → List ℕ
left d = drop d.given (encoded d.piece) ++ decoded d.rest.now

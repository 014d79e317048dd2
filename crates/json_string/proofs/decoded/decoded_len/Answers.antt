-- There are no more decoded bytes than the text has, so they are counted.
use Rattle.std.proofs.Common.{length, ap, ◌∙◌, inl, arith}
use Rattle.std.proofs.lemmas.Iterator.Consumers.{YieldsList-from_first, count_from_yields_List}
use Rattle.json_string.specs.Left.{left}
use Rattle.json_string.proofs.Decoding.{chars_decoded}
use Rattle.json_string.proofs.Lengths.{decoded_length}
use Rattle.json_string.proofs.decoded.decoded_len.Goals as goal

pub count-requires-clause-fits : goal.count-requires-clause-fits
count-requires-clause-fits c = inl (omega (arith, ap length c.new.ensures.all_to_come, decoded_length c.args.text.now))

pub returns-clause-of_chars : goal.returns-clause-of_chars
returns-clause-of_chars c = λ d h. count_from_yields_List _ _ c.count.ensures.ran (YieldsList-from_first (λ x. x) left _ c.new.ensures.all_to_come) ∙ ap length (chars_decoded _ d h)

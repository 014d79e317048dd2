-- One byte more, and the end of the loop.
use Rattle.std.proofs.Common.{get_or, take, ap}
use Rattle.std.proofs.lemmas.List.{take_more}
use Rattle.words.specs.Words.{letters}
use Rattle.words.proofs.Words.{letters_push}
use Rattle.words.proofs.letters.Goals as goal

pub loop-byte-init : goal.loop-byte-init
unfolding letters
loop-byte-init c = c.new-word.ensures.bytes

pub loop-byte-preserved : goal.loop-byte-preserved
loop-byte-preserved c =
    let more = take_more c.args.bytes.now c.loop-byte.byte-index 0 c.loop-byte-test.true in
    let told = c.in_ok-spell.ensures in
    let push = letters_push (take c.loop-byte.byte-index c.args.bytes.now) (get_or c.args.bytes.now c.loop-byte.byte-index 0) in
    let whole = ap letters more in
    cc

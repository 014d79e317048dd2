-- The end of the text.
use Rattle.words.proofs.Words.{found_all}
use Rattle.std.proofs.lemmas.Option.{MatchOption-at_none}
use Rattle.words.proofs.bytes.Goals as goal

pub returns : goal.returns
returns c =
    let told = MatchOption-at_none _ _ c.in_default.is c.in_ok-byte.ensures in
    found_all _ _ _ c.loop-found.invariant told

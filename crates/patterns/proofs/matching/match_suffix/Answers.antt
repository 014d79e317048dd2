-- The suffix stands at the end exactly if the last bytes are the same.
use Rattle.std.proofs.Common.{◌≡◌, length, take, refl}
use Rattle.std.proofs.lemmas.Iterator.{YieldsList-from_take}
use Rattle.std.proofs.lemmas.Iterator.Consumers.{YieldsList-at, YieldsList-from_first, count_from_yields_List}
use Rattle.json_string.specs.Left.{left}
use Rattle.patterns.proofs.MatchOf.{suffix_told}
use Rattle.patterns.proofs.matching.match_suffix.Goals as goal

pub returns : goal.returns
returns g c =
    let counted : c.count-len.result ≡ length (take c.bytes_left-size.result (left c.args.suffix)) =
    count_from_yields_List _ _ c.count-len.ensures.ran (YieldsList-from_take _ (YieldsList-at c.take.ensures.source (YieldsList-from_first (λ x. x) left _ refl)) c.take.ensures.count) in
    suffix_told _ _ _ _ c.bytes_left-size.result c.count-len.result _ _ c.front.result _ c.bytes_left-size.ensures.number_of_bytes counted refl c.then_some.ensures c.front.ensures.first_bytes
    c.last.ensures.last_bytes c.same_bytes.ensures.exactly_if_the_same

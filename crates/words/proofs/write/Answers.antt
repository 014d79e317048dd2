-- No bytes, `-` alone, and any other byte string.
use Rattle.std.proofs.Common.{◌≡◌, ◌<◌, length, get_or, sym, ap, ◌∙◌, arith, ltb-false, ltb-true, eqb-true}
use borrow.Author.Tests.{eqb-false}
use Rattle.std.proofs.lemmas.Result.{IfOk-weaker}
use Rattle.words.specs.Words.{written}
use Rattle.words.proofs.Words.{none_left, one_byte, written_other}
use Rattle.words.proofs.Back.{round_trip}
use Rattle.words.proofs.write.Goals as goal
use Rattle.words.proofs.write.Goals.{in_default-via-then-bytes-lt2+in_default-1, in_default-via-else-bytes-lt2}

pub returns-in-empty : goal.returns-in-empty
unfolding written
returns-in-empty c =
    let none = none_left c.args.bytes.now (omega (arith, ltb-true, ltb-false)) in
    record { word = IfOk-weaker c.from_str.result _ _ (λ s p. p ∙ sym (ap written none)) c.from_str.ensures.ok; read_back = round_trip }

pub returns-in-45 : goal.returns-in-45
unfolding written
returns-in-45 c =
    let dash = one_byte c.args.bytes.now 45 (omega (arith, ltb-true, ltb-false)) (omega (arith, ltb-true, ltb-false)) (omega (arith, eqb-true, eqb-false)) in
    record { word = IfOk-weaker c.from_str-in-45.result _ _ (λ s p. p ∙ sym (ap written dash)) c.from_str-in-45.ensures.ok; read_back = round_trip }

pub returns-in_default : goal.returns-in_default
returns-in_default c =
    let not-dash : length c.args.bytes.now < 2 → get_or c.args.bytes.now 0 0 ≡ 45 → ⊥ =
    λ h e. elim c.in_default.branch [ in_default-via-then-bytes-lt2+in_default-1 w ↦ omega (arith, ltb-true, ltb-false, eqb-true, eqb-false) | in_default-via-else-bytes-lt2 w ↦ omega (arith, ltb-true, ltb-false) ] in
    let other = written_other c.args.bytes.now (omega (arith, ltb-true, ltb-false)) not-dash in
    record { word = IfOk-weaker c.letters.result _ _ (λ s p. p ∙ sym other) c.letters.ensures; read_back = round_trip }

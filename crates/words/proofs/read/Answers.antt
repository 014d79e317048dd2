-- No text, `-` alone, and any other text.
use Rattle.std.proofs.Common.{◌≡◌, ◌<◌, length, get_or, Ok, sym, ap, ◌∙◌, inl, inr, ⊎_elim, arith, ltb-false, ltb-true, eqb-true}
use borrow.Author.Tests.{eqb-false}
use Rattle.std.proofs.lemmas.Result.{MatchResult-weaker}
use Rattle.words.specs.Words.{read}
use Rattle.words.proofs.Words.{none_left, one_byte, read_other}
use Rattle.words.proofs.read.Goals as goal
use Rattle.words.proofs.read.Goals.{in_default-via-then-text-lt2+in_default-1, in_default-via-else-text-lt2}

pub returns-in-empty : goal.returns-in-empty
unfolding read
returns-in-empty c = record { stands = inr (ap read (none_left c.args.text.now (omega (arith, ltb-true, ltb-false, eqb-true, eqb-false)))) }

pub returns-in-45 : goal.returns-in-45
unfolding read
returns-in-45 c = record { stands = ap read (one_byte c.args.text.now 45 (omega (arith, ltb-true, ltb-false, eqb-true, eqb-false)) (omega (arith, ltb-true, ltb-false, eqb-true, eqb-false)) (omega (arith, ltb-true, ltb-false, eqb-true, eqb-false))) ∙ ap Ok (sym c.new.ensures.items) }

pub returns-in_default : goal.returns-in_default
returns-in_default c =
    let not-dash : length c.args.text.now < 2 → get_or c.args.text.now 0 0 ≡ 45 → ⊥ =
    λ h e. elim c.in_default.branch [ in_default-via-then-text-lt2+in_default-1 w ↦ omega (arith, ltb-true, ltb-false, eqb-true, eqb-false) | in_default-via-else-text-lt2 w ↦ omega (arith, ltb-true, ltb-false, eqb-true, eqb-false) ] in
    let other = read_other c.args.text.now (omega (arith, ltb-true, ltb-false, eqb-true, eqb-false)) not-dash in
    record { stands = MatchResult-weaker c.bytes.result c.bytes.ensures (λ v p. other ∙ p) (λ e p. ⊎_elim (λ m. inl m) (λ q. inr (other ∙ q)) p) }

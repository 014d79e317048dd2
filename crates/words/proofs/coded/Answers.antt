-- Two digits after a `%`, or none.
use Rattle.std.proofs.Common.{Err, sym, ap, ◌∙◌, arith, ltb-false, ltb-true, eqb-true}
use borrow.Author.Tests.{eqb-false}
use Rattle.std.proofs.lemmas.Result.{err_from_is_err_and}
use Rattle.words.proofs.Words.{bytes_broken, bytes_byte, bytes_no_high, bytes_no_low, length_rest}
use Rattle.words.proofs.coded.Goals as goal

pub returns-in_default : goal.returns-in_default
returns-in_default c = bytes_broken c.args.text.now (omega (arith, ltb-true, ltb-false, eqb-true, eqb-false))

pub returns-in_err-value : goal.returns-in_err-value
returns-in_err-value c =
    let told = c.in_err-value.ensures in
    let p = err_from_is_err_and c.from_residual.result c.from_residual.ensures.1 in
    rw (p.1, p.2) (bytes_no_high c.args.text.now (omega (arith, ltb-true, ltb-false, eqb-true, eqb-false)) told.0 ∙ ap Err (sym told.1))

pub returns-in_err-value-2 : goal.returns-in_err-value-2
returns-in_err-value-2 c =
    let high = c.in_ok-value.ensures in
    let told = c.in_err-value-2.ensures in
    let p = err_from_is_err_and c.from_residual-in_err-value-2.result c.from_residual-in_err-value-2.ensures.1 in
    rw (p.1, p.2) (bytes_no_low c.args.text.now (omega (arith, ltb-true, ltb-false, eqb-true, eqb-false)) high.0 told.0 ∙ ap Err (sym told.1))

pub returns : goal.returns
returns c =
    let high = c.in_ok-value.ensures in
    let low = c.in_ok-value-2.ensures in
    (bytes_byte c.args.text.now (omega (arith, ltb-true, ltb-false, eqb-true, eqb-false)) high.0 low.0 ∙ rw (high.1, low.1), omega (arith, ltb-true, ltb-false, length_rest c.args.text.now 2))

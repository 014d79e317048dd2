-- The first letter is a `%`, stands for itself or may not stand there.
use Rattle.std.proofs.Common.{◌≡◌, false, eqb, get_or, sym, ◌∙◌, arith, ltb-false, ltb-true, eqb-true}
use borrow.Author.Tests.{eqb-false}
use Rattle.std.proofs.lemmas.Bool.{ne_eqb}
use Rattle.words.proofs.Words.{bytes_first, length_rest}
use Rattle.words.proofs.next.Goals as goal

pub returns-then-plain : goal.returns-then-plain
returns-then-plain c =
    let other : eqb (get_or c.args.text.now 0 0) 37 ≡ false = ne_eqb _ 37 (λ e. omega (arith, ltb-true, ltb-false, eqb-true, eqb-false)) in
    (bytes_first c.args.text.now (omega (arith, ltb-true, ltb-false, eqb-true, eqb-false)) other ∙ rw (sym c.if-plain.ensures), omega (arith, ltb-true, ltb-false, length_rest c.args.text.now 1))

pub returns-else-plain : goal.returns-else-plain
returns-else-plain c =
    let other : eqb (get_or c.args.text.now 0 0) 37 ≡ false = ne_eqb _ 37 (λ e. omega (arith, ltb-true, ltb-false, eqb-true, eqb-false)) in
    bytes_first c.args.text.now (omega (arith, ltb-true, ltb-false, eqb-true, eqb-false)) other ∙ rw (sym c.if-plain.ensures)

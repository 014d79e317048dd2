-- A text, or the longest beginning of one.
use native.Mathlib.Numerals.{unary_clauses}
use Rattle.std.proofs.Common.{◌≡◌, false, eqb, get_or, inl, inr, refl, arith}
use Rattle.std.proofs.lemmas.List.{get_or_default}
use Rattle.std.proofs.lemmas.Result.{err_from_is_err_and}
use Rattle.std.proofs.lemmas.Bool.{ne_eqb}
use Rattle.json_text.proofs.Places.{value_breaks_off, more_behind}
use Rattle.json_text.proofs.Standings.{text_stands}
use Rattle.json_text.proofs.Told.{value_is_read, fault_is_read}
use Rattle.json_text.proofs.texts.read_text.Goals as goal
use Rattle.json_text.specs.declared.texts.TheConstants.{TEXT_SIZE}

pub returns-in_err-end : goal.returns-in_err-end
returns-in_err-end c =
    let p = err_from_is_err_and c.from_residual.result c.from_residual.ensures.1 in
    let w = c.skip_ws-value.ensures.space in
    let b = value_breaks_off c.args.text.now c.skip_ws-value.result.start.at w _ (simp c.skip_ws-value.ensures.same_text at c.in_err-end.ensures) in
    rw (p.1, p.2) (record {
      within_these_limits = (refl, refl);
      as_read = fault_is_read c.args.text.now _ (inr (omega (arith, c.if-text-gt-TEXT_SIZE.false), b));
      accepted_are_texts = tt;
      value_behind_white_space = tt;
      accepted_are_within_limit = tt;
      every_text_is_accepted = λ _ v d. absurd (b.no_text v d);
      fault_of_a_long_text = λ l. absurd (omega (arith, c.if-text-gt-TEXT_SIZE.false));
      fault_behind_the_longest_beginning = λ _. b;
    })

pub returns-then-end-text : goal.returns-then-end-text
returns-then-end-text c =
    let w = c.skip_ws-value.ensures.space in
    let r = simp c.skip_ws-value.ensures.same_text at c.in_ok-end.ensures in
    let n : eqb (get_or c.args.text.now c.in_ok-end.end 256) 256 ≡ false =
    ne_eqb _ _ (λ e. omega (arith, c.type_inv.text c.in_ok-end.end, get_or_default c.args.text.now c.in_ok-end.end 0 256 c.if-end-text.true)) in
    let b = more_behind c.args.text.now c.skip_ws-value.result.start.at w _ r.0 r.1 n in
    record {
      within_these_limits = (refl, refl);
      as_read = fault_is_read c.args.text.now _ (inr (omega (arith, c.if-text-gt-TEXT_SIZE.false), b));
      accepted_are_texts = tt;
      value_behind_white_space = tt;
      accepted_are_within_limit = tt;
      every_text_is_accepted = λ _ v d. absurd (b.no_text v d);
      fault_of_a_long_text = λ l. absurd (omega (arith, c.if-text-gt-TEXT_SIZE.false));
      fault_behind_the_longest_beginning = λ _. b;
    }

pub returns-clause-accepted_are_texts : goal.returns-clause-accepted_are_texts
returns-clause-accepted_are_texts c =
    let w = c.skip_ws-value.ensures.space in
    let r = simp c.skip_ws-value.ensures.same_text at c.in_ok-end.ensures in
    text_stands c.args.text.now c.skip_ws-value.result.start.at _ (omega (arith, r.0.inside, c.if-end-text.false)) w r.0

pub returns-clause-value_behind_white_space : goal.returns-clause-value_behind_white_space
returns-clause-value_behind_white_space c = simp unary_clauses at c.skip_ws-value.ensures.space.pass

pub returns-clause-as_read : goal.returns-clause-as_read
returns-clause-as_read c =
    let w = c.skip_ws-value.ensures.space in
    let r = simp c.skip_ws-value.ensures.same_text at c.in_ok-end.ensures in
    let t = text_stands c.args.text.now c.skip_ws-value.result.start.at _ (omega (arith, r.0.inside, c.if-end-text.false)) w r.0 in
    (t.0, t.1, value_is_read c.args.text.now t.0 (omega (arith, c.if-text-gt-TEXT_SIZE.false), t.2), t.3)

pub returns-then-text-gt-TEXT_SIZE-clause-as_read : goal.returns-then-text-gt-TEXT_SIZE-clause-as_read
returns-then-text-gt-TEXT_SIZE-clause-as_read c = fault_is_read c.args.text.now TEXT_SIZE (inl (c.if-text-gt-TEXT_SIZE.true, refl))

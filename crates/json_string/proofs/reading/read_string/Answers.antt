-- The loop is the machine, and where it stops is the one place where reading can stop.
use Rattle.std.proofs.Common.{◌≡◌, ◌≤◌, true, length, get_or, Ok, subst, sym, refl, ap, ◌∙◌, arith, lit≤}
use Rattle.std.proofs.lemmas.List.{get_or_default, get_or_past}
use Rattle.std.proofs.lemmas.List.Edits.{between_none, between_more}
use Rattle.json_string.specs.declared.state.State.{State}
use Rattle.json_string.specs.declared.state.State.TheVariants.{Closed, Broken}
use Rattle.json_string.specs.Reading.{FaultAt}
use Rattle.json_string.specs.Machine.{plain, string_run, string_step, alive}
use Rattle.json_string.specs.Meaning.{meaning}
use Rattle.json_string.proofs.Running.{run_one}
use Rattle.json_string.proofs.Beginnings.{no_byte_breaks}
use Rattle.json_string.proofs.Stopping.{ends_string, is_fault, same_end, string_no_fault}
use Rattle.json_string.proofs.reading.read_string.Goals as goal

alive_else : (s : State) → (s ≡ Closed → ⊥) → (s ≡ Broken → ⊥) → alive (meaning s) ≡ true
alive_else s p q = grind arith

pub loop-place-init : goal.loop-place-init
unfolding string_run
loop-place-init c = (ap (string_run plain) (sym (between_none c.args.text.now c.args.at)), refl)

pub returns-in-Closed : goal.returns-in-Closed
returns-in-Closed c =
    let i = c.loop-place.invariant in
    let s = ends_string c.args.text.now c.args.at c.loop-place.place c.loop-place.auto.place _ _ i.0 c.loop-place-test.true refl (sym c.step-state.ensures ∙ ap meaning c.in-Closed.is) in
    record {
      string_or_fault = λ h. s;
      each_string = λ end r. ap Ok (same_end _ _ _ _ s r);
      past_the_end = λ h. omega arith;
    }

pub returns-in-Broken : goal.returns-in-Broken
returns-in-Broken c =
    let i = c.loop-place.invariant in
    let b = get_or_default c.args.text.now c.loop-place.place 256 0 c.loop-place-test.true in
    let f = is_fault c.args.text.now c.args.at c.loop-place.place c.loop-place.auto.place _ i.0 (omega arith) i.1
    (ap (string_step (meaning c.loop-place.state)) b ∙ sym c.in-Broken.ensures) in
    record {
      string_or_fault = λ h. f;
      each_string = λ end r. absurd (string_no_fault _ _ _ _ r f);
      past_the_end = λ h. omega arith;
    }

pub loop-place-preserved : goal.loop-place-preserved
loop-place-preserved c =
    let i = c.loop-place.invariant in (
      c.step-state.ensures ∙ ap (λ s. string_step s (get_or c.args.text.now c.loop-place.place 0)) i.0
          ∙ sym (ap (string_run plain) (between_more c.args.text.now c.args.at c.loop-place.place 0 c.loop-place.auto.place c.loop-place-test.true) ∙ run_one plain _ _),
      alive_else c.step-state.result c.in_default.not-Closed c.in_default.not-Broken,
    )

pub returns : goal.returns
returns c =
    let text = c.args.text.now in
    let place = c.loop-place.place in
    let i = c.loop-place.invariant in
    let f : c.args.at ≤ length text → FaultAt text c.args.at (length text) = λ h.
    let e : place ≡ length text = omega arith in
    let b = get_or_past text place 256 c.loop-place-test.false in
    subst (FaultAt text c.args.at) e (is_fault text c.args.at place c.loop-place.auto.place _ i.0 (omega arith) i.1 (ap (string_step (meaning c.loop-place.state)) b ∙ no_byte_breaks _ 256 (lit≤ tt))) in
    record {
      string_or_fault = f;
      each_string = λ end r. absurd (string_no_fault _ _ _ _ r (f (omega arith)));
      past_the_end = λ h. refl;
    }

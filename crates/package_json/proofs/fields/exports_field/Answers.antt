use Rattle.std.proofs.Common.{◌≡◌, ℕ, List, Some, None, Option, MatchOption, sym, ap, ◌∙◌, subst}
use Rattle.json_text.specs.Json.{Json, string}
use Rattle.json_text.specs.Standing.{ValueAt}
use Rattle.json_string.proofs.Decoding.{chars_decoded}
use Rattle.package_json.specs.Plain.{plain_target}
use Rattle.package_json.proofs.ValueKinds.{no_chars}
use Rattle.package_json.proofs.Naming.{no_exports, exports_no_string, exports_plain, exports_other}
use Rattle.package_json.proofs.fields.exports_field.Goals as goal

-- what is told where there is none, and where there is one
none_there : {X : Type 0} (Yes : X → Type 0) (No : Type 0) (o : Option X) → o ≡ None → MatchOption o No Yes → No
none_there Yes No o e told = rw e at told

some_there : {X : Type 0} (Yes : X → Type 0) (No : Type 0) (o : Option X) (x : X) → o ≡ Some x → MatchOption o No Yes → Yes x
some_there Yes No o x e told = rw e at told

pub returns-in_err-place : goal.returns-in_err-place
returns-in_err-place c = rw c.from_residual.ensures (record { first_of_the_name = λ end v at. no_exports v (none_there _ _ _ c.in_err-place.was (c.find_member.ensures.first_of_the_name end v at)); further = tt })

pub returns-in-Some : goal.returns-in-Some
returns-in-Some c = record {
  first_of_the_name = λ end v at.
      let found = some_there _ _ _ _ c.in_ok-place.was (c.find_member.ensures.first_of_the_name end v at) in
      let chars = c.in-Some.ensures.of_the_value_there _ _ found.3 in
      let is = sym (c.if-is_plain.ensures.by_components ∙ ap plain_target (chars_decoded _ _ chars.2)) in
      (chars.0, exports_plain v found.1 found.2 chars.0 chars.1 is, (found.0, subst (λ (w : Json). ValueAt c.args.text.now c.in_ok-place.place found.0 w) chars.1 found.3));
  further = some_there _ _ _ _ c.in_ok-place.was c.find_member.ensures.further;
}

pub returns-in_default : goal.returns-in_default
returns-in_default c = record {
  first_of_the_name = λ end v at.
      let found = some_there _ _ _ _ c.in_ok-place.was (c.find_member.ensures.first_of_the_name end v at) in
      let chars = c.in-Some.ensures.of_the_value_there _ _ found.3 in
      let is = sym (c.if-is_plain.ensures.by_components ∙ ap plain_target (chars_decoded _ _ chars.2)) in
      exports_other v found.1 found.2 chars.0 chars.1 is;
  further = tt;
}

pub returns-in_default-2 : goal.returns-in_default-2
returns-in_default-2 c = record {
  first_of_the_name = λ end v at.
      let found = some_there _ _ _ _ c.in_ok-place.was (c.find_member.ensures.first_of_the_name end v at) in
      exports_no_string v found.1 found.2 (no_chars found.1 (none_there _ ((s : List ℕ) → found.1 ≡ string s → ⊥) _ c.in_default.is (c.chars_at.ensures.of_the_value_there _ _ found.3)));
  further = tt;
}

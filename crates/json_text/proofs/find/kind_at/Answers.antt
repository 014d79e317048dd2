-- The first byte tells the kind.
use Rattle.std.proofs.Common.{◌≡◌, get_or, sym, ap, ◌∙◌, arith}
use Rattle.json_text.proofs.Standings.{value_first}
use Rattle.std.proofs.lemmas.List.{get_or_past}
use Rattle.json_text.specs.Kinds.{kind_by}
use Rattle.json_text.proofs.KindParts.{plain_by, first_tells}
use Rattle.json_text.proofs.find.kind_at.Goals as goal

pub returns-in-Some-eq123 : goal.returns-in-Some-eq123
returns-in-Some-eq123 c =
    let e = sym (c.in-Some-eq123.ensures.lookup.3.1 256) ∙ c.in-Some-eq123.field-0-test in
    record { by_the_byte_there = sym (ap kind_by e); of_the_value_there = λ end v p. sym (ap kind_by e) ∙ first_tells v _ (value_first c.args.text.now c.args.at end v p).1 }

pub returns-in-Some-eq91 : goal.returns-in-Some-eq91
returns-in-Some-eq91 c =
    let e = sym (c.in-Some-eq91.ensures.lookup.3.1 256) ∙ c.in-Some-eq91.field-0-test in
    record { by_the_byte_there = sym (ap kind_by e); of_the_value_there = λ end v p. sym (ap kind_by e) ∙ first_tells v _ (value_first c.args.text.now c.args.at end v p).1 }

pub returns-in-Some-eq34 : goal.returns-in-Some-eq34
returns-in-Some-eq34 c =
    let e = sym (c.in-Some-eq34.ensures.lookup.3.1 256) ∙ c.in-Some-eq34.field-0-test in
    record { by_the_byte_there = sym (ap kind_by e); of_the_value_there = λ end v p. sym (ap kind_by e) ∙ first_tells v _ (value_first c.args.text.now c.args.at end v p).1 }

pub returns-in_default : goal.returns-in_default
returns-in_default c =
    let h = rw c.in_default.is at c.get.ensures.lookup in
    let e : c.in_default.field-0.now ≡ get_or c.args.text.now c.args.at 256 = h.3.1 256 in
    let n = c.in_default.field-0-test in
    let plain = plain_by (get_or c.args.text.now c.args.at 256) (λ q. n.0.0.1 (cc)) (λ q. n.0.1 (cc)) (λ q. n.1 (cc)) in
    record { by_the_byte_there = sym plain; of_the_value_there = λ end v p. sym plain ∙ first_tells v _ (value_first c.args.text.now c.args.at end v p).1 }

pub returns-in_default-2 : goal.returns-in_default-2
returns-in_default-2 c =
    let h = rw c.in_default.is at c.get.ensures.lookup in
    record { by_the_byte_there = sym (ap kind_by (get_or_past c.args.text.now c.args.at 256 (omega (arith, h.3)))); of_the_value_there = λ end v p. absurd (omega (arith, h.3, (value_first c.args.text.now c.args.at end v p).0)) }

-- Byte by byte: a bad one, the end of a component, or one byte more of it.
use Rattle.std.proofs.Common.{◌&&◌, sym, ap, ◌∙◌}
use Rattle.std.proofs.lemmas.Bool.{ne_eqb}
use Rattle.json_string.specs.Left.{left}
use Rattle.package_json.specs.Plain.{plain_rest}
use Rattle.package_json.specs.declared.plain.Part.TheVariants as part
use Rattle.package_json.proofs.Components.{plain_by, plain_start, plain_end, plain_bad, plain_slash, plain_byte}
use Rattle.package_json.proofs.plain.are_plain.Goals as goal

pub returns-then-not-is_plain_byte : goal.returns-then-not-is_plain_byte
returns-then-not-is_plain_byte c =
    sym (plain_bad c.loop-byte.part c.in-Some.byte (left c.next.new.self) (sym c.if-not-is_plain_byte.ensures.plain_byte)) ∙ sym (ap (plain_by c.loop-byte.part) c.in-Some.ensures.steps) ∙ c.loop-byte.invariant.2

pub returns-then-not-is_component : goal.returns-then-not-is_component
returns-then-not-is_component c =
    ap (λ r. r && plain_rest (left c.next.new.self)) c.if-not-is_component.ensures ∙ sym (plain_slash c.loop-byte.part c.in-Some.byte (left c.next.new.self) c.if-byte-eq47.true)
    ∙ sym (ap (plain_by c.loop-byte.part) c.in-Some.ensures.steps) ∙ c.loop-byte.invariant.2

pub loop-byte-init : goal.loop-byte-init
loop-byte-init c = (tt, tt, ap (λ d. plain_by part.Empty (left d)) c.into_iter-byte-iterator.ensures.into_iter_gives ∙ plain_start (left c.args.rest))

pub loop-byte-preserved-then-byte-eq47 : goal.loop-byte-preserved-then-byte-eq47
loop-byte-preserved-then-byte-eq47 c = (
  tt,
  tt,
  plain_start (left c.next.new.self) ∙ ap (λ r. r && plain_rest (left c.next.new.self)) c.if-not-is_component.ensures
      ∙ sym (plain_slash c.loop-byte.part c.in-Some.byte (left c.next.new.self) c.if-byte-eq47.true)
      ∙ sym (ap (plain_by c.loop-byte.part) c.in-Some.ensures.steps) ∙ c.loop-byte.invariant.2,
)

pub loop-byte-preserved : goal.loop-byte-preserved
loop-byte-preserved c = (
  tt,
  tt,
  sym (plain_byte c.loop-byte.part c.then-part.result c.in-Some.byte c.then-part.ensures (left c.next.new.self) (sym c.if-not-is_plain_byte.ensures.plain_byte) (ne_eqb _ _ c.if-byte-eq47.false))
      ∙ sym (ap (plain_by c.loop-byte.part) c.in-Some.ensures.steps) ∙ c.loop-byte.invariant.2,
)

pub returns : goal.returns
returns c = c.is_component-2.ensures ∙ sym (plain_end c.loop-byte.part) ∙ sym (ap (plain_by c.loop-byte.part) c.in-None.ensures.steps.0) ∙ c.loop-byte.invariant.2

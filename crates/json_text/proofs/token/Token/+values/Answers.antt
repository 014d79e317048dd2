-- Arrays, objects and their items.
use Rattle.std.proofs.Common.{◌∙◌, arith}
use Rattle.std.proofs.lemmas.Result.{MatchResult-weaker, err_from_is_err_and}
use Rattle.json_text.specs.declared.brackets.Bracket.TheVariants.{Square, Curly}
use Rattle.json_text.proofs.ListParts.{list_ends, list_goes_on, list_breaks_off, item_breaks_off}
use Rattle.json_text.proofs.ValueParts.{spaced_reads, spaced_stops, bracket_full, empty_reads, bracket_reads, bracket_stops}
use Rattle.json_text.proofs.StringParts.{member_reads, member_stops, name_breaks_off}
use Rattle.json_text.proofs.token.Token.+values.Goals as goal

-- a value without a bracket
pub value-returns-in_err-plain_value-in-None : goal.value-returns-in_err-plain_value-in-None
value-returns-in_err-plain_value-in-None t c =
    let p = err_from_is_err_and c.from_residual.result c.from_residual.ensures.1 in
    rw (p.1, p.2) (c.in_err-plain_value-in-None.ensures c.args.depth)

pub value-returns-in_ok-plain_value-in-None : goal.value-returns-in_ok-plain_value-in-None
value-returns-in_ok-plain_value-in-None t c = (c.in_ok-plain_value-in-None.ensures c.args.depth).1

-- a value and white space
pub element-returns-in_err-end : goal.element-returns-in_err-end
element-returns-in_err-end t c =
    let p = err_from_is_err_and c.from_residual.result c.from_residual.ensures.1 in
    rw (p.1, p.2) (spaced_stops c.args.depth c.args.self.start.text.now c.args.self.start.at _ c.in_err-end.ensures)

pub element-returns : goal.element-returns
element-returns t c =
    let m = c.moved_to.ensures in
    let w = simp (m.same_text, m.there) at c.skip_ws.ensures.space in
    (spaced_reads c.args.depth c.args.self.start.text.now c.args.self.start.at _ c.skip_ws.result.start.at c.in_ok-end.ensures w, w.stops)

-- an array from its bracket on
pub array-returns-in_default : goal.array-returns-in_default
array-returns-in_default t c =
    rw c.fault.ensures (bracket_full Square c.args.depth c.args.self.start.text.now c.args.self.start.at (omega (arith, c.in_default.ensures)) c.args.self.start.inside c.requires)

pub array-returns-in-Some-after : goal.array-returns-in-Some-after
array-returns-in-Some-after t c =
    let o = c.in_ok-expect.ensures.1 in
    let w = simp (o.same_text, o.one_further) at c.skip_ws-first.ensures.space in
    let same = c.skip_ws-first.ensures.same_text ∙ o.same_text in
    let e = simp same at c.in-Some-after.ensures in
    rw e.1.one_further
    (empty_reads Square c.in-Some.inner c.args.depth c.args.self.start.text.now c.args.self.start.at c.skip_ws-first.result.start.at (omega (arith, c.in-Some.ensures)) o.inside c.requires w e.1.inside e.0)

pub array-returns-in-None : goal.array-returns-in-None
array-returns-in-None t c =
    let o = c.in_ok-expect.ensures.1 in
    let w = simp (o.same_text, o.one_further) at c.skip_ws-first.ensures.space in
    let same = c.skip_ws-first.ensures.same_text ∙ o.same_text in
    let n = simp same at c.in-None.ensures in
    MatchResult-weaker c.elements.result (simp same at c.elements.ensures)
    (λ end p. bracket_reads Square c.in-Some.inner c.args.depth c.args.self.start.text.now c.args.self.start.at c.skip_ws-first.result.start.at (omega (arith, c.in-Some.ensures)) o.inside c.requires w n end p)
    (λ f p. bracket_stops Square c.in-Some.inner c.args.depth c.args.self.start.text.now c.args.self.start.at c.skip_ws-first.result.start.at (omega (arith, c.in-Some.ensures)) o.inside c.requires w n f.place p)

pub elements-returns-in_err-place : goal.elements-returns-in_err-place
elements-returns-in_err-place t c =
    let p = err_from_is_err_and c.from_residual.result c.from_residual.ensures.1 in
    let i = c.loop-place.invariant in
    rw (p.1, p.2) (item_breaks_off Square c.args.depth c.args.self.start.text.now c.args.self.start.at c.loop-place.next.start.at _ i.1 (simp i.0 at c.in_err-place.ensures))

pub elements-returns-in-Some : goal.elements-returns-in-Some
elements-returns-in-Some t c =
    let i = c.loop-place.invariant in
    let q = simp i.0 at c.in_ok-place.ensures in
    let m = c.moved_to-behind.ensures in
    let e = simp (m.same_text, m.there) at c.in-Some.ensures in
    rw e.1.one_further
    (list_ends Square c.args.depth c.args.self.start.text.now c.args.self.start.at c.loop-place.next.start.at _ i.1 q.0 e.1.inside e.0)

pub elements-returns-in_err-expect : goal.elements-returns-in_err-expect
elements-returns-in_err-expect t c =
    let p = err_from_is_err_and c.from_residual-in_err-expect.result c.from_residual-in_err-expect.ensures.1 in
    let i = c.loop-place.invariant in
    let q = simp i.0 at c.in_ok-place.ensures in
    let m = c.moved_to-behind.ensures in
    let f = simp (m.same_text, m.there) at c.in_err-expect.ensures in
    rw (p.1, p.2, f.1)
    (list_breaks_off Square c.args.depth c.args.self.start.text.now c.args.self.start.at c.loop-place.next.start.at _ i.1 q.0 q.1 (simp (m.same_text, m.there) at c.in_default.ensures) f.0)

pub elements-loop-place-preserved : goal.elements-loop-place-preserved
elements-loop-place-preserved t c =
    let i = c.loop-place.invariant in
    let q = simp i.0 at c.in_ok-place.ensures in
    let m = c.moved_to-behind.ensures in
    let o = simp (m.same_text, m.there) at c.in_ok-expect.ensures in (
      c.skip_ws-next.ensures.same_text ∙ o.1.same_text,
      list_goes_on Square c.args.depth c.args.self.start.text.now c.args.self.start.at c.loop-place.next.start.at _ i.1 q.0 o.1.inside o.0 _
          (simp (o.1.same_text, o.1.one_further) at c.skip_ws-next.ensures.space),
    )

-- an object from its bracket on
pub object-returns-in_default : goal.object-returns-in_default
object-returns-in_default t c =
    rw c.fault.ensures (bracket_full Curly c.args.depth c.args.self.start.text.now c.args.self.start.at (omega (arith, c.in_default.ensures)) c.args.self.start.inside c.requires)

pub object-returns-in-Some-after : goal.object-returns-in-Some-after
object-returns-in-Some-after t c =
    let o = c.in_ok-expect.ensures.1 in
    let w = simp (o.same_text, o.one_further) at c.skip_ws-first.ensures.space in
    let same = c.skip_ws-first.ensures.same_text ∙ o.same_text in
    let e = simp same at c.in-Some-after.ensures in
    rw e.1.one_further
    (empty_reads Curly c.in-Some.inner c.args.depth c.args.self.start.text.now c.args.self.start.at c.skip_ws-first.result.start.at (omega (arith, c.in-Some.ensures)) o.inside c.requires w e.1.inside e.0)

pub object-returns-in-None : goal.object-returns-in-None
object-returns-in-None t c =
    let o = c.in_ok-expect.ensures.1 in
    let w = simp (o.same_text, o.one_further) at c.skip_ws-first.ensures.space in
    let same = c.skip_ws-first.ensures.same_text ∙ o.same_text in
    let n = simp same at c.in-None.ensures in
    MatchResult-weaker c.members.result (simp same at c.members.ensures)
    (λ end p. bracket_reads Curly c.in-Some.inner c.args.depth c.args.self.start.text.now c.args.self.start.at c.skip_ws-first.result.start.at (omega (arith, c.in-Some.ensures)) o.inside c.requires w n end p)
    (λ f p. bracket_stops Curly c.in-Some.inner c.args.depth c.args.self.start.text.now c.args.self.start.at c.skip_ws-first.result.start.at (omega (arith, c.in-Some.ensures)) o.inside c.requires w n f.place p)

pub members-returns-in_err-place : goal.members-returns-in_err-place
members-returns-in_err-place t c =
    let p = err_from_is_err_and c.from_residual.result c.from_residual.ensures.1 in
    let i = c.loop-place.invariant in
    rw (p.1, p.2) (item_breaks_off Curly c.args.depth c.args.self.start.text.now c.args.self.start.at c.loop-place.next.start.at _ i.1 (simp i.0 at c.in_err-place.ensures))

pub members-returns-in-Some : goal.members-returns-in-Some
members-returns-in-Some t c =
    let i = c.loop-place.invariant in
    let q = simp i.0 at c.in_ok-place.ensures in
    let m = c.moved_to-behind.ensures in
    let e = simp (m.same_text, m.there) at c.in-Some.ensures in
    rw e.1.one_further
    (list_ends Curly c.args.depth c.args.self.start.text.now c.args.self.start.at c.loop-place.next.start.at _ i.1 q.0 e.1.inside e.0)

pub members-returns-in_err-expect : goal.members-returns-in_err-expect
members-returns-in_err-expect t c =
    let p = err_from_is_err_and c.from_residual-in_err-expect.result c.from_residual-in_err-expect.ensures.1 in
    let i = c.loop-place.invariant in
    let q = simp i.0 at c.in_ok-place.ensures in
    let m = c.moved_to-behind.ensures in
    let f = simp (m.same_text, m.there) at c.in_err-expect.ensures in
    rw (p.1, p.2, f.1)
    (list_breaks_off Curly c.args.depth c.args.self.start.text.now c.args.self.start.at c.loop-place.next.start.at _ i.1 q.0 q.1 (simp (m.same_text, m.there) at c.in_default.ensures) f.0)

pub members-loop-place-preserved : goal.members-loop-place-preserved
members-loop-place-preserved t c =
    let i = c.loop-place.invariant in
    let q = simp i.0 at c.in_ok-place.ensures in
    let m = c.moved_to-behind.ensures in
    let o = simp (m.same_text, m.there) at c.in_ok-expect.ensures in (
      c.skip_ws-next.ensures.same_text ∙ o.1.same_text,
      list_goes_on Curly c.args.depth c.args.self.start.text.now c.args.self.start.at c.loop-place.next.start.at _ i.1 q.0 o.1.inside o.0 _
          (simp (o.1.same_text, o.1.one_further) at c.skip_ws-next.ensures.space),
    )

-- a member
pub member-returns-in_err-name_and_colon : goal.member-returns-in_err-name_and_colon
member-returns-in_err-name_and_colon t c =
    let p = err_from_is_err_and c.from_residual.result c.from_residual.ensures.1 in
    rw (p.1, p.2) (name_breaks_off c.args.depth c.in_err-name_and_colon.ensures.reading)

pub member-returns : goal.member-returns
member-returns t c =
    let n = c.in_ok-name_and_colon.ensures.reading in
    MatchResult-weaker c.element.result (simp n.0 at c.element.ensures)
    (λ end p. (member_reads c.args.depth n.1 p.0, p.1))
    (λ f p. member_stops c.args.depth n.1 p)

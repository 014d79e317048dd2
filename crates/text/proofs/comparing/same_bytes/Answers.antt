-- Byte by byte.
use Rattle.std.proofs.Common.{sym, ◌∙◌}
use Rattle.std.proofs.lemmas.Bool.{true≢false}
use Rattle.std.proofs.lemmas.Bool.Decides.{Decides-like}
use Rattle.text.proofs.Coming.{byte_comes, other_comes, more_of_both, both_end}
use Rattle.text.proofs.comparing.same_bytes.Goals as goal

pub loop-byte-preserved : goal.loop-byte-preserved
loop-byte-preserved g c =
    let first = g.met.A.Bytes.gives_the_first _ _ _ c.in-Some.ensures.steps in
    let second = byte_comes _ _ _ _ _ (g.met.B.Bytes.gives_the_first _ _ _ c.next-in-Some.ensures.steps) c.ne.ensures c.if-ne.false in
    let same = more_of_both c.in-Some.byte _ _ _ _ first second in
    (λ h. same.0 (c.loop-byte.invariant.0 h), λ h. c.loop-byte.invariant.1 (same.1 h))

pub returns-then-ne : goal.returns-then-ne
returns-then-ne g c =
    let first = g.met.A.Bytes.gives_the_first _ _ _ c.in-Some.ensures.steps in
    let second = g.met.B.Bytes.gives_the_first _ _ _ c.next-in-Some.ensures.steps in
    record { exactly_if_the_same = (λ t. absurd (true≢false (sym t)), λ h. absurd (other_comes _ _ _ _ _ (g.A.Bytes.to_come c.next.new.self) second c.ne.ensures c.if-ne.true (sym (c.loop-byte.invariant.0 h) ∙ first))) }

pub returns : goal.returns
returns g c =
    record { exactly_if_the_same = Decides-like _ c.loop-byte.invariant.1 c.loop-byte.invariant.0 (both_end _ _ _ (g.B.Bytes.to_come c.next-2.new.self) _ (g.met.A.Bytes.gives_the_first _ _ _ c.in_default.ensures.steps).0 (g.met.B.Bytes.gives_the_first _ _ _ c.next-2.ensures.steps) c.is_none.ensures) }

-- The pattern is passed byte by byte.
use Rattle.std.proofs.Common.{◌≡◌, take, sym, ap, ◌∙◌}
use Rattle.std.specs.Option.{option_map}
use Rattle.json_string.specs.Decoded.{decoded}
use Rattle.text.proofs.Coming.{byte_comes, other_comes}
use Rattle.patterns.specs.Match.{match_of}
use Rattle.patterns.proofs.MatchOf.{told, relation, star_next, byte_next, other_next, none_next}
use Rattle.patterns.proofs.matching.match_pattern.Goals as goal

pub loop-byte-init : goal.loop-byte-init
loop-byte-init g c = ap (λ p. match_of p (take c.args.text.all.len (g.B.Bytes.to_come c.args.text.all.bytes))) (sym c.new-suffix.ensures.all_to_come)

pub returns-then-byte-eq-STAR : goal.returns-then-byte-eq-STAR
returns-then-byte-eq-STAR g c =
    let text = take c.args.text.all.len (g.B.Bytes.to_come c.args.text.all.bytes) in
    let found : option_map (λ p. take p.len (g.B.Bytes.to_come p.bytes)) c.match_suffix.result ≡ match_of (decoded c.args.pattern.now) text =
    c.match_suffix.ensures ∙ sym (star_next _ _ _ _ c.loop-byte.invariant _ _ c.in-Some.ensures.steps c.if-byte-eq-STAR.true) in
    record { part_told = found; matched_part = relation _ _ text _ found }

pub returns-then-ne : goal.returns-then-ne
returns-then-ne g c =
    let none = other_next _ _ _ _ c.loop-byte.invariant c.in-Some.byte _ c.in-Some.ensures.steps c.if-byte-eq-STAR.false (λ u. other_comes c.in-Some.byte _ _ _ _ u c.next-in-Some.ensures.steps c.ne.ensures c.if-ne.true) in
    record { part_told = none; matched_part = λ m h. let k = none ∙ told _ _ m h in cc }

pub loop-byte-preserved : goal.loop-byte-preserved
loop-byte-preserved g c =
    byte_next _ _ _ _ c.loop-byte.invariant c.in-Some.byte _ _ c.in-Some.ensures.steps c.if-byte-eq-STAR.false (byte_comes c.in-Some.byte _ _ _ _ c.next-in-Some.ensures.steps c.ne.ensures c.if-ne.false)

pub returns : goal.returns
returns g c =
    let text = take c.args.text.all.len (g.B.Bytes.to_come c.args.text.all.bytes) in
    let found : option_map (λ p. take p.len (g.B.Bytes.to_come p.bytes)) c.then_some.result ≡ match_of (decoded c.args.pattern.now) text =
    none_next _ _ _ _ c.loop-byte.invariant _ _ _ _ c.in_default.ensures.steps.0 c.then_some.ensures c.front.ensures.first_bytes c.bytes_left.ensures.number_of_bytes in
    record { part_told = found; matched_part = relation _ _ text _ found }

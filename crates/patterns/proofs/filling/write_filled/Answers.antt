-- What one byte of the target is filled with is added behind the rest.
use Rattle.std.proofs.Common.{◌≡◌, ℕ, ◌+◌, ◌≤◌, List, [], ◌∷◌, ◌++◌, length, drop, sym, ap, ◌∙◌, append_assoc, arith, rules}
use Rattle.std.specs.Result.{is_ok}
use Rattle.std.proofs.lemmas.Bool.{le-leb, lt-ltb}
use Rattle.std.proofs.lemmas.List.{length-append, append-nil}
use Rattle.json_string.specs.Decoded.{decoded}
use Rattle.json_string.specs.Left.{left}
use Rattle.patterns.specs.Pattern.{filled}
use Rattle.json_string.proofs.Filling.{filled_more, filled_memory, through}
use Rattle.patterns.proofs.Patterns.{filled_star, filled_byte, filled_none as none_filled}
use Rattle.patterns.proofs.filling.write_filled.Goals as goal

-- a part more is a part less to come
moved : (bytes part rest left whole : List ℕ) → bytes ++ left ≡ whole → left ≡ part ++ rest → (bytes ++ part) ++ rest ≡ whole
moved bytes part rest left whole e n = append_assoc bytes part rest ∙ ap (λ x. bytes ++ x) (sym n) ∙ e

-- the part has room where the whole has
room : (bytes part rest whole : List ℕ) → (bytes ++ part) ++ rest ≡ whole → length bytes + length part ≤ length whole
room bytes part rest whole e = omega (arith, ap length e, length-append (bytes ++ part) rest, length-append bytes part)

pub unwrap-requires : goal.unwrap-requires
unwrap-requires g c =
    let i = c.loop-byte.invariant in
    let m = g.B.Bytes.to_come c.args.matched in
    let e = moved i.2.0 m (filled m (left c.next.new.self)) _ _ i.2.2 (filled_star m _ _ _ c.in-Some.ensures.steps c.if-byte-eq-STAR.true) in
    c.append.ensures.fits ∙ le-leb _ _ (omega (arith, room i.2.0 m (filled m (left c.next.new.self)) _ e, i.2.1.counted, i.2.1.room, ap length c.new-written.ensures.memory_as_before))

pub unwrap-requires-else-byte-eq-STAR : goal.unwrap-requires-else-byte-eq-STAR
unwrap-requires-else-byte-eq-STAR g c =
    let i = c.loop-byte.invariant in
    let m = g.B.Bytes.to_come c.args.matched in
    let part = c.in-Some.byte ∷ [] in
    let e = moved i.2.0 part (filled m (left c.next.new.self)) _ _ i.2.2 (filled_byte m _ _ _ c.in-Some.ensures.steps c.if-byte-eq-STAR.false) in
    c.push.ensures.fits ∙ lt-ltb _ _ (omega (arith, room i.2.0 part (filled m (left c.next.new.self)) _ e, i.2.1.counted, i.2.1.room, ap length c.new-written.ensures.memory_as_before))

pub loop-byte-preserved-then-byte-eq-STAR : goal.loop-byte-preserved-then-byte-eq-STAR
loop-byte-preserved-then-byte-eq-STAR g c =
    let i = c.loop-byte.invariant in
    let m = g.B.Bytes.to_come c.args.matched in
    let told = c.append.ensures in (
      tt,
      tt,
      (
        i.2.0 ++ m,
        filled_more i.2.0 _ m _ _ (is_ok c.append.result) i.2.1 (ap is_ok c.unwrap.ensures) told.all_more told.others_as_before told.counted told.same_capacity,
        moved i.2.0 m (filled m (left c.next.new.self)) _ _ i.2.2 (filled_star m _ _ _ c.in-Some.ensures.steps c.if-byte-eq-STAR.true),
      ),
      told.same_memory ∙ i.3,
    )

pub loop-byte-preserved : goal.loop-byte-preserved
loop-byte-preserved g c =
    let i = c.loop-byte.invariant in
    let m = g.B.Bytes.to_come c.args.matched in
    let part = c.in-Some.byte ∷ [] in
    let told = c.push.ensures in (
      tt,
      tt,
      (
        i.2.0 ++ part,
        filled_more i.2.0 _ part _ _ (is_ok c.push.result) i.2.1 (ap is_ok c.unwrap-else-byte-eq-STAR.ensures) told.one_more told.others_as_before told.counted told.same_capacity,
        moved i.2.0 part (filled m (left c.next.new.self)) _ _ i.2.2 (filled_byte m _ _ _ c.in-Some.ensures.steps c.if-byte-eq-STAR.false),
      ),
      told.same_memory ∙ i.3,
    )

pub returns : goal.returns
returns g c =
    let i = c.loop-byte.invariant in
    let m = g.B.Bytes.to_come c.args.matched in
    let all : i.2.0 ≡ filled m (decoded c.args.target.now) = sym (append-nil i.2.0) ∙ ap (λ x. i.2.0 ++ x) (sym (none_filled m _ c.in-None.ensures.steps.0)) ∙ i.2.2 in
    through c.loop-byte.written.items.now (search rules)
    (filled_memory c.loop-byte.written i.2.1 ∙ ap (λ b. b ++ drop (length b) c.new-written.result.items.now) all ∙ ap (λ x. filled m (decoded c.args.target.now) ++ drop (length (filled m (decoded c.args.target.now))) x) c.new-written.ensures.memory_as_before)

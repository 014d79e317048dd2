-- One byte more of the class, or none that is.
use Rattle.std.proofs.Common.{refl, ap, ◌∙◌, arith}
use Rattle.std.proofs.lemmas.List.Edits.{between_none}
use Rattle.json_text.specs.Json.{all}
use Rattle.json_text.proofs.Runs.{all_none}
use Rattle.json_text.proofs.Segments.{pass_more}
use Rattle.json_text.proofs.cursor.Cursor.skip.Goals as goal

pub loop-next-init : goal.loop-next-init
loop-next-init g c = (refl, omega arith, ap (all g.C.Class.members) (between_none c.args.self.text.now c.args.self.at) ∙ all_none g.C.Class.members)

pub loop-next-smaller : goal.loop-next-smaller
loop-next-smaller g c = let n = simp c.loop-next.invariant.0 at c.in-Some.ensures in omega (arith, n.1.inside, n.1.one_further)

pub loop-next-preserved : goal.loop-next-preserved
loop-next-preserved g c =
    let i = c.loop-next.invariant in
    let n = simp i.0 at c.in-Some.ensures in
    (n.1.same_text, omega (arith, i.1, n.1.one_further), rw n.1.one_further (pass_more g.C.Class.members c.args.self.text.now c.args.self.at c.loop-next.end.at i.1 n.1.inside i.2 n.0))

pub returns-clause-run : goal.returns-clause-run
returns-clause-run g c =
    let i = c.loop-next.invariant in
    record { not_before = i.1; inside = simp i.0 at c.loop-next.end.inside; pass = i.2; stops = simp i.0 at c.in_default.ensures }

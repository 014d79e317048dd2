-- One byte more of the name, or none that fits.
use Rattle.std.proofs.Common.{arith}
use Rattle.std.proofs.lemmas.Result.{err_from_is_err_and}
use Rattle.json_text.proofs.NameParts.{name_more, name_stops}
use Rattle.json_text.proofs.cursor.Cursor.name_rest.Goals as goal

pub returns-in_err-end : goal.returns-in_err-end
returns-in_err-end c =
    let p = err_from_is_err_and c.from_residual.result c.from_residual.ensures.1 in
    let i = c.loop-byte.invariant in
    let f = simp i.0 at c.in_err-end.ensures in
    rw (p.1, p.2, f.1) (name_stops c.args.self.text.now c.args.rest.now c.loop-byte.byte-index c.args.self.at c.loop-byte.end.at (omega arith) i.1 f.0)

pub loop-byte-preserved : goal.loop-byte-preserved
loop-byte-preserved c =
    let i = c.loop-byte.invariant in
    let n = simp i.0 at c.in_ok-end.ensures in
    (n.1.same_text, rw n.1.one_further (name_more c.args.self.text.now c.args.rest.now c.loop-byte.byte-index c.args.self.at c.loop-byte.end.at (omega arith) i.1 n.1.inside n.0))

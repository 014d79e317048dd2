-- The three parts, one behind the other.
use Rattle.std.proofs.lemmas.Result.{err_from_is_err_and}
use Rattle.json_text.proofs.NumberParts.{whole_reads, whole_stops_int, whole_stops_frac, whole_stops_exp}
use Rattle.json_text.proofs.cursor.Cursor.unsigned.Goals as goal

pub returns-in_err-int : goal.returns-in_err-int
returns-in_err-int c =
    let p = err_from_is_err_and c.from_residual.result c.from_residual.ensures.1 in
    rw (p.1, p.2) (whole_stops_int c.args.self.text.now c.args.self.at _ c.in_err-int.ensures)

pub returns-in_err-frac : goal.returns-in_err-frac
returns-in_err-frac c =
    let p = err_from_is_err_and c.from_residual-in_err-frac.result c.from_residual-in_err-frac.ensures.1 in
    let i = c.in_ok-int.ensures in
    rw (p.1, p.2) (whole_stops_frac c.args.self.text.now c.args.self.at _ _ i.1 (simp i.0 at c.in_err-frac.ensures))

pub returns-in_err-exp : goal.returns-in_err-exp
returns-in_err-exp c =
    let p = err_from_is_err_and c.from_residual-in_err-exp.result c.from_residual-in_err-exp.ensures.1 in
    let i = c.in_ok-int.ensures in
    let f = simp i.0 at c.in_ok-frac.ensures in
    rw (p.1, p.2) (whole_stops_exp c.args.self.text.now c.args.self.at _ _ _ i.1 f.1 (simp f.0 at c.in_err-exp.ensures))

pub returns : goal.returns
returns c =
    let i = c.in_ok-int.ensures in
    let f = simp i.0 at c.in_ok-frac.ensures in
    let x = simp f.0 at c.in_ok-exp.ensures in
    whole_reads c.args.self.text.now c.args.self.at _ _ _ i.1 f.1 x.1

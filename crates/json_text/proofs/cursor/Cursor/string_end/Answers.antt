-- What a string tells, for a name and for a value.
use Rattle.std.proofs.Common.{refl}
use Rattle.std.proofs.lemmas.Result.{err_from_is_err_and}
use Rattle.json_text.proofs.StringParts.{string_reads, string_stops}
use Rattle.json_text.proofs.cursor.Cursor.string_end.Goals as goal

pub returns-in_err-end-clause-reading : goal.returns-in_err-end-clause-reading
returns-in_err-end-clause-reading c =
    let p = err_from_is_err_and c.from_residual.result c.from_residual.ensures.1 in
    rw (p.1, p.2) (λ role. string_stops role c.args.self.text.now c.args.self.at _ (c.in_err-end.ensures.string_or_fault c.args.self.inside))

pub returns-clause-reading : goal.returns-clause-reading
returns-clause-reading c = λ role. (refl, string_reads role c.args.self.text.now c.args.self.at _ (c.in_ok-end.ensures.string_or_fault c.args.self.inside))

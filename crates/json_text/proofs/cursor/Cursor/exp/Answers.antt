-- An e and digits, or nothing.
use Rattle.std.proofs.Common.{refl}
use Rattle.std.proofs.lemmas.Result.{MatchResult-weaker}
use Rattle.json_text.proofs.NumberParts.{exp_reads, exp_none, exp_stops}
use Rattle.json_text.proofs.cursor.Cursor.exp.Goals as goal

pub returns-in-Some : goal.returns-in-Some
returns-in-Some c =
    let w = c.in-Some.ensures.1 in
    MatchResult-weaker c.signed_digits.result (simp (w.same_text, w.one_further) at c.signed_digits.ensures)
    (λ end p. (p.0, exp_reads c.args.self.text.now c.args.self.at end.at w.inside c.in-Some.ensures.0 p.1))
    (λ f p. exp_stops c.args.self.text.now c.args.self.at f.place w.inside c.in-Some.ensures.0 p)

pub returns-in-None : goal.returns-in-None
returns-in-None c = (refl, exp_none c.args.self.text.now c.args.self.at c.args.self.inside c.in-None.ensures)

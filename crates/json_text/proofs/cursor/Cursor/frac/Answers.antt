-- A point and digits, or nothing.
use Rattle.std.proofs.Common.{refl}
use Rattle.std.proofs.lemmas.Result.{MatchResult-weaker}
use Rattle.json_text.proofs.NumberParts.{frac_digits, frac_none, frac_stops}
use Rattle.json_text.proofs.cursor.Cursor.frac.Goals as goal

pub returns-in-Some : goal.returns-in-Some
returns-in-Some c =
    let w = c.in-Some.ensures.1 in
    MatchResult-weaker c.digits.result (simp (w.same_text, w.one_further) at c.digits.ensures)
    (λ end p. (p.0, frac_digits c.args.self.text.now c.args.self.at end.at w.inside c.in-Some.ensures.0 p.1))
    (λ f p. frac_stops c.args.self.text.now c.args.self.at f.place w.inside c.in-Some.ensures.0 p)

pub returns-in-None : goal.returns-in-None
returns-in-None c = (refl, frac_none c.args.self.text.now c.args.self.at c.args.self.inside c.in-None.ensures)

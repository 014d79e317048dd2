-- Digits with a sign, or without.
use Rattle.std.proofs.lemmas.Result.{MatchResult-weaker}
use Rattle.json_text.proofs.NumberParts.{signed_digits, signed_stops, unsigned_digits, unsigned_stops}
use Rattle.json_text.proofs.cursor.Cursor.signed_digits.Goals as goal

pub returns-in-Some : goal.returns-in-Some
returns-in-Some c =
    let w = c.in-Some.ensures.1 in
    MatchResult-weaker c.digits.result (simp (w.same_text, w.one_further) at c.digits.ensures)
    (λ end p. (p.0, signed_digits c.args.self.text.now c.args.self.at end.at w.inside c.in-Some.ensures.0 p.1))
    (λ f p. signed_stops c.args.self.text.now c.args.self.at f.place w.inside c.in-Some.ensures.0 p)

pub returns-in-None : goal.returns-in-None
returns-in-None c =
    MatchResult-weaker c.digits-in-None.result c.digits-in-None.ensures
    (λ end p. (p.0, unsigned_digits c.args.self.text.now c.args.self.at end.at c.in-None.ensures p.1))
    (λ f p. unsigned_stops c.args.self.text.now c.args.self.at f.place c.args.self.inside c.in-None.ensures p)

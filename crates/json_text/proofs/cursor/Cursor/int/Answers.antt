-- A zero, or digits.
use Rattle.std.proofs.Common.{sym, subst, rules}
use Rattle.std.proofs.lemmas.Result.{MatchResult-weaker}
use Rattle.json_text.specs.Json.{Int}
use Rattle.json_text.specs.Machine.{minus, zero}
use Rattle.json_text.specs.Reading.{Reads, Any}
use Rattle.json_text.proofs.NumberParts.{int_zero, int_digits, int_stops}
use Rattle.json_text.proofs.cursor.Cursor.int.Goals as goal

pub returns-in-Some : goal.returns-in-Some
returns-in-Some c =
    let w = c.in-Some.ensures.1 in
    (search rules, subst (Reads Int minus zero Any c.args.self.text.now c.args.self.at) (sym w.one_further) (int_zero c.args.self.text.now c.args.self.at w.inside c.in-Some.ensures.0))

pub returns-in-None : goal.returns-in-None
returns-in-None c =
    MatchResult-weaker c.digits.result c.digits.ensures
    (λ end p. (p.0, int_digits c.args.self.text.now c.args.self.at end.at c.in-None.ensures p.1))
    (λ f p. int_stops c.args.self.text.now c.args.self.at f.place c.args.self.inside c.in-None.ensures p)

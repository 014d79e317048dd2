-- A minus and a number behind it, or the number alone.
use Rattle.std.proofs.Common.{get_or}
use Rattle.std.proofs.lemmas.Result.{MatchResult-weaker}
use Rattle.json_text.proofs.NumberParts.{number_start, minus_reads, minus_stops, digit_reads, digit_stops}
use Rattle.json_text.proofs.cursor.Cursor.number.Goals as goal

pub returns-in-Some : goal.returns-in-Some
returns-in-Some c =
    let w = c.in-Some.ensures.1 in
    MatchResult-weaker c.unsigned.result (simp (w.same_text, w.one_further) at c.unsigned.ensures)
    (λ end p. minus_reads c.args.self.text.now c.args.self.at end w.inside c.in-Some.ensures.0 p)
    (λ f p. minus_stops c.args.self.text.now c.args.self.at f.place w.inside c.in-Some.ensures.0 p)

pub returns-in-None : goal.returns-in-None
returns-in-None c =
    let h = number_start (get_or c.args.self.text.now c.args.self.at 256) c.in-None.ensures c.requires in
    MatchResult-weaker c.unsigned-in-None.result c.unsigned-in-None.ensures
    (λ end p. digit_reads c.args.self.text.now c.args.self.at end c.args.self.inside h p)
    (λ f p. digit_stops c.args.self.text.now c.args.self.at f.place c.args.self.inside h p)

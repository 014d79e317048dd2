-- A name, white space, a colon and white space.
use Rattle.std.proofs.Common.{◌∙◌}
use Rattle.std.proofs.lemmas.Result.{err_from_is_err_and}
use Rattle.std.proofs.lemmas.Bool.{eqb-true}
use Rattle.json_text.specs.Machine.{is_name}
use Rattle.json_text.proofs.StringParts.{colon_stands, no_name, name_string_stops, colon_missing, colon_reads}
use Rattle.json_text.proofs.token.Token.name_and_colon.Goals as goal

pub returns-in_err-expect-clause-reading : goal.returns-in_err-expect-clause-reading
returns-in_err-expect-clause-reading c =
    let p = err_from_is_err_and c.from_residual.result c.from_residual.ensures.1 in
    let f = c.in_err-expect.ensures in
    rw (p.1, p.2, f.1) (no_name c.args.self.start.text.now c.args.self.start.at c.args.self.start.inside c.args.self.no_space f.0)

pub returns-in_err-string_end-clause-reading : goal.returns-in_err-string_end-clause-reading
returns-in_err-string_end-clause-reading c =
    let p = err_from_is_err_and c.from_residual-in_err-string_end.result c.from_residual-in_err-string_end.ensures.1 in
    let q = c.in_ok-expect.ensures in
    rw (p.1, p.2)
    (name_string_stops c.args.self.start.text.now c.args.self.start.at _ q.1.inside q.0 (simp (q.1.same_text, q.1.one_further) at (c.in_err-string_end.ensures.reading is_name)))

pub returns-in_err-expect-2-clause-reading : goal.returns-in_err-expect-2-clause-reading
returns-in_err-expect-2-clause-reading c =
    let p = err_from_is_err_and c.from_residual-in_err-expect-2.result c.from_residual-in_err-expect-2.ensures.1 in
    let q = c.in_ok-expect.ensures in
    let s = simp (q.1.same_text, q.1.one_further) at (c.in_ok-string_end.ensures.reading is_name) in
    let w = simp s.0 at c.skip_ws-behind.ensures.space in
    let same = c.skip_ws-behind.ensures.same_text ∙ s.0 in
    let f = simp same at c.in_err-expect-2.ensures in
    rw (p.1, p.2, f.1)
    (colon_missing c.args.self.start.text.now c.args.self.start.at c.in_ok-string_end.field-0.at q.1.inside q.0 c.skip_ws-behind.result.start.at s.1 w f.0)

pub returns : goal.returns
returns c =
    let q = c.in_ok-expect.ensures in
    let e = c.in_ok-string_end.ensures in
    let s = simp (q.1.same_text, q.1.one_further) at (e.reading is_name) in
    let w = simp s.0 at c.skip_ws-behind.ensures.space in
    let same = c.skip_ws-behind.ensures.same_text ∙ s.0 in
    let o = simp same at c.in_ok-expect-2.ensures in
    let v = simp (o.1.same_text, o.1.one_further) at c.skip_ws.ensures.space in
    record {
      reading = (
        c.skip_ws.ensures.same_text ∙ o.1.same_text,
        colon_reads c.args.self.start.text.now c.args.self.start.at c.in_ok-string_end.field-0.at q.1.inside q.0 c.skip_ws-behind.result.start.at c.skip_ws.result.start.at s.1 w o.1.inside o.0 v,
      );
      stands = colon_stands c.args.self.start.text.now c.args.self.start.at _ c.skip_ws-behind.result.start.at c.skip_ws.result.start.at (eqb-true _ _ q.0)
          (simp (q.1.same_text, q.1.one_further) at e.stands) w (eqb-true _ _ o.0) v;
    }

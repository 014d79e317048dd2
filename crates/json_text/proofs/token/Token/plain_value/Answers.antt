-- A string, a number, or a literal name.
use Rattle.std.proofs.Common.{◌≡◌, [], ◌∷◌, get_or, ◌∙◌, inl, inr, arith}
use Rattle.std.proofs.lemmas.Result.{MatchResult-weaker, err_from_is_err_and}
use Rattle.json_text.specs.Json.{true_name, false_name, null_name, is_true, is_false, is_null}
use Rattle.json_text.specs.Machine.{is_value}
use Rattle.json_text.proofs.StepLaws.{value_t, value_f, value_n}
use Rattle.json_text.proofs.NumberParts.{digit_from}
use Rattle.json_text.proofs.ValueParts.{number_reads, number_stops, name_told, none_here}
use Rattle.json_text.proofs.StringParts.{value_string_reads, value_string_stops}
use Rattle.json_text.proofs.token.Token.plain_value.Goals as goal
use Rattle.json_text.proofs.token.Token.plain_value.Goals.{in_default-byte-via-then-byte-lt48, in_default-byte-via-else-byte-lt48+else-byte-lt58}

pub returns-in_default : goal.returns-in_default
returns-in_default c =
    let n : get_or c.args.self.start.text.now c.args.self.start.at 256 ≡ 256 = c.in_default.ensures in
    rw c.fault.ensures (λ d. none_here d c.args.self.start.text.now c.args.self.start.at c.args.self.start.inside c.args.self.no_space
    (λ e. omega arith) (λ e. omega arith) (λ e. omega arith) (λ e. omega arith) (inr (omega arith)) (λ e. omega arith) (λ e. omega arith) (λ e. omega arith))

pub returns-in-34 : goal.returns-in-34
returns-in-34 c = λ d.
    let w = c.in-Some.ensures.1 in
    MatchResult-weaker c.string_end.result (simp (w.same_text, w.one_further) at (c.string_end.ensures.reading is_value))
    (λ end p. (p.0, value_string_reads d c.args.self.start.text.now c.args.self.start.at end.at w.inside (c.in-Some.ensures.0 ∙ c.in-34.is) p.1))
    (λ f p. value_string_stops d c.args.self.start.text.now c.args.self.start.at f.place w.inside (c.in-Some.ensures.0 ∙ c.in-34.is) p)

pub number-requires : goal.number-requires
number-requires c = grind (arith, digit_from)

pub returns-in_err-end-in-45 : goal.returns-in_err-end-in-45
returns-in_err-end-in-45 c = λ d.
    let p = err_from_is_err_and c.from_residual.result c.from_residual.ensures.1 in
    rw (p.1, p.2) (number_stops d c.in_err-end-in-45.ensures)

pub returns-in_ok-end-in-45 : goal.returns-in_ok-end-in-45
returns-in_ok-end-in-45 c = λ d. (c.moved_to.ensures.same_text, rw c.moved_to.ensures.there (number_reads d c.in_ok-end-in-45.ensures))

pub returns-in-116 : goal.returns-in-116
returns-in-116 c = λ d.
    let w = c.in-Some.ensures.1 in
    name_told 116 (114 ∷ 117 ∷ 101 ∷ []) true_name value_t (λ d z e. is_true e) c.args.self.start.text.now c.args.self.start.at w.inside (c.in-Some.ensures.0 ∙ c.in-116.is) d c.name_rest.result
    (simp (w.same_text, w.one_further) at c.name_rest.ensures)

pub returns-in-102 : goal.returns-in-102
returns-in-102 c = λ d.
    let w = c.in-Some.ensures.1 in
    name_told 102 (97 ∷ 108 ∷ 115 ∷ 101 ∷ []) false_name value_f (λ d z e. is_false e) c.args.self.start.text.now c.args.self.start.at w.inside (c.in-Some.ensures.0 ∙ c.in-102.is) d c.name_rest-in-102.result
    (simp (w.same_text, w.one_further) at c.name_rest-in-102.ensures)

pub returns-in-110 : goal.returns-in-110
returns-in-110 c = λ d.
    let w = c.in-Some.ensures.1 in
    name_told 110 (117 ∷ 108 ∷ 108 ∷ []) null_name value_n (λ d z e. is_null e) c.args.self.start.text.now c.args.self.start.at w.inside (c.in-Some.ensures.0 ∙ c.in-110.is) d c.name_rest-in-110.result
    (simp (w.same_text, w.one_further) at c.name_rest-in-110.ensures)

pub returns-in_default-byte : goal.returns-in_default-byte
returns-in_default-byte c =
    let n = c.in-Some.ensures.0 in
    let r = c.requires in
    rw c.fault-in_default-byte.ensures
    (λ d. elim c.in_default-byte.branch [
      | in_default-byte-via-then-byte-lt48 w ↦ none_here d c.args.self.start.text.now c.args.self.start.at c.args.self.start.inside c.args.self.no_space
          (λ e. omega arith) r.no_array r.no_object (λ e. omega arith) (inl (omega arith)) (λ e. omega arith) (λ e. omega arith) (λ e. omega arith)
      | in_default-byte-via-else-byte-lt48+else-byte-lt58 w ↦ none_here d c.args.self.start.text.now c.args.self.start.at c.args.self.start.inside c.args.self.no_space
          (λ e. omega arith) r.no_array r.no_object (λ e. omega arith) (inr (omega arith)) (λ e. omega arith) (λ e. omega arith) (λ e. omega arith)
    ])

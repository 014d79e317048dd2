-- The machine reads every text of the grammar: by recursion over derivations, for every stack of open brackets.
use Rattle.std.proofs.Common.{◌≡◌, ℕ, ◌+◌, ◌<◌, ◌≤◌, true, false, ◌||◌, eqb, leb, List, [], ◌∷◌, ◌++◌, sym, refl, ap, ◌∙◌, subst, inl, inr, ⊎_elim, arith}
use Rattle.std.proofs.lemmas.List.{append_assoc}
use Rattle.std.proofs.lemmas.Bool.{eqb-true, ne_eqb, lt-leb, and_parts, or_cases}
use Rattle.json_string.specs.Machine.{plain}
use Rattle.json_text.specs.Json.{all, is_ws, is_digit, is_digit1_9, is_e, is_sign, Ws, Structural, Optional, Digits, Int, Frac, Exp, Sign, Minus, Number, String, Json, Value, ValueList, MemberList, Member, Text, is_false, is_null, is_true, is_number, is_string, is_empty_object, is_object, is_empty_array, is_array, one_value, next_value, one_member, next_member, member}
use Rattle.json_text.specs.Machine.{Stack, count, square, curly, State, is_name, is_value, to, step, run, ended, want, have, open_array, open_object, want_name, want_colon, in_string, minus, zero, int, point, frac, e, sign, exp, before_exp, name_rest, done}
use Rattle.json_text.proofs.Runs.{run_to, run_same, run_all}
use Rattle.json_text.proofs.StepLaws as law
use Rattle.json_text.proofs.NameParts.{name_run}
use Rattle.json_text.proofs.StringParts.{chars_go, string_closes}
use Rattle.json_text.specs.declared.texts.TheConstants.{DEPTH}

-- What comes begins with a symbol that continues no number.
pub record Breaks (ys : List ℕ) : Type 0 where
  pub first : ℕ
  pub others : List ℕ
  pub no_digit : is_digit first ≡ false
  pub no_point : eqb first 46 ≡ false
  pub no_e : is_e first ≡ false
  pub split : ys ≡ first ∷ others

-- What comes begins with no digit.
record NoDigit (ys : List ℕ) : Type 0 where
  first : ℕ
  others : List ℕ
  no_digit : is_digit first ≡ false
  split : ys ≡ first ∷ others

-- the symbols that may follow a value continue no number
pub small_no_digit : (x : ℕ) → x < 48 → is_digit x ≡ false
unfolding is_digit
small_no_digit x l = rw (lt-leb 48 x l)

pub ws_below : (x : ℕ) → is_ws x ≡ true → x ≤ 32
unfolding is_ws
ws_below x h =
    ⊎_elim (λ (p : eqb x 32 ≡ true). omega (arith, eqb-true x 32 p)) (λ p.
    ⊎_elim (λ (q : eqb x 9 ≡ true). omega (arith, eqb-true x 9 q)) (λ q.
    ⊎_elim (λ (r : eqb x 10 ≡ true). omega (arith, eqb-true x 10 r)) (λ (r : eqb x 13 ≡ true). omega (arith, eqb-true x 13 r))
    (or_cases (eqb x 10) (eqb x 13) q)) (or_cases (eqb x 9) (eqb x 10 || eqb x 13) p)) (or_cases (eqb x 32) (eqb x 9 || (eqb x 10 || eqb x 13)) h)

pub low_no_e : (x : ℕ) → x < 69 → is_e x ≡ false
unfolding is_e
low_no_e x l = rw (ne_eqb x 101 (λ q. omega arith), ne_eqb x 69 (λ q. omega arith))

e_no_digit : (x : ℕ) → is_e x ≡ true → is_digit x ≡ false
unfolding is_e is_digit
e_no_digit x h = ⊎_elim (λ p. rw (eqb-true x 101 p)) (λ p. rw (eqb-true x 69 p)) (or_cases _ _ h)

e_no_point : (x : ℕ) → is_e x ≡ true → eqb x 46 ≡ false
unfolding is_e
e_no_point x h = ⊎_elim (λ p. rw (eqb-true x 101 p)) (λ p. rw (eqb-true x 69 p)) (or_cases _ _ h)

sign_no_digit : (x : ℕ) → is_digit x ≡ true → is_sign x ≡ false
unfolding is_sign
sign_no_digit x h = let b = law.digit_bounds x h in rw (ne_eqb x 45 (λ q. omega arith), ne_eqb x 43 (λ q. omega arith))

ws_breaks : (w ys : List ℕ) → Ws w → Breaks ys → Breaks (w ++ ys)
unfolding all
ws_breaks [] ys h b = b
ws_breaks (x ∷ w) ys h b =
    let l = ws_below x (and_parts (is_ws x) (all is_ws w) h).0 in
    record { first = x; others = w ++ ys; no_digit = small_no_digit x (omega arith); no_point = ne_eqb x 46 (λ q. omega arith); no_e = low_no_e x (omega arith); split = refl }

symbol_breaks : (x : ℕ) (ys : List ℕ) → is_digit x ≡ false → eqb x 46 ≡ false → is_e x ≡ false → Breaks (x ∷ ys)
symbol_breaks x ys p q r = record { first = x; others = ys; no_digit = p; no_point = q; no_e = r; split = refl }

structural_breaks : (c : ℕ) (t ys : List ℕ) → is_digit c ≡ false → eqb c 46 ≡ false → is_e c ≡ false → Structural c t → Breaks (t ++ ys)
structural_breaks c t ys p q r s =
    subst Breaks (sym (ap (λ zs. zs ++ ys) s.split ∙ append_assoc s.before (c ∷ s.after) ys))
    (ws_breaks s.before (c ∷ (s.after ++ ys)) s.before_ws (symbol_breaks c (s.after ++ ys) p q r))

comma_breaks : (t ys : List ℕ) → Structural 44 t → Breaks (t ++ ys)
unfolding is_digit is_e
comma_breaks t ys s = structural_breaks 44 t ys refl refl refl s

array_breaks : (t ys : List ℕ) → Structural 93 t → Breaks (t ++ ys)
unfolding is_digit is_e
array_breaks t ys s = structural_breaks 93 t ys refl refl refl s

object_breaks : (t ys : List ℕ) → Structural 125 t → Breaks (t ++ ys)
unfolding is_digit is_e
object_breaks t ys s = structural_breaks 125 t ys refl refl refl s

pub end_breaks : Breaks (256 ∷ [])
unfolding is_digit is_e
end_breaks = symbol_breaks 256 [] refl refl refl

-- a state that white space leaves as it is
abbrev pub Skips : State → Type 0
Skips s = (x : ℕ) → is_ws x ≡ true → step s x ≡ to s

pub structural_runs : (c : ℕ) (s s' : State) (t ys : List ℕ) → Skips s → step s c ≡ to s' → Skips s' → Structural c t → run s (t ++ ys) ≡ run s' ys
structural_runs c s s' t ys h k i p =
    ap (λ zs. run s zs) (ap (λ zs. zs ++ ys) p.split ∙ append_assoc p.before (c ∷ p.after) ys)
    ∙ run_all is_ws s h p.before (c ∷ (p.after ++ ys)) p.before_ws
    ∙ run_to s s' c (p.after ++ ys) k
    ∙ run_all is_ws s' i p.after ys p.after_ws

-- a state in which a value is wanted on this stack: a bracket that was just opened may close again
pub record Wants (s : State) (σ : Stack) : Type 0 where
  pub skips : Skips s
  pub begins : (x : ℕ) → is_ws x ≡ false → eqb x 93 ≡ false → step s x ≡ step (want σ) x

pub want_wants : (σ : Stack) → Wants (want σ) σ
want_wants σ = record { skips = law.want_ws σ; begins = λ x h k. refl }

opened_wants : (σ : Stack) → Wants (open_array (square ∷ σ)) (square ∷ σ)
opened_wants σ = record { skips = law.open_array_ws square σ; begins = law.first_value square σ }

-- digits: the first leads from one state to another, which the others keep
digits_run : (s s' : State) (t ys : List ℕ) → ((x : ℕ) → is_digit x ≡ true → step s x ≡ to s') → ((x : ℕ) → is_digit x ≡ true → step s' x ≡ to s') →
    Digits t → run s (t ++ ys) ≡ run s' ys
digits_run s s' t ys h k d =
    ap (λ zs. run s (zs ++ ys)) d.split ∙ run_to s s' d.first (d.others ++ ys) (h d.first d.first_digit)
    ∙ run_all is_digit s' k d.others ys d.other_digits

-- the next symbol means the same in two states
same_at : (s s' : State) (x : ℕ) (ys others : List ℕ) → ys ≡ x ∷ others → step s x ≡ step s' x → run s ys ≡ run s' ys
same_at s s' x ys others q h = ap (run s) q ∙ run_same s s' x others h ∙ ap (run s') (sym q)

exp_runs : (σ : Stack) (t ys : List ℕ) → Optional Exp t → Breaks ys → run (before_exp σ) (t ++ ys) ≡ run (have σ) ys
exp_runs σ t ys (inl n) b = ap (λ zs. run (before_exp σ) (zs ++ ys)) n ∙ same_at (before_exp σ) (have σ) b.first ys b.others b.split (law.before_exp_ends σ b.first b.no_e)
exp_runs σ t ys (inr x) b =
    ap (λ zs. run (before_exp σ) (zs ++ ys)) x.split
    ∙ run_to (before_exp σ) (e σ) x.e ((x.sign ++ x.digits) ++ ys) (law.before_exp_e σ x.e x.is_an_e)
    ∙ ap (run (e σ)) (append_assoc x.sign x.digits ys)
    ∙ signed x.sign x.has_sign
    ∙ same_at (exp σ) (have σ) b.first ys b.others b.split (law.exp_ends σ b.first b.no_digit)
  where
    signed : (s : List ℕ) → Optional Sign s → run (e σ) (s ++ (x.digits ++ ys)) ≡ run (exp σ) ys
    signed s (inl n) =
        ap (λ zs. run (e σ) (zs ++ (x.digits ++ ys))) n
        ∙ digits_run (e σ) (exp σ) x.digits ys (λ y d. law.e_digit σ y (sign_no_digit y d) d) (law.exp_digit σ) x.are_digits
    signed s (inr p) =
        ap (λ zs. run (e σ) (zs ++ (x.digits ++ ys))) p.2
        ∙ run_to (e σ) (sign σ) p.0 (x.digits ++ ys) (law.e_sign σ p.0 p.1)
        ∙ digits_run (sign σ) (exp σ) x.digits ys (law.sign_digit σ) (law.exp_digit σ) x.are_digits

-- behind an int or a frac: an exp and what comes begin with no digit and no point
record NoPoint (ys : List ℕ) : Type 0 where
  first : ℕ
  others : List ℕ
  no_digit : is_digit first ≡ false
  no_point : eqb first 46 ≡ false
  split : ys ≡ first ∷ others

exp_no_point : (t ys : List ℕ) → Optional Exp t → Breaks ys → NoPoint (t ++ ys)
exp_no_point t ys (inl n) b = subst NoPoint (ap (λ zs. zs ++ ys) (sym n)) (record { first = b.first; others = b.others; no_digit = b.no_digit; no_point = b.no_point; split = b.split })
exp_no_point t ys (inr x) b =
    record { first = x.e; others = (x.sign ++ x.digits) ++ ys; no_digit = e_no_digit x.e x.is_an_e; no_point = e_no_point x.e x.is_an_e; split = ap (λ zs. zs ++ ys) x.split }

frac_runs : (σ : Stack) (t ys : List ℕ) → Optional Frac t → NoPoint ys → run (zero σ) (t ++ ys) ≡ run (before_exp σ) ys
frac_runs σ t ys (inl n) b = ap (λ zs. run (zero σ) (zs ++ ys)) n ∙ same_at (zero σ) (before_exp σ) b.first ys b.others b.split (law.zero_ends σ b.first b.no_point)
frac_runs σ t ys (inr x) b =
    ap (λ zs. run (zero σ) (zs ++ ys)) x.split
    ∙ run_to (zero σ) (point σ) 46 (x.digits ++ ys) (law.zero_point σ)
    ∙ digits_run (point σ) (frac σ) x.digits ys (law.point_digit σ) (law.frac_digit σ) x.are_digits
    ∙ same_at (frac σ) (before_exp σ) b.first ys b.others b.split (law.frac_ends σ b.first b.no_digit)

point_no_digit : is_digit 46 ≡ false
unfolding is_digit
point_no_digit = refl

frac_no_digit : (t ys : List ℕ) → Optional Frac t → NoPoint ys → NoDigit (t ++ ys)
frac_no_digit t ys (inl n) b = subst NoDigit (ap (λ zs. zs ++ ys) (sym n)) (record { first = b.first; others = b.others; no_digit = b.no_digit; split = b.split })
frac_no_digit t ys (inr x) b = record { first = 46; others = x.digits ++ ys; no_digit = point_no_digit; split = ap (λ zs. zs ++ ys) x.split }

pub digit1_9_digit : (x : ℕ) → is_digit1_9 x ≡ true → (is_digit x ≡ true) × (eqb x 48 ≡ false)
unfolding is_digit is_digit1_9
digit1_9_digit x h =
    let p = and_parts (leb 49 x) (leb x 57) h in
    let l = Rattle.std.proofs.lemmas.Bool.leb-true 49 x p.0 in
    let m : 48 ≤ x = omega arith in
    (rw (Rattle.std.proofs.lemmas.Bool.le-leb 48 x m, p.1), ne_eqb x 48 (λ q. omega arith))

-- an int, from where the minus was read
int_runs : (σ : Stack) (t ys : List ℕ) → Int t → NoDigit ys → run (minus σ) (t ++ ys) ≡ run (zero σ) ys
int_runs σ t ys (inl z) b = ap (λ zs. run (minus σ) (zs ++ ys)) z ∙ run_to (minus σ) (zero σ) 48 ys (law.minus_zero σ)
int_runs σ t ys (inr x) b =
    let d = digit1_9_digit x.first x.first_digit in
    ap (λ zs. run (minus σ) (zs ++ ys)) x.split
    ∙ run_to (minus σ) (int σ) x.first (x.others ++ ys) (law.minus_int σ x.first d.0 d.1)
    ∙ run_all is_digit (int σ) (law.int_digit σ) x.others ys x.other_digits
    ∙ same_at (int σ) (zero σ) b.first ys b.others b.split (law.int_ends σ b.first b.no_digit)

zero_is_digit : is_digit 48 ≡ true
unfolding is_digit
zero_is_digit = refl

pub int_first : (t : List ℕ) → Int t → (x : ℕ) × (xs : List ℕ) × (is_digit x ≡ true) × (t ≡ x ∷ xs)
int_first t (inl z) = (48, [], zero_is_digit, z)
int_first t (inr c) = (c.first, c.others, (digit1_9_digit c.first c.first_digit).0, c.split)

-- a number, from where a value is wanted
signed_runs : (s : State) (σ : Stack) (t i ys : List ℕ) → Wants s σ → Optional Minus t → Int i → run s (t ++ (i ++ ys)) ≡ run (minus σ) (i ++ ys)
signed_runs s σ t i ys w (inl n) k =
    let f = int_first i k in
    let b = law.digit_bounds f.0 f.2 in
    ap (λ zs. run s (zs ++ (i ++ ys))) n
    ∙ same_at s (minus σ) f.0 (i ++ ys) (f.1 ++ ys) (ap (λ zs. zs ++ ys) f.3)
    (w.begins f.0 (law.digit_no_ws f.0 f.2) (ne_eqb f.0 93 (λ q. omega arith)) ∙ law.want_digit σ f.0 f.2)
signed_runs s σ t i ys w (inr m) k =
    ap (λ zs. run s (zs ++ (i ++ ys))) m ∙ run_to s (minus σ) 45 (i ++ ys) (w.begins 45 (law.no_ws 45 (omega arith)) refl ∙ law.want_minus σ)

number_runs : (s : State) (σ : Stack) (t ys : List ℕ) → Wants s σ → Number t → Breaks ys → run s (t ++ ys) ≡ run (have σ) ys
number_runs s σ t ys w n b =
    let p = exp_no_point n.exp ys n.is_exp b in
    let q : (n.minus ++ (n.int ++ (n.frac ++ n.exp))) ++ ys ≡ n.minus ++ (n.int ++ (n.frac ++ (n.exp ++ ys))) = simp append_assoc in
    ap (λ zs. run s (zs ++ ys)) n.split ∙ ap (run s) q
    ∙ signed_runs s σ n.minus n.int (n.frac ++ (n.exp ++ ys)) w n.is_minus n.is_int
    ∙ int_runs σ n.int (n.frac ++ (n.exp ++ ys)) n.is_int (frac_no_digit n.frac (n.exp ++ ys) n.is_frac p)
    ∙ frac_runs σ n.frac (n.exp ++ ys) n.is_frac p
    ∙ exp_runs σ n.exp ys n.is_exp b

-- literal names
literal_runs : (s : State) (σ : Stack) (x : ℕ) (rest t ys : List ℕ) → Wants s σ → is_ws x ≡ false → eqb x 93 ≡ false →
    step (want σ) x ≡ to (name_rest rest σ) → t ≡ x ∷ rest → run s (t ++ ys) ≡ run (have σ) ys
literal_runs s σ x rest t ys w h k l q =
    ap (λ zs. run s (zs ++ ys)) q ∙ run_to s (name_rest rest σ) x (rest ++ ys) (w.begins x h k ∙ l) ∙ name_run rest σ ys

false_runs : (s : State) (σ : Stack) (t ys : List ℕ) → Wants s σ → t ≡ 102 ∷ 97 ∷ 108 ∷ 115 ∷ 101 ∷ [] → run s (t ++ ys) ≡ run (have σ) ys
unfolding is_ws
false_runs s σ t ys w q = literal_runs s σ 102 (97 ∷ 108 ∷ 115 ∷ 101 ∷ []) t ys w refl refl (law.value_f σ) q

null_runs : (s : State) (σ : Stack) (t ys : List ℕ) → Wants s σ → t ≡ 110 ∷ 117 ∷ 108 ∷ 108 ∷ [] → run s (t ++ ys) ≡ run (have σ) ys
unfolding is_ws
null_runs s σ t ys w q = literal_runs s σ 110 (117 ∷ 108 ∷ 108 ∷ []) t ys w refl refl (law.value_n σ) q

true_runs : (s : State) (σ : Stack) (t ys : List ℕ) → Wants s σ → t ≡ 116 ∷ 114 ∷ 117 ∷ 101 ∷ [] → run s (t ++ ys) ≡ run (have σ) ys
unfolding is_ws
true_runs s σ t ys w q = literal_runs s σ 116 (114 ∷ 117 ∷ 101 ∷ []) t ys w refl refl (law.value_t σ) q

-- strings: a value, and a name
value_string_runs : (s : State) (σ : Stack) (t d ys : List ℕ) → Wants s σ → String t d → run s (t ++ ys) ≡ run (have σ) ys
value_string_runs s σ t d ys w p =
    ap (λ zs. run s (zs ++ ys)) p.split
    ∙ run_to s (in_string is_value plain σ) 34 ((p.chars ++ 34 ∷ []) ++ ys) (w.begins 34 (law.no_ws 34 (omega arith)) refl ∙ law.value_quote σ)
    ∙ ap (run (in_string is_value plain σ)) (append_assoc p.chars (34 ∷ []) ys)
    ∙ chars_go is_value σ p.chars d (34 ∷ ys) p.are_chars
    ∙ run_to (in_string is_value plain σ) (have σ) 34 ys (string_closes is_value σ)

pub name_string_runs : (s : State) (σ : Stack) (t d ys : List ℕ) → step s 34 ≡ to (in_string is_name plain σ) → String t d → run s (t ++ ys) ≡ run (want_colon σ) ys
name_string_runs s σ t d ys h p =
    ap (λ zs. run s (zs ++ ys)) p.split
    ∙ run_to s (in_string is_name plain σ) 34 ((p.chars ++ 34 ∷ []) ++ ys) h
    ∙ ap (run (in_string is_name plain σ)) (append_assoc p.chars (34 ∷ []) ys)
    ∙ chars_go is_name σ p.chars d (34 ∷ ys) p.are_chars
    ∙ run_to (in_string is_name plain σ) (want_colon σ) 34 ys (string_closes is_name σ)

-- the bracket of an array and of an object
array_opens : (s : State) (σ : Stack) (t ys : List ℕ) → Wants s σ → count σ < DEPTH → Structural 91 t → run s (t ++ ys) ≡ run (open_array (square ∷ σ)) ys
array_opens s σ t ys w l p = structural_runs 91 s (open_array (square ∷ σ)) t ys w.skips (w.begins 91 (law.no_ws 91 (omega arith)) refl ∙ law.want_array σ l) (law.open_array_ws square σ) p

object_opens : (s : State) (σ : Stack) (t ys : List ℕ) → Wants s σ → count σ < DEPTH → Structural 123 t → run s (t ++ ys) ≡ run (open_object (curly ∷ σ)) ys
object_opens s σ t ys w l p = structural_runs 123 s (open_object (curly ∷ σ)) t ys w.skips (w.begins 123 (law.no_ws 123 (omega arith)) refl ∙ law.want_object σ l) (law.open_object_ws curly σ) p

opened_quote : (σ : Stack) → step (open_object (curly ∷ σ)) 34 ≡ to (in_string is_name plain (curly ∷ σ))
opened_quote σ = law.first_name curly σ 34 (law.no_ws 34 (omega arith)) refl ∙ law.name_quote (curly ∷ σ)

-- the parts of a text, one behind the other
pub three : (s : State) (t a b c ys : List ℕ) → t ≡ a ++ (b ++ c) → run s (t ++ ys) ≡ run s (a ++ (b ++ (c ++ ys)))
three s t a b c ys q = let r : (a ++ (b ++ c)) ++ ys ≡ a ++ (b ++ (c ++ ys)) = simp append_assoc in ap (λ zs. run s (zs ++ ys)) q ∙ ap (run s) r

two : (s : State) (t a b ys : List ℕ) → t ≡ a ++ b → run s (t ++ ys) ≡ run s (a ++ (b ++ ys))
two s t a b ys q = ap (λ zs. run s (zs ++ ys)) q ∙ ap (run s) (append_assoc a b ys)

mutual
  pub value_runs : {d : ℕ} {t : List ℕ} {v : Json} → Value d t v → (s : State) (σ : Stack) (ys : List ℕ) → Wants s σ → count σ + d ≤ DEPTH → Breaks ys → run s (t ++ ys) ≡ run (have σ) ys
  value_runs (is_false {t = t} q) s σ ys w l b = false_runs s σ t ys w q
  value_runs (is_null {t = t} q) s σ ys w l b = null_runs s σ t ys w q
  value_runs (is_true {t = t} q) s σ ys w l b = true_runs s σ t ys w q
  value_runs (is_number {t = t} n) s σ ys w l b = number_runs s σ t ys w n b
  value_runs (is_string {t = t} {s = d} p) s σ ys w l b = value_string_runs s σ t d ys w p
  value_runs (is_empty_object {t = t} x y p q r) s σ ys w l b =
      two s t x y ys r ∙ object_opens s σ x (y ++ ys) w (omega arith) p
      ∙ structural_runs 125 (open_object (curly ∷ σ)) (have σ) y ys (law.open_object_ws curly σ) (law.empty_object curly σ) (law.have_ws σ) q
  value_runs (is_object {t = t} x y z p m q r) s σ ys w l b =
      three s t x y z ys r ∙ object_opens s σ x (y ++ (z ++ ys)) w (omega arith) p
      ∙ members_run m (open_object (curly ∷ σ)) σ (z ++ ys) (opened_quote σ) (omega arith) (object_breaks z ys q)
      ∙ structural_runs 125 (have (curly ∷ σ)) (have σ) z ys (law.have_ws (curly ∷ σ)) (law.object_end σ) (law.have_ws σ) q
  value_runs (is_empty_array {t = t} x y p q r) s σ ys w l b =
      two s t x y ys r ∙ array_opens s σ x (y ++ ys) w (omega arith) p
      ∙ structural_runs 93 (open_array (square ∷ σ)) (have σ) y ys (law.open_array_ws square σ) (law.empty_array square σ) (law.have_ws σ) q
  value_runs (is_array {t = t} x y z p m q r) s σ ys w l b =
      three s t x y z ys r ∙ array_opens s σ x (y ++ (z ++ ys)) w (omega arith) p
      ∙ values_run m (open_array (square ∷ σ)) σ (z ++ ys) (opened_wants σ) (omega arith) (array_breaks z ys q)
      ∙ structural_runs 93 (have (square ∷ σ)) (have σ) z ys (law.have_ws (square ∷ σ)) (law.array_end σ) (law.have_ws σ) q

  values_run : {d : ℕ} {t : List ℕ} {vs : Rattle.json_text.specs.Json.Values} {v : Json} → ValueList d t vs v → (s : State) (σ : Stack) (ys : List ℕ) → Wants s (square ∷ σ) → count σ + d < DEPTH → Breaks ys →
      run s (t ++ ys) ≡ run (have (square ∷ σ)) ys
  values_run (one_value v) s σ ys w l b = value_runs v s (square ∷ σ) ys w (omega arith) b
  values_run (next_value {t = t} x y z m c v r) s σ ys w l b =
      three s t x y z ys r ∙ values_run m s σ (y ++ (z ++ ys)) w l (comma_breaks y (z ++ ys) c)
      ∙ structural_runs 44 (have (square ∷ σ)) (want (square ∷ σ)) y (z ++ ys) (law.have_ws (square ∷ σ)) (law.array_comma σ) (law.want_ws (square ∷ σ)) c
      ∙ value_runs v (want (square ∷ σ)) (square ∷ σ) ys (want_wants (square ∷ σ)) (omega arith) b

  members_run : {d : ℕ} {t : List ℕ} {ms : Rattle.json_text.specs.Json.Members} {k : List ℕ} {v : Json} → MemberList d t ms k v → (s : State) (σ : Stack) (ys : List ℕ) →
      step s 34 ≡ to (in_string is_name plain (curly ∷ σ)) → count σ + d < DEPTH → Breaks ys → run s (t ++ ys) ≡ run (have (curly ∷ σ)) ys
  members_run (one_member m) s σ ys w l b = member_runs m s (curly ∷ σ) ys w (omega arith) b
  members_run (next_member {t = t} x y z m c n r) s σ ys w l b =
      three s t x y z ys r ∙ members_run m s σ (y ++ (z ++ ys)) w l (comma_breaks y (z ++ ys) c)
      ∙ structural_runs 44 (have (curly ∷ σ)) (want_name (curly ∷ σ)) y (z ++ ys) (law.have_ws (curly ∷ σ)) (law.object_comma σ) (law.want_name_ws (curly ∷ σ)) c
      ∙ member_runs n (want_name (curly ∷ σ)) (curly ∷ σ) ys (law.name_quote (curly ∷ σ)) (omega arith) b

  member_runs : {d : ℕ} {t : List ℕ} {k : List ℕ} {v : Json} → Member d t k v → (s : State) (σ : Stack) (ys : List ℕ) →
      step s 34 ≡ to (in_string is_name plain σ) → count σ + d ≤ DEPTH → Breaks ys → run s (t ++ ys) ≡ run (have σ) ys
  member_runs (member {t = t} x y z {k = k} p c v r) s σ ys w l b =
      three s t x y z ys r ∙ name_string_runs s σ x k (y ++ (z ++ ys)) w p
      ∙ structural_runs 58 (want_colon σ) (want σ) y (z ++ ys) (law.want_colon_ws σ) (law.colon σ) (law.want_ws σ) c
      ∙ value_runs v (want σ) σ ys (want_wants σ) l b

end_run : run done [] ≡ ended done
unfolding run
end_run = refl

-- a whole text
pub text_runs : (t : List ℕ) (v : Json) → Text DEPTH t v → run (want []) (t ++ 256 ∷ []) ≡ ended done
text_runs t v p =
    three (want []) t p.before p.inner p.after (256 ∷ []) p.split
    ∙ run_all is_ws (want []) (law.want_ws []) p.before (p.inner ++ (p.after ++ 256 ∷ [])) p.before_ws
    ∙ value_runs p.is_value (want []) [] (p.after ++ 256 ∷ []) (want_wants []) (omega arith) (ws_breaks p.after (256 ∷ []) p.after_ws end_breaks)
    ∙ run_all is_ws (have []) (law.have_ws []) p.after (256 ∷ []) p.after_ws
    ∙ run_to (have []) done 256 [] law.text_end
    ∙ end_run

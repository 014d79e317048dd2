-- One more byte: where a state says how the bytes so far begin a text, the next state says it of one byte more.
use Rattle.std.proofs.Common.{◌≡◌, ℕ, Bool, true, false, cond, eqb, List, [], ◌∷◌, ◌++◌, sym, refl, ap, ◌∙◌, subst, inl, inr}
use Rattle.std.proofs.lemmas.List.{append-nil, append_assoc}
use Rattle.std.proofs.lemmas.Bool.{eqb-true, ltb-true}
use Rattle.json_string.specs.Machine.{StringState, plain, wanted, escape, code, code_d, closed, broken, string_step, string_run, alive}
use Rattle.json_string.proofs.Running.{run_one}
use Rattle.json_string.proofs.Stopping.{closed_by}
use Rattle.json_string.proofs.Sound.{read_chars}
use Rattle.json_text.specs.Json.{is_ws, is_digit, is_e, is_sign, Ws, Structural, NameSeparator, Optional, Minus, Counting, Int, Frac, Exp, Number, Json, Value, false_name, null_name, true_name, number, string, is_false, is_null, is_true, is_number, is_string}
use Rattle.json_text.specs.Machine.{Stack, count, square, curly, outside, State, Next, dead, to, is_name, is_value, step, begin_step, name_step, name_rest, string_next, opening, close, have_step, exp_step, frac_step, want, have, open_array, open_object, want_name, want_colon, in_string, in_name, minus, zero, int, point, frac, e, sign, exp, before_exp, done, past}
use Rattle.json_text.specs.Reading.{AnyValue}
use Rattle.json_text.proofs.Runs.{all_none}
use Rattle.json_text.proofs.Joining.{Joined, join, join_none, grow, weaken, made, whole, ws_more, structural_last}
use Rattle.json_text.proofs.States.{AnyString, Wanted, Had, Opened, NameWanted, InString, InName, One, ESign, Signed, Mantissa, Led}
use Rattle.json_text.proofs.Growing
use Rattle.json_text.proofs.NumberBeginnings as part
use Rattle.json_text.specs.declared.texts.TheConstants.{DEPTH}

-- What the machine's answer to a symbol says.
pub data After (t : List ℕ) (x : ℕ) : Next → Type 0 where
  stops : After t x dead
  goes : {s : State} → Led s (t ++ x ∷ []) → After t x (to s)

by : {t : List ℕ} {x : ℕ} (b : Bool) {m n : Next} → (b ≡ true → After t x m) → (b ≡ false → After t x n) → After t x (cond b m n)
by true f g = f refl
by false f g = g refl

-- a value without brackets
pub plain_done : (σ : Stack) (R : List ℕ → Type 0) (t : List ℕ) → ((b : List ℕ) → R b → (d : ℕ) → AnyValue d b) → Joined (Wanted σ) R t → Had σ t
plain_done σ R t f j = whole (Wanted σ) R (Had σ) t (λ a b w r. Growing.value_done σ a b w (λ d _. f b r d)) j

pub spaced : (σ : Stack) (t : List ℕ) → Had σ t → Joined (Had σ) Ws t
spaced σ t h = join_none (Had σ) Ws t h (all_none is_ws)

alone : (c x : ℕ) → x ≡ c → Structural c (x ∷ [])
alone c x q = structural_last c x [] q (all_none is_ws)

-- behind a value
close_after : (σ : Stack) (t : List ℕ) (x : ℕ) → Joined (Had σ) Ws t → After t x (close σ x)
unfolding close
close_after [] t x j = by (eqb x 256) (λ h. goes (t, Growing.text_space t j, ap (λ y. t ++ y ∷ []) (eqb-true x 256 h))) (λ _. stops)
close_after (square ∷ σ) t x j =
    by (eqb x 44)
    (λ h. goes (made (Had (square ∷ σ)) Ws (Wanted (square ∷ σ)) t (x ∷ []) (λ a w v s. Growing.next_value_wanted σ a (w ++ x ∷ []) (structural_last 44 x w (eqb-true x 44 h) s) v) j))
    (λ _. by (eqb x 93)
    (λ h. goes (spaced σ (t ++ x ∷ []) (made (Had (square ∷ σ)) Ws (Had σ) t (x ∷ []) (λ a w v s. Growing.array_done σ a (w ++ x ∷ []) (structural_last 93 x w (eqb-true x 93 h) s) v) j)))
    (λ _. stops))
close_after (outside ∷ σ) t x j = absurd j.is_first
close_after (curly ∷ σ) t x j =
    by (eqb x 44)
    (λ h. goes (made (Had (curly ∷ σ)) Ws (NameWanted (curly ∷ σ)) t (x ∷ []) (λ a w v s. Growing.next_name_wanted σ a (w ++ x ∷ []) (structural_last 44 x w (eqb-true x 44 h) s) v) j))
    (λ _. by (eqb x 125)
    (λ h. goes (spaced σ (t ++ x ∷ []) (made (Had (curly ∷ σ)) Ws (Had σ) t (x ∷ []) (λ a w v s. Growing.object_done σ a (w ++ x ∷ []) (structural_last 125 x w (eqb-true x 125 h) s) v) j)))
    (λ _. stops))

have_after : (σ : Stack) (t : List ℕ) (x : ℕ) → Joined (Had σ) Ws t → After t x (have_step σ x)
unfolding have_step
have_after σ t x j = by (is_ws x) (λ h. goes (grow (Had σ) Ws Ws t (x ∷ []) (λ w s. ws_more w x h s) j)) (λ _. close_after σ t x j)

-- numbers
number_after : (σ : Stack) (t : List ℕ) (x : ℕ) → Joined (Wanted σ) Number t → After t x (have_step σ x)
number_after σ t x j = have_after σ t x (spaced σ t (plain_done σ Number t (λ b n d. (number, is_number n)) j))

keep : (σ : Stack) (S S' : List ℕ → Type 0) (t : List ℕ) → ((b : List ℕ) → S b → S' b) → Joined (Wanted σ) S t → Joined (Wanted σ) S' t
keep σ S S' t f j = weaken (Wanted σ) (Wanted σ) S S' t (λ a w. w) f j

exp_after : (σ : Stack) (t : List ℕ) (x : ℕ) → Joined (Wanted σ) Mantissa t → After t x (exp_step σ x)
unfolding exp_step
exp_after σ t x j =
    by (is_e x)
    (λ h. goes (grow (Wanted σ) Mantissa (Joined Mantissa (One is_e)) t (x ∷ []) (λ b m. join Mantissa (One is_e) b (x ∷ []) m (x, h, refl)) j))
    (λ _. number_after σ t x (keep σ Mantissa Number t part.mantissa_number j))

frac_after : (σ : Stack) (t : List ℕ) (x : ℕ) → Joined (Wanted σ) Signed t → After t x (frac_step σ x)
unfolding frac_step
frac_after σ t x j =
    by (eqb x 46)
    (λ h. goes (grow (Wanted σ) Signed (Joined Signed (λ a. a ≡ 46 ∷ [])) t (x ∷ []) (λ b m. join Signed (λ a. a ≡ 46 ∷ []) b (x ∷ []) m (ap (λ y. y ∷ []) (eqb-true x 46 h))) j))
    (λ _. exp_after σ t x (keep σ Signed Mantissa t part.signed_mantissa j))

-- strings
string_more : (W : List ℕ → Type 0) (t : List ℕ) (x : ℕ) (q q' : StringState) → string_step q x ≡ q' → alive q' ≡ true → Joined W (InString q) t → Joined W (InString q') (t ++ x ∷ [])
string_more W t x q q' h k j =
    grow W (InString q) (InString q') t (x ∷ [])
    (λ b i. record { chars = i.chars ++ x ∷ []; runs = run_one plain i.chars x ∙ ap (λ s. string_step s x) i.runs ∙ h; goes_on = k; split = ap (λ zs. zs ++ x ∷ []) i.split }) j

string_done : (b : List ℕ) (x : ℕ) (q : StringState) → string_step q x ≡ closed → InString q b → AnyString (b ++ x ∷ [])
string_done b x q h i =
    let k = closed_by q x h in
    let c = read_chars i.chars (i.runs ∙ k.0) in
    (c.0, record { chars = i.chars; are_chars = c.1; split = ap (λ zs. zs ++ x ∷ []) i.split ∙ ap (λ y. 34 ∷ (i.chars ++ y ∷ [])) k.1 })

value_string_after : (σ : Stack) (t : List ℕ) (x : ℕ) (q q' : StringState) → string_step q x ≡ q' → Joined (Wanted σ) (InString q) t → After t x (string_next is_value σ q')
value_string_after σ t x q plain h j = goes (string_more (Wanted σ) t x q plain h refl j)
value_string_after σ t x q (wanted cs) h j = goes (string_more (Wanted σ) t x q (wanted cs) h refl j)
value_string_after σ t x q escape h j = goes (string_more (Wanted σ) t x q escape h refl j)
value_string_after σ t x q code h j = goes (string_more (Wanted σ) t x q code h refl j)
value_string_after σ t x q code_d h j = goes (string_more (Wanted σ) t x q code_d h refl j)
value_string_after σ t x q closed h j =
    goes (spaced σ (t ++ x ∷ []) (plain_done σ AnyString (t ++ x ∷ []) (λ b s d. (string s.0, is_string s.1))
    (grow (Wanted σ) (InString q) AnyString t (x ∷ []) (λ b i. string_done b x q h i) j)))
value_string_after σ t x q broken h j = stops

name_string_after : (σ : Stack) (t : List ℕ) (x : ℕ) (q q' : StringState) → string_step q x ≡ q' → Joined (NameWanted σ) (InString q) t → After t x (string_next is_name σ q')
name_string_after σ t x q plain h j = goes (string_more (NameWanted σ) t x q plain h refl j)
name_string_after σ t x q (wanted cs) h j = goes (string_more (NameWanted σ) t x q (wanted cs) h refl j)
name_string_after σ t x q escape h j = goes (string_more (NameWanted σ) t x q escape h refl j)
name_string_after σ t x q code h j = goes (string_more (NameWanted σ) t x q code h refl j)
name_string_after σ t x q code_d h j = goes (string_more (NameWanted σ) t x q code_d h refl j)
name_string_after σ t x q closed h j =
    goes (join_none (Joined (NameWanted σ) AnyString) Ws (t ++ x ∷ []) (grow (NameWanted σ) (InString q) AnyString t (x ∷ []) (λ b i. string_done b x q h i) j) (all_none is_ws))
name_string_after σ t x q broken h j = stops

string_first : (W : List ℕ → Type 0) (t : List ℕ) (x : ℕ) → x ≡ 34 → W t → Joined W (InString plain) (t ++ x ∷ [])
unfolding string_run
string_first W t x q w = join W (InString plain) t (x ∷ []) w (record { chars = []; runs = refl; goes_on = refl; split = ap (λ y. y ∷ []) q })

-- literal names
in_name_more : (b : ℕ) (bs c : List ℕ) (x : ℕ) → x ≡ b → InName (b ∷ bs) c → InName bs (c ++ x ∷ [])
in_name_more b bs c x q i = record {
  literal = i.literal;
  is_literal = λ d. subst (λ zs. Value d zs i.literal) (ap (λ y. c ++ (y ∷ bs)) (sym q) ∙ sym (append_assoc c (x ∷ []) bs)) (i.is_literal d);
}

name_after : (b : ℕ) (bs : List ℕ) (σ : Stack) (t : List ℕ) (x : ℕ) → x ≡ b → Joined (Wanted σ) (InName (b ∷ bs)) t → Led (name_rest bs σ) (t ++ x ∷ [])
name_after b [] σ t x q j =
    spaced σ (t ++ x ∷ []) (plain_done σ (InName []) (t ++ x ∷ []) (λ c i d. (i.literal, subst (λ zs. Value d zs i.literal) (append-nil c) (i.is_literal d)))
    (grow (Wanted σ) (InName (b ∷ [])) (InName []) t (x ∷ []) (λ c i. in_name_more b [] c x q i) j))
name_after b (c ∷ cs) σ t x q j = grow (Wanted σ) (InName (b ∷ (c ∷ cs))) (InName (c ∷ cs)) t (x ∷ []) (λ z i. in_name_more b (c ∷ cs) z x q i) j

name_first : (σ : Stack) (t : List ℕ) (x y : ℕ) (bs : List ℕ) (v : Json) → ((d : ℕ) → Value d (y ∷ bs) v) → x ≡ y → Wanted σ t → Joined (Wanted σ) (InName bs) (t ++ x ∷ [])
name_first σ t x y bs v f q w = join (Wanted σ) (InName bs) t (x ∷ []) w (record { literal = v; is_literal = λ d. subst (λ z. Value d (z ∷ bs) v) (sym q) (f d) })

-- the first byte of a value
opening_after : (k : ℕ) (σ : Stack) (s : State) (t : List ℕ) (x : ℕ) → x ≡ k → Wanted σ t → (Opened k σ (t ++ x ∷ []) → Led s (t ++ x ∷ [])) → After t x (opening σ s)
unfolding opening
opening_after k σ s t x q w f = by _ (λ h. goes (f (Growing.opens k σ t (x ∷ []) (ltb-true (count σ) DEPTH h) (alone k x q) w))) (λ _. stops)

begin_after : (σ : Stack) (t : List ℕ) (x : ℕ) → Wanted σ t → After t x (begin_step σ x)
unfolding begin_step
begin_after σ t x w =
    by (eqb x 34) (λ h. goes (string_first (Wanted σ) t x (eqb-true x 34 h) w)) (λ _.
    by (eqb x 91) (λ h. opening_after 91 σ (open_array (square ∷ σ)) t x (eqb-true x 91 h) w (λ o. o)) (λ _.
    by (eqb x 123) (λ h. opening_after 123 σ (open_object (curly ∷ σ)) t x (eqb-true x 123 h) w (λ o. o)) (λ _.
    by (eqb x 45) (λ h. goes (join (Wanted σ) (λ a. a ≡ 45 ∷ []) t (x ∷ []) w (ap (λ y. y ∷ []) (eqb-true x 45 h)))) (λ _.
    by (eqb x 48) (λ h. goes (join (Wanted σ) Signed t (x ∷ []) w (join (Optional Minus) Int [] (x ∷ []) (inl refl) (inl (ap (λ y. y ∷ []) (eqb-true x 48 h)))))) (λ k.
    by (is_digit x) (λ h. goes (join (Wanted σ) (Joined (Optional Minus) Counting) t (x ∷ []) w (join (Optional Minus) Counting [] (x ∷ []) (inl refl) (part.one_counting x h k)))) (λ _.
    by (eqb x 116) (λ h. goes (name_first σ t x 116 (114 ∷ 117 ∷ 101 ∷ []) true_name (λ d. is_true refl) (eqb-true x 116 h) w)) (λ _.
    by (eqb x 102) (λ h. goes (name_first σ t x 102 (97 ∷ 108 ∷ 115 ∷ 101 ∷ []) false_name (λ d. is_false refl) (eqb-true x 102 h) w)) (λ _.
    by (eqb x 110) (λ h. goes (name_first σ t x 110 (117 ∷ 108 ∷ 108 ∷ []) null_name (λ d. is_null refl) (eqb-true x 110 h) w)) (λ _. stops)))))))))

name_begin_after : (σ : Stack) (t : List ℕ) (x : ℕ) → NameWanted σ t → After t x (name_step σ x)
unfolding name_step
name_begin_after σ t x w = by (eqb x 34) (λ h. goes (string_first (NameWanted σ) t x (eqb-true x 34 h) w)) (λ _. stops)

pub advance : (s : State) (t : List ℕ) (x : ℕ) → Led s t → After t x (step s x)
unfolding step
advance (want σ) t x w = by (is_ws x) (λ h. goes (Growing.wanted_ws σ t x h w)) (λ _. begin_after σ t x w)
advance (have σ) t x j = have_after σ t x j
advance (open_array []) t x w = stops
advance (open_array (square ∷ σ)) t x w =
    by (is_ws x) (λ h. goes (Growing.opened_ws 91 σ t x h w)) (λ _.
    by (eqb x 93) (λ h. goes (spaced σ (t ++ x ∷ []) (Growing.empty_array_done σ t (x ∷ []) (alone 93 x (eqb-true x 93 h)) w))) (λ _.
    begin_after (square ∷ σ) t x (Growing.first_value σ t w)))
advance (open_array (curly ∷ σ)) t x w = absurd w
advance (open_array (outside ∷ σ)) t x w = absurd w
advance (open_object []) t x w = stops
advance (open_object (square ∷ σ)) t x w = absurd w
advance (open_object (curly ∷ σ)) t x w =
    by (is_ws x) (λ h. goes (Growing.opened_ws 123 σ t x h w)) (λ _.
    by (eqb x 125) (λ h. goes (spaced σ (t ++ x ∷ []) (Growing.empty_object_done σ t (x ∷ []) (alone 125 x (eqb-true x 125 h)) w))) (λ _.
    name_begin_after (curly ∷ σ) t x (Growing.first_name σ t w)))
advance (open_object (outside ∷ σ)) t x w = absurd w
advance (want_name σ) t x w = by (is_ws x) (λ h. goes (Growing.name_wanted_ws σ t x h w)) (λ _. name_begin_after σ t x w)
advance (want_colon σ) t x j =
    by (is_ws x) (λ h. goes (grow (Joined (NameWanted σ) AnyString) Ws Ws t (x ∷ []) (λ w s. ws_more w x h s) j)) (λ _.
    by (eqb x 58) (λ h. goes (made (Joined (NameWanted σ) AnyString) Ws (Wanted σ) t (x ∷ [])
    (λ a w n s. made (NameWanted σ) AnyString (Wanted σ) a (w ++ x ∷ [])
    (λ c k i z. Growing.name_done σ c (k ++ (w ++ x ∷ [])) (join AnyString NameSeparator k (w ++ x ∷ []) z (structural_last 58 x w (eqb-true x 58 h) s)) i) n) j)) (λ _. stops))
advance (in_string is_name q σ) t x j = name_string_after σ t x q (string_step q x) refl j
advance (in_string is_value q σ) t x j = value_string_after σ t x q (string_step q x) refl j
advance (in_name [] σ) t x j = stops
advance (in_name (b ∷ bs) σ) t x j = by (eqb x b) (λ h. goes (name_after b bs σ t x (eqb-true x b h) j)) (λ _. stops)
advance (minus σ) t x j =
    by (eqb x 48)
    (λ h. goes (grow (Wanted σ) (λ a. a ≡ 45 ∷ []) Signed t (x ∷ []) (λ b q. join (Optional Minus) Int b (x ∷ []) (inr q) (inl (ap (λ y. y ∷ []) (eqb-true x 48 h)))) j)) (λ k.
    by (is_digit x)
    (λ h. goes (grow (Wanted σ) (λ a. a ≡ 45 ∷ []) (Joined (Optional Minus) Counting) t (x ∷ []) (λ b q. join (Optional Minus) Counting b (x ∷ []) (inr q) (part.one_counting x h k)) j)) (λ _. stops))
advance (zero σ) t x j = frac_after σ t x j
advance (int σ) t x j =
    by (is_digit x)
    (λ h. goes (grow (Wanted σ) (Joined (Optional Minus) Counting) (Joined (Optional Minus) Counting) t (x ∷ []) (λ b c. grow (Optional Minus) Counting Counting b (x ∷ []) (λ z n. part.counting_more z x h n) c) j))
    (λ _. frac_after σ t x (keep σ (Joined (Optional Minus) Counting) Signed t part.counting_signed j))
advance (point σ) t x j =
    by (is_digit x)
    (λ h. goes (grow (Wanted σ) (Joined Signed (λ a. a ≡ 46 ∷ [])) (Joined Signed Frac) t (x ∷ []) (λ b c. grow Signed (λ a. a ≡ 46 ∷ []) Frac b (x ∷ []) (λ z q. part.frac_one z x h q) c) j)) (λ _. stops)
advance (frac σ) t x j =
    by (is_digit x)
    (λ h. goes (grow (Wanted σ) (Joined Signed Frac) (Joined Signed Frac) t (x ∷ []) (λ b c. grow Signed Frac Frac b (x ∷ []) (λ z f. part.frac_more z x h f) c) j))
    (λ _. exp_after σ t x (keep σ (Joined Signed Frac) Mantissa t part.frac_mantissa j))
advance (e σ) t x j =
    by (is_sign x)
    (λ h. goes (grow (Wanted σ) (Joined Mantissa (One is_e)) (Joined Mantissa ESign) t (x ∷ []) (λ b c. grow Mantissa (One is_e) ESign b (x ∷ []) (λ z o. (o.0, x, o.1, h, ap (λ zs. zs ++ x ∷ []) o.2)) c) j)) (λ _.
    by (is_digit x)
    (λ h. goes (grow (Wanted σ) (Joined Mantissa (One is_e)) (Joined Mantissa Exp) t (x ∷ []) (λ b c. grow Mantissa (One is_e) Exp b (x ∷ []) (λ z o. part.exp_one z x h o) c) j)) (λ _. stops))
advance (sign σ) t x j =
    by (is_digit x)
    (λ h. goes (grow (Wanted σ) (Joined Mantissa ESign) (Joined Mantissa Exp) t (x ∷ []) (λ b c. grow Mantissa ESign Exp b (x ∷ []) (λ z o. part.exp_signed z x h o) c) j)) (λ _. stops)
advance (exp σ) t x j =
    by (is_digit x)
    (λ h. goes (grow (Wanted σ) (Joined Mantissa Exp) (Joined Mantissa Exp) t (x ∷ []) (λ b c. grow Mantissa Exp Exp b (x ∷ []) (λ z p. part.exp_more z x h p) c) j))
    (λ _. number_after σ t x (keep σ (Joined Mantissa Exp) Number t part.exp_number j))
advance (before_exp σ) t x j = absurd j
advance done t x j = stops
advance past t x j = absurd j

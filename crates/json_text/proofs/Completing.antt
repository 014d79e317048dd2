-- Each state before the end can be completed: the bytes that led to it begin a text.
use Rattle.std.proofs.Common.{◌≡◌, ℕ, Bool, true, false, List, [], ◌∷◌, ◌++◌, sym, refl, ap, ◌∙◌, subst, inl, inr}
use Rattle.std.proofs.lemmas.List.{append-nil, append_assoc}
use Rattle.json_string.specs.String.{none_left}
use Rattle.json_string.specs.Machine.{StringState, alive}
use Rattle.json_string.proofs.Beginnings.{alive_begins}
use Rattle.json_text.specs.Json.{is_e, Ws, Structural, NameSeparator, Optional, Minus, Counting, Int, Frac, Exp, Number, String, Text, Begins, number, string, is_number, is_string}
use Rattle.json_text.specs.Machine.{Stack, square, curly, outside, State, is_name, is_value, want, have, open_array, open_object, want_name, want_colon, in_string, in_name, minus, zero, int, point, frac, e, sign, exp, before_exp, done, past}
use Rattle.json_text.proofs.Runs.{all_none}
use Rattle.json_text.proofs.ListParts.{before_space}
use Rattle.json_text.proofs.Joining.{Joined, join, join_none, grow, made}
use Rattle.json_text.proofs.States.{AnyString, Wanted, Had, NameWanted, InString, InName, One, ESign, Signed, Mantissa, Led}
use Rattle.json_text.proofs.Growing
use Rattle.json_text.proofs.NumberBeginnings as part
use Rattle.json_text.proofs.Advance.{plain_done, spaced}
use Rattle.json_text.specs.declared.texts.TheConstants.{DEPTH}

-- The text has ended.
abbrev pub is_done : State → Bool
is_done done = true
is_done s = false

begins_shorter : (t y : List ℕ) → Begins DEPTH (t ++ y) → Begins DEPTH t
begins_shorter t y b = (y ++ b.0, b.1, subst (λ zs. Text DEPTH zs b.1) (append_assoc t y b.0) b.2)

-- a bracket alone
bracket : (c : ℕ) → Structural c (c ∷ [])
bracket c = before_space c [] (all_none Rattle.json_text.specs.Json.is_ws)

have_begins : (σ : Stack) (t : List ℕ) → Joined (Had σ) Ws t → Begins DEPTH t
have_begins [] t j = let v = Growing.text_space t j in ([], v.0, subst (λ zs. Text DEPTH zs v.0) (sym (append-nil t)) v.1)
have_begins (square ∷ σ) t j =
    begins_shorter t (93 ∷ []) (have_begins σ (t ++ 93 ∷ []) (spaced σ (t ++ 93 ∷ [])
    (made (Had (square ∷ σ)) Ws (Had σ) t (93 ∷ []) (λ a w v s. Growing.array_done σ a (w ++ 93 ∷ []) (before_space 93 w s) v) j)))
have_begins (curly ∷ σ) t j =
    begins_shorter t (125 ∷ []) (have_begins σ (t ++ 125 ∷ []) (spaced σ (t ++ 125 ∷ [])
    (made (Had (curly ∷ σ)) Ws (Had σ) t (125 ∷ []) (λ a w v s. Growing.object_done σ a (w ++ 125 ∷ []) (before_space 125 w s) v) j)))
have_begins (outside ∷ σ) t j = absurd j.is_first

had_begins : (σ : Stack) (t : List ℕ) → Had σ t → Begins DEPTH t
had_begins σ t h = have_begins σ t (spaced σ t h)

-- a number is completed
number_begins : (σ : Stack) (R : List ℕ → Type 0) (t y : List ℕ) → ((b : List ℕ) → R b → Number (b ++ y)) → Joined (Wanted σ) R t → Begins DEPTH t
number_begins σ R t y f j =
    begins_shorter t y (had_begins σ (t ++ y) (plain_done σ Number (t ++ y) (λ b n d. (number, is_number n)) (grow (Wanted σ) R Number t y f j)))

zero_int : (b : List ℕ) → Optional Minus b → Number (b ++ 48 ∷ [])
zero_int b m = part.mantissa_number (b ++ 48 ∷ []) (part.signed_mantissa (b ++ 48 ∷ []) (join (Optional Minus) Int b (48 ∷ []) m (inl refl)))

whole_number : (R : List ℕ → Type 0) → ((b : List ℕ) → R b → Number b) → (b : List ℕ) → R b → Number (b ++ [])
whole_number R f b r = subst Number (sym (append-nil b)) (f b r)

wanted_begins : (σ : Stack) (t : List ℕ) → Wanted σ t → Begins DEPTH t
wanted_begins σ t w = number_begins σ (λ a. a ≡ []) t (48 ∷ []) (λ b q. zero_int b (inl q)) (join_none (Wanted σ) (λ a. a ≡ []) t w refl)

-- a name and its colon
empty_name : AnyString (34 ∷ 34 ∷ [])
empty_name = ([], record { chars = []; are_chars = none_left refl refl; split = refl })

name_begins : (σ : Stack) (t : List ℕ) → NameWanted σ t → Begins DEPTH t
name_begins σ t w =
    begins_shorter t (34 ∷ 34 ∷ 58 ∷ []) (wanted_begins σ (t ++ 34 ∷ 34 ∷ 58 ∷ [])
    (Growing.name_done σ t (34 ∷ 34 ∷ 58 ∷ []) (join AnyString NameSeparator (34 ∷ 34 ∷ []) (58 ∷ []) empty_name (bracket 58)) w))

colon_begins : (σ : Stack) (t : List ℕ) → Joined (Joined (NameWanted σ) AnyString) Ws t → Begins DEPTH t
colon_begins σ t j =
    begins_shorter t (58 ∷ []) (wanted_begins σ (t ++ 58 ∷ [])
    (made (Joined (NameWanted σ) AnyString) Ws (Wanted σ) t (58 ∷ [])
    (λ a w n s. made (NameWanted σ) AnyString (Wanted σ) a (w ++ 58 ∷ [])
    (λ c k i z. Growing.name_done σ c (k ++ (w ++ 58 ∷ [])) (join AnyString NameSeparator k (w ++ 58 ∷ []) z (before_space 58 w s)) i) n) j))

-- a string is completed
string_whole : (W : List ℕ → Type 0) (q : StringState) (t : List ℕ) → Joined W (InString q) t → (y : List ℕ) × Joined W AnyString (t ++ y)
string_whole W q t j =
    let i = j.is_second in
    let r = alive_begins i.chars (ap alive i.runs ∙ i.goes_on) in
    let y : List ℕ = r.0 ++ 34 ∷ [] in (
      y,
      record {
        first = j.first;
        second = j.second ++ y;
        is_first = j.is_first;
        is_second = (r.1, record { chars = i.chars ++ r.0; are_chars = r.2; split = ap (λ zs. zs ++ y) i.split ∙ ap (λ zs. 34 ∷ zs) (sym (append_assoc i.chars r.0 (34 ∷ []))) });
        split = ap (λ zs. zs ++ y) j.split ∙ append_assoc j.first j.second y;
      },
    )

opened_array_begins : (σ : Stack) (t : List ℕ) → Rattle.json_text.proofs.States.InArray σ t → Begins DEPTH t
opened_array_begins [] t w = absurd w
opened_array_begins (square ∷ σ) t w = begins_shorter t (93 ∷ []) (had_begins σ (t ++ 93 ∷ []) (Growing.empty_array_done σ t (93 ∷ []) (bracket 93) w))
opened_array_begins (curly ∷ σ) t w = absurd w
opened_array_begins (outside ∷ σ) t w = absurd w

opened_object_begins : (σ : Stack) (t : List ℕ) → Rattle.json_text.proofs.States.InObject σ t → Begins DEPTH t
opened_object_begins [] t w = absurd w
opened_object_begins (square ∷ σ) t w = absurd w
opened_object_begins (curly ∷ σ) t w = begins_shorter t (125 ∷ []) (had_begins σ (t ++ 125 ∷ []) (Growing.empty_object_done σ t (125 ∷ []) (bracket 125) w))
opened_object_begins (outside ∷ σ) t w = absurd w

zero_is_digit : Rattle.json_text.specs.Json.is_digit 48 ≡ true
unfolding Rattle.json_text.specs.Json.is_digit
zero_is_digit = refl

pub led_begins : (s : State) (t : List ℕ) → is_done s ≡ false → Led s t → Begins DEPTH t
led_begins (want σ) t k w = wanted_begins σ t w
led_begins (have σ) t k j = have_begins σ t j
led_begins (open_array σ) t k w = opened_array_begins σ t w
led_begins (open_object σ) t k w = opened_object_begins σ t w
led_begins (want_name σ) t k w = name_begins σ t w
led_begins (want_colon σ) t k j = colon_begins σ t j
led_begins (in_string is_name q σ) t k j =
    let r = string_whole (NameWanted σ) q t j in
    begins_shorter t r.0 (colon_begins σ (t ++ r.0) (join_none (Joined (NameWanted σ) AnyString) Ws (t ++ r.0) r.1 (all_none Rattle.json_text.specs.Json.is_ws)))
led_begins (in_string is_value q σ) t k j =
    let r = string_whole (Wanted σ) q t j in
    begins_shorter t r.0 (had_begins σ (t ++ r.0) (plain_done σ AnyString (t ++ r.0) (λ b s d. (string s.0, is_string s.1)) r.1))
led_begins (in_name bs σ) t k j =
    begins_shorter t bs (had_begins σ (t ++ bs) (plain_done σ (λ b. (d : ℕ) → Rattle.json_text.specs.Reading.AnyValue d b) (t ++ bs) (λ b f. f)
    (grow (Wanted σ) (InName bs) (λ b. (d : ℕ) → Rattle.json_text.specs.Reading.AnyValue d b) t bs (λ b i d. (i.literal, i.is_literal d)) j)))
led_begins (minus σ) t k j = number_begins σ (λ a. a ≡ 45 ∷ []) t (48 ∷ []) (λ b q. zero_int b (inr q)) j
led_begins (zero σ) t k j = number_begins σ Signed t [] (whole_number Signed (λ b s. part.mantissa_number b (part.signed_mantissa b s))) j
led_begins (int σ) t k j =
    number_begins σ (Joined (Optional Minus) Counting) t []
    (whole_number (Joined (Optional Minus) Counting) (λ b s. part.mantissa_number b (part.signed_mantissa b (part.counting_signed b s)))) j
led_begins (point σ) t k j =
    number_begins σ (Joined Signed (λ a. a ≡ 46 ∷ [])) t (48 ∷ [])
    (λ b s. part.mantissa_number (b ++ 48 ∷ []) (part.frac_mantissa (b ++ 48 ∷ []) (grow Signed (λ a. a ≡ 46 ∷ []) Frac b (48 ∷ []) (λ z q. part.frac_one z 48 zero_is_digit q) s))) j
led_begins (frac σ) t k j = number_begins σ (Joined Signed Frac) t [] (whole_number (Joined Signed Frac) (λ b s. part.mantissa_number b (part.frac_mantissa b s))) j
led_begins (e σ) t k j =
    number_begins σ (Joined Mantissa (One is_e)) t (48 ∷ [])
    (λ b s. part.exp_number (b ++ 48 ∷ []) (grow Mantissa (One is_e) Exp b (48 ∷ []) (λ z o. part.exp_one z 48 zero_is_digit o) s)) j
led_begins (sign σ) t k j =
    number_begins σ (Joined Mantissa ESign) t (48 ∷ [])
    (λ b s. part.exp_number (b ++ 48 ∷ []) (grow Mantissa ESign Exp b (48 ∷ []) (λ z o. part.exp_signed z 48 zero_is_digit o) s)) j
led_begins (exp σ) t k j = number_begins σ (Joined Mantissa Exp) t [] (whole_number (Joined Mantissa Exp) part.exp_number) j
led_begins (before_exp σ) t k j = absurd j
led_begins done t k j = absurd (Rattle.std.proofs.lemmas.Bool.true≢false k)
led_begins past t k j = absurd j

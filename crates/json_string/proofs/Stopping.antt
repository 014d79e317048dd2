-- Where reading stops: at one place only, the end of a string or a fault.
use Rattle.std.proofs.Common.{◌≡◌, ℕ, ◌+◌, ◌-◌, ◌<◌, ◌≤◌, Bool, true, false, cond, eqb, List, [], ◌∷◌, ◌++◌, length, get_or, take, drop, sym, refl, ap, ◌∙◌, inl, inr, arith, take-add}
use Rattle.std.specs.List.{between}
use Rattle.std.proofs.lemmas.List.{get_or_default, drop-drop}
use Rattle.std.proofs.lemmas.List.Edits.{between_more}
use Rattle.std.proofs.lemmas.Bool.{cases_Bool, cases_order, false≢true, true≢false, eqb-true}
use Rattle.json_string.specs.String.{Class, holds, unescaped_rows}
use Rattle.json_string.specs.Machine.{StringState, plain, wanted, escape, code, code_d, closed, broken, wanting, row_step, string_step, string_run, alive, hexdig, low_surrogate, digit_d, digit_0_7, digit_8_b, escape_letter}
use Rattle.json_string.specs.Reading.{byte_at, StringAt, FaultAt}
use Rattle.json_string.proofs.Running.{run_append, run_one, run_broken, alive_before}
use Rattle.json_string.proofs.Complete.{chars_read, chars_close}
use Rattle.json_string.proofs.Sound.{read_chars}
use Rattle.json_string.proofs.Beginnings.{alive_begins}

-- Parts of a text, one behind the other.
joined_parts : (a b c : ℕ) (xs : List ℕ) → a ≤ b → b ≤ c → between a c xs ≡ between a b xs ++ between b c xs
joined_parts a b c xs h k =
    let sum : c - a ≡ (b - a) + (c - b) = omega arith in
    let start : a + (b - a) ≡ b = omega arith in
    ap (λ n. take n (drop a xs)) sum ∙ take-add (b - a) (c - b) (drop a xs)
    ∙ ap (λ ys. take (b - a) (drop a xs) ++ take (c - b) ys) (drop-drop (b - a) a xs ∙ ap (λ n. drop n xs) start)

-- Only a quotation mark between two chars closes a string.
abbrev Open : StringState → Type 0
Open s = s ≡ closed → ⊥

open_either : (t : Bool) (x y : StringState) → Open x → Open y → Open (cond t x y)
open_either true x y p q = p
open_either false x y p q = q

alive_open : (s : StringState) → alive s ≡ true → Open s
alive_open s h e = false≢true (sym (ap alive e) ∙ h)

broken_open : Open broken
broken_open e = let z : ◌≡◌ {A = ℕ} 0 1 = cc in omega arith

wanting_open : (cs : List Class) → Open (wanting cs)
wanting_open [] = alive_open plain refl
wanting_open (c ∷ cs) = alive_open (wanted (c ∷ cs)) refl

row_open : (rows : List (List Class)) (b : ℕ) → Open (row_step rows b)
unfolding row_step
row_open [] b = broken_open
row_open ([] ∷ rows) b = row_open rows b
row_open ((c ∷ cs) ∷ rows) b = open_either (holds c b) _ _ (wanting_open cs) (row_open rows b)

pub closed_by : (s : StringState) (b : ℕ) → string_step s b ≡ closed → (s ≡ plain) × (b ≡ 0x22)
unfolding string_step
closed_by plain b e =
    elim (cases_Bool (eqb b 0x22)) [
      | inl h ↦ (refl, eqb-true b 0x22 h)
      | inr h ↦ absurd (open_either (eqb b 0x5C) escape (row_step unescaped_rows b) (alive_open escape refl) (row_open unescaped_rows b) (rw h at e))
    ]
closed_by (wanted []) b e = absurd (broken_open e)
closed_by (wanted (c ∷ cs)) b e = absurd (open_either (holds c b) _ _ (wanting_open cs) broken_open e)
closed_by escape b e = absurd (open_either (eqb b 0x75) _ _ (alive_open code refl) (open_either (holds escape_letter b) _ _ (alive_open plain refl) broken_open) e)
closed_by code b e = absurd (open_either (holds digit_d b) _ _ (alive_open code_d refl) (open_either (holds hexdig b) _ _ (wanting_open (hexdig ∷ hexdig ∷ hexdig ∷ [])) broken_open) e)
closed_by code_d b e = absurd (open_either (holds digit_0_7 b) _ _ (wanting_open (hexdig ∷ hexdig ∷ [])) (open_either (holds digit_8_b b) _ _ (wanting_open (hexdig ∷ hexdig ∷ low_surrogate)) broken_open) e)
closed_by closed b e = absurd (broken_open e)
closed_by broken b e = absurd (broken_open e)

-- Reading stops at a place: the bytes before it go on, and with the byte there they do not.
pub record Stop (text : List ℕ) (at place : ℕ) : Type 0 where
  pub not_before : at ≤ place
  pub inside : place ≤ length text
  pub goes_on : alive (string_run plain (between at place text)) ≡ true
  pub stops : alive (string_step (string_run plain (between at place text)) (byte_at text place)) ≡ false

-- the run over one byte more
one_more : (text : List ℕ) (at place : ℕ) → at ≤ place → place < length text →
    string_run plain (between at (place + 1) text) ≡ string_step (string_run plain (between at place text)) (byte_at text place)
one_more text at place h k = ap (string_run plain) (between_more text at place 256 h k) ∙ run_one plain (between at place text) (byte_at text place)

not_later : (text : List ℕ) (at p q : ℕ) → Stop text at p → Stop text at q → p < q → ⊥
not_later text at p q s r lt =
    let later : alive (string_run plain (between at (p + 1) text)) ≡ true =
    alive_before _ (between (p + 1) q text) (ap alive (sym (ap (string_run plain) (joined_parts at (p + 1) q text (omega (arith, s.not_before)) (omega arith)) ∙ run_append plain (between at (p + 1) text) (between (p + 1) q text))) ∙ r.goes_on) in
    true≢false (sym later ∙ ap alive (one_more text at p s.not_before (omega (arith, r.inside))) ∙ s.stops)

pub stop_once : (text : List ℕ) (at p q : ℕ) → Stop text at p → Stop text at q → p ≡ q
stop_once text at p q s r =
    elim (cases_order p q) [
      | inl e ↦ e
      | inr h ↦ elim h [ inl lt ↦ absurd (not_later text at p q s r lt) | inr lt ↦ absurd (not_later text at q p r s lt) ]
    ]

-- A string's end and a fault are such places.
string_run_at : (text : List ℕ) (at end : ℕ) → StringAt text at end → string_run plain (between at end text) ≡ plain
string_run_at text at end s = chars_read _ s.chars.0 s.chars.1

pub string_stops : (text : List ℕ) (at end : ℕ) → StringAt text at end → Stop text at end
unfolding string_step
string_stops text at end s =
    let run = string_run_at text at end s in
    record { not_before = s.not_before; inside = omega (arith, s.inside); goes_on = ap alive run; stops = ap (λ x. alive (string_step x (byte_at text end))) run ∙ ap (λ b. alive (string_step plain b)) s.closing }

pub fault_stops : (text : List ℕ) (at place : ℕ) → FaultAt text at place → Stop text at place
fault_stops text at place f = record { not_before = f.not_before; inside = f.inside; goes_on = f.goes_on; stops = ap alive f.breaks }

pub same_end : (text : List ℕ) (at p q : ℕ) → StringAt text at p → StringAt text at q → p ≡ q
same_end text at p q s r = stop_once text at p q (string_stops text at p s) (string_stops text at q r)

pub string_no_fault : (text : List ℕ) (at end place : ℕ) → StringAt text at end → FaultAt text at place → ⊥
unfolding string_step
string_no_fault text at end place s f =
    let e = stop_once text at end place (string_stops text at end s) (fault_stops text at place f) in
    let run = string_run_at text at end s in
    broken_open (sym f.breaks ∙ ap (λ p. string_step (string_run plain (between at p text)) (byte_at text p)) (sym e) ∙ ap (λ x. string_step x (byte_at text end)) run ∙ ap (λ b. string_step plain b) s.closing)

-- What the code finds at a place.
module _ (text : List ℕ) (at place : ℕ) (not_before : at ≤ place) where
  pub ends_string : (s : StringState) (b : ℕ) → s ≡ string_run plain (between at place text) → place < length text → b ≡ get_or text place 0 → string_step s b ≡ closed → StringAt text at place
  ends_string s b run inside read e =
      let k = closed_by s b e in
      record {
        not_before = not_before;
        inside = inside;
        closing = get_or_default text place 256 0 inside ∙ sym read ∙ k.1;
        chars = read_chars (between at place text) (sym run ∙ k.0);
      }

  pub is_fault : (s : StringState) → s ≡ string_run plain (between at place text) → place ≤ length text → alive s ≡ true → string_step s (byte_at text place) ≡ broken → FaultAt text at place
  is_fault s run inside h e =
      let t = between at place text in
      let b = byte_at text place in
      let breaks : string_step (string_run plain (between at place text)) (byte_at text place) ≡ broken = ap (λ x. string_step x (byte_at text place)) (sym run) ∙ e in
      let goes_on = ap alive (sym run) ∙ h in
      record {
        not_before = not_before;
        inside = inside;
        goes_on = goes_on;
        breaks = breaks;
        begins = alive_begins (between at place text) goes_on;
        ends_here = λ g. broken_open (sym (run_broken g.0) ∙ ap (λ x. string_run x g.0) (sym (run_one plain t b ∙ breaks)) ∙ sym (run_append plain (t ++ b ∷ []) g.0) ∙ ap (string_run plain) g.4 ∙ chars_close g.1 g.2 g.3);
      }

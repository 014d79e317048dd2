-- Runs of the machine: over joined texts, after a break, and over the classes of a row.
use Rattle.std.proofs.Common.{◌≡◌, ℕ, ◌<◌, ◌≤◌, true, false, cond, ◌⊎◌, List, [], ◌∷◌, ◌++◌, sym, refl, ap, ◌∙◌, inl, inr, arith}
use Rattle.std.proofs.lemmas.Bool.{cases_Bool, false≢true}
use Rattle.std.proofs.lemmas.Bool.Decides.{nat_tests}
use Rattle.json_string.specs.String.{Class, ◌–◌, holds, in_a_range, Fits, none, byte, Among, here, there}
use Rattle.json_string.specs.Machine.{StringState, plain, wanted, escape, code, code_d, closed, broken, wanting, row_step, string_step, string_run, alive}

pub run_broken : (t : List ℕ) → string_run broken t ≡ broken
unfolding string_run string_step
run_broken [] = refl
run_broken (b ∷ t) = run_broken t

pub run_append : (s : StringState) (a b : List ℕ) → string_run s (a ++ b) ≡ string_run (string_run s a) b
unfolding string_run
run_append s [] b = refl
run_append s (x ∷ a) b = run_append (string_step s x) a b

pub run_one : (s : StringState) (a : List ℕ) (b : ℕ) → string_run s (a ++ b ∷ []) ≡ string_step (string_run s a) b
unfolding string_run
run_one s a b = run_append s a (b ∷ [])

-- What is alive at the end of a run was alive at its start.
pub alive_before : (s : StringState) (t : List ℕ) → alive (string_run s t) ≡ true → alive s ≡ true
unfolding string_run string_step
alive_before plain t e = refl
alive_before (wanted cs) t e = refl
alive_before escape t e = refl
alive_before code t e = refl
alive_before code_d t e = refl
alive_before closed [] e = e
alive_before closed (b ∷ t) e = ap alive (sym (run_broken t)) ∙ e
alive_before broken t e = ap alive (sym (run_broken t)) ∙ e

pub broken_not_plain : (t : List ℕ) → string_run broken t ≡ plain → ⊥
broken_not_plain t e = false≢true (ap alive (sym (run_broken t)) ∙ ap alive e)

pub closed_not_plain : (t : List ℕ) → string_run closed t ≡ plain → ⊥
closed_not_plain t e = false≢true (alive_before closed t (ap alive e))

-- A text that fits the classes is read to the end of its char.
pub fits_run : {cs : List Class} {t : List ℕ} → Fits cs t → string_run (wanting cs) t ≡ plain
unfolding string_run string_step
fits_run (none e) = rw e
fits_run (byte {c = c} {cs = cs} b rest h f e) = rw e (ap (λ x. string_run (cond x (wanting cs) broken) rest) h ∙ fits_run f)

-- A text read to whole chars from where classes are wanted: the part that fits them, and the rest.
pub record Fitting (cs : List Class) (t : List ℕ) : Type 0 where
  pub part : List ℕ
  pub rest : List ℕ
  pub fits : Fits cs part
  pub split : t ≡ part ++ rest
  pub whole : string_run plain rest ≡ plain

-- one more byte of a class in front
pub fitting_more : {c : Class} {cs : List Class} {t : List ℕ} (b : ℕ) → holds c b ≡ true → Fitting cs t → Fitting (c ∷ cs) (b ∷ t)
fitting_more b h f = record { part = b ∷ f.part; rest = f.rest; fits = byte b f.part h f.fits refl; split = ap (λ x. b ∷ x) f.split; whole = f.whole }

pub run_fits : (cs : List Class) (t : List ℕ) → string_run (wanting cs) t ≡ plain → Fitting cs t
unfolding string_run string_step
run_fits [] t e = record { part = []; rest = t; fits = none refl; split = refl; whole = e }
run_fits (c ∷ cs) [] e = absurd (let z : ◌≡◌ {A = ℕ} 0 1 = cc in omega arith)
run_fits (c ∷ cs) (b ∷ t) e =
    elim (cases_Bool (holds c b)) [
      | inl h ↦ fitting_more b h (run_fits cs t (ap (λ x. string_run (cond x (wanting cs) broken) t) (sym h) ∙ e))
      | inr h ↦ absurd (broken_not_plain t (ap (λ x. string_run (cond x (wanting cs) broken) t) (sym h) ∙ e))
    ]

-- The same from the first byte of a table's rows.
pub run_row : (rows : List (List Class)) (b : ℕ) (t : List ℕ) → string_run (row_step rows b) t ≡ plain →
    (row : List Class) × Among row rows × Fitting row (b ∷ t)
unfolding row_step
run_row [] b t e = absurd (broken_not_plain t e)
run_row ([] ∷ rows) b t e = let r = run_row rows b t e in (r.0, there r.1, r.2)
run_row ((c ∷ cs) ∷ rows) b t e =
    elim (cases_Bool (holds c b)) [
      | inl h ↦ (c ∷ cs, here, fitting_more b h (run_fits cs t (ap (λ x. string_run (cond x (wanting cs) (row_step rows b)) t) (sym h) ∙ e)))
      | inr h ↦ let r = run_row rows b t (ap (λ x. string_run (cond x (wanting cs) (row_step rows b)) t) (sym h) ∙ e) in (r.0, there r.1, r.2)
    ]

-- The byte of a class of one range.
pub range_holds : (low high b : ℕ) → holds (low – high) b ≡ true → (low ≤ b) × (b ≤ high) × (b ≤ 255)
unfolding holds in_a_range
range_holds low high b e = grind (arith, nat_tests)

pub inside_range : (low high b : ℕ) → low ≤ b → b ≤ high → b ≤ 255 → holds (low – high) b ≡ true
unfolding holds in_a_range
inside_range low high b h k m = grind (arith, nat_tests)

pub outside_range : (low high b : ℕ) → (b < low) ⊎ (high < b) → holds (low – high) b ≡ false
unfolding holds in_a_range
outside_range low high b e = grind (arith, nat_tests)

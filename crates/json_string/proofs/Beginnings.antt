-- A text begins some string exactly if the machine is alive after it: every state that it comes to can be completed.
use Rattle.std.proofs.Common.{◌≡◌, ℕ, ◌≤◌, Bool, true, false, cond, eqb, List, [], ◌∷◌, ◌++◌, sym, refl, ap, ◌∙◌, inl, inr, arith}
use Rattle.std.proofs.lemmas.Bool.{cases_Bool, false≢true, ne_eqb, and_left, lt-leb, cond-false}
use Rattle.json_string.specs.String.{Class, holds, in_a_range, Among, here, there, unescaped_rows, Begins}
use Rattle.json_string.specs.Machine.{StringState, plain, wanted, escape, code, code_d, closed, broken, wanting, row_step, string_step, string_run, alive, hexdig, low_surrogate, digit_d, digit_0_7, digit_8_b, escape_letter}
use Rattle.json_string.proofs.Running.{run_append, alive_before, broken_not_plain}
use Rattle.json_string.proofs.Complete.{chars_read}
use Rattle.json_string.proofs.Sound.{read_chars}

-- Some bytes lead to the end of the char.
abbrev Completed : StringState → Type 0
Completed s = (rest : List ℕ) × (string_run s rest ≡ plain)

-- A state that is alive is completed.
abbrev Kept : StringState → Type 0
Kept s = alive s ≡ true → Completed s

-- One of two states, each completed if it is alive.
either : (t : Bool) (x y : StringState) → Kept x → Kept y → Kept (cond t x y)
either true x y p q = p
either false x y p q = q

done : Kept plain
unfolding string_run
done e = ([], refl)

never : Kept broken
never e = absurd (false≢true e)

ended : Kept closed
ended e = absurd (false≢true e)

-- What is left to complete after one byte more of a row.
after_first : (c : Class) (cs : List Class) (rest : List ℕ) → string_run (wanted (c ∷ cs)) rest ≡ plain → Completed (wanting cs)
unfolding string_run string_step
after_first c cs [] e = absurd (let z : ◌≡◌ {A = ℕ} 0 1 = cc in omega arith)
after_first c cs (b ∷ rest) e =
    elim (cases_Bool (holds c b)) [ inl h ↦ (rest, rw h at e) | inr h ↦ absurd (broken_not_plain rest (rw h at e)) ]

rows_kept : (rows : List (List Class)) (b : ℕ) → ((row : List Class) → Among row rows → Completed (wanted row)) → Kept (row_step rows b)
unfolding row_step
rows_kept [] b all = never
rows_kept ([] ∷ rows) b all = rows_kept rows b (λ row a. all row (there a))
rows_kept ((c ∷ cs) ∷ rows) b all =
    let k = all (c ∷ cs) here in
    either (holds c b) _ _ (λ e. after_first c cs k.0 k.1) (rows_kept rows b (λ row a. all row (there a)))

-- A character of each row of the table.
rows_completed : (row : List Class) → Among row unescaped_rows → Completed (wanted row)
unfolding string_run string_step holds in_a_range
rows_completed row here = (0x20 ∷ [], refl)
rows_completed row (there here) = (0x23 ∷ [], refl)
rows_completed row (there (there here)) = (0x5D ∷ [], refl)
rows_completed row (there (there (there here))) = (0xC2 ∷ 0x80 ∷ [], refl)
rows_completed row (there (there (there (there here)))) = (0xE0 ∷ 0xA0 ∷ 0x80 ∷ [], refl)
rows_completed row (there (there (there (there (there here))))) = (0xE1 ∷ 0x80 ∷ 0x80 ∷ [], refl)
rows_completed row (there (there (there (there (there (there here)))))) = (0xED ∷ 0x80 ∷ 0x80 ∷ [], refl)
rows_completed row (there (there (there (there (there (there (there here))))))) = (0xEE ∷ 0x80 ∷ 0x80 ∷ [], refl)
rows_completed row (there (there (there (there (there (there (there (there here)))))))) = (0xF0 ∷ 0x90 ∷ 0x80 ∷ 0x80 ∷ [], refl)
rows_completed row (there (there (there (there (there (there (there (there (there here))))))))) = (0xF1 ∷ 0x80 ∷ 0x80 ∷ 0x80 ∷ [], refl)
rows_completed row (there (there (there (there (there (there (there (there (there (there here)))))))))) = (0xF4 ∷ 0x80 ∷ 0x80 ∷ 0x80 ∷ [], refl)
rows_completed row (there (there (there (there (there (there (there (there (there (there (there a))))))))))) = elim a [ ]

-- Digits that complete an escape.
escape_kept : Kept escape
unfolding string_run string_step holds in_a_range
escape_kept e = (0x6E ∷ [], refl)

code_kept : Kept code
unfolding string_run string_step holds in_a_range
code_kept e = (0x30 ∷ 0x30 ∷ 0x30 ∷ 0x30 ∷ [], refl)

code_d_kept : Kept code_d
unfolding string_run string_step holds in_a_range
code_d_kept e = (0x30 ∷ 0x30 ∷ 0x30 ∷ [], refl)

three_kept : Kept (wanting (hexdig ∷ hexdig ∷ hexdig ∷ []))
unfolding string_run string_step holds in_a_range
three_kept e = (0x30 ∷ 0x30 ∷ 0x30 ∷ [], refl)

two_kept : Kept (wanting (hexdig ∷ hexdig ∷ []))
unfolding string_run string_step holds in_a_range
two_kept e = (0x30 ∷ 0x30 ∷ [], refl)

high_kept : Kept (wanting (hexdig ∷ hexdig ∷ low_surrogate))
unfolding string_run string_step holds in_a_range
high_kept e = (0x30 ∷ 0x30 ∷ 0x5C ∷ 0x75 ∷ 0x44 ∷ 0x43 ∷ 0x30 ∷ 0x30 ∷ [], refl)

step_kept : (s : StringState) (b : ℕ) → Completed s → Kept (string_step s b)
unfolding string_step
step_kept plain b k = either (eqb b 0x22) _ _ ended (either (eqb b 0x5C) _ _ escape_kept (rows_kept unescaped_rows b rows_completed))
step_kept (wanted []) b k = never
step_kept (wanted (c ∷ cs)) b k = either (holds c b) _ _ (λ e. after_first c cs k.0 k.1) never
step_kept escape b k = either (eqb b 0x75) _ _ code_kept (either (holds escape_letter b) _ _ done never)
step_kept code b k = either (holds digit_d b) _ _ code_d_kept (either (holds hexdig b) _ _ three_kept never)
step_kept code_d b k = either (holds digit_0_7 b) _ _ two_kept (either (holds digit_8_b b) _ _ high_kept never)
step_kept closed b k = never
step_kept broken b k = never

run_kept : (s : StringState) (t : List ℕ) → Completed s → Kept (string_run s t)
unfolding string_run
run_kept s [] k e = k
run_kept s (b ∷ t) k e = run_kept (string_step s b) t (step_kept s b k (alive_before (string_step s b) t e)) e

pub alive_begins : (t : List ℕ) → alive (string_run plain t) ≡ true → Begins t
unfolding string_run
alive_begins t e =
    let k = run_kept plain t ([], refl) e in
    let c = read_chars (t ++ k.0) (run_append plain t k.0 ∙ k.1) in
    (k.0, c.0, c.1)

pub begins_alive : (t : List ℕ) → Begins t → alive (string_run plain t) ≡ true
begins_alive t g = alive_before (string_run plain t) g.0 (ap alive (sym (run_append plain t g.0) ∙ chars_read (t ++ g.0) g.1 g.2))

-- A number over 255 is in no class, so it breaks at any time.
no_byte_holds : (c : Class) (b : ℕ) → 256 ≤ b → holds c b ≡ false
unfolding holds
no_byte_holds c b h = and_left _ _ (lt-leb b 255 h)

no_byte_row : (rows : List (List Class)) (b : ℕ) → 256 ≤ b → row_step rows b ≡ broken
unfolding row_step
no_byte_row [] b h = refl
no_byte_row ([] ∷ rows) b h = no_byte_row rows b h
no_byte_row ((c ∷ cs) ∷ rows) b h = cond-false _ _ _ (no_byte_holds c b h) ∙ no_byte_row rows b h

pub no_byte_breaks : (s : StringState) (b : ℕ) → 256 ≤ b → string_step s b ≡ broken
unfolding string_step
no_byte_breaks plain b h = cond-false _ _ _ (ne_eqb b 0x22 (omega arith)) ∙ cond-false _ _ _ (ne_eqb b 0x5C (omega arith)) ∙ no_byte_row unescaped_rows b h
no_byte_breaks (wanted []) b h = refl
no_byte_breaks (wanted (c ∷ cs)) b h = cond-false _ _ _ (no_byte_holds c b h)
no_byte_breaks escape b h = cond-false _ _ _ (ne_eqb b 0x75 (omega arith)) ∙ cond-false _ _ _ (no_byte_holds escape_letter b h)
no_byte_breaks code b h = cond-false _ _ _ (no_byte_holds digit_d b h) ∙ cond-false _ _ _ (no_byte_holds hexdig b h)
no_byte_breaks code_d b h = cond-false _ _ _ (no_byte_holds digit_0_7 b h) ∙ cond-false _ _ _ (no_byte_holds digit_8_b b h)
no_byte_breaks closed b h = refl
no_byte_breaks broken b h = refl

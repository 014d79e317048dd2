-- The laws of reading: the verdict is right, and a text builds its value.
use Rattle.std.proofs.Common.{◌≡◌, ℕ, ◌<◌, ◌≤◌, cond, List, [], length, sym, ap, ◌∙◌, subst, inl, inr, ⊎_elim, arith, Ok, Err, Result, MatchResult}
use Rattle.std.specs.Prelude.{IfOk, IfErr, OnOk}
use Rattle.json_string.specs.declared.reading.Fault.{Fault}
use Rattle.json_text.specs.Standing.{ValueAt}
use Rattle.std.proofs.lemmas.Bool.{cases_lt, cases_order, lt-ltb, le-ltb}
use Rattle.json_text.specs.Json.{Json, Text, LongestBeginning}
use Rattle.json_text.proofs.OneValue.{text_built}
use Rattle.json_text.specs.Machine.{want}
use Rattle.json_text.specs.Fold as fold
use Rattle.json_text.specs.Fold.{built}
use Rattle.json_text.specs.Value.{Verdict, whole, stopped_at, verdict, value, fault, value_in, told, reading}
use Rattle.json_text.specs.Laws.{IsValue, HasFault}
use Rattle.json_text.proofs.Deciding.{Right, is_text, breaks, right}
use Rattle.json_text.specs.declared.texts.TheConstants.{DEPTH, TEXT_SIZE}

value_at : (v w : Json) → value v ≡ value w → v ≡ w
value_at v w q = cc

fault_at : (p q : ℕ) → fault p ≡ fault q → p ≡ q
fault_at p q h = cc

value_no_fault : (v : Json) (p : ℕ) → value v ≡ fault p → ⊥
value_no_fault v p h = let z : ◌≡◌ {A = ℕ} 0 1 = cc in omega arith

-- one longest beginning
pub one_beginning : (t : List ℕ) (p q : ℕ) → LongestBeginning DEPTH t p → LongestBeginning DEPTH t q → p ≡ q
one_beginning t p q a b =
    ⊎_elim (λ h. h) (λ h. ⊎_elim (λ l. absurd (a.longest q l b.inside b.begins)) (λ l. absurd (b.longest p l a.inside a.begins)) h) (cases_order p q)

broken_at : {t : List ℕ} {p : ℕ} → Right t (stopped_at p) → LongestBeginning DEPTH t p
broken_at (breaks d) = d

text_of : {t : List ℕ} → Right t whole → (v : Json) × Text DEPTH t v
text_of (is_text v d) = (v, d)

text_told : (t : List ℕ) (v : Json) → Text DEPTH t v → (b : Verdict) → Right t b → told b t ≡ value v
text_told t v d whole r = ap (λ z. value (value_in z)) (text_built t v d)
text_told t v d (stopped_at p) r = absurd ((broken_at r).no_text v d)

fault_told : (t : List ℕ) (p : ℕ) → LongestBeginning DEPTH t p → (b : Verdict) → Right t b → told b t ≡ fault p
fault_told t p d whole r = let w = text_of r in absurd (d.no_text w.0 w.1)
fault_told t p d (stopped_at q) r = ap fault (one_beginning t q p (broken_at r) d)

told_text : (t : List ℕ) (v : Json) (b : Verdict) → Right t b → told b t ≡ value v → Text DEPTH t v
told_text t v whole r h = let w = text_of r in subst (Text DEPTH t) (value_at w.0 v (ap (λ z. value (value_in z)) (sym (text_built t w.0 w.1)) ∙ h)) w.1
told_text t v (stopped_at p) r h = absurd (value_no_fault v p (sym h))

told_fault : (t : List ℕ) (p : ℕ) (b : Verdict) → Right t b → told b t ≡ fault p → LongestBeginning DEPTH t p
told_fault t p whole r h = absurd (value_no_fault (value_in (built (fold.next []) t)) p h)
told_fault t p (stopped_at q) r h = subst (LongestBeginning DEPTH t) (fault_at q p h) (broken_at r)

-- within the limit, and past it
within : (t : List ℕ) → length t ≤ TEXT_SIZE → reading t ≡ told (verdict (want []) 0 t) t
unfolding reading
within t l = ap (λ b. cond b (fault TEXT_SIZE) (told (verdict (want []) 0 t) t)) (le-ltb TEXT_SIZE (length t) l)

past_limit : (t : List ℕ) → TEXT_SIZE < length t → reading t ≡ fault TEXT_SIZE
unfolding reading
past_limit t l = ap (λ b. cond b (fault TEXT_SIZE) (told (verdict (want []) 0 t) t)) (lt-ltb TEXT_SIZE (length t) l)

pub value_is_read : (t : List ℕ) (v : Json) → IsValue TEXT_SIZE DEPTH t v → reading t ≡ value v
value_is_read t v p = within t p.0 ∙ text_told t v p.1 (verdict (want []) 0 t) (right t)

pub fault_is_read : (t : List ℕ) (p : ℕ) → HasFault TEXT_SIZE DEPTH t p → reading t ≡ fault p
fault_is_read t p (inl h) = past_limit t h.0 ∙ ap fault (sym h.1)
fault_is_read t p (inr h) = within t h.0 ∙ fault_told t p h.1 (verdict (want []) 0 t) (right t)

pub read_is_value : (t : List ℕ) (v : Json) → reading t ≡ value v → IsValue TEXT_SIZE DEPTH t v
read_is_value t v h =
    ⊎_elim
    (λ l. absurd (value_no_fault v TEXT_SIZE (sym h ∙ past_limit t l)))
    (λ l. (l, told_text t v (verdict (want []) 0 t) (right t) (sym (within t l) ∙ h)))
    (cases_lt TEXT_SIZE (length t))

pub read_is_fault : (t : List ℕ) (p : ℕ) → reading t ≡ fault p → HasFault TEXT_SIZE DEPTH t p
read_is_fault t p h =
    ⊎_elim
    (λ l. inl (l, fault_at p TEXT_SIZE (sym h ∙ past_limit t l)))
    (λ l. inr (l, told_fault t p (verdict (want []) 0 t) (right t) (sym (within t l) ∙ h)))
    (cases_lt TEXT_SIZE (length t))

-- what the reader of texts tells
pub as_read : (t : List ℕ) (r : Result ℕ Fault) → IfOk r (λ at. (v : Json) × (end : ℕ) × Text DEPTH t v × ValueAt t at end v) → OnOk r (length t ≤ TEXT_SIZE) →
    (TEXT_SIZE < length t → MatchResult r (λ _. ⊥) (λ f. f.place ≡ TEXT_SIZE)) → (length t ≤ TEXT_SIZE → IfErr r (λ f. LongestBeginning DEPTH t f.place)) →
    MatchResult r (λ at. (v : Json) × (end : ℕ) × (reading t ≡ value v) × ValueAt t at end v) (λ f. reading t ≡ fault f.place)
as_read t (Ok at) a l f g = (a.0, a.1, value_is_read t a.0 (l, a.2), a.3)
as_read t (Err e) a l f g = ⊎_elim (λ h. fault_is_read t e.place (inl (h, f h))) (λ h. fault_is_read t e.place (inr (h, g h))) (cases_lt TEXT_SIZE (length t))

-- What the result of `join` tells of the bytes in the buffer.
use Rattle.std.proofs.Common.{◌≡◌, ℕ, List, ◌++◌, length, take, drop, Some, None, Ok, Err, Option, Result, sym, ap, ◌∙◌, subst, arith}
use Rattle.std.proofs.lemmas.List.{length-append, take-append-le}
use Rattle.path.specs.Path.{Outcome, names, nothing}
use Rattle.list.specs.declared.List as lent
use Rattle.list.specs.Held.{held}
use Rattle.list.proofs.Held.{held_none}
use Rattle.path.specs.Report.{Reports, OfPath, KeptFrom}
use Rattle.path.specs.declared.joining.TooLong.{TooLong}

-- what the front of a buffer tells, the whole tells
pub reports_front : (r : Result (Option ℕ) TooLong) (xs ys : List ℕ) (o : Outcome) → Reports r xs o → Reports r (xs ++ ys) o
reports_front (Ok (Some n)) xs ys o h = (omega (arith, length-append xs ys), h.1 ∙ ap names (sym (take-append-le n xs ys h.0)))
reports_front (Ok None) xs ys o h = h
reports_front (Err _) xs ys o h = h

pub reports_same : (r : Result (Option ℕ) TooLong) (bytes : List ℕ) (o q : Outcome) → o ≡ q → Reports r bytes o → Reports r bytes q
reports_same r bytes o q e h = subst (λ (x : Outcome). Reports r bytes x) e h

-- what holds of each path that is named holds of the one in the buffer
pub reports_path : (r : Result (Option ℕ) TooLong) (bytes : List ℕ) (o : Outcome) (P : List ℕ → Type 0) → Reports r bytes o →
    ((p : List ℕ) → o ≡ names p → P p) → OfPath r bytes P
reports_path (Ok (Some n)) bytes o P h k = k (take n bytes) h.1
reports_path (Ok None) bytes o P h k = tt
reports_path (Err _) bytes o P h k = tt

-- where something is named or too long, the result is not `Ok(None)`
pub reports_nothing : (r : Result (Option ℕ) TooLong) (bytes : List ℕ) (o : Outcome) → (o ≡ nothing → ⊥) → Reports r bytes o → r ≡ Ok None → ⊥
reports_nothing r bytes o some h e = some (subst (λ (q : Result (Option ℕ) TooLong). Reports q bytes o) e h)

-- what a list over the buffer tells, and keeps, the buffer does
pub told_of : (items : List ℕ) (n : ℕ) (o : Outcome) {buffer : List ℕ} → buffer ≡ items → Reports (Ok (Some n)) items o → Reports (Ok (Some n)) buffer o
told_of items n o e h = (omega (arith, ap length e, h.0), h.1 ∙ ap (λ xs. names (take n xs)) (sym e))

pub kept_of : (items : List ℕ) (k : ℕ) (before : List ℕ) {buffer : List ℕ} → buffer ≡ items → KeptFrom k before items → KeptFrom k before buffer
kept_of items k before e h = ap (drop k) e ∙ h

-- a list holds what was put into it first
pub begun : (l l' : lent.List ℕ) (xs : List ℕ) → l.len ≡ 0 → held l' ≡ held l ++ xs → held l' ≡ xs
begun l l' xs none e = e ∙ ap (λ ys. ys ++ xs) (held_none l none)

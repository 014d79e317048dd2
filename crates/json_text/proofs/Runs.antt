-- Runs of the machine over what is left of a text.
use Rattle.std.proofs.Common.{◌≡◌, ℕ, ◌+◌, ◌-◌, ◌<◌, ◌≤◌, Bool, true, List, [], ◌∷◌, ◌++◌, length, get_or, take, drop, sym, refl, ap, ◌∙◌, ⊎_elim, arith, take-add}
use Rattle.std.specs.List.{between}
use Rattle.std.proofs.lemmas.List.{append_assoc, drop_more, drop_all, drop-drop, get_or_past, take-append-drop}
use Rattle.std.proofs.lemmas.List.Edits.{between_none, between_more}
use Rattle.std.proofs.lemmas.Bool.{and_parts, and_from, cases_lt}
use Rattle.json_text.specs.Json.{all}
use Rattle.json_text.specs.Machine.{State, dead, to, step, stopped, onward, run, left, from}

-- two parts of a text, one behind the other
pub between_join : (t : List ℕ) (a b c : ℕ) → a ≤ b → b ≤ c → between a c t ≡ between a b t ++ between b c t
between_join t a b c l m =
    let n : c - a ≡ (b - a) + (c - b) = omega arith in
    let k : a + (b - a) ≡ b = omega arith in
    ap (λ i. take i (drop a t)) n ∙ take-add (b - a) (c - b) (drop a t)
    ∙ ap (λ zs. take (b - a) (drop a t) ++ take (c - b) zs) (drop-drop (b - a) a t ∙ ap (λ i. drop i t) k)

pub between_one : (t : List ℕ) (i : ℕ) → i < length t → between i (i + 1) t ≡ get_or t i 256 ∷ []
between_one t i l = between_more t i i 256 (omega arith) l ∙ ap (λ zs. zs ++ get_or t i 256 ∷ []) (between_none t i)

-- a part of a text, and what is left behind it
pub left_split : (t : List ℕ) (a b : ℕ) → a ≤ b → left a t ≡ between a b t ++ left b t
left_split t a b l =
    let k : a + (b - a) ≡ b = omega arith in
    ap (λ zs. zs ++ 256 ∷ []) (sym (take-append-drop (b - a) (drop a t)) ∙ ap (λ zs. take (b - a) (drop a t) ++ zs) (drop-drop (b - a) a t ∙ ap (λ i. drop i t) k))
    ∙ append_assoc (between a b t) (drop b t) (256 ∷ [])

pub left_more : (t : List ℕ) (i : ℕ) → i < length t → left i t ≡ get_or t i 256 ∷ left (i + 1) t
left_more t i l = ap (λ zs. zs ++ 256 ∷ []) (drop_more t i 256 l)

pub left_end : (t : List ℕ) (i : ℕ) → length t ≤ i → left i t ≡ 256 ∷ []
left_end t i l = ap (λ zs. zs ++ 256 ∷ []) (drop_all i t l)

-- the first symbol of what is left
pub left_first : (t : List ℕ) (i : ℕ) → (zs : List ℕ) × (left i t ≡ get_or t i 256 ∷ zs)
left_first t i =
    ⊎_elim
    (λ l. (left (i + 1) t, left_more t i l))
    (λ l. ([], left_end t i l ∙ ap (λ x. x ∷ []) (sym (get_or_past t i 256 l))))
    (cases_lt i (length t))

-- one symbol
pub run_to : (s s' : State) (x : ℕ) (xs : List ℕ) → step s x ≡ to s' → run s (x ∷ xs) ≡ run s' xs
unfolding run
run_to s s' x xs h = ap (λ n. onward n (x ∷ xs) (λ q. run q xs)) h

pub run_dead : (s : State) (x : ℕ) (xs : List ℕ) → step s x ≡ dead → run s (x ∷ xs) ≡ stopped (x ∷ xs)
unfolding run
run_dead s x xs h = ap (λ n. onward n (x ∷ xs) (λ q. run q xs)) h

pub run_same : (s s' : State) (x : ℕ) (xs : List ℕ) → step s x ≡ step s' x → run s (x ∷ xs) ≡ run s' (x ∷ xs)
unfolding run
run_same s s' x xs h = ap (λ n. onward n (x ∷ xs) (λ q. run q xs)) h

pub from_to : (s s' : State) (i : ℕ) (t : List ℕ) → i < length t → step s (get_or t i 256) ≡ to s' → from s i t ≡ from s' (i + 1) t
unfolding from
from_to s s' i t l h = ap (run s) (left_more t i l) ∙ run_to s s' (get_or t i 256) (left (i + 1) t) h

pub from_dead : (s : State) (i : ℕ) (t : List ℕ) → step s (get_or t i 256) ≡ dead → from s i t ≡ stopped (left i t)
unfolding from
from_dead s i t h =
    let f = left_first t i in
    ap (run s) f.1 ∙ run_dead s (get_or t i 256) f.0 h ∙ ap stopped (sym f.1)

pub from_same : (s s' : State) (i : ℕ) (t : List ℕ) → step s (get_or t i 256) ≡ step s' (get_or t i 256) → from s i t ≡ from s' i t
unfolding from
from_same s s' i t h =
    let f = left_first t i in
    ap (run s) f.1 ∙ run_same s s' (get_or t i 256) f.0 h ∙ ap (run s') (sym f.1)

pub from_split : (s : State) (a b : ℕ) (t : List ℕ) → a ≤ b → from s a t ≡ run s (between a b t ++ left b t)
unfolding from
from_split s a b t l = ap (run s) (left_split t a b l)

-- a run over a part that leads from one state to another, whatever follows
pub from_over : (s s' : State) (a b : ℕ) (t : List ℕ) → a ≤ b → ((ys : List ℕ) → run s (between a b t ++ ys) ≡ run s' ys) → from s a t ≡ from s' b t
unfolding from
from_over s s' a b t l h = from_split s a b t l ∙ h (left b t)

-- a run over bytes that all leave the state as it is
pub run_all : (test : ℕ → Bool) (s : State) → ((x : ℕ) → test x ≡ true → step s x ≡ to s) → (xs ys : List ℕ) → all test xs ≡ true → run s (xs ++ ys) ≡ run s ys
unfolding all
run_all test s h [] ys a = refl
run_all test s h (x ∷ xs) ys a =
    let p = and_parts (test x) (all test xs) a in
    run_to s s x (xs ++ ys) (h x p.0) ∙ run_all test s h xs ys p.1

pub all_none : (test : ℕ → Bool) → all test [] ≡ true
unfolding all
all_none test = refl

pub all_more : (test : ℕ → Bool) (x : ℕ) (xs : List ℕ) → test x ≡ true → all test xs ≡ true → all test (x ∷ xs) ≡ true
unfolding all
all_more test x xs h k = and_from (test x) (all test xs) h k

-- Where the machine stops, no JSON text goes on: the place of a fault is the length of the longest beginning.
use Rattle.std.proofs.Common.{◌≡◌, ℕ, ◌+◌, ◌-◌, ◌<◌, ◌≤◌, false, eqb, List, [], ◌∷◌, ◌++◌, length, get_or, take, drop, sym, refl, ap, ◌∙◌, subst, arith}
use Rattle.std.proofs.lemmas.List.{append-nil, append_assoc, take-append-drop, length-append, length-drop}
use Rattle.json_text.specs.Json.{is_ws, Ws, Json, Text, LongestBeginning}
use Rattle.json_text.specs.Machine.{Stack, count, State, Next, dead, to, step, ended, stopped, onward, run, left, from, want, have, done}
use Rattle.json_text.specs.Reading.{Reads, Stops, Room, AnyValue, Spaced}
use Rattle.json_text.specs.Standing.{Space}
use Rattle.json_text.proofs.StepLaws as law
use Rattle.json_text.proofs.Steps.{reads_then, stops_then, reads_on, stops_on, reads_all, stops_here}
use Rattle.json_text.proofs.Accepts.{text_runs}
use Rattle.json_text.specs.declared.texts.TheConstants.{DEPTH}

pub stopped_at : (a b : List ℕ) → stopped a ≡ stopped b → a ≡ b
stopped_at a b e = cc

pub stopped_not_ended : (a : List ℕ) (s : State) → stopped a ≡ ended s → ⊥
stopped_not_ended a s e = let z : ◌≡◌ {A = ℕ} 0 1 = cc in omega arith

-- what is left where the machine stops is no longer than the text
left_within : (s : State) (ys zs : List ℕ) → run s ys ≡ stopped zs → length zs ≤ length ys
unfolding run
left_within s [] zs h = absurd (stopped_not_ended zs s (sym h))
left_within s (x ∷ xs) zs h = go (step s x) h (λ q k. left_within q xs zs k)
  where
    go : (n : Next) → onward n (x ∷ xs) (λ q. run q xs) ≡ stopped zs → ((q : State) → run q xs ≡ stopped zs → length zs ≤ length xs) → length zs ≤ length (x ∷ xs)
    go dead k f = omega (arith, ap length (stopped_at (x ∷ xs) zs k))
    go (to q) k f = omega (arith, f q k)

-- a stop within the first part of a text is a stop whatever follows that part
pub stop_stays : (s : State) (xs ys us zs : List ℕ) (q : State) → run s (xs ++ ys) ≡ stopped zs → length ys < length zs → run s (xs ++ us) ≡ ended q → ⊥
unfolding run
stop_stays s [] ys us zs q h l k = omega (arith, left_within s ys zs h)
stop_stays s (x ∷ xs) ys us zs q h l k = go (step s x) h k (λ p a b. stop_stays p xs ys us zs q a l b)
  where
    go : (n : Next) → onward n (x ∷ (xs ++ ys)) (λ p. run p (xs ++ ys)) ≡ stopped zs → onward n (x ∷ (xs ++ us)) (λ p. run p (xs ++ us)) ≡ ended q →
        ((p : State) → run p (xs ++ ys) ≡ stopped zs → run p (xs ++ us) ≡ ended q → ⊥) → ⊥
    go dead a b f = stopped_not_ended (x ∷ (xs ++ us)) q b
    go (to p) a b f = f p a b

-- a text of the grammar, with some value
abbrev pub AnyText : List ℕ → Type 0
AnyText t = (v : Json) × Text DEPTH t v

from_start : (s : State) (t : List ℕ) → from s 0 t ≡ run s (t ++ 256 ∷ [])
unfolding from
from_start s t = refl

pub length_left : (t : List ℕ) (i : ℕ) → length (left i t) ≡ (length t - i) + 1
length_left t i = length-append (drop i t) (256 ∷ []) ∙ ap (λ n. n + 1) (length-drop i t)

-- no bracket is open
abbrev Bottom : Stack → Type 0
Bottom σ = σ ≡ []

bottom_room : (σ : Stack) → Bottom σ → Room DEPTH σ
bottom_room σ e = ap (λ τ. count τ + DEPTH) e

-- no text goes on where the machine stops
pub longest_beginning : (t : List ℕ) (p : ℕ) → Stops AnyText want Bottom t 0 p → LongestBeginning DEPTH t p
longest_beginning t p s =
    let h : run (want []) (t ++ 256 ∷ []) ≡ stopped (left p t) = sym (from_start (want []) t) ∙ s.stops [] refl in
    record {
      inside = s.inside;
      begins = (s.begins.0, s.begins.1.0, subst (λ i. Text DEPTH (take i t ++ s.begins.0) s.begins.1.0) (omega arith) s.begins.1.1);
      longest = λ q l m b.
          stop_stays (want []) (take q t) (left q t) (b.0 ++ 256 ∷ []) (left p t) done
          (ap (run (want [])) (sym (append_assoc (take q t) (drop q t) (256 ∷ [])) ∙ ap (λ zs. zs ++ 256 ∷ []) (take-append-drop q t)) ∙ h)
          (omega (arith, length_left t q, length_left t p))
          (ap (run (want [])) (sym (append_assoc (take q t) b.0 (256 ∷ []))) ∙ text_runs (take q t ++ b.0) b.1 b.2);
      no_text = λ v d. stopped_not_ended (left p t) done (sym h ∙ text_runs t v d);
    }

-- a text: white space, a value and white space
text_by : (x y : List ℕ) → Ws x → Spaced (AnyValue DEPTH) y → AnyText (x ++ y)
text_by x y w s = (
  s.is_inner.0,
  record {
    before = x;
    inner = s.inner;
    after = s.space;
    before_ws = w;
    is_value = s.is_inner.1;
    after_ws = s.is_space;
    split = ap (λ zs. x ++ zs) s.split;
  },
)

module _ (t : List ℕ) (a : ℕ) (w : Space t 0 a) where
  leading : Reads Ws want want Bottom t 0 a
  leading = reads_all is_ws {s = want} {Fit = Bottom} t 0 a w.not_before w.inside w.pass law.want_ws

  up_to : (b : ℕ) → Reads (Spaced (AnyValue DEPTH)) want have (Room DEPTH) t a b → Reads AnyText want have Bottom t 0 b
  up_to b p = reads_then Ws (Spaced (AnyValue DEPTH)) AnyText text_by leading (reads_on (λ σ. σ) bottom_room p)

  pub value_breaks_off : (p : ℕ) → Stops (Spaced (AnyValue DEPTH)) want (Room DEPTH) t a p → LongestBeginning DEPTH t p
  value_breaks_off p s =
      longest_beginning t p
      (stops_then Ws (Spaced (AnyValue DEPTH)) AnyText
      (λ x y v q. ([], subst AnyText (ap (λ zs. x ++ zs) (sym (append-nil y))) (text_by x y v q))) leading (stops_on (λ σ. σ) bottom_room s))

  pub more_behind : (b : ℕ) → Reads (Spaced (AnyValue DEPTH)) want have (Room DEPTH) t a b → is_ws (get_or t b 256) ≡ false → eqb (get_or t b 256) 256 ≡ false → LongestBeginning DEPTH t b
  more_behind b p h k =
      longest_beginning t b
      (stops_then AnyText (λ x. x ≡ []) AnyText
      (λ x y v q. ([], subst AnyText (sym (ap (λ zs. x ++ (zs ++ [])) q ∙ append-nil x)) v)) (up_to b p)
      (stops_here (λ x. x ≡ []) {s = have} {Fit = Bottom} t b p.inside [] refl
      (λ σ r. ap (λ τ. step (have τ) (get_or t b 256)) r ∙ law.text_dead (get_or t b 256) h k)))

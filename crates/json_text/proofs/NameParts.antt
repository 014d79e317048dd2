-- Readings of a literal name, byte by byte.
use Rattle.std.proofs.Common.{◌≡◌, ℕ, ◌+◌, ◌<◌, true, false, eqb, List, [], ◌∷◌, ◌++◌, length, get_or, take, drop, sym, refl, ap, ◌∙◌}
use Rattle.std.proofs.lemmas.List.{append-nil, drop_more, take_more, take-append-drop}
use Rattle.std.proofs.lemmas.Bool.{eqb-true, eq-eqb}
use Rattle.json_text.specs.Machine.{Stack, dead, to, step, run, have, name_rest}
use Rattle.json_text.specs.Reading.{Reads, Stops, Any}
use Rattle.json_text.proofs.Runs.{run_to}
use Rattle.json_text.proofs.Steps.{reads_then, stops_then, reads_byte, stops_here}

name_byte : (b : ℕ) (bs : List ℕ) (σ : Stack) (x : ℕ) → eqb x b ≡ true → step (name_rest (b ∷ bs) σ) x ≡ to (name_rest bs σ)
unfolding step
name_byte b bs σ x h = rw h

name_dead : (b : ℕ) (bs : List ℕ) (σ : Stack) (x : ℕ) → eqb x b ≡ false → step (name_rest (b ∷ bs) σ) x ≡ dead
unfolding step
name_dead b bs σ x h = rw h

abbrev SoFar : List ℕ → List ℕ → ℕ → ℕ → ℕ → Type 0
SoFar t rest i at end = Reads (λ a. a ≡ take i rest) (name_rest rest) (name_rest (drop i rest)) Any t at end

pub name_more : (t rest : List ℕ) (i at end : ℕ) → i < length rest → SoFar t rest i at end → end < length t → eqb (get_or t end 256) (get_or rest i 0) ≡ true → SoFar t rest (i + 1) at (end + 1)
name_more t rest i at end l p m h =
    reads_then (λ a. a ≡ take i rest) (λ a. a ≡ get_or rest i 0 ∷ []) (λ a. a ≡ take (i + 1) rest)
    (λ x y e f. ap (λ zs. zs ++ y) e ∙ ap (λ zs. take i rest ++ zs) f ∙ sym (take_more rest i 0 l)) p
    (reads_byte (get_or rest i 0) {s = name_rest (drop i rest)} {s' = name_rest (drop (i + 1) rest)} {Fit = Any} t end m (eqb-true _ _ h)
    (λ σ _. ap (λ zs. step (name_rest zs σ) (get_or rest i 0)) (drop_more rest i 0 l) ∙ name_byte (get_or rest i 0) (drop (i + 1) rest) σ (get_or rest i 0) (eq-eqb _ _ refl)))

pub name_stops : (t rest : List ℕ) (i at end : ℕ) → i < length rest → SoFar t rest i at end → eqb (get_or t end 256) (get_or rest i 0) ≡ false → Stops (λ a. a ≡ rest) (name_rest rest) Any t at end
name_stops t rest i at end l p h =
    stops_then (λ a. a ≡ take i rest) (λ a. a ≡ drop i rest) (λ a. a ≡ rest)
    (λ x y e f. ([], ap (λ zs. x ++ zs) (append-nil y) ∙ ap (λ zs. zs ++ y) e ∙ ap (λ zs. take i rest ++ zs) f ∙ take-append-drop i rest)) p
    (stops_here (λ a. a ≡ drop i rest) {s = name_rest (drop i rest)} {Fit = Any} t end p.inside (drop i rest) refl
    (λ σ _. ap (λ zs. step (name_rest zs σ) (get_or t end 256)) (drop_more rest i 0 l) ∙ name_dead (get_or rest i 0) (drop (i + 1) rest) σ (get_or t end 256) h))

-- the machine goes over the rest of a name, whatever follows
pub name_run : (rest : List ℕ) (σ : Stack) (ys : List ℕ) → run (name_rest rest σ) (rest ++ ys) ≡ run (have σ) ys
name_run [] σ ys = refl
name_run (b ∷ bs) σ ys = run_to (name_rest (b ∷ bs) σ) (name_rest bs σ) b (bs ++ ys) (name_byte b bs σ b (eq-eqb b b refl)) ∙ name_run bs σ ys

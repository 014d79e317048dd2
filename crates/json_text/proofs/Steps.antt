-- How readings are put together: one behind the other, a symbol, a stop.
use Rattle.std.proofs.Common.{◌≡◌, ℕ, ◌+◌, ◌<◌, ◌≤◌, Bool, true, List, [], ◌∷◌, ◌++◌, length, get_or, sym, ap, ◌∙◌, subst, arith}
use Rattle.std.specs.List.{between}
use Rattle.std.proofs.lemmas.List.{append_assoc}
use Rattle.std.proofs.lemmas.List.Edits.{between_none}
use Rattle.json_text.specs.Json.{all}
use Rattle.json_text.specs.Machine.{Stack, State, dead, to, step, run}
use Rattle.json_text.specs.Reading.{Reads, Stops}
use Rattle.json_text.proofs.Runs.{between_join, between_one, from_to, from_dead, from_same, from_over, run_all}

-- one reading behind another
pub reads_then : (R₁ R₂ R : List ℕ → Type 0) {s₁ s₂ s₃ : Stack → State} {Fit : Stack → Type 0} {t : List ℕ} {a b c : ℕ} →
    ((x y : List ℕ) → R₁ x → R₂ y → R (x ++ y)) →
    Reads R₁ s₁ s₂ Fit t a b → Reads R₂ s₂ s₃ Fit t b c → Reads R s₁ s₃ Fit t a c
reads_then R₁ R₂ R {t = t} {a = a} {b = b} {c = c} f p q = record {
  not_before = omega (arith, p.not_before, q.not_before);
  inside = q.inside;
  rule = subst R (sym (between_join t a b c p.not_before q.not_before)) (f (between a b t) (between b c t) p.rule q.rule);
  runs = λ σ h. p.runs σ h ∙ q.runs σ h;
}

-- a stop behind a reading
pub stops_then : (R₁ R₂ R : List ℕ → Type 0) {s₁ s₂ : Stack → State} {Fit : Stack → Type 0} {t : List ℕ} {a b c : ℕ} →
    ((x y : List ℕ) → R₁ x → R₂ y → (rest : List ℕ) × R (x ++ (y ++ rest))) →
    Reads R₁ s₁ s₂ Fit t a b → Stops R₂ s₂ Fit t b c → Stops R s₁ Fit t a c
stops_then R₁ R₂ R {t = t} {a = a} {b = b} {c = c} f p q =
    let g = f (between a b t) (between b c t ++ q.begins.0) p.rule q.begins.1 in
    record {
      not_before = omega (arith, p.not_before, q.not_before);
      inside = q.inside;
      begins = (
        q.begins.0 ++ g.0,
        subst R
            (ap (λ zs. between a b t ++ zs) (append_assoc (between b c t) q.begins.0 g.0)
            ∙ sym (append_assoc (between a b t) (between b c t) (q.begins.0 ++ g.0))
            ∙ ap (λ zs. zs ++ (q.begins.0 ++ g.0)) (sym (between_join t a b c p.not_before q.not_before)))
            g.1,
      );
      stops = λ σ h. p.runs σ h ∙ q.stops σ h;
    }

-- a stop in a part, where the part can be completed
pub stops_in : (R₁ R : List ℕ → Type 0) {s : Stack → State} {Fit : Stack → Type 0} {t : List ℕ} {a b : ℕ} →
    ((x : List ℕ) → R₁ x → (rest : List ℕ) × R (x ++ rest)) → Stops R₁ s Fit t a b → Stops R s Fit t a b
stops_in R₁ R {t = t} {a = a} {b = b} f q =
    let g = f (between a b t ++ q.begins.0) q.begins.1 in
    record {
      not_before = q.not_before;
      inside = q.inside;
      begins = (q.begins.0 ++ g.0, subst R (append_assoc (between a b t) q.begins.0 g.0) g.1);
      stops = q.stops;
    }

-- the same reading by a rule that holds of more
pub reads_as : (R₁ R : List ℕ → Type 0) {s s' : Stack → State} {Fit : Stack → Type 0} {t : List ℕ} {a b : ℕ} →
    ((x : List ℕ) → R₁ x → R x) → Reads R₁ s s' Fit t a b → Reads R s s' Fit t a b
reads_as R₁ R {t = t} {a = a} {b = b} f p = record { not_before = p.not_before; inside = p.inside; rule = f (between a b t) p.rule; runs = p.runs }

-- a reading for a deeper stack, or for fewer stacks
pub reads_on : {R : List ℕ → Type 0} {s s' : Stack → State} {Fit Fit' : Stack → Type 0} {t : List ℕ} {a b : ℕ} (g : Stack → Stack) →
    ((σ : Stack) → Fit' σ → Fit (g σ)) → Reads R s s' Fit t a b → Reads R (λ σ. s (g σ)) (λ σ. s' (g σ)) Fit' t a b
reads_on g f p = record { not_before = p.not_before; inside = p.inside; rule = p.rule; runs = λ σ h. p.runs (g σ) (f σ h) }

pub stops_on : {R : List ℕ → Type 0} {s : Stack → State} {Fit Fit' : Stack → Type 0} {t : List ℕ} {a b : ℕ} (g : Stack → Stack) →
    ((σ : Stack) → Fit' σ → Fit (g σ)) → Stops R s Fit t a b → Stops R (λ σ. s (g σ)) Fit' t a b
stops_on g f p = record { not_before = p.not_before; inside = p.inside; begins = p.begins; stops = λ σ h. p.stops (g σ) (f σ h) }

-- one byte
pub reads_byte : (x : ℕ) {s s' : Stack → State} {Fit : Stack → Type 0} (t : List ℕ) (i : ℕ) → i < length t → get_or t i 256 ≡ x →
    ((σ : Stack) → Fit σ → step (s σ) x ≡ to (s' σ)) → Reads (λ a. a ≡ x ∷ []) s s' Fit t i (i + 1)
reads_byte x {s = s} {s' = s'} t i l e h = record {
  not_before = omega arith;
  inside = omega arith;
  rule = between_one t i l ∙ ap (λ y. y ∷ []) e;
  runs = λ σ k. from_to (s σ) (s' σ) i t l (ap (step (s σ)) e ∙ h σ k);
}

-- nothing, where the next symbol means the same in both states
pub reads_none : {s s' : Stack → State} {Fit : Stack → Type 0} (t : List ℕ) (i : ℕ) → i ≤ length t →
    ((σ : Stack) → Fit σ → step (s σ) (get_or t i 256) ≡ step (s' σ) (get_or t i 256)) → Reads (λ a. a ≡ []) s s' Fit t i i
reads_none {s = s} {s' = s'} t i l h = record {
  not_before = omega arith;
  inside = l;
  rule = between_none t i;
  runs = λ σ k. from_same (s σ) (s' σ) i t (h σ k);
}

-- bytes over which the machine goes, whatever follows
pub reads_over : (R : List ℕ → Type 0) {s s' : Stack → State} {Fit : Stack → Type 0} (t : List ℕ) (a b : ℕ) → a ≤ b → b ≤ length t → R (between a b t) →
    ((σ : Stack) → Fit σ → (ys : List ℕ) → run (s σ) (between a b t ++ ys) ≡ run (s' σ) ys) → Reads R s s' Fit t a b
reads_over R {s = s} {s' = s'} t a b l m r h = record {
  not_before = l;
  inside = m;
  rule = r;
  runs = λ σ k. from_over (s σ) (s' σ) a b t l (h σ k);
}

-- bytes that all leave the state as it is
pub reads_all : (test : ℕ → Bool) {s : Stack → State} {Fit : Stack → Type 0} (t : List ℕ) (a b : ℕ) → a ≤ b → b ≤ length t → all test (between a b t) ≡ true →
    ((σ : Stack) → (x : ℕ) → test x ≡ true → step (s σ) x ≡ to (s σ)) → Reads (λ zs. all test zs ≡ true) s s Fit t a b
reads_all test {s = s} t a b l m r h =
    reads_over (λ zs. all test zs ≡ true) t a b l m r (λ σ k ys. run_all test (s σ) (h σ) (between a b t) ys r)

-- a stop at this symbol
pub stops_here : (R : List ℕ → Type 0) {s : Stack → State} {Fit : Stack → Type 0} (t : List ℕ) (i : ℕ) → i ≤ length t → (rest : List ℕ) → R rest →
    ((σ : Stack) → Fit σ → step (s σ) (get_or t i 256) ≡ dead) → Stops R s Fit t i i
stops_here R {s = s} t i l rest r h = record {
  not_before = omega arith;
  inside = l;
  begins = (rest, subst R (ap (λ zs. zs ++ rest) (sym (between_none t i))) r);
  stops = λ σ k. from_dead (s σ) i t (h σ k);
}

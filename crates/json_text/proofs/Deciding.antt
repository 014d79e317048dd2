-- The verdict on every byte string is right: it is the text of a value, or its longest beginning ends at that place.
use Rattle.std.proofs.Common.{◌≡◌, ℕ, suc, ◌+◌, ◌-◌, false, ◌⊎◌, List, [], ◌∷◌, ◌++◌, length, take, sym, refl, ap, ◌∙◌, subst, inl, inr, arith}
use Rattle.std.proofs.Math.Seq.{take-append-add, take-append_seam}
use Rattle.std.proofs.lemmas.List.{append-nil, append_assoc, append_cancel_right, length-append}
use Rattle.std.proofs.lemmas.Bool.{true≢false}
use Rattle.json_text.specs.Json.{is_ws, Json, Text, Begins, LongestBeginning}
use Rattle.json_text.specs.Machine.{State, Next, dead, to, step, ended, run, want, done}
use Rattle.json_text.proofs.Runs.{all_none, run_to, run_dead}
use Rattle.json_text.proofs.Accepts.{text_runs}
use Rattle.json_text.proofs.Places.{stopped_not_ended}
use Rattle.json_text.specs.Value.{Verdict, whole, stopped_at, at_end, onward, verdict}
use Rattle.json_text.proofs.States.{Led}
use Rattle.json_text.proofs.Advance.{After, goes, advance}
use Rattle.json_text.proofs.Completing.{is_done, led_begins}
use Rattle.json_text.specs.declared.texts.TheConstants.{DEPTH}

done_or : (s : State) → (s ≡ done) ⊎ (is_done s ≡ false)
done_or done = inl refl
done_or s = inr refl

led_after : {t : List ℕ} {x : ℕ} {s : State} → After t x (to s) → Led s (t ++ x ∷ [])
led_after (goes l) = l

-- behind the end nothing is read
done_dead : (x : ℕ) → step done x ≡ dead
unfolding step
done_dead x = refl

done_stops : (zs : List ℕ) → run done (zs ++ 256 ∷ []) ≡ ended done → ⊥
done_stops [] h = stopped_not_ended (256 ∷ []) done (sym (run_dead done 256 [] (done_dead 256)) ∙ h)
done_stops (z ∷ zs) h = stopped_not_ended (z ∷ (zs ++ 256 ∷ [])) done (sym (run_dead done z (zs ++ 256 ∷ []) (done_dead z)) ∙ h)

run_end : (s : State) → run s [] ≡ ended s
unfolding run
run_end s = refl

ended_at : (s s' : State) → ended s ≡ ended s' → s ≡ s'
ended_at s s' q = cc

-- The machine is in this state behind these bytes.
abbrev Reaches : State → List ℕ → Type 0
Reaches s a = (ys : List ℕ) → run (want []) (a ++ ys) ≡ run s ys

-- The symbol stops the machine, or would end the text before its end.
abbrev NoMore : State → ℕ → Type 0
NoMore s x = (step s x ≡ dead) ⊎ (step s x ≡ to done)

no_text_on : (s : State) (a : List ℕ) (x : ℕ) (zs : List ℕ) (v : Json) → Reaches s a → NoMore s x → Text DEPTH (a ++ x ∷ zs) v → ⊥
no_text_on s a x zs v r n d =
    go n (sym (r (x ∷ (zs ++ 256 ∷ []))) ∙ ap (run (want [])) (sym (append_assoc a (x ∷ zs) (256 ∷ []))) ∙ text_runs (a ++ x ∷ zs) v d)
  where
    go : NoMore s x → run s (x ∷ (zs ++ 256 ∷ [])) ≡ ended done → ⊥
    go (inl h) k = stopped_not_ended (x ∷ (zs ++ 256 ∷ [])) done (sym (run_dead s x (zs ++ 256 ∷ []) h) ∙ k)
    go (inr h) k = done_stops zs (sym (run_to s done x (zs ++ 256 ∷ []) h) ∙ k)

begins_here : (s : State) (a xs : List ℕ) → is_done s ≡ false → Led s a → Begins DEPTH (take (length a) (a ++ xs))
begins_here s a xs k l = subst (Begins DEPTH) (sym (take-append_seam a xs)) (led_begins s a k l)

breaks_off : (s : State) (a : List ℕ) (x : ℕ) (xs : List ℕ) → is_done s ≡ false → Led s a → Reaches s a → NoMore s x → LongestBeginning DEPTH (a ++ x ∷ xs) (length a)
breaks_off s a x xs k l r n = record {
  inside = omega (arith, length-append a (x ∷ xs));
  begins = begins_here s a (x ∷ xs) k l;
  longest = λ q m _ b.
      let i : ℕ = q - length a - 1 in
      let j : q ≡ length a + suc i = omega arith in
      let p : take q (a ++ x ∷ xs) ≡ a ++ x ∷ take i xs = ap (λ z. take z (a ++ x ∷ xs)) j ∙ take-append-add a (x ∷ xs) (suc i) in
      no_text_on s a x (take i xs ++ b.0) b.1 r n (subst (λ zs. Text DEPTH zs b.1) (ap (λ zs. zs ++ b.0) p ∙ append_assoc a (x ∷ take i xs) b.0) b.2);
  no_text = λ v d. no_text_on s a x xs v r n d;
}

ends_early : (s : State) (a : List ℕ) → is_done s ≡ false → Led s a → ((v : Json) → Text DEPTH a v → ⊥) → LongestBeginning DEPTH (a ++ []) (length a)
ends_early s a k l n = record {
  inside = omega (arith, length-append a []);
  begins = begins_here s a [] k l;
  longest = λ q m i _. omega (arith, ap length (append-nil a));
  no_text = λ v d. n v (subst (λ zs. Text DEPTH zs v) (append-nil a) d);
}

-- What a verdict says.
pub data Right (t : List ℕ) : Verdict → Type 0 where
  is_text : (v : Json) → Text DEPTH t v → Right t whole
  breaks : {p : ℕ} → LongestBeginning DEPTH t p → Right t (stopped_at p)

not_done : (s : State) (p : ℕ) → is_done s ≡ false → at_end (to s) p ≡ stopped_at p
not_done (want σ) p k = refl
not_done done p k = absurd (true≢false k)
not_done s p k = refl

goes_on : (s : State) (p : ℕ) (go : State → Verdict) → is_done s ≡ false → onward (to s) p go ≡ go s
goes_on (want σ) p go k = refl
goes_on done p go k = absurd (true≢false k)
goes_on s p go k = refl

ending : (s : State) (a : List ℕ) → is_done s ≡ false → Led s a → Reaches s a → Right (a ++ []) (at_end (step s 256) (length a))
ending s a k l r = go (step s 256) refl (advance s a 256 l)
  where
    runs : (v : Json) → Text DEPTH a v → run s (256 ∷ []) ≡ ended done
    runs v d = sym (r (256 ∷ [])) ∙ text_runs a v d

    last : (s' : State) → step s 256 ≡ to s' → Led s' (a ++ 256 ∷ []) → (s' ≡ done) ⊎ (is_done s' ≡ false) → Right (a ++ []) (at_end (to s') (length a))
    last s' h m (inl q) =
        let w : Led done (a ++ 256 ∷ []) = subst (λ z. Led z (a ++ 256 ∷ [])) q m in
        subst (λ z. Right (a ++ []) (at_end (to z) (length a))) (sym q)
        (is_text w.1.0 (subst (λ zs. Text DEPTH zs w.1.0) (sym (append_cancel_right a w.0 (256 ∷ []) w.2) ∙ sym (append-nil a)) w.1.1))
    last s' h m (inr q) =
        subst (Right (a ++ [])) (sym (not_done s' (length a) q))
        (breaks (ends_early s a k l (λ v d. true≢false (ap is_done (sym (ended_at s' done (sym (run_end s') ∙ sym (run_to s s' 256 [] h) ∙ runs v d))) ∙ q))))

    go : (n : Next) → step s 256 ≡ n → After a 256 n → Right (a ++ []) (at_end n (length a))
    go dead h f = breaks (ends_early s a k l (λ v d. stopped_not_ended (256 ∷ []) done (sym (run_dead s 256 [] h) ∙ runs v d)))
    go (to s') h f = last s' h (led_after f) (done_or s')

-- What is right of the rest behind one byte more.
abbrev Further : List ℕ → ℕ → List ℕ → Type 0
Further a x xs = (s : State) → is_done s ≡ false → Led s (a ++ x ∷ []) → Reaches s (a ++ x ∷ []) → Right ((a ++ x ∷ []) ++ xs) (verdict s (length (a ++ x ∷ [])) xs)

one_longer : (a : List ℕ) (x : ℕ) → length (a ++ x ∷ []) ≡ suc (length a)
one_longer a x = omega (arith, length-append a (x ∷ []))

right_on : (xs : List ℕ) (s : State) (a : List ℕ) → is_done s ≡ false → Led s a → Reaches s a → Right (a ++ xs) (verdict s (length a) xs)
unfolding verdict
right_on [] s a k l r = ending s a k l r
right_on (x ∷ xs) s a k l r = go (step s x) refl (advance s a x l) (λ s' k' l' r'. right_on xs s' (a ++ x ∷ []) k' l' r')
  where
    on : (s' : State) → step s x ≡ to s' → Led s' (a ++ x ∷ []) → (s' ≡ done) ⊎ (is_done s' ≡ false) → Further a x xs → Right (a ++ x ∷ xs) (onward (to s') (length a) (λ q. verdict q (suc (length a)) xs))
    on s' h m (inl q) f = subst (λ z. Right (a ++ x ∷ xs) (onward (to z) (length a) (λ y. verdict y (suc (length a)) xs))) (sym q) (breaks (breaks_off s a x xs k l r (inr (h ∙ ap to q))))
    on s' h m (inr q) f =
        subst (Right (a ++ x ∷ xs)) (ap (λ n. verdict s' n xs) (one_longer a x) ∙ sym (goes_on s' (length a) (λ y. verdict y (suc (length a)) xs) q))
        (subst (λ zs. Right zs (verdict s' (length (a ++ x ∷ [])) xs)) (append_assoc a (x ∷ []) xs)
        (f s' q m (λ ys. ap (run (want [])) (append_assoc a (x ∷ []) ys) ∙ r (x ∷ ys) ∙ run_to s s' x ys h)))

    go : (n : Next) → step s x ≡ n → After a x n → Further a x xs → Right (a ++ x ∷ xs) (onward n (length a) (λ q. verdict q (suc (length a)) xs))
    go dead h m f = breaks (breaks_off s a x xs k l r (inl h))
    go (to s') h m f = on s' h (led_after m) (done_or s') f

pub right : (t : List ℕ) → Right t (verdict (want []) 0 t)
right t = right_on t (want []) [] refl (all_none is_ws) (λ ys. refl)

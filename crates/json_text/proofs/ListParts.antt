-- Readings of a list of items with commas between them, up to its closing bracket: arrays and objects alike.
use Rattle.std.proofs.Common.{◌≡◌, ℕ, suc, ◌+◌, ◌<◌, true, false, eqb, List, [], ◌∷◌, ◌++◌, length, get_or, refl, ap, ◌∙◌, sym, subst, arith}
use Rattle.std.proofs.lemmas.List.{append-nil, append_assoc}
use Rattle.std.proofs.lemmas.Bool.{eqb-true}
use Rattle.json_text.specs.Json.{is_ws, Ws, Structural, ValueSeparator, no_values, no_members, values, members, one_value, next_value, one_member, next_member}
use Rattle.json_text.specs.Machine.{Stack, count, State, dead, to, step, have}
use Rattle.json_text.specs.Reading.{Reads, Stops, Room, Spaced, Ended}
use Rattle.json_text.specs.Standing.{Space}
use Rattle.json_text.specs.Brackets.{closing, mark}
use Rattle.json_text.specs.declared.brackets.Bracket.{Bracket}
use Rattle.json_text.specs.declared.brackets.Bracket.TheVariants.{Square, Curly}
use Rattle.json_text.proofs.Runs.{all_none}
use Rattle.json_text.proofs.StepLaws as law
use Rattle.json_text.proofs.Steps.{reads_then, stops_then, reads_on, stops_on, reads_byte, reads_all, stops_here}
use Rattle.json_text.proofs.Items.{Started, at_first, behind_comma, AnyItem, AnyItems, item_wanted}

-- white space behind a structural character, and before it
pub behind_space : (c : ℕ) (w : List ℕ) → Ws w → Structural c (c ∷ w)
behind_space c w h = record { before = []; after = w; before_ws = all_none is_ws; after_ws = h; split = refl }

pub before_space : (c : ℕ) (w : List ℕ) → Ws w → Structural c (w ++ c ∷ [])
before_space c w h = record { before = w; after = []; before_ws = h; after_ws = all_none is_ws; split = refl }

-- under the open bracket: an item wanted, and an item had
abbrev pub wanted : Bracket → Stack → State
wanted b σ = item_wanted b (mark b ∷ σ)

abbrev pub had : Bracket → Stack → State
had b σ = have (mark b ∷ σ)

-- How the list's grammar and the machine's states go together.
record Listing (b : Bracket) (d : ℕ) : Type 0 where
  pub one : (x : List ℕ) → AnyItem b d x → AnyItems b d x
  pub next : (x y z : List ℕ) → AnyItems b d x → ValueSeparator y → AnyItem b d z → AnyItems b d (x ++ (y ++ z))
  pub wanted_ws : (σ : Stack) (x : ℕ) → is_ws x ≡ true → step (wanted b σ) x ≡ to (wanted b σ)
  pub comma : (σ : Stack) → step (had b σ) 44 ≡ to (wanted b σ)
  pub closes : (σ : Stack) → step (had b σ) (closing b) ≡ to (have σ)
  pub other : (σ : Stack) (x : ℕ) → is_ws x ≡ false → eqb x (closing b) ≡ false → eqb x 44 ≡ false → step (had b σ) x ≡ dead

listing : (b : Bracket) (d : ℕ) → Listing b d
listing Square d = record {
  one = λ x v. (no_values, v.0, one_value v.1);
  next = λ x y z l c v. (values l.0 l.1, v.0, next_value x y z l.2 c v.1 refl);
  wanted_ws = λ σ. law.want_ws (mark Square ∷ σ);
  comma = law.array_comma;
  closes = law.array_end;
  other = law.array_dead;
}
listing Curly d = record {
  one = λ x v. (no_members, v.0, v.1, one_member v.2);
  next = λ x y z l c v. (members l.0 l.1 l.2, v.0, v.1, next_member x y z l.3 c v.2 refl);
  wanted_ws = λ σ. law.want_name_ws (mark Curly ∷ σ);
  comma = law.object_comma;
  closes = law.object_end;
  other = law.object_dead;
}

one_deeper : (b : Bracket) (σ : Stack) → count (mark b ∷ σ) ≡ suc (count σ)
one_deeper Square σ = refl
one_deeper Curly σ = refl

-- one item more
grown : (b : Bracket) (d : ℕ) (x y : List ℕ) → Started (AnyItems b d) x → Spaced (AnyItem b d) y → Spaced (AnyItems b d) (x ++ y)
grown b d x y (at_first e) s = record {
  inner = s.inner;
  space = s.space;
  is_inner = (listing b d).one s.inner s.is_inner;
  is_space = s.is_space;
  split = ap (λ zs. zs ++ y) e ∙ s.split;
}
grown b d x y (behind_comma inner comma l c e) s = record {
  inner = inner ++ (comma ++ s.inner);
  space = s.space;
  is_inner = (listing b d).next inner comma s.inner l c s.is_inner;
  is_space = s.is_space;
  split = ap (λ zs. zs ++ y) e ∙ ap (λ zs. (inner ++ comma) ++ zs) s.split ∙ simp append_assoc;
}

-- the closing bracket, behind white space
ended_by : (Items : List ℕ → Type 0) (bracket : ℕ) (x y : List ℕ) → Spaced Items x → y ≡ bracket ∷ [] → Ended Items bracket (x ++ y)
ended_by Items bracket x y s e = record {
  inner = s.inner;
  end = s.space ++ bracket ∷ [];
  is_list = s.is_inner;
  is_end = before_space bracket s.space s.is_space;
  split = ap (λ zs. x ++ zs) e ∙ ap (λ zs. zs ++ bracket ∷ []) s.split ∙ append_assoc s.inner s.space (bracket ∷ []);
}

-- a comma, with white space around it
comma_by : (Items : List ℕ → Type 0) (x y : List ℕ) → Spaced Items x → (w : List ℕ) → Ws w → y ≡ 44 ∷ w → Started Items (x ++ y)
comma_by Items x y s w h e =
    behind_comma s.inner (s.space ++ 44 ∷ w) s.is_inner
    (record { before = s.space; after = w; before_ws = s.is_space; after_ws = h; split = refl })
    (ap (λ zs. x ++ zs) e ∙ ap (λ zs. zs ++ 44 ∷ w) s.split ∙ append_assoc s.inner s.space (44 ∷ w))

module _ (b : Bracket) (d : ℕ) (t : List ℕ) (at from end : ℕ) (p : Reads (Started (AnyItems b d)) (wanted b) (wanted b) (Room (d + 1)) t at from) where
  pub item_breaks_off : Stops (Spaced (AnyItem b d)) (item_wanted b) (Room d) t from end → Stops (Ended (AnyItems b d) (closing b)) (wanted b) (Room (d + 1)) t at end
  item_breaks_off q =
      stops_then (Started (AnyItems b d)) (Spaced (AnyItem b d)) (Ended (AnyItems b d) (closing b))
      (λ x y s e. (closing b ∷ [], subst (Ended (AnyItems b d) (closing b)) (append_assoc x y (closing b ∷ [])) (ended_by (AnyItems b d) (closing b) (x ++ y) (closing b ∷ []) (grown b d x y s e) refl)))
      p (stops_on (λ σ. mark b ∷ σ) (λ σ h. omega (arith, h, one_deeper b σ)) q)

  module _ (q : Reads (Spaced (AnyItem b d)) (item_wanted b) have (Room d) t from end) where
    so_far : Reads (Spaced (AnyItems b d)) (wanted b) (had b) (Room (d + 1)) t at end
    so_far = reads_then (Started (AnyItems b d)) (Spaced (AnyItem b d)) (Spaced (AnyItems b d)) (grown b d) p (reads_on (λ σ. mark b ∷ σ) (λ σ h. omega (arith, h, one_deeper b σ)) q)

    pub list_ends : end < length t → eqb (get_or t end 256) (closing b) ≡ true → Reads (Ended (AnyItems b d) (closing b)) (wanted b) have (Room (d + 1)) t at (end + 1)
    list_ends l h =
        reads_then (Spaced (AnyItems b d)) (λ y. y ≡ closing b ∷ []) (Ended (AnyItems b d) (closing b)) (ended_by (AnyItems b d) (closing b)) so_far
        (reads_byte (closing b) {s = had b} {s' = have} {Fit = Room (d + 1)} t end l (eqb-true _ _ h) (λ σ _. (listing b d).closes σ))

    pub list_goes_on : end < length t → eqb (get_or t end 256) 44 ≡ true → (next : ℕ) → Space t (end + 1) next → Reads (Started (AnyItems b d)) (wanted b) (wanted b) (Room (d + 1)) t at next
    list_goes_on l h next w =
        reads_then (Spaced (AnyItems b d)) (λ y. (z : List ℕ) × Ws z × (y ≡ 44 ∷ z)) (Started (AnyItems b d)) (λ x y s z. comma_by (AnyItems b d) x y s z.0 z.1 z.2) so_far
        (reads_then (λ y. y ≡ 44 ∷ []) Ws (λ y. (z : List ℕ) × Ws z × (y ≡ 44 ∷ z)) (λ x y e z. (y, z, ap (λ zs. zs ++ y) e))
        (reads_byte 44 {s = had b} {s' = wanted b} {Fit = Room (d + 1)} t end l (eqb-true _ _ h) (λ σ _. (listing b d).comma σ))
        (reads_all is_ws {s = wanted b} {Fit = Room (d + 1)} t (end + 1) next w.not_before w.inside w.pass (listing b d).wanted_ws))

    pub list_breaks_off : is_ws (get_or t end 256) ≡ false → eqb (get_or t end 256) (closing b) ≡ false → eqb (get_or t end 256) 44 ≡ false → Stops (Ended (AnyItems b d) (closing b)) (wanted b) (Room (d + 1)) t at end
    list_breaks_off w h k =
        stops_then (Spaced (AnyItems b d)) (λ y. y ≡ closing b ∷ []) (Ended (AnyItems b d) (closing b))
        (λ x y s e. ([], subst (Ended (AnyItems b d) (closing b)) (ap (λ zs. x ++ zs) (sym (append-nil y))) (ended_by (AnyItems b d) (closing b) x y s e))) so_far
        (stops_here (λ y. y ≡ closing b ∷ []) {s = had b} {Fit = Room (d + 1)} t end q.inside (closing b ∷ []) refl (λ σ _. (listing b d).other σ (get_or t end 256) w h k))

-- Readings of values: literal names and numbers, arrays and objects from their bracket on.
use Rattle.std.proofs.Common.{◌≡◌, ℕ, suc, ◌+◌, ◌<◌, ◌≤◌, ◌≢◌, true, false, eqb, ◌⊎◌, List, [], ◌∷◌, ◌++◌, length, get_or, sym, refl, ap, ◌∙◌, subst, inl, arith, Result, MatchResult}
use Rattle.std.proofs.lemmas.List.{append-nil}
use Rattle.std.proofs.lemmas.Result.{MatchResult-weaker}
use Rattle.std.proofs.lemmas.Bool.{eqb-true, ne_eqb}
use Rattle.json_string.specs.declared.reading.Fault.{Fault}
use Rattle.json_text.specs.declared.cursor.Cursor.{Cursor}
use Rattle.json_text.specs.Json.{is_ws, Ws, Structural, Number, Json, number, array, object, no_values, no_members, values, members, Value, is_number, is_empty_array, is_array, is_empty_object, is_object}
use Rattle.json_text.specs.Machine.{Stack, count, State, dead, to, step, square, curly, want, have, open_array, open_object, name_rest}
use Rattle.json_text.specs.Reading.{Reads, Stops, Any, Room, AnyValue, Spaced, Ended}
use Rattle.json_text.specs.Standing.{Space}
use Rattle.json_text.specs.Brackets.{opening, closing, mark}
use Rattle.json_text.specs.declared.brackets.Bracket.{Bracket}
use Rattle.json_text.specs.declared.brackets.Bracket.TheVariants.{Square, Curly}
use Rattle.json_text.proofs.Runs.{all_none}
use Rattle.json_text.proofs.StepLaws as law
use Rattle.json_text.proofs.Steps.{reads_then, stops_then, stops_in, reads_as, reads_on, stops_on, reads_byte, reads_none, reads_all, stops_here}
use Rattle.json_text.proofs.NumberParts.{no_digit}
use Rattle.json_text.proofs.ListParts.{behind_space, wanted}
use Rattle.json_text.specs.declared.texts.TheConstants.{DEPTH}
use Rattle.json_text.proofs.Items.{AnyItems}

-- the shortest value
pub zero_value : (d : ℕ) → AnyValue d (48 ∷ [])
zero_value d = (
  number,
  is_number (record {
    minus = [];
    int = 48 ∷ [];
    frac = [];
    exp = [];
    is_minus = inl refl;
    is_int = inl refl;
    is_frac = inl refl;
    is_exp = inl refl;
    split = refl;
  }),
)

-- a number, for whatever stack
pub number_reads : (d : ℕ) {t : List ℕ} {a b : ℕ} → Reads Number want have Any t a b → Reads (AnyValue d) want have (Room d) t a b
number_reads d p = reads_as Number (AnyValue d) (λ x n. (number, is_number n)) (reads_on (λ σ. σ) (λ σ _. tt) p)

pub number_stops : (d : ℕ) {t : List ℕ} {a b : ℕ} → Stops Number want Any t a b → Stops (AnyValue d) want (Room d) t a b
number_stops d p = stops_in Number (AnyValue d) (λ x n. ([], (number, is_number (subst Number (sym (append-nil x)) n)))) (stops_on (λ σ. σ) (λ σ _. tt) p)

-- a literal name: its first byte, and the rest
module _ (x : ℕ) (rest : List ℕ) (v : Json) (first : (σ : Stack) → step (want σ) x ≡ to (name_rest rest σ)) (is_value : (d : ℕ) (z : List ℕ) → z ≡ x ∷ rest → Value d z v)
    (t : List ℕ) (a : ℕ) (l : a < length t) (h : get_or t a 256 ≡ x) (d : ℕ) where
  name_first : Reads (λ z. z ≡ x ∷ []) want (name_rest rest) (Room d) t a (a + 1)
  name_first = reads_byte x {s = want} {s' = name_rest rest} {Fit = Room d} t a l h (λ σ _. first σ)

  name_reads : (b : ℕ) → Reads (λ z. z ≡ rest) (name_rest rest) have Any t (a + 1) b → Reads (AnyValue d) want have (Room d) t a b
  name_reads b p =
      reads_then (λ z. z ≡ x ∷ []) (λ z. z ≡ rest) (AnyValue d) (λ y z e f. (v, is_value d (y ++ z) (ap (λ zs. zs ++ z) e ∙ ap (λ zs. x ∷ zs) f)))
      name_first (reads_on (λ σ. σ) (λ σ _. tt) p)

  name_stops : (b : ℕ) → Stops (λ z. z ≡ rest) (name_rest rest) Any t (a + 1) b → Stops (AnyValue d) want (Room d) t a b
  name_stops b p =
      stops_then (λ z. z ≡ x ∷ []) (λ z. z ≡ rest) (AnyValue d)
      (λ y z e f. ([], (v, is_value d (y ++ (z ++ [])) (ap (λ zs. zs ++ (z ++ [])) e ∙ ap (λ zs. x ∷ zs) (append-nil z ∙ f)))))
      name_first (stops_on (λ σ. σ) (λ σ _. tt) p)

  pub name_told : (r : Result Cursor Fault) →
      MatchResult r (λ next. (next.text.now ≡ t) × Reads (λ z. z ≡ rest) (name_rest rest) have Any t (a + 1) next.at) (λ f. Stops (λ z. z ≡ rest) (name_rest rest) Any t (a + 1) f.place) →
      MatchResult r (λ next. (next.text.now ≡ t) × Reads (AnyValue d) want have (Room d) t a next.at) (λ f. Stops (AnyValue d) want (Room d) t a f.place)
  name_told r m = MatchResult-weaker r m (λ next p. (p.0, name_reads next.at p.1)) (λ f p. name_stops f.place p)

-- no value begins so
pub none_stops : (d : ℕ) (t : List ℕ) (a : ℕ) → a ≤ length t → ((σ : Stack) → Room d σ → step (want σ) (get_or t a 256) ≡ dead) → Stops (AnyValue d) want (Room d) t a a
none_stops d t a l h = stops_here (AnyValue d) {s = want} {Fit = Room d} t a l (48 ∷ []) (zero_value d) h

-- none of the symbols that begin a value, and no white space
pub none_here : (d : ℕ) (t : List ℕ) (a : ℕ) → a ≤ length t → is_ws (get_or t a 256) ≡ false → (get_or t a 256 ≢ 34) → (get_or t a 256 ≢ 91) → (get_or t a 256 ≢ 123) → (get_or t a 256 ≢ 45) →
    (get_or t a 256 < 48) ⊎ (57 < get_or t a 256) → (get_or t a 256 ≢ 116) → (get_or t a 256 ≢ 102) → (get_or t a 256 ≢ 110) → Stops (AnyValue d) want (Room d) t a a
none_here d t a l w q s o m g i j k =
    none_stops d t a l (λ σ _. law.no_value σ _ w (ne_eqb _ _ q) (ne_eqb _ _ s) (ne_eqb _ _ o) (ne_eqb _ _ m) (no_digit _ g) (ne_eqb _ _ i) (ne_eqb _ _ j) (ne_eqb _ _ k))

-- a value and white space
pub spaced_reads : (d : ℕ) (t : List ℕ) (a b c : ℕ) → Reads (AnyValue d) want have (Room d) t a b → Space t b c → Reads (Spaced (AnyValue d)) want have (Room d) t a c
spaced_reads d t a b c p w =
    reads_then (AnyValue d) Ws (Spaced (AnyValue d)) (λ x y v s. record { inner = x; space = y; is_inner = v; is_space = s; split = refl }) p
    (reads_all is_ws {s = have} {Fit = Room d} t b c w.not_before w.inside w.pass law.have_ws)

pub spaced_stops : (d : ℕ) (t : List ℕ) (a b : ℕ) → Stops (AnyValue d) want (Room d) t a b → Stops (Spaced (AnyValue d)) want (Room d) t a b
spaced_stops d t a b =
    stops_in (AnyValue d) (Spaced (AnyValue d)) (λ x v. ([], record { inner = x; space = []; is_inner = v; is_space = all_none is_ws; split = refl }))

-- the state right behind the opening bracket
abbrev opened : Bracket → Stack → State
opened Square σ = open_array (mark Square ∷ σ)
opened Curly σ = open_object (mark Curly ∷ σ)

-- How an array or an object goes from its opening bracket on.
record Bracketing (b : Bracket) (d : ℕ) : Type 0 where
  pub none : (x y : List ℕ) → Structural (opening b) x → Structural (closing b) y → AnyValue (suc d) (x ++ y)
  pub some : (x y z : List ℕ) → Structural (opening b) x → AnyItems b d y → Structural (closing b) z → AnyValue (suc d) (x ++ (y ++ z))
  pub opens : (σ : Stack) → count σ < DEPTH → step (want σ) (opening b) ≡ to (opened b σ)
  pub full : (σ : Stack) → DEPTH ≤ count σ → step (want σ) (opening b) ≡ dead
  pub opened_ws : (σ : Stack) (x : ℕ) → is_ws x ≡ true → step (opened b σ) x ≡ to (opened b σ)
  pub closes : (σ : Stack) → step (opened b σ) (closing b) ≡ to (have σ)
  pub first : (σ : Stack) (x : ℕ) → is_ws x ≡ false → eqb x (closing b) ≡ false → step (opened b σ) x ≡ step (wanted b σ) x

bracketing : (b : Bracket) (d : ℕ) → Bracketing b d
bracketing Square d = record {
  none = λ x y p q. (array no_values, is_empty_array x y p q refl);
  some = λ x y z p l q. (array (values l.0 l.1), is_array x y z p l.2 q refl);
  opens = law.want_array;
  full = law.full_array;
  opened_ws = law.open_array_ws square;
  closes = law.empty_array square;
  first = law.first_value square;
}
bracketing Curly d = record {
  none = λ x y p q. (object no_members, is_empty_object x y p q refl);
  some = λ x y z p l q. (object (members l.0 l.1 l.2), is_object x y z p l.3 q refl);
  opens = law.want_object;
  full = law.full_object;
  opened_ws = law.open_object_ws curly;
  closes = law.empty_object curly;
  first = law.first_name curly;
}

-- where no bracket more may be open
pub bracket_full : (b : Bracket) (d : ℕ) (t : List ℕ) (at : ℕ) → d ≡ 0 → at ≤ length t → get_or t at 256 ≡ opening b → Stops (AnyValue d) want (Room d) t at at
bracket_full b d t at n l h = none_stops d t at l (λ σ r. ap (step (want σ)) h ∙ (bracketing b d).full σ (omega (arith, r)))

-- an array or an object from its bracket on, where one more may be open
module _ (b : Bracket) (d e : ℕ) (t : List ℕ) (at first : ℕ) (deeper : e ≡ suc d) (l : at < length t) (h : get_or t at 256 ≡ opening b) (w : Space t (at + 1) first) where
  up : (x : List ℕ) → AnyValue (suc d) x → AnyValue e x
  up x v = subst (λ i. AnyValue i x) (sym deeper) v

  begins : Reads (Structural (opening b)) want (opened b) (Room e) t at first
  begins =
      reads_then (λ x. x ≡ opening b ∷ []) Ws (Structural (opening b)) (λ x y q s. subst (Structural (opening b)) (sym (ap (λ zs. zs ++ y) q)) (behind_space (opening b) y s))
      (reads_byte (opening b) {s = want} {s' = opened b} {Fit = Room e} t at l h (λ σ r. (bracketing b d).opens σ (omega arith)))
      (reads_all is_ws {s = opened b} {Fit = Room e} t (at + 1) first w.not_before w.inside w.pass (bracketing b d).opened_ws)

  pub empty_reads : first < length t → eqb (get_or t first 256) (closing b) ≡ true → Reads (AnyValue e) want have (Room e) t at (first + 1)
  empty_reads k q =
      reads_then (Structural (opening b)) (λ x. x ≡ closing b ∷ []) (AnyValue e)
      (λ x y p f. up (x ++ y) ((bracketing b d).none x y p (subst (Structural (closing b)) (sym f) (behind_space (closing b) [] (all_none is_ws))))) begins
      (reads_byte (closing b) {s = opened b} {s' = have} {Fit = Room e} t first k (eqb-true _ _ q) (λ σ _. (bracketing b d).closes σ))

  module _ (q : eqb (get_or t first 256) (closing b) ≡ false) where
    first_wanted : Reads (Structural (opening b)) want (wanted b) (Room e) t at first
    first_wanted =
        reads_then (Structural (opening b)) (λ x. x ≡ []) (Structural (opening b)) (λ x y g f. subst (Structural (opening b)) (sym (ap (λ zs. x ++ zs) f ∙ append-nil x)) g) begins
        (reads_none {s = opened b} {s' = wanted b} {Fit = Room e} t first w.inside (λ σ _. (bracketing b d).first σ (get_or t first 256) w.stops q))

    full : (x y : List ℕ) → Structural (opening b) x → Ended (AnyItems b d) (closing b) y → AnyValue e (x ++ y)
    full x y p g = up (x ++ y) (subst (AnyValue (suc d)) (ap (λ zs. x ++ zs) (sym g.split)) ((bracketing b d).some x g.inner g.end p g.is_list g.is_end))

    pub bracket_reads : (last : ℕ) → Reads (Ended (AnyItems b d) (closing b)) (wanted b) have (Room (d + 1)) t first last → Reads (AnyValue e) want have (Room e) t at last
    bracket_reads last p = reads_then (Structural (opening b)) (Ended (AnyItems b d) (closing b)) (AnyValue e) full first_wanted (reads_on (λ σ. σ) (λ σ r. omega arith) p)

    pub bracket_stops : (last : ℕ) → Stops (Ended (AnyItems b d) (closing b)) (wanted b) (Room (d + 1)) t first last → Stops (AnyValue e) want (Room e) t at last
    bracket_stops last p =
        stops_then (Structural (opening b)) (Ended (AnyItems b d) (closing b)) (AnyValue e)
        (λ x y g f. ([], subst (AnyValue e) (ap (λ zs. x ++ zs) (sym (append-nil y))) (full x y g f))) first_wanted (stops_on (λ σ. σ) (λ σ r. omega arith) p)

-- The items of an array stand one behind the other: from the grammar's list to their places.
use Rattle.std.proofs.Common.{◌≡◌, ℕ, ◌+◌, ◌-◌, ◌<◌, ◌≤◌, true, false, ◌⊎◌, List, [], ◌∷◌, ◌++◌, length, get_or, Some, None, sym, refl, ap, ◌∙◌, subst, inl, inr, ⊎_elim, arith}
use Rattle.std.specs.List.{between}
use Rattle.std.proofs.lemmas.List.{get_or_past, take_all}
use Rattle.std.proofs.lemmas.Bool.{true≢false}
use Rattle.json_text.specs.Json.{all, is_ws, is_digit, is_e, Ws, Structural, Optional, Minus, Number, Json, Value, ValueList, Values, Text, false_name, null_name, true_name, object, array, number, string, no_values, values, is_false, is_null, is_true, is_number, is_string, is_empty_object, is_object, is_empty_array, is_array, one_value, next_value}
use Rattle.json_text.specs.Standing.{NoNumber, Space, ValueAt, ItemsAt, ItemsBehind, item, closed, comma, Found, elements, values_onto}
use Rattle.json_text.specs.Machine.{want, have}
use Rattle.json_text.specs.Reading.{Reads, Room, AnyValue, Spaced}
use Rattle.json_text.proofs.Runs.{between_join}
use Rattle.json_text.proofs.StepLaws.{no_ws, digit_bounds}
use Rattle.json_text.proofs.Accepts.{int_first}
use Rattle.json_text.proofs.Segments.{Part, part_split, part_first, part_space, space_join, space_once, space_first, space_no_number, deeper_by, strip}
use Rattle.json_text.specs.declared.texts.TheConstants.{DEPTH}

-- what begins a value
abbrev pub First : Json → ℕ → Type 0
First false_name x = x ≡ 102
First null_name x = x ≡ 110
First true_name x = x ≡ 116
First (object ms) x = x ≡ 123
First (array vs) x = x ≡ 91
First number x = (x ≡ 45) ⊎ (is_digit x ≡ true)
First (string s) x = x ≡ 34

head : (x y : ℕ) (t xs ys : List ℕ) → t ≡ x ∷ xs → t ≡ y ∷ ys → x ≡ y
head x y t xs ys e f = cc

-- a bracket that no white space stands before
pub bracket_first : (c x : ℕ) (a b t xs : List ℕ) → Structural c a → t ≡ a ++ b → t ≡ x ∷ xs → is_ws x ≡ false → x ≡ c
unfolding all
bracket_first c x a b t xs s e f h = go s.before s.before_ws s.split
  where
    go : (w : List ℕ) → all is_ws w ≡ true → a ≡ w ++ c ∷ s.after → x ≡ c
    go [] k q = head x c t xs (s.after ++ b) f (e ∙ ap (λ zs. zs ++ b) q)
    go (y ∷ w) k q =
        let i : x ≡ y = head x y t xs ((w ++ c ∷ s.after) ++ b) f (e ∙ ap (λ zs. zs ++ b) q) in
        absurd (true≢false (sym (ap is_ws i ∙ (Rattle.std.proofs.lemmas.Bool.and_parts (is_ws y) (all is_ws w) k).0) ∙ h))

number_start : (t : List ℕ) (x : ℕ) (xs : List ℕ) → Number t → t ≡ x ∷ xs → (x ≡ 45) ⊎ (is_digit x ≡ true)
number_start t x xs n f = go n.minus n.is_minus refl
  where
    go : (m : List ℕ) → Optional Minus m → m ≡ n.minus → (x ≡ 45) ⊎ (is_digit x ≡ true)
    go m (inl e) q =
        let i = int_first n.int n.is_int in
        inr (ap is_digit (head x i.0 t xs (i.1 ++ (n.frac ++ n.exp)) f (n.split ∙ ap (λ zs. zs ++ (n.int ++ (n.frac ++ n.exp))) (sym q ∙ e) ∙ ap (λ zs. zs ++ (n.frac ++ n.exp)) i.3)) ∙ i.2)
    go m (inr e) q = inl (head x 45 t xs (n.int ++ (n.frac ++ n.exp)) f (n.split ∙ ap (λ zs. zs ++ (n.int ++ (n.frac ++ n.exp))) (sym q ∙ e)))

opens : {d : ℕ} {t : List ℕ} {v : Json} → Value d t v → (x : ℕ) (xs : List ℕ) → t ≡ x ∷ xs → is_ws x ≡ false → First v x
opens (is_false {t = t} e) x xs f h = head x 102 t xs _ f e
opens (is_null {t = t} e) x xs f h = head x 110 t xs _ f e
opens (is_true {t = t} e) x xs f h = head x 116 t xs _ f e
opens (is_number {t = t} n) x xs f h = number_start t x xs n f
opens (is_string {t = t} s) x xs f h = head x 34 t xs _ f s.split
opens (is_empty_object {t = t} a b p q e) x xs f h = bracket_first 123 x a b t xs p e f h
opens (is_object {t = t} a b c p l q e) x xs f h = bracket_first 123 x a (b ++ c) t xs p e f h
opens (is_empty_array {t = t} a b p q e) x xs f h = bracket_first 91 x a b t xs p e f h
opens (is_array {t = t} a b c p l q e) x xs f h = bracket_first 91 x a (b ++ c) t xs p e f h

-- a value is not empty
pub value_first : (t : List ℕ) (at end : ℕ) (v : Json) → ValueAt t at end v → (at < length t) × First v (get_or t at 256)
unfolding all
value_first t at end v p =
    let s = strip p.is_value in
    let q : Part t at end (s.space ++ s.first ∷ s.others) = record { not_before = p.not_before; inside = p.inside; is = s.split } in
    go s.space s.is_space q p.starts
  where
    go : (w : List ℕ) → Ws w → Part t at end (w ++ (strip p.is_value).first ∷ (strip p.is_value).others) → is_ws (get_or t at 256) ≡ false → (at < length t) × First v (get_or t at 256)
    go [] k q h =
        let f = part_first t at end _ _ q in
        (f.0, opens p.is_value (get_or t at 256) (strip p.is_value).others (q.is ∙ ap (λ x. x ∷ (strip p.is_value).others) (sym f.1)) h)
    go (y ∷ w) k q h =
        let f = part_first t at end y _ q in
        absurd (true≢false (sym (ap is_ws f.1 ∙ (Rattle.std.proofs.lemmas.Bool.and_parts (is_ws y) (all is_ws w) k).0) ∙ h))

-- only an array has elements
pub no_elements : (v : Json) (x : ℕ) → First v x → (x ≡ 91 → ⊥) → elements v ≡ []
no_elements false_name x f h = refl
no_elements null_name x f h = refl
no_elements true_name x f h = refl
no_elements (object ms) x f h = refl
no_elements (array vs) x f h = absurd (h f)
no_elements number x f h = refl
no_elements (string s) x f h = refl

pub not_closing : (v : Json) (x : ℕ) → First v x → x ≡ 93 → ⊥
not_closing false_name x f h = omega arith
not_closing null_name x f h = omega arith
not_closing true_name x f h = omega arith
not_closing (object ms) x f h = omega arith
not_closing (array vs) x f h = omega arith
not_closing number x f h = ⊎_elim (λ e. omega arith) (λ d. omega (arith, digit_bounds x d)) f
not_closing (string s) x f h = omega arith

-- a structural character at its place, between white space
pub record Sign (t : List ℕ) (a b c : ℕ) : Type 0 where
  pub place : ℕ
  pub before : Space t a place
  pub here : get_or t place 256 ≡ c
  pub behind : place + 1 ≤ b
  pub after : Ws (between (place + 1) b t)
  pub inside : b ≤ length t

pub sign_at : (t : List ℕ) (a b c : ℕ) (s : List ℕ) → is_ws c ≡ false → Part t a b s → Structural c s → Sign t a b c
sign_at t a b c s h p q =
    let m = part_split t a b q.before (c ∷ q.after) (record { not_before = p.not_before; inside = p.inside; is = p.is ∙ q.split }) in
    let f = part_first t (a + length q.before) b c q.after m.1 in
    record {
      place = a + length q.before;
      before = part_space t a (a + length q.before) q.before m.0 q.before_ws (ap is_ws f.1 ∙ h);
      here = f.1;
      behind = f.2.not_before;
      after = subst Ws (sym f.2.is) q.after_ws;
      inside = p.inside;
    }

-- an opening bracket at its place
pub bracket_at : (t : List ℕ) (a b c : ℕ) (s : List ℕ) → is_ws c ≡ false → Part t a b s → Structural c s → is_ws (get_or t a 256) ≡ false → (a + 1 ≤ b) × Ws (between (a + 1) b t)
bracket_at t a b c s h p q k =
    let g = sign_at t a b c s h p q in
    let e : a ≡ g.place = ⊎_elim (λ i. i) (λ w. absurd (true≢false (sym w ∙ k))) (space_first t a g.place g.before) in
    (subst (λ i. i + 1 ≤ b) (sym e) g.behind, subst (λ i. Ws (between (i + 1) b t)) (sym e) g.after)

-- what stands behind an item
pub comma_behind : {X : Type 0} (t : List ℕ) (Item : ℕ → ℕ → X → Type 0) (c a b g : ℕ) (xs : List X) → Sign t a b 44 → Space t b g → ItemsAt t Item c g xs → ItemsBehind t Item c a xs
comma_behind t Item c a b g xs s w i = comma s.place g s.before s.here (space_join t (s.place + 1) b g s.behind s.after w) i

pub comma_number : NoNumber 44
unfolding is_digit is_e
comma_number = record { no_digit = refl; no_point = refl; no_e = refl }

square_number : NoNumber 93
unfolding is_digit is_e
square_number = record { no_digit = refl; no_point = refl; no_e = refl }

pub behind_number : {X : Type 0} {t : List ℕ} {Item : ℕ → ℕ → X → Type 0} {c end : ℕ} {xs : List X} → NoNumber c → ItemsBehind t Item c end xs → NoNumber (get_or t end 256)
behind_number {t = t} n (closed {end = end} place s e) = space_no_number t end place s (subst NoNumber (sym e) n)
behind_number {t = t} n (comma {end = end} place next s e w i) = space_no_number t end place s (subst NoNumber (sym e) comma_number)

-- a value in a part of the text, behind its white space
pub record Placed (t : List ℕ) (a b : ℕ) (v : Json) : Type 0 where
  pub place : ℕ
  pub space : Space t a place
  pub stands : ValueAt t place b v

pub placed : (t : List ℕ) (a b d k : ℕ) (z : List ℕ) (v : Json) → d + k ≡ DEPTH → Part t a b z → Value d z v → NoNumber (get_or t b 256) → Placed t a b v
placed t a b d k z v r p q n =
    let s = strip q in
    let m = part_split t a b s.space (s.first ∷ s.others) (record { not_before = p.not_before; inside = p.inside; is = p.is ∙ s.split }) in
    let f = part_first t (a + length s.space) b s.first s.others m.1 in
    let w : is_ws (get_or t (a + length s.space) 256) ≡ false = ap is_ws f.1 ∙ s.no_space in
    record {
      place = a + length s.space;
      space = part_space t a (a + length s.space) s.space m.0 s.is_space w;
      stands = record {
        not_before = m.1.not_before;
        inside = p.inside;
        starts = w;
        is_value = subst (λ zs. Value DEPTH zs v) (sym m.1.is) (deeper_by k d DEPTH (s.first ∷ s.others) v r s.is_value);
        ends = n;
      };
    }

-- the values of an array at their places
pub record Listed {X : Type 0} (t : List ℕ) (Item : ℕ → ℕ → X → Type 0) (c a : ℕ) (xs : List X) : Type 0 where
  pub place : ℕ
  pub space : Space t a place
  pub items : ItemsAt t Item c place xs

values_listed : {d : ℕ} {b : List ℕ} {vs : Values} {v : Json} → ValueList d b vs v → (t : List ℕ) (k p q : ℕ) → d + k ≡ DEPTH → Part t p q b →
    (rest : List Json) → ItemsBehind t (ValueAt t) 93 q rest → Listed t (ValueAt t) 93 p (values_onto vs (v ∷ rest))
values_listed (one_value {d = d} {t = z} {v = v} V) t k p q r m rest i =
    let w = placed t p q d k z v r m V (behind_number square_number i) in
    record { place = w.place; space = w.space; items = item q w.stands i }
values_listed (next_value {d = d} x y z {us = us} {u = u} {v = v} l s V e) t k p q r m rest i =
    let m₁ = part_split t p q x (y ++ z) (record { not_before = m.not_before; inside = m.inside; is = m.is ∙ e }) in
    let m₂ = part_split t (p + length x) q y z m₁.1 in
    let w = placed t (p + length x + length y) q d k z v r m₂.1 V (behind_number square_number i) in
    values_listed l t k p (p + length x) r m₁.0 (v ∷ rest)
    (comma_behind t (ValueAt t) 93 (p + length x) (p + length x + length y) w.place (v ∷ rest) (sign_at t (p + length x) (p + length x + length y) 44 y (no_ws 44 (omega arith)) m₂.0 s) w.space (item q w.stands i))

-- what an opening bracket leads to: its end, or items
pub data Opened {X : Type 0} (t : List ℕ) (Item : ℕ → ℕ → X → Type 0) (c place : ℕ) : List X → Type 0 where
  empty : get_or t place 256 ≡ c → Opened t Item c place []
  filled : {x : X} {xs : List X} → ItemsAt t Item c place (x ∷ xs) → Opened t Item c place (x ∷ xs)

opened_by : {X : Type 0} (t : List ℕ) (Item : ℕ → ℕ → X → Type 0) (c g h : ℕ) (xs : List X) → (y : X) × (ys : List X) × (xs ≡ y ∷ ys) → g ≡ h → ItemsAt t Item c h xs → Opened t Item c g xs
opened_by t Item c g h xs s e i =
    subst (Opened t Item c g) (sym s.2) (filled (subst (λ zs. ItemsAt t Item c g zs) s.2 (subst (λ j. ItemsAt t Item c j xs) (sym e) i)))

-- from the brackets of a list in the grammar to their places, and to those of its items
module _ {X : Type 0} (t : List ℕ) (Item : ℕ → ℕ → X → Type 0) (x c at end g : ℕ) (u : is_ws x ≡ false) (w : is_ws c ≡ false) (n : is_ws (get_or t at 256) ≡ false) (s : Space t (at + 1) g) where
  pub empty_opened : (a b z : List ℕ) → z ≡ a ++ b → Structural x a → Structural c b → Part t at end z → Opened t Item c g []
  empty_opened a b z e p q m =
      let m₁ = part_split t at end a b (record { not_before = m.not_before; inside = m.inside; is = m.is ∙ e }) in
      let o = bracket_at t at (at + length a) x a u m₁.0 p n in
      let i = sign_at t (at + length a) end c b w m₁.1 q in
      let j : g ≡ i.place = space_once t (at + 1) g i.place s (space_join t (at + 1) (at + length a) i.place o.0 o.1 i.before) in
      empty (ap (λ k. get_or t k 256) j ∙ i.here)

  pub filled_opened : (xs : List X) → (y : X) × (ys : List X) × (xs ≡ y ∷ ys) → (a b d z : List ℕ) → z ≡ a ++ (b ++ d) → Structural x a → Structural c d → Part t at end z →
      ((i j : ℕ) → Part t i j b → ItemsBehind t Item c j [] → Listed t Item c i xs) → Opened t Item c g xs
  filled_opened xs some a b d z e p q m f =
      let m₁ = part_split t at end a (b ++ d) (record { not_before = m.not_before; inside = m.inside; is = m.is ∙ e }) in
      let m₂ = part_split t (at + length a) end b d m₁.1 in
      let o = bracket_at t at (at + length a) x a u m₁.0 p n in
      let i = sign_at t (at + length a + length b) end c d w m₂.1 q in
      let l = f (at + length a) (at + length a + length b) m₂.0 (closed i.place i.before i.here) in
      opened_by t Item c g l.place xs some (space_once t (at + 1) g l.place s (space_join t (at + 1) (at + length a) l.place o.0 o.1 l.space)) l.items

-- a list is what was put before others
onto_some : (vs : Values) (v : Json) (rest : List Json) → (w : Json) × (ws : List Json) × (values_onto vs (v ∷ rest) ≡ w ∷ ws)
onto_some no_values v rest = (v, rest, refl)
onto_some (values us u) v rest = onto_some us u (v ∷ rest)

array_opened : {d : ℕ} {b : List ℕ} {v : Json} → Value d b v → (t : List ℕ) (k at end g : ℕ) → d + k ≡ DEPTH → Part t at end b → is_ws (get_or t at 256) ≡ false → First v (get_or t at 256) → get_or t at 256 ≡ 91 →
    Space t (at + 1) g → Opened t (ValueAt t) 93 g (elements v)
array_opened (is_false e) t k at end g r m n f h s = absurd (omega arith)
array_opened (is_null e) t k at end g r m n f h s = absurd (omega arith)
array_opened (is_true e) t k at end g r m n f h s = absurd (omega arith)
array_opened (is_number u) t k at end g r m n f h s = absurd (⊎_elim (λ e. omega arith) (λ d. omega (arith, digit_bounds (get_or t at 256) d)) f)
array_opened (is_string u) t k at end g r m n f h s = absurd (omega arith)
array_opened (is_empty_object a b p q e) t k at end g r m n f h s = absurd (omega arith)
array_opened (is_object a b c p l q e) t k at end g r m n f h s = absurd (omega arith)
array_opened (is_empty_array {t = z} a b p q e) t k at end g r m n f h s = empty_opened t (ValueAt t) 91 93 at end g (no_ws 91 (omega arith)) (no_ws 93 (omega arith)) n s a b z e p q m
array_opened (is_array {t = z} a b c {vs = vs} {v = v} p l q e) t k at end g r m n f h s =
    filled_opened t (ValueAt t) 91 93 at end g (no_ws 91 (omega arith)) (no_ws 93 (omega arith)) n s (values_onto vs (v ∷ [])) (onto_some vs v []) a b c z e p q m
    (λ i j o y. values_listed l t (k + 1) i j (omega arith) o [] y)

pub array_opens_to : (t : List ℕ) (at end g : ℕ) (v : Json) → ValueAt t at end v → get_or t at 256 ≡ 91 → Space t (at + 1) g → Opened t (ValueAt t) 93 g (elements v)
array_opens_to t at end g v p h s =
    array_opened p.is_value t 0 at end g (omega arith) (record { not_before = p.not_before; inside = p.inside; is = refl }) p.starts (value_first t at end v p).1 h s

-- the first place of what was opened
pub first_found : (t : List ℕ) (g : ℕ) (xs : List Json) → Opened t (ValueAt t) 93 g xs → get_or t g 256 ≡ 93 → Found t (ValueAt t) 93 None xs
first_found t g xs (empty e) h = tt
first_found t g xs (filled (item end p i)) h = not_closing _ (get_or t g 256) (value_first t g end _ p).1 h

pub first_place : {X : Type 0} (t : List ℕ) (Item : ℕ → ℕ → X → Type 0) (c g : ℕ) (xs : List X) → Opened t Item c g xs → (get_or t g 256 ≡ c → ⊥) → Found t Item c (Some g) xs
first_place t Item c g xs (empty e) h = h e
first_place t Item c g xs (filled i) h = i

-- a value that is read stands up to its white space
pub value_stands : (t : List ℕ) (a b : ℕ) → is_ws (get_or t a 256) ≡ false → is_ws (get_or t b 256) ≡ false → NoNumber (get_or t b 256) → Reads (Spaced (AnyValue DEPTH)) want have (Room DEPTH) t a b →
    (end : ℕ) × (v : Json) × ValueAt t a end v × Space t end b
value_stands t a b w z n r =
    let s = r.rule in
    let m = part_split t a b s.inner s.space (record { not_before = r.not_before; inside = r.inside; is = s.split }) in
    let g = part_space t (a + length s.inner) b s.space m.1 s.is_space z in (
      a + length s.inner,
      s.is_inner.0,
      record {
        not_before = m.0.not_before;
        inside = m.0.inside;
        starts = w;
        is_value = subst (λ zs. Value DEPTH zs s.is_inner.0) (sym m.0.is) s.is_inner.1;
        ends = space_no_number t (a + length s.inner) b g n;
      },
      g,
    )

-- the value of a whole text stands where its white space ends
end_number : NoNumber 256
unfolding is_digit is_e
end_number = record { no_digit = refl; no_point = refl; no_e = refl }

pub text_stands : (t : List ℕ) (a b : ℕ) → b ≡ length t → Space t 0 a → Reads (Spaced (AnyValue DEPTH)) want have (Room DEPTH) t a b →
    (v : Json) × (end : ℕ) × Text DEPTH t v × ValueAt t a end v
text_stands t a b e w r =
    let s = r.rule in
    let m = part_split t a b s.inner s.space (record { not_before = r.not_before; inside = r.inside; is = s.split }) in
    let z : is_ws (get_or t b 256) ≡ false = ap is_ws (get_or_past t b 256 (omega arith)) ∙ (no_ws 256 (omega arith)) in
    let g = part_space t (a + length s.inner) b s.space m.1 s.is_space z in (
      s.is_inner.0,
      a + length s.inner,
      record {
        before = between 0 a t;
        inner = s.inner;
        after = s.space;
        before_ws = w.pass;
        is_value = s.is_inner.1;
        after_ws = s.is_space;
        split = sym (take_all (b - 0) t (omega arith)) ∙ between_join t 0 a b (omega arith) r.not_before ∙ ap (λ zs. between 0 a t ++ zs) s.split;
      },
      record {
        not_before = m.0.not_before;
        inside = m.0.inside;
        starts = w.stops;
        is_value = subst (λ zs. Value DEPTH zs s.is_inner.0) (sym m.0.is) s.is_inner.1;
        ends = space_no_number t (a + length s.inner) b g (subst NoNumber (sym (get_or_past t b 256 (omega arith))) end_number);
      },
    )

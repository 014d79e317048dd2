-- Parts of a text by their places: splitting one, the white space before a value, and one depth for all.
use Rattle.std.proofs.Common.{◌≡◌, ℕ, zero, suc, ◌+◌, ◌-◌, ◌<◌, ◌≤◌, Bool, true, false, ◌⊎◌, List, [], ◌∷◌, ◌++◌, length, get_or, take, drop, sym, refl, ap, ◌∙◌, subst, inl, inr, ⊎_elim, arith}
use Rattle.std.specs.List.{between}
use Rattle.std.proofs.lemmas.List.{append_assoc, take_at, drop_at, length-append}
use Rattle.std.proofs.lemmas.List.Edits.{length-between, between_more}
use Rattle.std.proofs.lemmas.Bool.{ne_eqb, and_parts, and_from, cases_lt, true≢false}
use Rattle.json_text.specs.Json.{all, is_ws, Ws, Structural, Optional, Minus, Number, Json, Value, ValueList, MemberList, Member, Values, Members, is_false, is_null, is_true, is_number, is_string, is_empty_object, is_object, is_empty_array, is_array, one_value, next_value, one_member, next_member, member}
use Rattle.json_text.specs.Standing.{NoNumber, Space}
use Rattle.json_text.proofs.StepLaws.{no_ws, digit_no_ws}
use Rattle.json_text.proofs.Runs.{between_join, between_one, all_none, all_more}
use Rattle.json_text.proofs.Accepts.{ws_below, small_no_digit, low_no_e, int_first}

-- a part of a text, from a place to another
pub record Part (t : List ℕ) (a b : ℕ) (xs : List ℕ) : Type 0 where
  pub not_before : a ≤ b
  pub inside : b ≤ length t
  pub is : between a b t ≡ xs

-- it splits where its bytes split
pub part_split : (t : List ℕ) (a b : ℕ) (xs ys : List ℕ) → Part t a b (xs ++ ys) → Part t a (a + length xs) xs × Part t (a + length xs) b ys
part_split t a b xs ys p =
    let n : b - a ≡ length xs + length ys = sym (length-between t a b p.inside) ∙ ap length p.is ∙ length-append xs ys in
    let pn = p.not_before in
    let pi = p.inside in
    let l : a + length xs ≤ b = omega arith in
    let m : a ≤ a + length xs = omega arith in
    let i : a + length xs ≤ length t = omega arith in
    let k : length (between a (a + length xs) t) ≡ length xs = length-between t a (a + length xs) i ∙ omega arith in
    let j = between_join t a (a + length xs) b m l in
    let e : between a (a + length xs) t ++ between (a + length xs) b t ≡ xs ++ ys = sym j ∙ p.is in (
      record { not_before = m; inside = i; is = sym (take_at (between a (a + length xs) t) (between (a + length xs) b t) (length xs) k) ∙ ap (take (length xs)) e ∙ take_at xs ys (length xs) refl },
      record { not_before = l; inside = pi; is = sym (drop_at (between a (a + length xs) t) (between (a + length xs) b t) (length xs) k) ∙ ap (drop (length xs)) e ∙ drop_at xs ys (length xs) refl },
    )

cons_first : (x y : ℕ) (xs ys : List ℕ) → x ∷ xs ≡ y ∷ ys → x ≡ y
cons_first x y xs ys e = cc

-- its first byte stands at its place
pub part_first : (t : List ℕ) (a b : ℕ) (x : ℕ) (xs : List ℕ) → Part t a b (x ∷ xs) → (a < length t) × (get_or t a 256 ≡ x) × Part t (a + 1) b xs
part_first t a b x xs p =
    let q = part_split t a b (x ∷ []) xs p in
    let l : a < length t = omega (arith, q.0.inside) in
    (l, cons_first (get_or t a 256) x [] [] (sym (between_one t a l) ∙ q.0.is), q.1)

-- nothing is no part
pub part_empty : (t : List ℕ) (a b : ℕ) → Part t a b [] → a ≡ b
part_empty t a b p =
    let n = length-between t a b p.inside in
    let m = ap length p.is in
    let l = p.not_before in
    omega arith

-- white space in a part, and behind it none
pub part_space : (t : List ℕ) (a b : ℕ) (w : List ℕ) → Part t a b w → Ws w → is_ws (get_or t b 256) ≡ false → Space t a b
part_space t a b w p h s = record { not_before = p.not_before; inside = p.inside; pass = subst Ws (sym p.is) h; stops = s }

pub all_append : (test : ℕ → Bool) (xs ys : List ℕ) → all test xs ≡ true → all test ys ≡ true → all test (xs ++ ys) ≡ true
unfolding all
all_append test [] ys h k = k
all_append test (x ∷ xs) ys h k = let p = and_parts (test x) (all test xs) h in and_from (test x) (all test (xs ++ ys)) p.0 (all_append test xs ys p.1 k)

-- one byte more of a part that passes the test
pub pass_more : (test : ℕ → Bool) (t : List ℕ) (a i : ℕ) → a ≤ i → i < length t → all test (between a i t) ≡ true → test (get_or t i 256) ≡ true → all test (between a (i + 1) t) ≡ true
pass_more test t a i l m h k =
    ap (all test) (between_more t a i 256 l m) ∙ all_append test (between a i t) (get_or t i 256 ∷ []) h (all_more test (get_or t i 256) [] k (all_none test))

all_back : (test : ℕ → Bool) (xs ys : List ℕ) → all test (xs ++ ys) ≡ true → all test ys ≡ true
unfolding all
all_back test [] ys h = h
all_back test (x ∷ xs) ys h = all_back test xs ys (and_parts (test x) (all test (xs ++ ys)) h).1

-- two runs of white space
pub space_join : (t : List ℕ) (a b c : ℕ) → a ≤ b → Ws (between a b t) → Space t b c → Space t a c
space_join t a b c l h s = record {
  not_before = omega (arith, s.not_before);
  inside = s.inside;
  pass = ap (all is_ws) (between_join t a b c l s.not_before) ∙ all_append is_ws (between a b t) (between b c t) h s.pass;
  stops = s.stops;
}

-- where white space begins: it is none, or its first byte is white
pub space_first : (t : List ℕ) (a b : ℕ) → Space t a b → (a ≡ b) ⊎ (is_ws (get_or t a 256) ≡ true)
unfolding all
space_first t a b s = go (between a b t) refl
  where
    go : (w : List ℕ) → between a b t ≡ w → (a ≡ b) ⊎ (is_ws (get_or t a 256) ≡ true)
    go [] e = inl (part_empty t a b (record { not_before = s.not_before; inside = s.inside; is = e }))
    go (x ∷ w) e =
        let p = part_first t a b x w (record { not_before = s.not_before; inside = s.inside; is = e }) in
        inr (ap is_ws p.1 ∙ (and_parts (is_ws x) (all is_ws w) (ap (all is_ws) (sym e) ∙ s.pass)).0)

-- the white space at a place ends at one place
pub space_once : (t : List ℕ) (a b c : ℕ) → Space t a b → Space t a c → b ≡ c
space_once t a b c p q =
    ⊎_elim (λ l. absurd (shorter b c p q l)) (λ l. ⊎_elim (λ m. absurd (shorter c b q p m)) (λ m. omega arith) (cases_lt c b)) (cases_lt b c)
  where
    shorter : (x y : ℕ) → Space t a x → Space t a y → x < y → ⊥
    shorter x y r s l =
        let e : all is_ws (between x y t) ≡ true = all_back is_ws (between a x t) (between x y t) (ap (all is_ws) (sym (between_join t a x y r.not_before (omega arith))) ∙ s.pass) in
        ⊎_elim (λ h. omega arith) (λ h. true≢false (sym h ∙ r.stops))
        (space_first t x y (record { not_before = omega arith; inside = s.inside; pass = e; stops = s.stops }))

-- symbols that continue no number
pub ws_no_number : (x : ℕ) → is_ws x ≡ true → NoNumber x
ws_no_number x h = let l = ws_below x h in record { no_digit = small_no_digit x (omega arith); no_point = ne_eqb x 46 (λ q. omega arith); no_e = low_no_e x (omega arith) }

pub space_no_number : (t : List ℕ) (a b : ℕ) → Space t a b → NoNumber (get_or t b 256) → NoNumber (get_or t a 256)
space_no_number t a b s n = ⊎_elim (λ e. subst (λ i. NoNumber (get_or t i 256)) (sym e) n) (λ h. ws_no_number (get_or t a 256) h) (space_first t a b s)

-- a value may have more brackets open
mutual
  deeper : {d : ℕ} {t : List ℕ} {v : Json} → Value d t v → Value (suc d) t v
  deeper (is_false e) = is_false e
  deeper (is_null e) = is_null e
  deeper (is_true e) = is_true e
  deeper (is_number n) = is_number n
  deeper (is_string s) = is_string s
  deeper (is_empty_object a b p q e) = is_empty_object a b p q e
  deeper (is_object a b c p l q e) = is_object a b c p (deeper_members l) q e
  deeper (is_empty_array a b p q e) = is_empty_array a b p q e
  deeper (is_array a b c p l q e) = is_array a b c p (deeper_values l) q e

  deeper_values : {d : ℕ} {t : List ℕ} {vs : Values} {v : Json} → ValueList d t vs v → ValueList (suc d) t vs v
  deeper_values (one_value p) = one_value (deeper p)
  deeper_values (next_value a b c l s p e) = next_value a b c (deeper_values l) s (deeper p) e

  deeper_members : {d : ℕ} {t : List ℕ} {ms : Members} {k : List ℕ} {v : Json} → MemberList d t ms k v → MemberList (suc d) t ms k v
  deeper_members (one_member m) = one_member (deeper_member m)
  deeper_members (next_member a b c l s m e) = next_member a b c (deeper_members l) s (deeper_member m) e

  deeper_member : {d : ℕ} {t : List ℕ} {k : List ℕ} {v : Json} → Member d t k v → Member (suc d) t k v
  deeper_member (member a b c s n p e) = member a b c s n (deeper p) e

pub deeper_by : (k d e : ℕ) (t : List ℕ) (v : Json) → d + k ≡ e → Value d t v → Value e t v
deeper_by zero d e t v h p = subst (λ n. Value n t v) (omega arith) p
deeper_by (suc k) d e t v h p = deeper_by k (suc d) e t v (omega arith) (deeper p)

-- a value without the white space before it
pub record Stripped (d : ℕ) (t : List ℕ) (v : Json) : Type 0 where
  pub space : List ℕ
  pub first : ℕ
  pub others : List ℕ
  pub is_space : Ws space
  pub is_value : Value d (first ∷ others) v
  pub no_space : is_ws first ≡ false
  pub split : t ≡ space ++ first ∷ others

plainly : {d : ℕ} {t : List ℕ} {v : Json} (x : ℕ) (xs : List ℕ) → t ≡ x ∷ xs → is_ws x ≡ false → Value d t v → Stripped d t v
plainly {d = d} {t = t} {v = v} x xs e h p =
    record { space = []; first = x; others = xs; is_space = all_none is_ws; is_value = subst (λ zs. Value d zs v) e p; no_space = h; split = e }

number_first : (t : List ℕ) → Number t → (x : ℕ) × (xs : List ℕ) × (is_ws x ≡ false) × (t ≡ x ∷ xs)
number_first t n = go n.minus n.is_minus refl
  where
    go : (m : List ℕ) → Optional Minus m → m ≡ n.minus → (x : ℕ) × (xs : List ℕ) × (is_ws x ≡ false) × (t ≡ x ∷ xs)
    go m (inl e) q =
        let f = int_first n.int n.is_int in
        (f.0, f.1 ++ (n.frac ++ n.exp), digit_no_ws f.0 f.2, n.split ∙ ap (λ zs. zs ++ (n.int ++ (n.frac ++ n.exp))) (sym q ∙ e) ∙ ap (λ zs. zs ++ (n.frac ++ n.exp)) f.3)
    go m (inr e) q = (45, n.int ++ (n.frac ++ n.exp), (no_ws 45 (omega arith)), n.split ∙ ap (λ zs. zs ++ (n.int ++ (n.frac ++ n.exp))) (sym q ∙ e))

-- the bracket without the white space before it
unspaced : (c : ℕ) (a : List ℕ) (s : Structural c a) → Structural c (c ∷ s.after)
unspaced c a s = record { before = []; after = s.after; before_ws = all_none is_ws; after_ws = s.after_ws; split = refl }

from_bracket : {d : ℕ} {t : List ℕ} {v : Json} (c : ℕ) (a rest : List ℕ) → 32 < c → (p : Structural c a) → t ≡ a ++ rest → Value d (c ∷ (p.after ++ rest)) v → Stripped d t v
from_bracket c a rest l p e v = record {
  space = p.before;
  first = c;
  others = p.after ++ rest;
  is_space = p.before_ws;
  is_value = v;
  no_space = no_ws c l;
  split = e ∙ ap (λ zs. zs ++ rest) p.split ∙ append_assoc p.before (c ∷ p.after) rest;
}

pub strip : {d : ℕ} {t : List ℕ} {v : Json} → Value d t v → Stripped d t v
strip (is_false e) = plainly 102 (97 ∷ 108 ∷ 115 ∷ 101 ∷ []) e (no_ws 102 (omega arith)) (is_false e)
strip (is_null e) = plainly 110 (117 ∷ 108 ∷ 108 ∷ []) e (no_ws 110 (omega arith)) (is_null e)
strip (is_true e) = plainly 116 (114 ∷ 117 ∷ 101 ∷ []) e (no_ws 116 (omega arith)) (is_true e)
strip (is_number {t = t} n) = let f = number_first t n in plainly f.0 f.1 f.3 f.2 (is_number n)
strip (is_string s) = plainly 34 (s.chars ++ 34 ∷ []) s.split (no_ws 34 (omega arith)) (is_string s)
strip (is_empty_object a b p q e) = from_bracket 123 a b (omega arith) p e (is_empty_object (123 ∷ p.after) b (unspaced 123 a p) q refl)
strip (is_object a b c p l q e) = from_bracket 123 a (b ++ c) (omega arith) p e (is_object (123 ∷ p.after) b c (unspaced 123 a p) l q refl)
strip (is_empty_array a b p q e) = from_bracket 91 a b (omega arith) p e (is_empty_array (91 ∷ p.after) b (unspaced 91 a p) q refl)
strip (is_array a b c p l q e) = from_bracket 91 a (b ++ c) (omega arith) p e (is_array (91 ∷ p.after) b c (unspaced 91 a p) l q refl)

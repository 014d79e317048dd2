-- One text has one value: a fold over the bytes builds the value of every text of the grammar.
-- It builds some value of other bytes too, of which nothing is said.
use Rattle.std.proofs.Common.{◌≡◌, ℕ, ◌<◌, ◌≤◌, Bool, true, false, cond, eqb, ◌⊎◌, List, [], ◌∷◌, ◌++◌, sym, refl, ap, ◌∙◌, subst, inl, inr, ⊎_elim, arith}
use Rattle.std.proofs.lemmas.List.{append-nil, append_assoc}
use Rattle.std.proofs.lemmas.Bool.{eqb-true, ne_eqb, and_parts, or_cases}
use Rattle.json_string.specs.Decoded.{decoded}
use Rattle.json_string.specs.Machine.{StringState, string_step, string_run, alive, plain, wanted, escape, code, code_d, closed, broken}
use Rattle.json_string.proofs.Complete.{chars_read}
use Rattle.json_string.proofs.Decoding.{chars_decoded}
use Rattle.json_string.proofs.Running.{alive_before}
use Rattle.json_text.specs.Json
use Rattle.json_text.specs.Json.{all, is_ws, is_digit, is_e, is_sign, Structural, Optional, Digits, Int, Frac, Exp, Sign, Minus, Number, String, Values, no_values, values, Members, no_members, members, Value, ValueList, MemberList, Member, Text, false_name, null_name, true_name, object, array, number, string, is_false, is_null, is_true, is_number, is_string, is_empty_object, is_object, is_empty_array, is_array, one_value, next_value, one_member, next_member, member}
use Rattle.json_text.specs.Fold.{Frame, in_array, in_object, in_member, Built, next, in_string, value, close_array, close_object, comma, name_of, colon, empty, chars, build, built}
use Rattle.std.specs.List.{between}
use Rattle.json_text.specs.Standing.{ValueAt}
use Rattle.json_text.proofs.Runs.{between_join}
use Rattle.json_text.proofs.StepLaws.{digit_bounds, digit_no_ws}
use Rattle.json_text.proofs.Accepts.{ws_below, digit1_9_digit}
use Rattle.json_text.specs.declared.texts.TheConstants.{DEPTH}

built_append : (s : Built) (xs ys : List ℕ) → built s (xs ++ ys) ≡ built (built s xs) ys
unfolding built
built_append s [] ys = refl
built_append s (x ∷ xs) ys = built_append (build s x) xs ys

built_more : (s : Built) (x : ℕ) (xs : List ℕ) → built s (x ∷ xs) ≡ built (build s x) xs
unfolding built
built_more s x xs = refl

built_none : (s : Built) → built s [] ≡ s
unfolding built
built_none s = refl

-- bytes that leave the state as it is
built_all : (test : ℕ → Bool) (s : Built) → ((x : ℕ) → test x ≡ true → build s x ≡ s) → (xs : List ℕ) → all test xs ≡ true → built s xs ≡ s
unfolding all
built_all test s h [] a = built_none s
built_all test s h (x ∷ xs) a =
    let p = and_parts (test x) (all test xs) a in
    built_more s x xs ∙ ap (λ q. built q xs) (h x p.0) ∙ built_all test s h xs p.1

-- two parts, and three
then : (s s' s'' : Built) (t a b : List ℕ) → t ≡ a ++ b → built s a ≡ s' → built s' b ≡ s'' → built s t ≡ s''
then s s' s'' t a b e p q = ap (built s) e ∙ built_append s a b ∙ ap (λ r. built r b) p ∙ q

-- symbols that a value passes over
passes : (v : Json.Json) (σ : List Frame) (x : ℕ) → (x ≡ 44 → ⊥) → (x ≡ 93 → ⊥) → (x ≡ 125 → ⊥) → (x ≡ 58 → ⊥) → build (value v σ) x ≡ value v σ
unfolding build
passes v σ x a b c d = rw (ne_eqb x 44 a, ne_eqb x 93 b, ne_eqb x 125 c, ne_eqb x 58 d)

value_ws : (v : Json.Json) (σ : List Frame) (x : ℕ) → is_ws x ≡ true → build (value v σ) x ≡ value v σ
value_ws v σ x h = let l = ws_below x h in passes v σ x (λ q. omega arith) (λ q. omega arith) (λ q. omega arith) (λ q. omega arith)

value_digit : (v : Json.Json) (σ : List Frame) (x : ℕ) → is_digit x ≡ true → build (value v σ) x ≡ value v σ
value_digit v σ x h = let l = digit_bounds x h in passes v σ x (λ q. omega arith) (λ q. omega arith) (λ q. omega arith) (λ q. omega arith)

next_ws : (σ : List Frame) (x : ℕ) → is_ws x ≡ true → build (next σ) x ≡ next σ
unfolding build
next_ws σ x h = rw h

-- a structural character between white space
structural : (c : ℕ) (s s' : Built) (t : List ℕ) → ((x : ℕ) → is_ws x ≡ true → build s x ≡ s) → build s c ≡ s' → ((x : ℕ) → is_ws x ≡ true → build s' x ≡ s') → Structural c t → built s t ≡ s'
structural c s s' t h k i p =
    then s s s' t p.before (c ∷ p.after) p.split (built_all is_ws s h p.before p.before_ws)
    (built_more s c p.after ∙ ap (λ q. built q p.after) k ∙ built_all is_ws s' i p.after p.after_ws)

-- strings
alive_chars : (q : StringState) (a : List ℕ) (x : ℕ) (σ : List Frame) → alive q ≡ true → chars q a x σ ≡ in_string q (a ++ x ∷ []) σ
unfolding chars
alive_chars plain a x σ h = refl
alive_chars (wanted cs) a x σ h = refl
alive_chars escape a x σ h = refl
alive_chars code a x σ h = refl
alive_chars code_d a x σ h = refl
alive_chars closed a x σ h = absurd (Rattle.std.proofs.lemmas.Bool.false≢true h)
alive_chars broken a x σ h = refl

build_char : (q : StringState) (a : List ℕ) (x : ℕ) (σ : List Frame) → alive (string_step q x) ≡ true → build (in_string q a σ) x ≡ in_string (string_step q x) (a ++ x ∷ []) σ
unfolding build
build_char q a x σ h = alive_chars (string_step q x) a x σ h

string_builds : (q : StringState) (a xs : List ℕ) (σ : List Frame) → alive (string_run q xs) ≡ true → built (in_string q a σ) xs ≡ in_string (string_run q xs) (a ++ xs) σ
unfolding string_run
string_builds q a [] σ h = built_none (in_string q a σ) ∙ ap (λ zs. in_string q zs σ) (sym (append-nil a))
string_builds q a (x ∷ xs) σ h =
    built_more (in_string q a σ) x xs
    ∙ ap (λ r. built r xs) (build_char q a x σ (alive_before (string_step q x) xs h))
    ∙ string_builds (string_step q x) (a ++ x ∷ []) xs σ h
    ∙ ap (λ zs. in_string (string_run (string_step q x) xs) zs σ) (append_assoc a (x ∷ []) xs)

quote_opens : (σ : List Frame) → build (next σ) 34 ≡ in_string plain [] σ
unfolding build is_ws
quote_opens σ = refl

quote_closes : (a : List ℕ) (σ : List Frame) → build (in_string plain a σ) 34 ≡ value (string (decoded a)) σ
unfolding build chars string_step
quote_closes a σ = refl

string_value : (σ : List Frame) (t d : List ℕ) → String t d → built (next σ) t ≡ value (string d) σ
string_value σ t d p =
    let e = chars_read p.chars d p.are_chars in
    ap (built (next σ)) p.split ∙ built_more (next σ) 34 (p.chars ++ 34 ∷ []) ∙ ap (λ r. built r (p.chars ++ 34 ∷ [])) (quote_opens σ)
    ∙ then (in_string plain [] σ) (in_string plain p.chars σ) (value (string d) σ) (p.chars ++ 34 ∷ []) p.chars (34 ∷ []) refl
    (string_builds plain [] p.chars σ (ap alive e) ∙ ap (λ r. in_string r p.chars σ) e)
    (built_more (in_string plain p.chars σ) 34 [] ∙ built_none (build (in_string plain p.chars σ) 34) ∙ quote_closes p.chars σ ∙ ap (λ s. value (string s) σ) (chars_decoded p.chars d p.are_chars))

-- numbers: the first symbol begins the value, which passes over the others
minus_begins : (σ : List Frame) → build (next σ) 45 ≡ value number σ
unfolding build is_ws
minus_begins σ = refl

digit_begins : (σ : List Frame) (x : ℕ) → is_digit x ≡ true → build (next σ) x ≡ value number σ
unfolding build
digit_begins σ x h =
    let b = digit_bounds x h in
    rw (
      digit_no_ws x h,
      ne_eqb x 34 (λ q. omega arith),
      ne_eqb x 91 (λ q. omega arith),
      ne_eqb x 123 (λ q. omega arith),
      ne_eqb x 93 (λ q. omega arith),
      ne_eqb x 125 (λ q. omega arith),
      ne_eqb x 116 (λ q. omega arith),
      ne_eqb x 102 (λ q. omega arith),
      ne_eqb x 110 (λ q. omega arith),
    )

module _ (σ : List Frame) where
  abbrev num : Built
  num = value number σ

  one : (x : ℕ) (t : List ℕ) → build num x ≡ num → built num t ≡ num → built num (x ∷ t) ≡ num
  one x t h k = built_more num x t ∙ ap (λ r. built r t) h ∙ k

  digits : (t : List ℕ) → Digits t → built num t ≡ num
  digits t d = ap (built num) d.split ∙ one d.first d.others (value_digit number σ d.first d.first_digit) (built_all is_digit num (value_digit number σ) d.others d.other_digits)

  optional : (R : List ℕ → Type 0) (t : List ℕ) → ((x : List ℕ) → R x → built num x ≡ num) → Optional R t → built num t ≡ num
  optional R t f (inl n) = ap (built num) n ∙ built_none num
  optional R t f (inr r) = f t r

  frac : (t : List ℕ) → Frac t → built num t ≡ num
  frac t f = ap (built num) f.split ∙ one 46 f.digits (passes number σ 46 (λ q. omega arith) (λ q. omega arith) (λ q. omega arith) (λ q. omega arith)) (digits f.digits f.are_digits)

  sign : (t : List ℕ) → Sign t → built num t ≡ num
  unfolding is_sign
  sign t s =
      let k : (s.0 ≡ 45) ⊎ (s.0 ≡ 43) = ⊎_elim (λ p. inl (eqb-true s.0 45 p)) (λ p. inr (eqb-true s.0 43 p)) (or_cases (eqb s.0 45) (eqb s.0 43) s.1) in
      let l : s.0 ≤ 45 = ⊎_elim (λ (p : s.0 ≡ 45). omega arith) (λ (p : s.0 ≡ 43). omega arith) k in
      let m : s.0 ≡ 44 → ⊥ = λ q. ⊎_elim (λ (p : s.0 ≡ 45). omega arith) (λ (p : s.0 ≡ 43). omega arith) k in
      ap (built num) s.2 ∙ one s.0 [] (passes number σ s.0 m (λ q. omega arith) (λ q. omega arith) (λ q. omega arith)) (built_none num)

  exp : (t : List ℕ) → Exp t → built num t ≡ num
  unfolding is_e
  exp t x =
      let k : (x.e ≡ 101) ⊎ (x.e ≡ 69) = ⊎_elim (λ p. inl (eqb-true x.e 101 p)) (λ p. inr (eqb-true x.e 69 p)) (or_cases _ _ x.is_an_e) in
      let not : (n : ℕ) → (101 ≡ n → ⊥) → (69 ≡ n → ⊥) → x.e ≡ n → ⊥ = λ n a b q. ⊎_elim (λ p. a (sym p ∙ q)) (λ p. b (sym p ∙ q)) k in
      ap (built num) x.split
      ∙ one x.e (x.sign ++ x.digits)
      (passes number σ x.e (not 44 (λ q. omega arith) (λ q. omega arith)) (not 93 (λ q. omega arith) (λ q. omega arith)) (not 125 (λ q. omega arith) (λ q. omega arith)) (not 58 (λ q. omega arith) (λ q. omega arith)))
      (then num num num (x.sign ++ x.digits) x.sign x.digits refl (optional Sign x.sign sign x.has_sign) (digits x.digits x.are_digits))

  int_begins : (t : List ℕ) → Int t → built (next σ) t ≡ num
  unfolding is_digit
  int_begins t (inl z) = ap (built (next σ)) z ∙ built_more (next σ) 48 [] ∙ built_none (build (next σ) 48) ∙ digit_begins σ 48 refl
  int_begins t (inr c) =
      ap (built (next σ)) c.split ∙ built_more (next σ) c.first c.others
      ∙ ap (λ r. built r c.others) (digit_begins σ c.first (digit1_9_digit c.first c.first_digit).0)
      ∙ built_all is_digit num (value_digit number σ) c.others c.other_digits

  int : (t : List ℕ) → Int t → built num t ≡ num
  unfolding is_digit
  int t (inl z) = ap (built num) z ∙ one 48 [] (value_digit number σ 48 refl) (built_none num)
  int t (inr c) =
      ap (built num) c.split
      ∙ one c.first c.others (value_digit number σ c.first (digit1_9_digit c.first c.first_digit).0) (built_all is_digit num (value_digit number σ) c.others c.other_digits)

  signed_int : (a b : List ℕ) → Optional Minus a → Int b → built (next σ) (a ++ b) ≡ num
  signed_int a b (inl n) i = ap (λ zs. built (next σ) (zs ++ b)) n ∙ int_begins b i
  signed_int a b (inr m) i =
      ap (λ zs. built (next σ) (zs ++ b)) m ∙ built_more (next σ) 45 b ∙ ap (λ r. built r b) (minus_begins σ) ∙ int b i

  number_value : (t : List ℕ) → Number t → built (next σ) t ≡ num
  number_value t n =
      then (next σ) num num t (n.minus ++ n.int) (n.frac ++ n.exp) (n.split ∙ sym (append_assoc n.minus n.int (n.frac ++ n.exp)))
      (signed_int n.minus n.int n.is_minus n.is_int)
      (then num num num (n.frac ++ n.exp) n.frac n.exp refl (optional Frac n.frac frac n.is_frac) (optional Exp n.exp exp n.is_exp))

-- the steps of arrays and objects
opens_array : (σ : List Frame) → build (next σ) 91 ≡ next (in_array no_values ∷ σ)
unfolding build is_ws
opens_array σ = refl

opens_object : (σ : List Frame) → build (next σ) 123 ≡ next (in_object no_members ∷ σ)
unfolding build is_ws
opens_object σ = refl

empty_array : (σ : List Frame) → build (next (in_array no_values ∷ σ)) 93 ≡ value (array no_values) σ
unfolding build is_ws empty
empty_array σ = refl

empty_object : (σ : List Frame) → build (next (in_object no_members ∷ σ)) 125 ≡ value (object no_members) σ
unfolding build is_ws empty
empty_object σ = refl

array_ends : (vs : Values) (v : Json.Json) (σ : List Frame) → build (value v (in_array vs ∷ σ)) 93 ≡ value (array (values vs v)) σ
unfolding build close_array
array_ends vs v σ = refl

array_comma : (vs : Values) (v : Json.Json) (σ : List Frame) → build (value v (in_array vs ∷ σ)) 44 ≡ next (in_array (values vs v) ∷ σ)
unfolding build comma
array_comma vs v σ = refl

object_ends : (ms : Members) (k : List ℕ) (v : Json.Json) (σ : List Frame) → build (value v (in_member ms k ∷ σ)) 125 ≡ value (object (members ms k v)) σ
unfolding build close_object
object_ends ms k v σ = refl

object_comma : (ms : Members) (k : List ℕ) (v : Json.Json) (σ : List Frame) → build (value v (in_member ms k ∷ σ)) 44 ≡ next (in_object (members ms k v) ∷ σ)
unfolding build comma
object_comma ms k v σ = refl

name_colon : (ms : Members) (k : List ℕ) (σ : List Frame) → build (value (string k) (in_object ms ∷ σ)) 58 ≡ next (in_member ms k ∷ σ)
unfolding build colon name_of
name_colon ms k σ = refl

false_value : (σ : List Frame) → built (next σ) (102 ∷ 97 ∷ 108 ∷ 115 ∷ 101 ∷ []) ≡ value false_name σ
unfolding built build is_ws
false_value σ = refl

null_value : (σ : List Frame) → built (next σ) (110 ∷ 117 ∷ 108 ∷ 108 ∷ []) ≡ value null_name σ
unfolding built build is_ws
null_value σ = refl

true_value : (σ : List Frame) → built (next σ) (116 ∷ 114 ∷ 117 ∷ 101 ∷ []) ≡ value true_name σ
unfolding built build is_ws
true_value σ = refl

mutual
  builds : {d : ℕ} {t : List ℕ} {v : Json.Json} → Value d t v → (σ : List Frame) → built (next σ) t ≡ value v σ
  builds (is_false e) σ = ap (built (next σ)) e ∙ false_value σ
  builds (is_null e) σ = ap (built (next σ)) e ∙ null_value σ
  builds (is_true e) σ = ap (built (next σ)) e ∙ true_value σ
  builds (is_number {t = t} n) σ = number_value σ t n
  builds (is_string {t = t} {s = d} p) σ = string_value σ t d p
  builds (is_empty_object {t = t} a b p q e) σ =
      then (next σ) (next (in_object no_members ∷ σ)) (value (object no_members) σ) t a b e
      (structural 123 (next σ) (next (in_object no_members ∷ σ)) a (next_ws σ) (opens_object σ) (next_ws (in_object no_members ∷ σ)) p)
      (structural 125 (next (in_object no_members ∷ σ)) (value (object no_members) σ) b (next_ws (in_object no_members ∷ σ)) (empty_object σ) (value_ws (object no_members) σ) q)
  builds (is_object {t = t} a b c {ms = ms} {k = k} {v = v} p l q e) σ =
      then (next σ) (next (in_object no_members ∷ σ)) (value (object (members ms k v)) σ) t a (b ++ c) e
      (structural 123 (next σ) (next (in_object no_members ∷ σ)) a (next_ws σ) (opens_object σ) (next_ws (in_object no_members ∷ σ)) p)
      (then (next (in_object no_members ∷ σ)) (value v (in_member ms k ∷ σ)) (value (object (members ms k v)) σ) (b ++ c) b c refl (builds_members l σ)
      (structural 125 (value v (in_member ms k ∷ σ)) (value (object (members ms k v)) σ) c (value_ws v (in_member ms k ∷ σ)) (object_ends ms k v σ) (value_ws (object (members ms k v)) σ) q))
  builds (is_empty_array {t = t} a b p q e) σ =
      then (next σ) (next (in_array no_values ∷ σ)) (value (array no_values) σ) t a b e
      (structural 91 (next σ) (next (in_array no_values ∷ σ)) a (next_ws σ) (opens_array σ) (next_ws (in_array no_values ∷ σ)) p)
      (structural 93 (next (in_array no_values ∷ σ)) (value (array no_values) σ) b (next_ws (in_array no_values ∷ σ)) (empty_array σ) (value_ws (array no_values) σ) q)
  builds (is_array {t = t} a b c {vs = vs} {v = v} p l q e) σ =
      then (next σ) (next (in_array no_values ∷ σ)) (value (array (values vs v)) σ) t a (b ++ c) e
      (structural 91 (next σ) (next (in_array no_values ∷ σ)) a (next_ws σ) (opens_array σ) (next_ws (in_array no_values ∷ σ)) p)
      (then (next (in_array no_values ∷ σ)) (value v (in_array vs ∷ σ)) (value (array (values vs v)) σ) (b ++ c) b c refl (builds_values l σ)
      (structural 93 (value v (in_array vs ∷ σ)) (value (array (values vs v)) σ) c (value_ws v (in_array vs ∷ σ)) (array_ends vs v σ) (value_ws (array (values vs v)) σ) q))

  builds_values : {d : ℕ} {t : List ℕ} {vs : Values} {v : Json.Json} → ValueList d t vs v → (σ : List Frame) → built (next (in_array no_values ∷ σ)) t ≡ value v (in_array vs ∷ σ)
  builds_values (one_value p) σ = builds p (in_array no_values ∷ σ)
  builds_values (next_value {t = t} a b c {us = us} {u = u} {v = v} l s p e) σ =
      then (next (in_array no_values ∷ σ)) (value u (in_array us ∷ σ)) (value v (in_array (values us u) ∷ σ)) t a (b ++ c) e (builds_values l σ)
      (then (value u (in_array us ∷ σ)) (next (in_array (values us u) ∷ σ)) (value v (in_array (values us u) ∷ σ)) (b ++ c) b c refl
      (structural 44 (value u (in_array us ∷ σ)) (next (in_array (values us u) ∷ σ)) b (value_ws u (in_array us ∷ σ)) (array_comma us u σ) (next_ws (in_array (values us u) ∷ σ)) s)
      (builds p (in_array (values us u) ∷ σ)))

  builds_members : {d : ℕ} {t : List ℕ} {ms : Members} {k : List ℕ} {v : Json.Json} → MemberList d t ms k v → (σ : List Frame) → built (next (in_object no_members ∷ σ)) t ≡ value v (in_member ms k ∷ σ)
  builds_members (one_member m) σ = builds_member m no_members σ
  builds_members (next_member {t = t} a b c {ms = ms} {j = j} {k = k} {u = u} {v = v} l s m e) σ =
      then (next (in_object no_members ∷ σ)) (value u (in_member ms j ∷ σ)) (value v (in_member (members ms j u) k ∷ σ)) t a (b ++ c) e (builds_members l σ)
      (then (value u (in_member ms j ∷ σ)) (next (in_object (members ms j u) ∷ σ)) (value v (in_member (members ms j u) k ∷ σ)) (b ++ c) b c refl
      (structural 44 (value u (in_member ms j ∷ σ)) (next (in_object (members ms j u) ∷ σ)) b (value_ws u (in_member ms j ∷ σ)) (object_comma ms j u σ) (next_ws (in_object (members ms j u) ∷ σ)) s)
      (builds_member m (members ms j u) σ))

  builds_member : {d : ℕ} {t : List ℕ} {k : List ℕ} {v : Json.Json} → Member d t k v → (ms : Members) (σ : List Frame) → built (next (in_object ms ∷ σ)) t ≡ value v (in_member ms k ∷ σ)
  builds_member (member {t = t} a b c {k = k} {v = v} p s q e) ms σ =
      then (next (in_object ms ∷ σ)) (value (string k) (in_object ms ∷ σ)) (value v (in_member ms k ∷ σ)) t a (b ++ c) e (string_value (in_object ms ∷ σ) a k p)
      (then (value (string k) (in_object ms ∷ σ)) (next (in_member ms k ∷ σ)) (value v (in_member ms k ∷ σ)) (b ++ c) b c refl
      (structural 58 (value (string k) (in_object ms ∷ σ)) (next (in_member ms k ∷ σ)) b (value_ws (string k) (in_object ms ∷ σ)) (name_colon ms k σ) (next_ws (in_member ms k ∷ σ)) s)
      (builds q (in_member ms k ∷ σ)))

-- where nothing is open, what follows a value changes nothing
whole_stays : (v : Json.Json) (x : ℕ) → build (value v []) x ≡ value v []
unfolding build comma close_array close_object colon
whole_stays v x = same (eqb x 44) (eqb x 93) (eqb x 125) (eqb x 58)
  where
    same : (a b c d : Bool) → cond a (value v []) (cond b (value v []) (cond c (value v []) (cond d (value v []) (value v [])))) ≡ value v []
    same true b c d = refl
    same false true c d = refl
    same false false true d = refl
    same false false false true = refl
    same false false false false = refl

whole_built : (v : Json.Json) (xs : List ℕ) → built (value v []) xs ≡ value v []
whole_built v [] = built_none (value v [])
whole_built v (x ∷ xs) = built_more (value v []) x xs ∙ ap (λ r. built r xs) (whole_stays v x) ∙ whole_built v xs

same_value : (v w : Json.Json) → value v [] ≡ value w [] → v ≡ w
same_value v w e = cc

-- values that begin at one place of one text are the same
pub one_value_begins : (d e : ℕ) (a b : List ℕ) (v w : Json.Json) → Value d a v → Value e (a ++ b) w → v ≡ w
one_value_begins d e a b v w p q =
    same_value v w (sym (then (next []) (value v []) (value v []) (a ++ b) a b refl (builds p []) (whole_built v b)) ∙ builds q [])

-- a whole text
pub text_built : (t : List ℕ) (v : Json.Json) → Text DEPTH t v → built (next []) t ≡ value v []
text_built t v r =
    then (next []) (next []) (value v []) t r.before (r.inner ++ r.after) r.split (built_all is_ws (next []) (next_ws []) r.before r.before_ws)
    (then (next []) (value v []) (value v []) (r.inner ++ r.after) r.inner r.after refl (builds r.is_value []) (whole_built v r.after))

pub one_text : (t : List ℕ) (v w : Json.Json) → Text DEPTH t v → Text DEPTH t w → v ≡ w
one_text t v w p q = same_value v w (sym (text_built t v p) ∙ text_built t w q)

pub one_stands : (t : List ℕ) (at end last : ℕ) (v w : Json.Json) → ValueAt t at end v → ValueAt t at last w → v ≡ w
one_stands t at end last v w p q =
    ⊎_elim
    (λ l. one_value_begins DEPTH DEPTH (between at end t) (between end last t) v w p.is_value (subst (λ zs. Value DEPTH zs w) (between_join t at end last p.not_before l) q.is_value))
    (λ l. sym (one_value_begins DEPTH DEPTH (between at last t) (between last end t) w v q.is_value (subst (λ zs. Value DEPTH zs v) (between_join t at last end q.not_before (omega arith)) p.is_value)))
    (cases_le end last)
  where
    cases_le : (m n : ℕ) → (m ≤ n) ⊎ (n < m)
    cases_le m n = ⊎_elim (λ h. inr h) (λ h. inl h) (Rattle.std.proofs.lemmas.Bool.cases_lt n m)

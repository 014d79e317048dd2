-- Readings of strings, and of the names of members with their colon.
use Rattle.std.proofs.Common.{◌≡◌, ℕ, ◌+◌, ◌<◌, ◌≤◌, true, false, eqb, List, [], ◌∷◌, ◌++◌, length, get_or, sym, refl, ap, ◌∙◌, subst, arith}
use Rattle.std.specs.List.{between}
use Rattle.std.proofs.lemmas.List.{append-nil, append_assoc}
use Rattle.std.proofs.lemmas.Bool.{eqb-true, false≢true}
use Rattle.json_string.specs.String.{Chars, none_left}
use Rattle.json_string.specs.Machine.{StringState, string_step, string_run, alive, plain, wanted, escape, code, code_d, closed, broken}
use Rattle.json_string.specs.Reading.{StringAt, FaultAt}
use Rattle.json_string.proofs.Complete.{chars_read}
use Rattle.json_string.proofs.Running.{alive_before}
use Rattle.json_text.specs.Json.{is_ws, Ws, String, string, member, is_string}
use Rattle.json_text.specs.Machine.{Stack, Role, is_name, is_value, dead, to, step, run, want, have, want_name, want_colon, in_string, after_string, string_next}
use Rattle.json_text.specs.Reading.{Reads, Stops, Any, Room, AnyValue, AnyMember, Spaced, StringEnd, NameColon}
use Rattle.json_text.specs.Standing.{Space, ColonAt}
use Rattle.json_text.proofs.Runs.{all_none, run_to, from_over, from_dead}
use Rattle.json_text.proofs.StepLaws as law
use Rattle.json_text.proofs.Steps.{reads_then, stops_then, stops_in, reads_on, stops_on, reads_byte, reads_over, reads_all, stops_here}
use Rattle.json_text.proofs.ValueParts.{zero_value}

-- a string that goes on
alive_next : (r : Role) (σ : Stack) (q : StringState) → alive q ≡ true → string_next r σ q ≡ to (in_string r q σ)
alive_next r σ plain h = refl
alive_next r σ (wanted cs) h = refl
alive_next r σ escape h = refl
alive_next r σ code h = refl
alive_next r σ code_d h = refl
alive_next r σ closed h = absurd (false≢true h)
alive_next r σ broken h = absurd (false≢true h)

string_step_to : (r : Role) (σ : Stack) (q : StringState) (x : ℕ) → alive (string_step q x) ≡ true → step (in_string r q σ) x ≡ to (in_string r (string_step q x) σ)
unfolding step
string_step_to r σ q x h = alive_next r σ (string_step q x) h

pub string_goes : (r : Role) (σ : Stack) (q : StringState) (xs ys : List ℕ) → alive (string_run q xs) ≡ true → run (in_string r q σ) (xs ++ ys) ≡ run (in_string r (string_run q xs) σ) ys
unfolding string_run
string_goes r σ q [] ys h = refl
string_goes r σ q (x ∷ xs) ys h =
    run_to (in_string r q σ) (in_string r (string_step q x) σ) x (xs ++ ys) (string_step_to r σ q x (alive_before (string_step q x) xs h))
    ∙ string_goes r σ (string_step q x) xs ys h

pub string_closes : (r : Role) (σ : Stack) → step (in_string r plain σ) 34 ≡ to (after_string r σ)
unfolding step string_step
string_closes r σ = refl

string_breaks : (r : Role) (σ : Stack) (q : StringState) (x : ℕ) → string_step q x ≡ broken → step (in_string r q σ) x ≡ dead
unfolding step
string_breaks r σ q x h = ap (string_next r σ) h

pub chars_go : (r : Role) (σ : Stack) (xs d ys : List ℕ) → Chars xs d → run (in_string r plain σ) (xs ++ ys) ≡ run (in_string r plain σ) ys
chars_go r σ xs d ys c =
    let e = chars_read xs d c in
    string_goes r σ plain xs ys (ap alive e) ∙ ap (λ q. run (in_string r q σ) ys) e

-- a string behind its opening quotation mark
abbrev AnyChars : List ℕ → Type 0
AnyChars t = (d : List ℕ) × Chars t d

pub string_reads : (r : Role) (t : List ℕ) (a b : ℕ) → StringAt t a b → Reads StringEnd (in_string r plain) (after_string r) Any t a (b + 1)
string_reads r t a b s =
    reads_then AnyChars (λ y. y ≡ 34 ∷ []) StringEnd (λ x y c e. record { chars = x; bytes = c.0; are_chars = c.1; split = ap (λ zs. x ++ zs) e })
    (reads_over AnyChars {s = in_string r plain} {s' = in_string r plain} {Fit = Any} t a b s.not_before (omega (arith, s.inside)) s.chars
    (λ σ _ ys. chars_go r σ (between a b t) s.chars.0 ys s.chars.1))
    (reads_byte 34 {s = in_string r plain} {s' = after_string r} {Fit = Any} t b s.inside s.closing (λ σ _. string_closes r σ))

pub string_stops : (r : Role) (t : List ℕ) (a b : ℕ) → FaultAt t a b → Stops StringEnd (in_string r plain) Any t a b
string_stops r t a b s = record {
  not_before = s.not_before;
  inside = s.inside;
  begins = (
    s.begins.0 ++ 34 ∷ [],
    record {
      chars = between a b t ++ s.begins.0;
      bytes = s.begins.1;
      are_chars = s.begins.2;
      split = sym (append_assoc (between a b t) s.begins.0 (34 ∷ []));
    },
  );
  stops = λ σ _.
      from_over (in_string r plain σ) (in_string r (string_run plain (between a b t)) σ) a b t s.not_before
      (λ ys. string_goes r σ plain (between a b t) ys s.goes_on)
      ∙ from_dead (in_string r (string_run plain (between a b t)) σ) b t (string_breaks r σ (string_run plain (between a b t)) (get_or t b 256) s.breaks);
}

-- a string from its opening quotation mark on
abbrev AnyString : List ℕ → Type 0
AnyString t = (s : List ℕ) × String t s

quoted : (x y : List ℕ) → x ≡ 34 ∷ [] → StringEnd y → AnyString (x ++ y)
quoted x y e s = (s.bytes, record { chars = s.chars; are_chars = s.are_chars; split = ap (λ zs. zs ++ y) e ∙ ap (λ zs. 34 ∷ zs) s.split })

module _ (d : ℕ) (t : List ℕ) (a b : ℕ) (l : a < length t) (h : get_or t a 256 ≡ 34) where
  value_quote : Reads (λ x. x ≡ 34 ∷ []) want (in_string is_value plain) (Room d) t a (a + 1)
  value_quote = reads_byte 34 {s = want} {s' = in_string is_value plain} {Fit = Room d} t a l h (λ σ _. law.value_quote σ)

  pub value_string_reads : Reads StringEnd (in_string is_value plain) have Any t (a + 1) b → Reads (AnyValue d) want have (Room d) t a b
  value_string_reads p =
      reads_then (λ x. x ≡ 34 ∷ []) StringEnd (AnyValue d) (λ x y e s. let q = quoted x y e s in (string q.0, is_string q.1)) value_quote
      (reads_on (λ σ. σ) (λ σ _. tt) p)

  pub value_string_stops : Stops StringEnd (in_string is_value plain) Any t (a + 1) b → Stops (AnyValue d) want (Room d) t a b
  value_string_stops p =
      stops_then (λ x. x ≡ 34 ∷ []) StringEnd (AnyValue d)
      (λ x y e s. let q = quoted x y e s in ([], subst (AnyValue d) (ap (λ zs. x ++ zs) (sym (append-nil y))) (string q.0, is_string q.1))) value_quote
      (stops_on (λ σ. σ) (λ σ _. tt) p)

-- a name and its colon
colon_by : (x y z : List ℕ) → AnyString x → Ws y → z ≡ 58 ∷ [] → (w : List ℕ) → Ws w → NameColon (x ++ (y ++ (z ++ w)))
colon_by x y z s v e w h = record {
  name = x;
  colon = y ++ (z ++ w);
  bytes = s.0;
  is_name = s.1;
  is_colon = record { before = y; after = w; before_ws = v; after_ws = h; split = ap (λ zs. y ++ (zs ++ w)) e };
  split = refl;
}

empty_name : NameColon (34 ∷ 34 ∷ 58 ∷ [])
empty_name = colon_by (34 ∷ 34 ∷ []) [] (58 ∷ []) ([], record { chars = []; are_chars = none_left refl refl; split = refl }) (all_none is_ws) refl [] (all_none is_ws)

pub no_name : (t : List ℕ) (a : ℕ) → a ≤ length t → is_ws (get_or t a 256) ≡ false → eqb (get_or t a 256) 34 ≡ false → Stops NameColon want_name Any t a a
no_name t a l w h = stops_here NameColon {s = want_name} {Fit = Any} t a l (34 ∷ 34 ∷ 58 ∷ []) empty_name (λ σ _. law.name_dead σ (get_or t a 256) w h)

module _ (t : List ℕ) (a b : ℕ) (l : a < length t) (h : eqb (get_or t a 256) 34 ≡ true) where
  name_quote : Reads (λ x. x ≡ 34 ∷ []) want_name (in_string is_name plain) Any t a (a + 1)
  name_quote = reads_byte 34 {s = want_name} {s' = in_string is_name plain} {Fit = Any} t a l (eqb-true _ _ h) (λ σ _. law.name_quote σ)

  pub name_string_stops : Stops StringEnd (in_string is_name plain) Any t (a + 1) b → Stops NameColon want_name Any t a b
  name_string_stops p =
      stops_then (λ x. x ≡ 34 ∷ []) StringEnd NameColon
      (λ x y e s. (58 ∷ [], subst NameColon (append_assoc x y (58 ∷ [])) (colon_by (x ++ y) [] (58 ∷ []) (quoted x y e s) (all_none is_ws) refl [] (all_none is_ws)))) name_quote p

  named : (c : ℕ) → Reads StringEnd (in_string is_name plain) want_colon Any t (a + 1) b → Space t b c → Reads (Spaced AnyString) want_name want_colon Any t a c
  named c p w =
      reads_then AnyString Ws (Spaced AnyString) (λ x y s v. record { inner = x; space = y; is_inner = s; is_space = v; split = refl })
      (reads_then (λ x. x ≡ 34 ∷ []) StringEnd AnyString quoted name_quote p)
      (reads_all is_ws {s = want_colon} {Fit = Any} t b c w.not_before w.inside w.pass law.want_colon_ws)

  pub colon_missing : (c : ℕ) → Reads StringEnd (in_string is_name plain) want_colon Any t (a + 1) b → Space t b c → eqb (get_or t c 256) 58 ≡ false → Stops NameColon want_name Any t a c
  colon_missing c p w e =
      stops_then (Spaced AnyString) (λ x. x ≡ 58 ∷ []) NameColon
      (λ x y s q. ([], subst NameColon (sym (ap (λ zs. zs ++ (y ++ [])) s.split ∙ append_assoc s.inner s.space (y ++ []))) (colon_by s.inner s.space y s.is_inner s.is_space q [] (all_none is_ws))))
      (named c p w)
      (stops_here (λ x. x ≡ 58 ∷ []) {s = want_colon} {Fit = Any} t c w.inside (58 ∷ []) refl (λ σ _. law.colon_dead σ (get_or t c 256) w.stops e))

  pub colon_reads : (c e : ℕ) → Reads StringEnd (in_string is_name plain) want_colon Any t (a + 1) b → Space t b c → c < length t → eqb (get_or t c 256) 58 ≡ true → Space t (c + 1) e →
      Reads NameColon want_name want Any t a e
  colon_reads c e p w m q v =
      reads_then (Spaced AnyString) (λ x. (y : List ℕ) × (z : List ℕ) × (y ≡ 58 ∷ []) × Ws z × (x ≡ y ++ z)) NameColon
      (λ x y s r. subst NameColon (sym (ap (λ zs. zs ++ y) s.split ∙ append_assoc s.inner s.space y ∙ ap (λ zs. s.inner ++ (s.space ++ zs)) r.4)) (colon_by s.inner s.space r.0 s.is_inner s.is_space r.2 r.1 r.3))
      (named c p w)
      (reads_then (λ x. x ≡ 58 ∷ []) Ws (λ x. (y : List ℕ) × (z : List ℕ) × (y ≡ 58 ∷ []) × Ws z × (x ≡ y ++ z)) (λ x y f g. (x, y, f, g, refl))
      (reads_byte 58 {s = want_colon} {s' = want} {Fit = Any} t c m (eqb-true _ _ q) (λ σ _. law.colon σ))
      (reads_all is_ws {s = want} {Fit = Any} t (c + 1) e v.not_before v.inside v.pass law.want_ws))

-- a member: its name and colon, and a value
member_by : (d : ℕ) (x y : List ℕ) → NameColon x → Spaced (AnyValue d) y → Spaced (AnyMember d) (x ++ y)
member_by d x y n s = record {
  inner = n.name ++ (n.colon ++ s.inner);
  space = s.space;
  is_inner = (n.bytes, s.is_inner.0, member n.name n.colon s.inner n.is_name n.is_colon s.is_inner.1 refl);
  is_space = s.is_space;
  split = ap (λ zs. zs ++ y) n.split ∙ ap (λ zs. (n.name ++ n.colon) ++ zs) s.split ∙ simp append_assoc;
}

pub member_reads : (d : ℕ) {t : List ℕ} {a b c : ℕ} → Reads NameColon want_name want Any t a b → Reads (Spaced (AnyValue d)) want have (Room d) t b c → Reads (Spaced (AnyMember d)) want_name have (Room d) t a c
member_reads d p q = reads_then NameColon (Spaced (AnyValue d)) (Spaced (AnyMember d)) (member_by d) (reads_on (λ σ. σ) (λ σ _. tt) p) q

pub member_stops : (d : ℕ) {t : List ℕ} {a b c : ℕ} → Reads NameColon want_name want Any t a b → Stops (Spaced (AnyValue d)) want (Room d) t b c → Stops (Spaced (AnyMember d)) want_name (Room d) t a c
member_stops d p q =
    stops_then NameColon (Spaced (AnyValue d)) (Spaced (AnyMember d))
    (λ x y n s. ([], subst (Spaced (AnyMember d)) (ap (λ zs. x ++ zs) (sym (append-nil y))) (member_by d x y n s))) (reads_on (λ σ. σ) (λ σ _. tt) p) q

pub name_breaks_off : (d : ℕ) {t : List ℕ} {a b : ℕ} → Stops NameColon want_name Any t a b → Stops (Spaced (AnyMember d)) want_name (Room d) t a b
name_breaks_off d p =
    stops_in NameColon (Spaced (AnyMember d))
    (λ x n. (48 ∷ [], member_by d x (48 ∷ []) n (record { inner = 48 ∷ []; space = []; is_inner = zero_value d; is_space = all_none is_ws; split = refl })))
    (stops_on (λ σ. σ) (λ σ _. tt) p)

-- the same by places
pub colon_stands : (t : List ℕ) (at b c e : ℕ) → get_or t at 256 ≡ 34 → (n : ℕ) × (b ≡ n + 1) × StringAt t (at + 1) n → Space t b c → get_or t c 256 ≡ 58 → Space t (c + 1) e → (k : List ℕ) × ColonAt t at e k
colon_stands t at b c e h s p q r =
    let a = s.2 in (
      a.chars.0,
      record {
        name_end = s.0;
        colon = c;
        name = record { opening = h; not_before = a.not_before; inside = a.inside; is_name = a.chars.1; closing = a.closing };
        before_colon = subst (λ i. Space t i c) s.1 p;
        colon_there = q;
        behind_colon = r;
      },
    )

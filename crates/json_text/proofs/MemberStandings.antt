-- The members of an object stand one behind the other: from the grammar's list to their places.
use Rattle.std.proofs.Common.{◌≡◌, ℕ, ◌+◌, false, List, [], ◌∷◌, ◌++◌, length, get_or, None, sym, refl, ap, ◌∙◌, subst, ⊎_elim, arith}
use Rattle.std.specs.List.{between}
use Rattle.std.proofs.lemmas.List.Edits.{between_none}
use Rattle.json_string.specs.String.{Chars}
use Rattle.json_string.specs.Reading.{StringAt, FaultAt}
use Rattle.json_string.proofs.Stopping.{same_end, string_no_fault}
use Rattle.json_text.specs.Json.{is_ws, is_digit, is_e, Ws, String, Json, Value, MemberList, Member, Members, false_name, null_name, true_name, object, array, number, string, no_members, members, is_false, is_null, is_true, is_number, is_string, is_empty_object, is_object, is_empty_array, is_array, one_member, next_member, member}
use Rattle.json_text.specs.Standing.{NoNumber, Space, ValueAt, NameAt, MemberAt, Entry, entry, ItemsBehind, item, Found, entries, members_onto}
use Rattle.json_text.proofs.StepLaws.{no_ws, digit_bounds}
use Rattle.json_text.proofs.Runs.{all_none}
use Rattle.json_text.proofs.Segments.{Part, part_split, part_first, part_empty, space_join}
use Rattle.json_text.proofs.Standings.{First, value_first, sign_at, comma_behind, behind_number, placed, Listed, Opened, empty, filled, empty_opened, filled_opened}
use Rattle.json_text.specs.declared.texts.TheConstants.{DEPTH}

curly_number : NoNumber 125
unfolding is_digit is_e
curly_number = record { no_digit = refl; no_point = refl; no_e = refl }

-- a string in a part of the text
pub string_at : (t : List ℕ) (a b : ℕ) (z k : List ℕ) → Part t a b z → String z k → (n : ℕ) × NameAt t a n k × (b ≡ n + 1)
string_at t a b z k p s =
    let f = part_first t a b 34 (s.chars ++ 34 ∷ []) (record { not_before = p.not_before; inside = p.inside; is = p.is ∙ s.split }) in
    let m = part_split t (a + 1) b s.chars (34 ∷ []) f.2 in
    let g = part_first t (a + 1 + length s.chars) b 34 [] m.1 in (
      a + 1 + length s.chars,
      record {
        opening = f.1;
        not_before = m.0.not_before;
        inside = g.0;
        is_name = subst (λ zs. Chars zs k) (sym m.0.is) s.are_chars;
        closing = g.1;
      },
      sym (part_empty t (a + 1 + length s.chars + 1) b g.2),
    )

member_at : {d : ℕ} {z k : List ℕ} {v : Json} → Member d z k v → (t : List ℕ) (j a b : ℕ) → d + j ≡ DEPTH → Part t a b z → NoNumber (get_or t b 256) → MemberAt t a b (entry k v)
member_at (member {d = d} x y z {k = k} {v = v} s c V e) t j a b r p n =
    let m₁ = part_split t a b x (y ++ z) (record { not_before = p.not_before; inside = p.inside; is = p.is ∙ e }) in
    let m₂ = part_split t (a + length x) b y z m₁.1 in
    let w = string_at t a (a + length x) x k m₁.0 s in
    let g = sign_at t (a + length x) (a + length x + length y) 58 y (no_ws 58 (omega arith)) m₂.0 c in
    let q = placed t (a + length x + length y) b d j z v r m₂.1 V n in
    record {
      place = q.place;
      name = record {
        name_end = w.0;
        colon = g.place;
        name = w.1;
        before_colon = subst (λ i. Space t i g.place) w.2 g.before;
        colon_there = g.here;
        behind_colon = space_join t (g.place + 1) (a + length x + length y) q.place g.behind g.after q.space;
      };
      stands = q.stands;
    }

-- no white space stands before a member
member_space : (t : List ℕ) (a b : ℕ) (e : Entry) → MemberAt t a b e → Space t a a
member_space t a b e m = record {
  not_before = omega arith;
  inside = omega (arith, m.name.name.not_before, m.name.name.inside);
  pass = subst Ws (sym (between_none t a)) (all_none is_ws);
  stops = ap is_ws m.name.name.opening ∙ (no_ws 34 (omega arith));
}

members_listed : {d : ℕ} {b : List ℕ} {ms : Members} {k : List ℕ} {v : Json} → MemberList d b ms k v → (t : List ℕ) (j p q : ℕ) → d + j ≡ DEPTH → Part t p q b →
    (rest : List Entry) → ItemsBehind t (MemberAt t) 125 q rest → Listed t (MemberAt t) 125 p (members_onto ms (entry k v ∷ rest))
members_listed (one_member {k = k} {v = v} M) t j p q r m rest i =
    let w = member_at M t j p q r m (behind_number curly_number i) in
    record { place = p; space = member_space t p q (entry k v) w; items = item q w i }
members_listed (next_member x y z {k = k} {v = v} l s M e) t j p q r m rest i =
    let m₁ = part_split t p q x (y ++ z) (record { not_before = m.not_before; inside = m.inside; is = m.is ∙ e }) in
    let m₂ = part_split t (p + length x) q y z m₁.1 in
    let w = member_at M t j (p + length x + length y) q r m₂.1 (behind_number curly_number i) in
    members_listed l t j p (p + length x) r m₁.0 (entry k v ∷ rest)
    (comma_behind t (MemberAt t) 125 (p + length x) (p + length x + length y) (p + length x + length y) (entry k v ∷ rest)
    (sign_at t (p + length x) (p + length x + length y) 44 y (no_ws 44 (omega arith)) m₂.0 s) (member_space t (p + length x + length y) q (entry k v) w) (item q w i))

onto_some : (ms : Members) (e : Entry) (rest : List Entry) → (f : Entry) × (es : List Entry) × (members_onto ms (e ∷ rest) ≡ f ∷ es)
onto_some no_members e rest = (e, rest, refl)
onto_some (members ms k v) e rest = onto_some ms (entry k v) (e ∷ rest)

object_opened : {d : ℕ} {b : List ℕ} {v : Json} → Value d b v → (t : List ℕ) (j at end g : ℕ) → d + j ≡ DEPTH → Part t at end b → is_ws (get_or t at 256) ≡ false → First v (get_or t at 256) → get_or t at 256 ≡ 123 →
    Space t (at + 1) g → Opened t (MemberAt t) 125 g (entries v)
object_opened (is_false e) t j at end g r m n f h s = absurd (omega arith)
object_opened (is_null e) t j at end g r m n f h s = absurd (omega arith)
object_opened (is_true e) t j at end g r m n f h s = absurd (omega arith)
object_opened (is_number u) t j at end g r m n f h s = absurd (⊎_elim (λ e. omega arith) (λ d. omega (arith, digit_bounds (get_or t at 256) d)) f)
object_opened (is_string u) t j at end g r m n f h s = absurd (omega arith)
object_opened (is_empty_array a b p q e) t j at end g r m n f h s = absurd (omega arith)
object_opened (is_array a b c p l q e) t j at end g r m n f h s = absurd (omega arith)
object_opened (is_empty_object {t = z} a b p q e) t j at end g r m n f h s = empty_opened t (MemberAt t) 123 125 at end g (no_ws 123 (omega arith)) (no_ws 125 (omega arith)) n s a b z e p q m
object_opened (is_object {t = z} a b c {ms = ms} {k = k} {v = v} p l q e) t j at end g r m n f h s =
    filled_opened t (MemberAt t) 123 125 at end g (no_ws 123 (omega arith)) (no_ws 125 (omega arith)) n s (members_onto ms (entry k v ∷ [])) (onto_some ms (entry k v) []) a b c z e p q m
    (λ i i' o y. members_listed l t (j + 1) i i' (omega arith) o [] y)

pub object_opens_to : (t : List ℕ) (at end g : ℕ) (v : Json) → ValueAt t at end v → get_or t at 256 ≡ 123 → Space t (at + 1) g → Opened t (MemberAt t) 125 g (entries v)
object_opens_to t at end g v p h s =
    object_opened p.is_value t 0 at end g (omega arith) (record { not_before = p.not_before; inside = p.inside; is = refl }) p.starts (value_first t at end v p).1 h s

-- only an object has members
pub no_entries : (v : Json) (x : ℕ) → First v x → (x ≡ 123 → ⊥) → entries v ≡ []
no_entries false_name x f h = refl
no_entries null_name x f h = refl
no_entries true_name x f h = refl
no_entries (object ms) x f h = absurd (h f)
no_entries (array vs) x f h = refl
no_entries number x f h = refl
no_entries (string s) x f h = refl

pub first_none : (t : List ℕ) (g : ℕ) (es : List Entry) → Opened t (MemberAt t) 125 g es → get_or t g 256 ≡ 125 → Found t (MemberAt t) 125 None es
first_none t g es (empty e) h = tt
first_none t g es (filled (item end p i)) h = omega (arith, p.name.name.opening)

-- a string value stands from quotation mark to quotation mark
string_stands : {d : ℕ} {b : List ℕ} {v : Json} → Value d b v → (t : List ℕ) (at end : ℕ) → Part t at end b → First v (get_or t at 256) → get_or t at 256 ≡ 34 → (s : List ℕ) × (v ≡ string s) × ((n : ℕ) × NameAt t at n s)
string_stands (is_false e) t at end p f h = absurd (omega arith)
string_stands (is_null e) t at end p f h = absurd (omega arith)
string_stands (is_true e) t at end p f h = absurd (omega arith)
string_stands (is_number u) t at end p f h = absurd (⊎_elim (λ e. omega arith) (λ d. omega (arith, digit_bounds (get_or t at 256) d)) f)
string_stands (is_string {t = z} {s = s} u) t at end p f h = let w = string_at t at end z s p u in (s, refl, (w.0, w.1))
string_stands (is_empty_object a b p q e) t at end m f h = absurd (omega arith)
string_stands (is_object a b c p l q e) t at end m f h = absurd (omega arith)
string_stands (is_empty_array a b p q e) t at end m f h = absurd (omega arith)
string_stands (is_array a b c p l q e) t at end m f h = absurd (omega arith)

pub string_there : (t : List ℕ) (at end : ℕ) (v : Json) → ValueAt t at end v → get_or t at 256 ≡ 34 → (s : List ℕ) × (v ≡ string s) × ((n : ℕ) × NameAt t at n s)
string_there t at end v p h = string_stands p.is_value t at end (record { not_before = p.not_before; inside = p.inside; is = refl }) (value_first t at end v p).1 h

pub no_string : (v : Json) (x : ℕ) → First v x → (x ≡ 34 → ⊥) → (s : List ℕ) → v ≡ string s → ⊥
no_string v x f h s e = h (subst (λ w. First w x) e f)

-- one string stands at a place
pub chars_there : (t : List ℕ) (at n m : ℕ) (s : List ℕ) → NameAt t at n s → StringAt t (at + 1) m → Chars (between (at + 1) m t) s
chars_there t at n m s p q =
    subst (λ i. Chars (between (at + 1) i t) s)
    (same_end t (at + 1) n m (record { not_before = p.not_before; inside = p.inside; closing = p.closing; chars = (s, p.is_name) }) q) p.is_name

pub no_fault_there : (t : List ℕ) (at n m : ℕ) (s : List ℕ) → NameAt t at n s → FaultAt t (at + 1) m → ⊥
no_fault_there t at n m s p q =
    string_no_fault t (at + 1) n m (record { not_before = p.not_before; inside = p.inside; closing = p.closing; chars = (s, p.is_name) }) q

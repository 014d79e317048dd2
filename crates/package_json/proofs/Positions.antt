-- Places of members in an object: the first, and the one behind another.
use Rattle.std.proofs.Common.{◌≡◌, ℕ, Bool, true, false, ◌||◌, List, [], ◌∷◌, ◌++◌, Some, None, Option, sym, refl, ap, ◌∙◌, subst}
use Rattle.std.specs.Str.{bytes_eq}
use Rattle.json_text.specs.Standing.{Entry, MemberAt, OpensTo, CommaTo, MembersTo, no_member, member_and, item, comma, ItemsBehind, MembersAt, MembersFound, holds_name}
use Rattle.package_json.specs.Standing.{Position}
use Rattle.package_json.specs.Ranges.{MembersLeft, NextMember}

-- one member more
members_then : (t : List ℕ) {at to : ℕ} {es : List Entry} {e : Entry} → MembersTo t at to es → (end next : ℕ) → MemberAt t to end e → CommaTo t end next → MembersTo t at next (es ++ e ∷ [])
members_then t no_member end next m c = member_and end next m c no_member
members_then t (member_and last n m' c' l) end next m c = member_and last n m' c' (members_then t l end next m c)

or_swap : (a b c : Bool) → (a || (b || c)) ≡ (b || (a || c))
or_swap true true c = refl
or_swap true false c = refl
or_swap false true c = refl
or_swap false false c = refl

holds_then : (k : List ℕ) (es : List Entry) (e : Entry) → holds_name k (es ++ e ∷ []) ≡ holds_name k (e ∷ es)
unfolding holds_name
holds_then k [] e = refl
holds_then k (x ∷ es) e = ap (λ b. bytes_eq x.name k || b) (holds_then k es e) ∙ or_swap (bytes_eq x.name k) (bytes_eq e.name k) (holds_name k es)

holds_more : (k : List ℕ) (es fs : List Entry) (e : Entry) → holds_name k es ≡ holds_name k fs → holds_name k (e ∷ es) ≡ holds_name k (e ∷ fs)
unfolding holds_name
holds_more k es fs e h = ap (λ b. bytes_eq e.name k || b) h

pub first_position : (t : List ℕ) (object at : ℕ) → OpensTo 123 125 t object at → Position t object at []
first_position t object at o = record { first = at; passed = []; opens = o; reached = no_member; same_names = λ k. refl }

pub next_position : (t : List ℕ) (object at end next : ℕ) (before : List Entry) (e : Entry) → Position t object at before → MemberAt t at end e → CommaTo t end next → Position t object next (e ∷ before)
next_position t object at end next before e p m c = record {
  first = p.first;
  passed = p.passed ++ e ∷ [];
  opens = p.opens;
  reached = members_then t p.reached end next m c;
  same_names = λ k. holds_more k before p.passed e (p.same_names k) ∙ sym (holds_then k p.passed e);
}

-- the members of an object, from the first on
pub left_from_first : (t : List ℕ) (object : ℕ) (r : Option ℕ) (es : List Entry) → ((place : ℕ) → r ≡ Some place → OpensTo 123 125 t object place) → MembersFound t r es → MembersLeft t object [] r es
left_from_first t object None [] o h = tt
left_from_first t object None (e ∷ es) o h = h
left_from_first t object (Some at) [] o h = h
left_from_first t object (Some at) (e ∷ es) o h = (first_position t object at (o at refl), h)

some_at : (p q : ℕ) → ◌≡◌ {A = Option ℕ} (Some p) (Some q) → p ≡ q
some_at p q h = cc

some_left : (t : List ℕ) (object nx : ℕ) (before : List Entry) (f : Entry) (es : List Entry) (r : Option ℕ) → r ≡ Some nx → Position t object nx before → MembersFound t r (f ∷ es) → MembersLeft t object before r (f ∷ es)
some_left t object nx before f es None h p q = absurd q
some_left t object nx before f es (Some x) h p q = (subst (λ i. Position t object i before) (sym (some_at x nx h)) p, q)

none_left : (t : List ℕ) (object : ℕ) (before : List Entry) (r : Option ℕ) → MembersFound t r [] → MembersLeft t object before r []
none_left t object before None q = tt
none_left t object before (Some x) q = q

behind_it : (t : List ℕ) (object at end : ℕ) (before : List Entry) (e : Entry) (es : List Entry) (r : Option ℕ) → ((last n : ℕ) (x : Entry) → MemberAt t at last x → CommaTo t last n → r ≡ Some n) →
    Position t object at before → MemberAt t at end e → ItemsBehind t (MemberAt t) 125 end es → MembersFound t r es → MembersLeft t object (e ∷ before) r es
behind_it t object at end before e [] r right p m i q = none_left t object (e ∷ before) r q
behind_it t object at end before e (f ∷ es) r right p m (comma place nx s h w i) q =
    let c : CommaTo t end nx = record { comma = place; before_comma = s; comma_there = h; behind_comma = w } in
    some_left t object nx (e ∷ before) f es r (right end nx e m c) (next_position t object at end nx before e p m c) q

-- the members behind one
pub left_next : (t : List ℕ) (object at : ℕ) (before : List Entry) (e : Entry) (es : List Entry) (r : Option ℕ) → NextMember t at r → Position t object at before → MembersAt t at (e ∷ es) → MembersLeft t object (e ∷ before) r es
left_next t object at before e es r n p (item end m i) = behind_it t object at end before e es r n.right_behind p m i (n.those_left e es (item end m i))

-- Going through the members of an object up to one of them, to see whether its name stood before.
use Rattle.std.proofs.Common.{◌≡◌, ℕ, ◌+◌, ◌<◌, ◌≤◌, true, false, ◌||◌, List, [], ◌∷◌, Some, None, Option, sym, refl, ap, ◌∙◌, subst, inl, inr, arith, MatchOption}
use Rattle.std.specs.Str.{bytes_eq}
use Rattle.std.proofs.lemmas.Slice.Eq.{bytes_eq-Decides}
use Rattle.std.proofs.lemmas.Bool.{cases_Bool}
use Rattle.json_text.specs.Standing.{MemberAt, Entry, CommaTo, OpensTo, MembersTo, no_member, member_and, holds_name}
use Rattle.json_text.proofs.Segments.{space_once}

-- members stand further on
members_on : (t : List ℕ) {at to : ℕ} {es : List Entry} → MembersTo t at to es → at ≤ to
members_on t no_member = omega arith
members_on t (member_and end next m c l) =
    omega (arith, members_on t l, m.name.name.not_before, m.name.before_colon.not_before, m.name.behind_colon.not_before, m.stands.not_before, c.before_comma.not_before, c.behind_comma.not_before)

members_further : (t : List ℕ) {at to : ℕ} {e : Entry} {es : List Entry} → MembersTo t at to (e ∷ es) → at < to
members_further t (member_and end next m c l) =
    omega (arith, members_on t l, m.name.name.not_before, m.name.before_colon.not_before, m.name.behind_colon.not_before, m.stands.not_before, c.before_comma.not_before, c.behind_comma.not_before)

name_same : (k : List ℕ) (e : Entry) (es : List Entry) → e.name ≡ k → holds_name k (e ∷ es) ≡ true
unfolding holds_name
name_same k e es h = ap (λ b. b || holds_name k es) ((bytes_eq-Decides e.name k).1 h)

name_other : (k : List ℕ) (e : Entry) (es : List Entry) → (e.name ≡ k → ⊥) → holds_name k (e ∷ es) ≡ holds_name k es
unfolding holds_name
name_other k e es h =
    let differs : bytes_eq e.name k ≡ false = elim (cases_Bool (bytes_eq e.name k)) [ inl same ↦ absurd (h ((bytes_eq-Decides e.name k).0 same)) | inr other ↦ other ] in
    ap (λ b. b || holds_name k es) differs

pub no_name : (k : List ℕ) → holds_name k [] ≡ false
unfolding holds_name
no_name k = refl

-- the members from a place on up to another, and what they say of a name
pub record Still (t : List ℕ) (member : ℕ) (k : List ℕ) (before : List Entry) (r : Option ℕ) : Type 0 where
  pub place : ℕ
  pub here : r ≡ Some place
  pub rest : List Entry
  pub passed : MembersTo t place member rest
  pub same : holds_name k before ≡ holds_name k rest

abbrev pub StillBefore : List ℕ → ℕ → ℕ → Option ℕ → Type 0
StillBefore t object member r =
    (first end : ℕ) (before : List Entry) (e : Entry) → OpensTo 123 125 t object first → MembersTo t first member before → MemberAt t member end e → Still t member e.name before r

pub from_first : (t : List ℕ) (object member : ℕ) (r : Option ℕ) → MatchOption r ((place : ℕ) → OpensTo 123 125 t object place → ⊥) (λ place. OpensTo 123 125 t object place) → StillBefore t object member r
from_first t object member None q first end before e o m i = absurd (q first o)
from_first t object member (Some place) q first end before e o m i =
    record { place = first; here = ap (λ p. Some p) (space_once t (object + 1) place first q.behind_bracket o.behind_bracket); rest = before; passed = m; same = refl }

some_at : (p q : ℕ) → ◌≡◌ {A = Option ℕ} (Some p) (Some q) → p ≡ q
some_at p q h = cc

-- where no member is left, one has the name, or goes on to the next
none_left : (t : List ℕ) (at to : ℕ) (k : List ℕ) → to ≤ at → (es : List Entry) → MembersTo t at to es → holds_name k es ≡ false
none_left t at to k l [] m = no_name k
none_left t at to k l (e ∷ es) m = absurd (omega (arith, members_further t m))

some_left : (t : List ℕ) (at to : ℕ) → at < to → MembersTo t at to [] → ⊥
some_left t at to l no_member = omega arith

first_holds : (t : List ℕ) (at to : ℕ) (k : List ℕ) → at < to → ((end : ℕ) (e : Entry) → MemberAt t at end e → e.name ≡ k) → (es : List Entry) → MembersTo t at to es → holds_name k es ≡ true
first_holds t at to k l same [] m = absurd (some_left t at to l m)
first_holds t at to k l same (e ∷ es) (member_and end next m c rest) = name_same k e es (same end e m)

first_passed : (t : List ℕ) (member : ℕ) (k : List ℕ) (before : List Entry) (place : ℕ) (n : Option ℕ) → place < member →
    ((end next : ℕ) (x : Entry) → MemberAt t place end x → CommaTo t end next → n ≡ Some next) → ((end : ℕ) (x : Entry) → MemberAt t place end x → x.name ≡ k → ⊥) →
    (es : List Entry) → MembersTo t place member es → holds_name k before ≡ holds_name k es → Still t member k before n
first_passed t member k before place n l step other [] m h = absurd (some_left t place member l m)
first_passed t member k before place n l step other (x ∷ es) (member_and end next m c rest) h =
    record { place = next; here = step end next x m c; rest = es; passed = rest; same = h ∙ name_other k x es (other end x m) }

module _ (t : List ℕ) (object member place : ℕ) (r : Option ℕ) (is : r ≡ Some place) (s : StillBefore t object member r) where
  module _ (first end : ℕ) (before : List Entry) (e : Entry) (o : OpensTo 123 125 t object first) (m : MembersTo t first member before) (i : MemberAt t member end e) where
    passed_here : (q : Still t member e.name before r) → MembersTo t place member q.rest
    passed_here q = subst (λ x. MembersTo t x member q.rest) (some_at q.place place (sym q.here ∙ is)) q.passed

    pub at_the_member : member ≤ place → false ≡ holds_name e.name before
    at_the_member l = let q = s first end before e o m i in sym (q.same ∙ none_left t place member e.name l q.rest (passed_here q))

    pub name_there : place < member → ((end : ℕ) (x : Entry) → MemberAt t place end x → x.name ≡ e.name) → true ≡ holds_name e.name before
    name_there l same = let q = s first end before e o m i in sym (q.same ∙ first_holds t place member e.name l same q.rest (passed_here q))

    pub name_elsewhere : place < member → (n : Option ℕ) → ((end next : ℕ) (x : Entry) → MemberAt t place end x → CommaTo t end next → n ≡ Some next) →
        ((end : ℕ) (x : Entry) → MemberAt t place end x → x.name ≡ e.name → ⊥) → Still t member e.name before n
    name_elsewhere l n step other = let q = s first end before e o m i in first_passed t member e.name before place n l step other q.rest (passed_here q) q.same

-- the walk comes to the member
pub never_none : (t : List ℕ) (object member : ℕ) → StillBefore t object member None → (first end : ℕ) (before : List Entry) (e : Entry) → OpensTo 123 125 t object first → MembersTo t first member before → MemberAt t member end e → ⊥
never_none t object member s first end before e o m i = let q = s first end before e o m i in let h = q.here in cc

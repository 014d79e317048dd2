-- Going through the members of an object up to the first that has a name.
use Rattle.std.proofs.Common.{◌≡◌, ℕ, suc, ◌-◌, ◌<◌, ◌≤◌, List, [], ◌∷◌, length, Some, None, Option, arith, IfSome, MatchOption}
use Rattle.json_text.specs.Json.{Json}
use Rattle.json_text.specs.Standing.{ValueAt, MemberAt, Entry, entries, ItemsAt, item, Found, FirstNamed, this_one, later_one, NoneNamed, no_entry, another}

-- The members that are left are found at this place, and the first of the name among them is the first of the name at all.
abbrev pub Sought : List ℕ → ℕ → List ℕ → Option ℕ → Type 0
Sought t at k r =
    (end : ℕ) (v : Json) → ValueAt t at end v →
    (es : List Entry) × Found t (MemberAt t) 125 r es × ((w : Json) → FirstNamed k es w → FirstNamed k (entries v) w) × (NoneNamed k es → NoneNamed k (entries v))

-- a member of another name is passed over
pub sought_next : (t : List ℕ) (at : ℕ) (k : List ℕ) (place : ℕ) (r : Option ℕ) → Sought t at k (Some place) →
    ((end : ℕ) (e : Entry) → MemberAt t place end e → e.name ≡ k → ⊥) → ((e : Entry) (es : List Entry) → ItemsAt t (MemberAt t) 125 place (e ∷ es) → Found t (MemberAt t) 125 r es) → Sought t at k r
sought_next t at k place r s h f end v p = go (s end v p).0 (s end v p).1 (s end v p).2 (s end v p).3
  where
    go : (es : List Entry) → Found t (MemberAt t) 125 (Some place) es → ((w : Json) → FirstNamed k es w → FirstNamed k (entries v) w) → (NoneNamed k es → NoneNamed k (entries v)) →
        (fs : List Entry) × Found t (MemberAt t) 125 r fs × ((w : Json) → FirstNamed k fs w → FirstNamed k (entries v) w) × (NoneNamed k fs → NoneNamed k (entries v))
    go [] q a b = absurd q
    go (e ∷ es) (item last m i) a b = (es, f e es (item last m i), λ w c. a w (later_one (h last e m) c), λ c. b (another (h last e m) c))

-- the member of the name
pub sought_here : (t : List ℕ) (at : ℕ) (k : List ℕ) (place : ℕ) (r : Option ℕ) → Sought t at k (Some place) →
    ((end : ℕ) (e : Entry) → MemberAt t place end e → e.name ≡ k) → ((end : ℕ) (e : Entry) → MemberAt t place end e → MatchOption r ⊥ (λ at. ValueAt t at end e.value)) →
    (end : ℕ) (v : Json) → ValueAt t at end v → MatchOption r (NoneNamed k (entries v)) (λ at. (last : ℕ) × (w : Json) × FirstNamed k (entries v) w × ValueAt t at last w)
sought_here t at k place r s h f end v p = go (s end v p).0 (s end v p).1 (s end v p).2
  where
    told : (o : Option ℕ) (last : ℕ) (e : Entry) → FirstNamed k (entries v) e.value → MatchOption o ⊥ (λ at. ValueAt t at last e.value) →
        MatchOption o (NoneNamed k (entries v)) (λ at. (end : ℕ) × (w : Json) × FirstNamed k (entries v) w × ValueAt t at end w)
    told None last e a q = absurd q
    told (Some place) last e a q = (last, e.value, a, q)

    go : (es : List Entry) → Found t (MemberAt t) 125 (Some place) es → ((w : Json) → FirstNamed k es w → FirstNamed k (entries v) w) →
        MatchOption r (NoneNamed k (entries v)) (λ at. (last : ℕ) × (w : Json) × FirstNamed k (entries v) w × ValueAt t at last w)
    go [] q a = absurd q
    go (e ∷ es) (item last m i) a = told r last e (a e.value (this_one (h last e m))) (f last e m)

-- no member is left
pub sought_none : (t : List ℕ) (at : ℕ) (k : List ℕ) → Sought t at k None → (end : ℕ) (v : Json) → ValueAt t at end v → NoneNamed k (entries v)
sought_none t at k s end v p = go (s end v p).0 (s end v p).1 (s end v p).3
  where
    go : (es : List Entry) → Found t (MemberAt t) 125 None es → (NoneNamed k es → NoneNamed k (entries v)) → NoneNamed k (entries v)
    go [] q b = b no_entry
    go (e ∷ es) q b = absurd q

-- how much of the text is left
abbrev pub ahead : ℕ → Option ℕ → ℕ
ahead n None = 0
ahead n (Some place) = suc (n - place)

-- what lies behind a place that lies further on
pub further_on : (at place : ℕ) (t : List ℕ) (r : Option ℕ) → at < place → IfSome r (λ n. (place < n) × (n ≤ length t)) → IfSome r (λ n. (at < n) × (n ≤ length t))
further_on at place t None l q = tt
further_on at place t (Some n) l q = (omega (arith, q.0), q.1)

pub passed_on : (at place : ℕ) (t : List ℕ) (r : Option ℕ) → at < place → IfSome r (λ n. (place < n) × (n ≤ length t)) → IfSome r (λ n. at < n)
passed_on at place t None l q = tt
passed_on at place t (Some n) l q = omega (arith, q.0)

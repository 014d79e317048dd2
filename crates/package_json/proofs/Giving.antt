-- Going through members to the first that gives a pattern, through elements to the first that is a string, and through ranges to the first that counts and gives any pattern.
use Rattle.std.proofs.Common.{◌≡◌, ◌≢◌, ℕ, Bool, true, false, cond, not, List, [], ◌∷◌, is_some, Some, None, Option, sym, refl, ap, ◌∙◌, subst}
use Rattle.std.specs.Bool.{then_some}
use Rattle.std.proofs.lemmas.Bool.{both_ways}
use Rattle.json_text.specs.Json.{Json, string}
use Rattle.json_text.specs.Kinds.{kind}
use Rattle.json_text.specs.Standing.{Entry, ValueAt, MemberAt, item, MembersAt, ElementsAt, ElementsFound, holds_name}
use Rattle.package_json.specs.Manifest.{Pattern, string_of, strings, targets_of, patterns_of, or_else, firsts, counted, first_range}
use Rattle.package_json.specs.Standing.{Candidate, offered, candidates, kept, Position, CandidatesAt, CandidatesFound, RangeFound, StringsFound}
use Rattle.package_json.specs.Ranges.{MembersLeft, NextMember, RangeGives, gives}
use Rattle.package_json.proofs.Positions.{left_next}
use Rattle.package_json.specs.Walking.{FirstAnswer, over, here, later}
use Rattle.package_json.proofs.ValueKinds.{is_string_kind, a_string, no_string}

-- what a test tells of an answer
test_of_some : (b : Bool) (at x : ℕ) → ◌≡◌ {A = Option ℕ} (Some x) (then_some b at) → (b ≡ true) × (x ≡ at)
test_of_some true at x e = (refl, cc)
test_of_some false at x e = absurd (cc)

test_of_none : (b : Bool) (at : ℕ) → ◌≡◌ {A = Option ℕ} None (then_some b at) → b ≡ false
test_of_none true at e = absurd (cc)
test_of_none false at e = refl

some_of : {A : Type 0} (o : Option A) → is_some o ≡ true → (x : A) × (o ≡ Some x)
some_of None h = absurd (both_ways false refl h)
some_of (Some x) h = (x, refl)

none_of : {A : Type 0} (o : Option A) → is_some o ≡ false → o ≡ None
none_of None h = refl
none_of (Some x) h = absurd (both_ways true h refl)

candidates_more : (before : List Entry) (e : Entry) (es : List Entry) (o : Option (List (List ℕ))) → targets_of e.value ≡ o → candidates before (e ∷ es) ≡ offered e.name (holds_name e.name before) o (candidates (e ∷ before) es)
unfolding candidates
candidates_more before e es o h = ap (λ x. offered e.name (holds_name e.name before) x (candidates (e ∷ before) es)) h

strings_skip : (v : Json) (vs : List Json) → string_of v ≡ None → strings (v ∷ vs) ≡ strings vs
unfolding strings
strings_skip v vs h = ap (λ o. elim o [ None ↦ strings vs | Some s ↦ s ∷ strings vs ]) h

strings_take : (v : Json) (s : List ℕ) (vs : List Json) → v ≡ string s → strings (v ∷ vs) ≡ s ∷ strings vs
unfolding strings
strings_take v s vs e = rw e

not_true : (b : Bool) → not b ≡ true → b ≡ false
not_true true h = absurd (both_ways false refl h)
not_true false h = refl

not_false : (b : Bool) → not b ≡ false → b ≡ true
not_false true h = refl
not_false false h = absurd (both_ways true h refl)

-- the first range of some, by whether it counts and whether it gives any pattern
no_range : (before : List Entry) → first_range (firsts before []) ≡ []
unfolding first_range firsts
no_range before = refl

range_more : (before : List Entry) (e : Entry) (es : List Entry) →
    first_range (firsts before (e ∷ es)) ≡ cond (holds_name e.name before) (first_range (firsts (e ∷ before) es)) (or_else (patterns_of (counted e.value)) (first_range (firsts (e ∷ before) es)))
unfolding first_range firsts
range_more before e es = by (holds_name e.name before)
  where
    by : (b : Bool) → first_range (cond b (firsts (e ∷ before) es) (e ∷ firsts (e ∷ before) es)) ≡ cond b (first_range (firsts (e ∷ before) es)) (or_else (patterns_of (counted e.value)) (first_range (firsts (e ∷ before) es)))
    by true = refl
    by false = refl

some_patterns : (ps qs : List Pattern) → gives ps ≡ true → or_else ps qs ≡ ps
some_patterns [] qs h = absurd (both_ways false refl h)
some_patterns (p ∷ ps) qs h = refl

any_patterns : (ps qs : List Pattern) → qs ≡ ps → gives ps ≡ true → qs ≢ []
any_patterns ps qs same h none = both_ways (gives ps) (ap gives (sym same ∙ none)) h

range_here : (before : List Entry) (e : Entry) (es : List Entry) → holds_name e.name before ≡ false → gives (patterns_of (counted e.value)) ≡ true → first_range (firsts before (e ∷ es)) ≡ patterns_of (counted e.value)
range_here before e es h g =
    let qs = first_range (firsts (e ∷ before) es) in
    range_more before e es ∙ ap (λ b. cond b qs (or_else (patterns_of (counted e.value)) qs)) h ∙ some_patterns (patterns_of (counted e.value)) qs g

range_over : (before : List Entry) (e : Entry) (es : List Entry) → cond (holds_name e.name before) [] (patterns_of (counted e.value)) ≡ [] → first_range (firsts before (e ∷ es)) ≡ first_range (firsts (e ∷ before) es)
range_over before e es h = range_more before e es ∙ by (holds_name e.name before) (patterns_of (counted e.value)) (first_range (firsts (e ∷ before) es)) h
  where
    by : (b : Bool) (ps qs : List Pattern) → cond b [] ps ≡ [] → cond b qs (or_else ps qs) ≡ qs
    by true ps qs h = refl
    by false ps qs h = ap (λ xs. or_else xs qs) h

candidate_here : (t : List ℕ) (object x at : ℕ) → x ≡ at → (before : List Entry) (e : Entry) (es : List Entry) → Position t object at before → MembersAt t at (e ∷ es) → (ts : List (List ℕ)) → targets_of e.value ≡ Some ts →
    CandidatesFound t object (Some x) (offered e.name (holds_name e.name before) (Some ts) (candidates (e ∷ before) es))
candidate_here t object x at h before e es p stand ts has = rw h (record { before = before; member = e; others = es; position = p; stand = stand; key = refl; targets = has; repeated = refl; rest = refl })

string_here : (t : List ℕ) (x at : ℕ) → x ≡ at → (v : Json) (vs : List Json) (s : List ℕ) → v ≡ string s → ElementsAt t at (v ∷ vs) → ElementsAt t x (string s ∷ vs)
string_here t x at h v vs s is stand = rw (h, ← is) stand

module _ (t : List ℕ) {next answer : ℕ → Option ℕ → Type 0} where
  module _ (object : ℕ) (steps : (at : ℕ) (r : Option ℕ) → next at r → NextMember t at r) where
    -- members, each with whether it gives a pattern
    pub first_gives : ((at : ℕ) (r : Option ℕ) → answer at r → (end : ℕ) (e : Entry) → MemberAt t at end e → r ≡ then_some (is_some (targets_of e.value)) at) →
        {from r : Option ℕ} → FirstAnswer next answer from r → (before es : List Entry) → MembersLeft t object before from es → CandidatesFound t object r (candidates before es)
    unfolding candidates
    first_gives tells over before [] h = tt
    first_gives tells over before (e ∷ es) h = absurd h
    first_gives tells (here a) before [] h = absurd h
    first_gives tells (here {at = at} {x = x} a) before (e ∷ es) (p, item end m i) =
        let told = test_of_some (is_some (targets_of e.value)) at x (tells at (Some x) a end e m) in
        let ts = some_of (targets_of e.value) told.0 in
        subst (CandidatesFound t object (Some x)) (sym (candidates_more before e es (Some ts.0) ts.1))
        (candidate_here t object x at told.1 before e es p (item end m i) ts.0 ts.1)
    first_gives tells (later a n f) before [] h = absurd h
    first_gives tells (later {at = at} {n = n} {r = r} a step f) before (e ∷ es) (p, item end m i) =
        let told = test_of_none (is_some (targets_of e.value)) at (tells at None a end e m) in
        subst (CandidatesFound t object r) (sym (candidates_more before e es None (none_of (targets_of e.value) told)))
        (first_gives tells f (e ∷ before) es (left_next t object at before e es n (steps at n step) p (item end m i)))

    -- ranges, each with its object if that gives patterns and counts
    pub first_ranges : ((at : ℕ) (r : Option ℕ) → answer at r → (before : List Entry) (end : ℕ) (e : Entry) → Position t object at before → MemberAt t at end e → RangeGives t before e r) →
        {from r : Option ℕ} → FirstAnswer next answer from r → (before es : List Entry) → MembersLeft t object before from es → RangeFound t r (first_range (firsts before es))
    first_ranges tells over before [] h = no_range before
    first_ranges tells over before (e ∷ es) h = absurd h
    first_ranges tells (here a) before [] h = absurd h
    first_ranges tells (here {at = at} {x = x} a) before (e ∷ es) (p, item end m i) =
        let g = tells at (Some x) a before end e p m in
        let its = range_here before e es g.0 g.1 in
        (g.2.0, e.value, g.2.1, its, any_patterns (patterns_of (counted e.value)) _ its g.1)
    first_ranges tells (later a n f) before [] h = absurd h
    first_ranges tells (later {at = at} {n = n} {r = r} a step f) before (e ∷ es) (p, item end m i) =
        subst (RangeFound t r) (sym (range_over before e es (tells at None a before end e p m)))
        (first_ranges tells f (e ∷ before) es (left_next t object at before e es n (steps at n step) p (item end m i)))

  -- candidates, each with whether it counts
  pub any_counts : (object : ℕ) → ((at : ℕ) (r : Option ℕ) → next at r → (range : ℕ) (c : Candidate) (cs : List Candidate) → CandidatesAt t range at c cs → CandidatesFound t range r cs) →
      ((at : ℕ) (r : Option ℕ) → answer at r → (c : Candidate) (cs : List Candidate) → CandidatesAt t object at c cs → r ≡ then_some (not c.repeated) at) →
      {from r : Option ℕ} → FirstAnswer next answer from r → (cs : List Candidate) → CandidatesFound t object from cs → is_some r ≡ gives (kept cs)
  unfolding kept
  any_counts object steps tells over [] h = refl
  any_counts object steps tells over (c ∷ cs) h = absurd h
  any_counts object steps tells (here a) [] h = absurd h
  any_counts object steps tells (here {at = at} {x = x} a) (c ∷ cs) h =
      let told = test_of_some (not c.repeated) at x (tells at (Some x) a c cs h) in
      sym (ap (λ b. gives (cond b (kept cs) (c.pattern ∷ kept cs))) (not_true c.repeated told.0))
  any_counts object steps tells (later a n f) [] h = absurd h
  any_counts object steps tells (later {at = at} {n = n} {r = r} a step f) (c ∷ cs) h =
      let told = test_of_none (not c.repeated) at (tells at None a c cs h) in
      any_counts object steps tells f cs (steps at n step object c cs h) ∙ sym (ap (λ b. gives (cond b (kept cs) (c.pattern ∷ kept cs))) (not_false c.repeated told))

  -- elements, each with whether it is a string
  pub first_strings : ((at : ℕ) (r : Option ℕ) → next at r → (v : Json) (vs : List Json) → ElementsAt t at (v ∷ vs) → ElementsFound t r vs) →
      ((at : ℕ) (r : Option ℕ) → answer at r → (end : ℕ) (v : Json) → ValueAt t at end v → r ≡ then_some (is_string_kind (kind v)) at) →
      {from r : Option ℕ} → FirstAnswer next answer from r → (vs : List Json) → ElementsFound t from vs → StringsFound t r (strings vs)
  unfolding strings
  first_strings steps tells over [] h = tt
  first_strings steps tells over (v ∷ vs) h = absurd h
  first_strings steps tells (here a) [] h = absurd h
  first_strings steps tells (here {at = at} {x = x} a) (v ∷ vs) (item end m i) =
      let told = test_of_some (is_string_kind (kind v)) at x (tells at (Some x) a end v m) in
      let s = a_string v told.0 in
      subst (StringsFound t (Some x)) (sym (strings_take v s.0 vs s.1)) (vs, string_here t x at told.1 v vs s.0 s.1 (item end m i), refl)
  first_strings steps tells (later a n f) [] h = absurd h
  first_strings steps tells (later {at = at} {n = n} {r = r} a step f) (v ∷ vs) (item end m i) =
      let told = test_of_none (is_string_kind (kind v)) at (tells at None a end v m) in
      subst (StringsFound t r) (sym (strings_skip v vs (no_string v told))) (first_strings steps tells f vs (steps at n step v vs (item end m i)))

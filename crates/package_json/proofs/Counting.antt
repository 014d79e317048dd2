-- Which members count: those whose name did not stand before.
use Rattle.std.proofs.Common.{◌≡◌, ℕ, ◌<◌, ◌≤◌, Bool, true, false, cond, not, IfSome, List, [], ◌∷◌, Some, None, Option, sym, refl, ap, ◌∙◌}
use Rattle.std.specs.Bool.{then_some}
use Rattle.json_text.specs.Standing.{Entry, ValueAt, MemberAt, OpensTo, MembersTo, holds_name}
use Rattle.package_json.specs.Manifest.{Pattern, targets_of, onto, patterns_of, firsts, counted}
use Rattle.package_json.specs.Standing.{Candidate, offered, candidates, kept, CandidatesAt, Position}
use Rattle.package_json.specs.Ranges.{gives, RangeGives}
use Rattle.package_json.proofs.Targets.{member_of}

kept_more : (k : List ℕ) (b : Bool) (o : Option (List (List ℕ))) (cs : List Candidate) → kept (offered k b o cs) ≡ cond b (kept cs) (onto k o (kept cs))
unfolding kept
kept_more k true None cs = refl
kept_more k false None cs = refl
kept_more k true (Some ts) cs = refl
kept_more k false (Some ts) cs = refl

patterns_counted : (e : Entry) (b : Bool) (es : List Entry) → patterns_of (cond b es (e ∷ es)) ≡ cond b (patterns_of es) (onto e.name (targets_of e.value) (patterns_of es))
unfolding patterns_of
patterns_counted e true es = refl
patterns_counted e false es = refl

pub kept_are_patterns : (before es : List Entry) → kept (candidates before es) ≡ patterns_of (firsts before es)
unfolding kept candidates patterns_of firsts
kept_are_patterns before [] = refl
kept_are_patterns before (e ∷ es) =
    let b = holds_name e.name before in
    kept_more e.name b (targets_of e.value) (candidates (e ∷ before) es)
    ∙ ap (λ ps. cond b ps (onto e.name (targets_of e.value) ps)) (kept_are_patterns (e ∷ before) es) ∙ sym (patterns_counted e b (firsts (e ∷ before) es))

module _ (t : List ℕ) (object at : ℕ) (r : Bool) (told : (first end : ℕ) (passed : List Entry) (e : Entry) → OpensTo 123 125 t object first → MembersTo t first at passed → MemberAt t at end e → r ≡ holds_name e.name passed) where
  -- what is told of a member by those before it
  pub repeated_member : (before : List Entry) (end : ℕ) (e : Entry) → Position t object at before → MemberAt t at end e → r ≡ holds_name e.name before
  repeated_member before end e p m = told p.first end p.passed e p.opens p.reached m ∙ sym (p.same_names e.name)

  pub repeated_candidate : (c : Candidate) (cs : List Candidate) → CandidatesAt t object at c cs → r ≡ c.repeated
  repeated_candidate c cs x = let m = member_of t at x.member x.others x.stand in repeated_member x.before m.0 x.member x.position m.1 ∙ sym x.repeated

-- a range that counts, or none
no_patterns : (ps : List Pattern) → gives ps ≡ false → ps ≡ []
no_patterns [] h = refl
no_patterns (p ∷ ps) h = absurd (cc)

pub gives_none : (t : List ℕ) (before : List Entry) (e : Entry) → gives (patterns_of (counted e.value)) ≡ false → RangeGives t before e None
gives_none t before e h = by (holds_name e.name before) (patterns_of (counted e.value)) (no_patterns (patterns_of (counted e.value)) h)
  where
    by : (b : Bool) (ps : List Pattern) → ps ≡ [] → cond b [] ps ≡ []
    by true ps q = refl
    by false ps q = q

pub counts_told : (t : List ℕ) (before : List Entry) (e : Entry) (object end : ℕ) (repeated : Bool) → gives (patterns_of (counted e.value)) ≡ true → repeated ≡ holds_name e.name before → ValueAt t object end e.value →
    RangeGives t before e (then_some (not repeated) object)
counts_told t before e object end true g h v = ap (λ b. cond b [] (patterns_of (counted e.value))) (sym h)
counts_told t before e object end false g h v = (sym h, g, (end, v))

pub then_further : (b : Bool) (low limit place : ℕ) → (low < place) × (place ≤ limit) → IfSome (then_some b place) (λ at. (low < at) × (at ≤ limit))
then_further true low limit place h = h
then_further false low limit place h = tt

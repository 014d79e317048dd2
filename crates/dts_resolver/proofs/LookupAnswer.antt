-- How the answer of a lookup, and the memory that it leaves, tell what it came to.
use Rattle.std.proofs.Common.{◌≡◌, ℕ, false, List, [], ◌++◌, length, take, drop, IfSome, Some, None, Ok, Err, Option, sym, refl, ap, ◌∙◌, subst}
use Rattle.list.specs.Held.{held, Extended}
use Rattle.list.specs.declared.List as lists
use Rattle.std.specs.declared.result.Result as results
use Rattle.std.proofs.lemmas.List.{take-append-drop, drop_at}
use Rattle.file_system.specs.Tree.{Tree}
use Rattle.search.specs.declared.error.Refusal.{Refusal}
use Rattle.search.specs.declared.trail.Step.{Step}
use Rattle.dts_resolver.specs.declared.resolution.Resolution.{Resolution}
use Rattle.dts_resolver.specs.declared.resolution.Refused.{Refused}
use Rattle.dts_resolver.specs.declared.lent.Lent.{Lent}
use Rattle.search.specs.Search.{Limits, Trail, Outcome, refused, Result, result, run, path_bytes}
use Rattle.search.specs.Memory.{InMemory, steps_from, limits_of, Holds, bytes_told, LaidOut, Grew}
use Rattle.search.specs.Course.{outcome_of}
use Rattle.dts_resolver.specs.Given.{Given}
use Rattle.dts_resolver.specs.Checks.{part_checks, given_checks, checks, directory_of}
use Rattle.dts_resolver.specs.Trials.{ended, trials}
use Rattle.dts_resolver.specs.Steps.{search_of, after_checks, search_for, looked_up}
use Rattle.dts_resolver.specs.Laws.{UnlessFull}
use Rattle.dts_resolver.specs.Answer.{buffer_after, path_told, length_told, or_zero, outcome_in, type_told, type_at, is_refused, Looked, Memory, count_told, choice_told, RefusedByCheck, RestAsBefore}
use Rattle.dts_resolver.specs.Specifier.{raw_path, unescaped, path_part}
use Rattle.search.proofs.TrailMemory.{steps_count, bytes_count}
use Rattle.dts_resolver.proofs.CheckOrder.{given_refused, given_passed}
use Rattle.dts_resolver.proofs.LookupTrials.{unless_full}

-- an equation by way of a term
pub through : {A : Type 0} {x z : A} (y : A) → x ≡ y → y ≡ z → x ≡ z
through y a b = a ∙ b

-- the checks refused
pub looked_refused : (t : Tree) (g : Given) (e : Refusal) → checks g ≡ Some e → looked_up t g ≡ result (refused e) []
unfolding search_for run
looked_refused t g e h = ap (λ x. run g.limits t (after_checks x (search_of g.mask (directory_of g.containing) (path_part g.specifier))) []) h

-- the checks before the path part passed, and then the path part was checked and searched
pub looked_as : (t : Tree) (g : Given) (a b : InMemory) (d part : List ℕ) (o : Outcome) → checks g ≡ part_checks (path_part g.specifier) → d ≡ directory_of g.containing → part ≡ path_part g.specifier → limits_of a ≡ g.limits → Holds t a [] → Looked t a b g.mask d part o → (qs : Trail) × (Holds t b qs × (looked_up t g ≡ result o qs))
unfolding search_for
looked_as t g a b d part o passed directory same limits empty looked =
    let x = looked empty in (
      x.0,
      (
        x.1.0,
        ap (λ c. run g.limits t (after_checks c (search_of g.mask (directory_of g.containing) (path_part g.specifier))) []) passed
            ∙ ap (λ p. run g.limits t (after_checks (part_checks p) (search_of g.mask (directory_of g.containing) p)) []) (sym same)
            ∙ ap (λ p. run g.limits t (after_checks (part_checks part) (search_of g.mask p part)) []) (sym directory)
            ∙ ap (λ l. run l t (after_checks (part_checks part) (search_of g.mask d part)) []) (sym limits)
            ∙ x.1.1,
      ),
    )

-- a list that grew from nothing holds its elements, and then the memory as it was
grown : {T : Type 0} (a b : lists.List T) (before : List T) (xs : List T) (n : ℕ) → a.items.now ≡ before → Extended a b → held b ≡ xs → b.len ≡ n → b.items.now ≡ xs ++ drop n before
grown a b before xs n same grew holds count =
    sym (take-append-drop b.len b.items.now) ∙ ap (λ ys. ys ++ drop b.len b.items.now) holds
    ∙ ap (λ ys. xs ++ ys) (grew.behind ∙ ap (drop b.len) same ∙ ap (λ k. drop k before) count)

module _ (t : Tree) (a b : InMemory) (qs : Trail) (h : Holds t b qs) (grew : Grew a b) where
  pub steps_after : (steps : List Step) → a.steps.items.now ≡ steps → b.steps.items.now ≡ steps_from t 0 qs ++ drop (length qs) steps
  steps_after steps same = grown a.steps b.steps steps (steps_from t 0 qs) (length qs) same grew.steps h.steps (steps_count t b qs h)

  pub bytes_after : (bytes : List ℕ) → a.bytes.items.now ≡ bytes → b.bytes.items.now ≡ path_bytes qs ++ drop (length (path_bytes qs)) bytes
  bytes_after bytes same = grown a.bytes b.bytes bytes (path_bytes qs) (length (path_bytes qs)) same grew.bytes h.bytes (bytes_count t b qs h)

-- what was found tells no refusal
pub found_any : (end : Option ℕ) (bytes : List ℕ) → is_refused (outcome_of (Ok end) bytes) ≡ false
found_any None bytes = refl
found_any (Some n) bytes = refl

pub type_found : (end : Option ℕ) (bytes : List ℕ) → type_at end bytes ≡ type_told (outcome_of (Ok end) bytes)
type_found None bytes = refl
type_found (Some n) bytes = refl

-- the outcome that an answer tells is the one that was found, and so is that of the trials
pub outcome_found : (end : Option ℕ) (buffer : List ℕ) → outcome_of (Ok end) buffer ≡ outcome_in end buffer
outcome_found None buffer = refl
outcome_found (Some n) buffer = refl

pub as_its_trials : (t : Tree) (g : Given) (o told : Outcome) (qs : Trail) → looked_up t g ≡ result o qs → o ≡ told → UnlessFull told (ended t (trials t g))
as_its_trials t g o told qs came same = subst (λ x. UnlessFull x (ended t (trials t g))) (ap (λ r. r.outcome) came ∙ same) (unless_full t g)

-- the path buffer behind a choice is as before
rest_of_buffer : (found : results.Result (Option ℕ) Refusal) (before after : List ℕ) → after ≡ buffer_after (outcome_of found after) before → length_told found ≡ path_told (outcome_of found after) → drop (or_zero (length_told found)) after ≡ drop (or_zero (length_told found)) before
rest_of_buffer (Ok None) before after buffer told = ap (drop 0) buffer
rest_of_buffer (Err e) before after buffer told = ap (drop 0) buffer
rest_of_buffer (Ok (Some n)) before after buffer told =
    let size : n ≡ length (take n after) = cc in
    ap (drop n) buffer ∙ drop_at (take n after) (drop (length (take n after)) before) n (sym size) ∙ ap (λ k. drop k before) (sym size)

module _ (a b : InMemory) (before after : Lent) (steps : a.steps.items.now ≡ before.steps.now) (bytes : a.bytes.items.now ≡ before.bytes.now) (told : results.Result Resolution Refused) (count : count_told told ≡ b.steps.len) where
  -- what is not told is as before
  pub rest_is : (found : results.Result (Option ℕ) Refusal) → Grew a b → LaidOut b → after.path.now ≡ buffer_after (outcome_of found after.path.now) before.path.now → length_told found ≡ path_told (outcome_of found after.path.now) → choice_told told ≡ length_told found → after.steps.now ≡ b.steps.items.now → after.bytes.now ≡ b.bytes.items.now → RestAsBefore told before after
  rest_is found grew laid buffer length choice new_steps new_bytes =
      let n = count_told told in
      let size : bytes_told (take n after.steps.now) ≡ b.bytes.len = ap (λ xs. bytes_told (take n xs)) new_steps ∙ ap (λ k. bytes_told (take k b.steps.items.now)) count ∙ laid in
      record {
        path =
            ap (λ k. drop (or_zero k) after.path.now) choice ∙ rest_of_buffer found before.path.now after.path.now buffer length
            ∙ ap (λ k. drop (or_zero k) before.path.now) (sym choice);
        steps = ap (drop n) new_steps ∙ ap (λ k. drop k b.steps.items.now) count ∙ grew.steps.behind ∙ ap (λ k. drop k a.steps.items.now) (sym count) ∙ ap (drop n) steps;
        bytes =
            ap (drop (bytes_told (take n after.steps.now))) new_bytes ∙ ap (λ k. drop k b.bytes.items.now) size ∙ grew.bytes.behind
            ∙ ap (λ k. drop k a.bytes.items.now) (sym size) ∙ ap (drop (bytes_told (take n after.steps.now))) bytes;
      }

  -- a refusal by the checks left the trail as it was, without a step
  pub refused_by_part : (e : Refusal) → told ≡ Err record { refusal = e; count = count_told told } → a.steps.len ≡ 0 → b ≡ a → after.path.now ≡ before.path.now → after.steps.now ≡ b.steps.items.now → after.bytes.now ≡ b.bytes.items.now → RefusedByCheck e told before after
  refused_by_part e is empty same path new_steps new_bytes = record {
    told = is ∙ ap (λ n. Err record { refusal = e; count = n }) (count ∙ ap (λ t. t.steps.len) same ∙ empty);
    path = path;
    steps = new_steps ∙ ap (λ t. t.steps.items.now) same ∙ steps;
    bytes = new_bytes ∙ ap (λ t. t.bytes.items.now) same ∙ bytes;
  }

-- the checks of a lookup, given those of memory and texts
module _ (g : Given) where
  pub checks_refused : (e : Refusal) → Some e ≡ given_checks g.path_size g.work_size g.containing g.specifier None → checks g ≡ Some e
  unfolding checks
  checks_refused e h = given_refused g.path_size g.work_size g.containing g.specifier e (part_checks (path_part g.specifier)) h

  pub checks_passed : None ≡ given_checks g.path_size g.work_size g.containing g.specifier None → checks g ≡ part_checks (path_part g.specifier)
  unfolding checks
  checks_passed h = given_passed g.path_size g.work_size g.containing g.specifier h (part_checks (path_part g.specifier))

-- what is said of a refusal by the checks, where the first that fails is known
pub by_check : (P : Refusal → Type 0) (g : Given) (e : Refusal) → checks g ≡ Some e → P e → IfSome (checks g) P
by_check P g e h p = subst (λ r. IfSome r P) (sym h) p

pub by_part_check : (P Q : Refusal → Type 0) (g : Given) (part : List ℕ) → checks g ≡ part_checks (path_part g.specifier) → part ≡ path_part g.specifier → IfSome (part_checks part) Q → ((e : Refusal) → Q e → P e) → IfSome (checks g) P
by_part_check P Q g part passed same h f = subst (λ r. IfSome r P) (ap part_checks same ∙ sym passed) (onward (part_checks part) h)
  where
    onward : (r : Option Refusal) → IfSome r Q → IfSome r P
    onward None q = tt
    onward (Some e) q = f e q

-- the path part as it was read
pub part_parsed : (specifier raw : List ℕ) → raw ≡ raw_path specifier → unescaped raw ≡ path_part specifier
unfolding path_part
part_parsed specifier raw e = ap unescaped e

abbrev limits : ℕ → ℕ → Limits
limits n k = record { steps = n; bytes = k }

-- the limits of a trail in the lent memory
pub limits_lent : (a : InMemory) (steps : List Step) (bytes : List ℕ) → a.steps.items.now ≡ steps → a.bytes.items.now ≡ bytes → limits_of a ≡ record { steps = length steps; bytes = length bytes }
limits_lent a steps bytes e f = ap (λ xs. limits (length xs) (length a.bytes.items.now)) e ∙ ap (λ ys. limits (length steps) (length ys)) f

-- the memory after a lookup that came to an outcome with a trail
pub memory_after : (t : Tree) (r : Result) (o : Outcome) (qs : Trail) (before after : Lent) → r ≡ result o qs → after.path.now ≡ buffer_after o before.path.now → after.steps.now ≡ steps_from t 0 qs ++ drop (length qs) before.steps.now → after.bytes.now ≡ path_bytes qs ++ drop (length (path_bytes qs)) before.bytes.now → Memory t r before after
memory_after t r o qs before after e buffer s b = record {
  path_buffer = buffer ∙ ap (λ x. buffer_after x.outcome before.path.now) (sym e);
  trail_steps = s ∙ ap (λ x. steps_from t 0 x.trail ++ drop (length x.trail) before.steps.now) (sym e);
  trail_bytes = b ∙ ap (λ x. path_bytes x.trail ++ drop (length (path_bytes x.trail)) before.bytes.now) (sym e);
}

-- How an answer and the lent memory tell what a lookup came to.
use Rattle.std.specs.Prelude.{◌≡◌, ℕ, Bool, true, false, List, [], ◌++◌, length, take, drop, Some, None, Ok, Err, Option}
use Rattle.std.specs.Option.{option_map}
use Rattle.std.specs.declared.result.Result as results
use Rattle.file_system.specs.Tree.{Path, Tree}
use Rattle.search.specs.declared.error.Refusal.{Refusal}
use Rattle.search.specs.Search.{Trail, path_bytes, Outcome, refused, none, chosen, Result, result, run}
use Rattle.search.specs.Memory.{InMemory, steps_from, limits_of, Holds, bytes_told}
use Rattle.dts_resolver.specs.declared.resolution.ModuleType.{ModuleType}
use Rattle.dts_resolver.specs.declared.resolution.Resolution.{Resolution}
use Rattle.dts_resolver.specs.declared.resolution.Refused.{Refused}
use Rattle.dts_resolver.specs.declared.import.Import.{Import}
use Rattle.dts_resolver.specs.declared.lent.Lent.{Lent}
use Rattle.dts_resolver.specs.Specifier.{query_of, fragment_of}
use Rattle.dts_resolver.specs.Endings.{type_of}
use Rattle.dts_resolver.specs.Given.{Given}
use Rattle.dts_resolver.specs.Checks.{part_checks}
use Rattle.dts_resolver.specs.Steps.{search_of, after_checks}

-- the refusal that a result tells, if it is one
abbrev pub refusal_of : {A : Type 0} → results.Result A Refusal → Option Refusal
refusal_of (Ok x) = None
refusal_of (Err e) = Some e

-- what a lookup is given by what is asked and the lengths of the lent memory
abbrev pub given_of : Import → ℕ → ℕ → ℕ → ℕ → Given
given_of import path work steps bytes = record {
  containing = import.containing.now;
  specifier = import.specifier.now;
  mask = import.mask;
  path_size = path;
  work_size = work;
  limits = record { steps = steps; bytes = bytes };
}

abbrev pub given_by : Import → Lent → Given
given_by import lent = given_of import (length lent.path.now) (length lent.work.now) (length lent.steps.now) (length lent.bytes.now)

-- the path buffer after an outcome: a chosen path at its start, and all else as before
abbrev pub buffer_after : Outcome → List ℕ → List ℕ
buffer_after (chosen p) before = p ++ drop (length p) before
buffer_after none before = before
buffer_after (refused e) before = before

-- what an answer tells of a choice: its length and its type
abbrev pub path_told : Outcome → Option ℕ
path_told (chosen p) = Some (length p)
path_told none = None
path_told (refused e) = None

abbrev pub type_told : Outcome → Option ModuleType
type_told (chosen p) = type_of p
type_told none = None
type_told (refused e) = None

abbrev pub is_refused : Outcome → Bool
is_refused (refused e) = true
is_refused none = false
is_refused (chosen p) = false

-- the type of a choice that stands at the start of some bytes
abbrev pub type_at : Option ℕ → List ℕ → Option ModuleType
type_at None bytes = None
type_at (Some n) bytes = type_of (take n bytes)

-- the length that a result tells
abbrev pub length_told : results.Result (Option ℕ) Refusal → Option ℕ
length_told (Ok n) = n
length_told (Err e) = None

-- From an empty trail a path part was checked and searched.
abbrev pub Looked : Tree → InMemory → InMemory → ℕ → Path → List ℕ → Outcome → Type 0
Looked tree before after mask d part o =
    Holds tree before [] → (qs : Trail) × (Holds tree after qs × (run (limits_of before) tree (after_checks (part_checks part) (search_of mask d part)) [] ≡ result o qs))

-- How an answer tells what a lookup came to.
pub record TellsAnswer (r : Result) (a : Resolution) : Type 0 where
  pub not_refused : is_refused r.outcome ≡ false
  pub path : a.path ≡ path_told r.outcome
  pub module_type : a.module_type ≡ type_told r.outcome
  pub count : a.count ≡ length r.trail

pub record TellsRefusal (r : Result) (a : Refused) : Type 0 where
  pub refusal : r.outcome ≡ refused a.refusal
  pub count : a.count ≡ length r.trail

abbrev pub Tells : Result → results.Result Resolution Refused → Type 0
Tells r (Ok a) = TellsAnswer r a
Tells r (Err a) = TellsRefusal r a

-- What the lent memory holds afterwards; the work area is free.
pub record Memory (t : Tree) (r : Result) (before after : Lent) : Type 0 where
  pub path_buffer : after.path.now ≡ buffer_after r.outcome before.path.now
  pub trail_steps : after.steps.now ≡ steps_from t 0 r.trail ++ drop (length r.trail) before.steps.now
  pub trail_bytes : after.bytes.now ≡ path_bytes r.trail ++ drop (length (path_bytes r.trail)) before.bytes.now

-- It is the memory that was lent, each piece as long as before.
pub record SameMemory (before after : Lent) : Type 0 where
  pub path : after.path.ghost_name ≡ before.path.ghost_name
  pub work : after.work.ghost_name ≡ before.work.ghost_name
  pub steps : after.steps.ghost_name ≡ before.steps.ghost_name
  pub bytes : after.bytes.ghost_name ≡ before.bytes.ghost_name
  pub path_length : length after.path.now ≡ length before.path.now
  pub work_length : length after.work.now ≡ length before.work.now
  pub steps_length : length after.steps.now ≡ length before.steps.now
  pub bytes_length : length after.bytes.now ≡ length before.bytes.now

-- What holds over every store whatever, sound or not.

-- the count of steps that is told, and the length of a choice
abbrev pub count_told : results.Result Resolution Refused → ℕ
count_told (Ok a) = a.count
count_told (Err a) = a.count

abbrev pub choice_told : results.Result Resolution Refused → Option ℕ
choice_told (Ok a) = a.path
choice_told (Err a) = None

abbrev pub or_zero : Option ℕ → ℕ
or_zero None = 0
or_zero (Some n) = n

-- the outcome that is told, with a choice at the start of the path buffer
abbrev pub outcome_in : Option ℕ → List ℕ → Outcome
outcome_in None buffer = none
outcome_in (Some n) buffer = chosen (take n buffer)

abbrev pub outcome_told : results.Result Resolution Refused → List ℕ → Outcome
outcome_told (Ok a) buffer = outcome_in a.path buffer
outcome_told (Err a) buffer = refused a.refusal

-- A refusal by the checks is exactly that one, with no step, and all lent memory but the work area is as before.
pub record RefusedByCheck (e : Refusal) (r : results.Result Resolution Refused) (before after : Lent) : Type 0 where
  pub told : r ≡ Err record { refusal = e; count = 0 }
  pub path : after.path.now ≡ before.path.now
  pub steps : after.steps.now ≡ before.steps.now
  pub bytes : after.bytes.now ≡ before.bytes.now

-- What an answer does not tell of is as before: the path buffer behind a choice, the steps behind those that are counted,
-- and the bytes behind their paths.
pub record RestAsBefore (r : results.Result Resolution Refused) (before after : Lent) : Type 0 where
  pub path : drop (or_zero (choice_told r)) after.path.now ≡ drop (or_zero (choice_told r)) before.path.now
  pub steps : drop (count_told r) after.steps.now ≡ drop (count_told r) before.steps.now
  pub bytes :
      let n = bytes_told (take (count_told r) after.steps.now) in
      drop n after.bytes.now ≡ drop n before.bytes.now

-- Query and fragment are parts of the specifier, and the type is that of the choice in the path buffer.
pub record TellsParts (specifier buffer : List ℕ) (a : Resolution) : Type 0 where
  pub query : option_map (λ x. x.now) a.query ≡ query_of specifier
  pub fragment : option_map (λ x. x.now) a.fragment ≡ fragment_of specifier
  pub module_type : a.module_type ≡ type_at a.path buffer

-- What a call of a list asks for, and how its outcome is shown in code and memory.
use Rattle.std.specs.Prelude.{ℕ, List, length, map, min, take, drop, Ok, Err, Result}
use Rattle.std.specs.Option.{option_map}
use Rattle.file_system.specs.Tree.{Path}
use Rattle.dts_resolver.specs.declared.resolution.Resolution.{Resolution}
use Rattle.dts_resolver.specs.declared.resolution.Refused.{Refused}
use Rattle.search.specs.declared.trail.Step as lent
use Rattle.dts_resolver.specs.declared.lent.Lent.{Lent}
use Rattle.search.specs.Search.{Limits}
use Rattle.dts_resolver.specs.Given.{Given}
use Rattle.dts_resolver.specs.Answer.{count_told}
use Rattle.replay.specs.declared.call.Call.{Call}
use Rattle.replay.specs.declared.call.Call.TheVariants.{LookUp, AddDirectory, AddFile, Remove}
use Rattle.replay.specs.declared.call.Lookup.{Lookup}
use Rattle.replay.specs.declared.call.Lengths.{Lengths}
use Rattle.replay.specs.Event.{Answer, found, is_refused, Step, Event, looked_up, added_directory, added_file, removed}

-- what is asked for: a call without its outcome
pub data Request : Type 0 where
  look_up : Given → Request
  add_directory : Path → Request
  add_file : Path → List ℕ → Request
  remove : Path → Request

abbrev pub request_of : Event → Request
request_of (looked_up g a s) = look_up g
request_of (added_directory p r) = add_directory p
request_of (added_file p content r) = add_file p content
request_of (removed p r) = remove p

-- the lengths of the lent memory
pub record Sizes : Type 0 where
  pub path : ℕ
  pub work : ℕ
  pub limits : Limits

abbrev pub sizes : ℕ → ℕ → ℕ → ℕ → Sizes
sizes path work steps bytes = record { path = path; work = work; limits = record { steps = steps; bytes = bytes } }

abbrev pub sizes_of : Lent → Sizes
sizes_of m = sizes (length m.path.now) (length m.work.now) (length m.steps.now) (length m.bytes.now)

-- what a lookup is given, where so much memory is lent to it
abbrev pub given_of : Sizes → Lookup → Given
given_of m l = record { containing = l.containing.now; specifier = l.specifier.now; mask = l.mask.now; path_size = m.path; work_size = m.work; limits = m.limits }

-- A lookup of a list is lent the first so many bytes or steps of each piece, or all where the piece has fewer.
abbrev pub within : Sizes → Lengths → Sizes
within m n = sizes (min n.path m.path) (min n.work m.work) (min n.steps m.limits.steps) (min n.bytes m.limits.bytes)

-- what a call of the list asks for, where so much memory is lent to the list
abbrev pub request : Sizes → Call → Request
request m (LookUp l) = look_up (given_of (within m l.lengths) l)
request m (AddDirectory p) = add_directory p.now
request m (AddFile p content) = add_file p.now content.now
request m (Remove p) = remove p.now

-- what an answer tells, with the chosen path at the start of the path buffer
abbrev pub answer_told : Result Resolution Refused → List ℕ → Answer
answer_told (Ok a) buffer = found record { path = option_map (λ n. take n buffer) a.path; query = option_map (λ x. x.now) a.query; fragment = option_map (λ x. x.now) a.fragment; module_type = a.module_type; count = a.count }
answer_told (Err e) buffer = is_refused e.refusal e.count

-- the steps that stand in the lent memory, with their paths
abbrev pub steps_told : List ℕ → List lent.Step → List Step
steps_told bytes ss = map (λ s. record { path = take s.length (drop s.start bytes); reply = s.reply }) ss

-- a lookup and its outcome, as it is shown to an observer
abbrev pub shown : Lookup → Result Resolution Refused → Lent → Event
shown l r m = looked_up (given_of (sizes_of m) l) (answer_told r m.path.now) (steps_told m.bytes.now (take (count_told r) m.steps.now))

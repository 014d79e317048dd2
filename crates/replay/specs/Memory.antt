-- What the lent memory holds after the calls of a list.
use Rattle.std.specs.Prelude.{◌≡◌, ℕ, List, [], ◌∷◌, length, take, drop, IfSome}
use Rattle.search.specs.declared.trail.Step as lent
use Rattle.dts_resolver.specs.declared.lent.Lent.{Lent}
use Rattle.dts_resolver.specs.Given.{Given}
use Rattle.replay.specs.Event.{Answer, found, is_refused, Step, Event, looked_up, added_directory, added_file, removed}
use Rattle.replay.specs.Requests.{steps_told}

-- the four lent pieces, by what they hold
pub record Contents : Type 0 where
  pub path : List ℕ
  pub work : List ℕ
  pub steps : List lent.Step
  pub bytes : List ℕ

abbrev pub contents : List ℕ → List ℕ → List lent.Step → List ℕ → Contents
contents path work steps bytes = record { path = path; work = work; steps = steps; bytes = bytes }

abbrev pub contents_of : Lent → Contents
contents_of m = contents m.path.now m.work.now m.steps.now m.bytes.now

-- a chosen path stands at the start of a path buffer
abbrev pub ChosenStands : Answer → List ℕ → Type 0
ChosenStands (found a) buffer = IfSome a.path (λ p. take (length p) buffer ≡ p)
ChosenStands (is_refused e count) buffer = Unit {0}

-- After a lookup, what it chose and its trail stand in the parts that it was lent; all behind these parts is as before.
pub record HoldsOutcome (g : Given) (a : Answer) (s : List Step) (before after : Contents) : Type 0 where
  pub chosen : ChosenStands a (take g.path_size after.path)
  pub trail : steps_told (take g.limits.bytes after.bytes) (take (length s) (take g.limits.steps after.steps)) ≡ s
  pub path_behind : drop g.path_size after.path ≡ drop g.path_size before.path
  pub work_behind : drop g.work_size after.work ≡ drop g.work_size before.work
  pub steps_behind : drop g.limits.steps after.steps ≡ drop g.limits.steps before.steps
  pub bytes_behind : drop g.limits.bytes after.bytes ≡ drop g.limits.bytes before.bytes

-- A lookup leaves its outcome there, and a change leaves the memory as it is.
abbrev pub LeavesMemory : Event → Contents → Contents → Type 0
LeavesMemory (looked_up g a s) before after = HoldsOutcome g a s before after
LeavesMemory (added_directory p r) before after = after ≡ before
LeavesMemory (added_file p content r) before after = after ≡ before
LeavesMemory (removed p r) before after = after ≡ before

-- ... each in turn: so at the end the memory holds what the last lookup left there.
abbrev pub HeldInTurn : Contents → List Event → Contents → Type 0
HeldInTurn before [] after = after ≡ before
HeldInTurn before (e ∷ es) after = (next : Contents) × (LeavesMemory e before next × HeldInTurn next es after)

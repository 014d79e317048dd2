-- What lookups leave in the lent memory, and in the parts of it that they are lent.
use Rattle.std.proofs.Common.{◌≡◌, ℕ, min, List, [], ◌∷◌, ◌++◌, length, take, drop, IfSome, Some, None, Ok, Err, Option, Result, sym, refl, ap, ◌∙◌, subst, arith}
use Rattle.std.specs.Option.{option_map}
use Rattle.std.specs.declared.result.Result as results
use Rattle.std.proofs.lemmas.List.{take_all, drop_all, take_at, drop_at, length-take, length-map}
use Rattle.list.proofs.TakenOut.{take_min}
use Rattle.file_system.specs.Tree.{Tree}
use Rattle.file_system.specs.Store.{Space}
use Rattle.dts_resolver.specs.declared.resolution.Resolution.{Resolution}
use Rattle.dts_resolver.specs.declared.resolution.Refused.{Refused}
use Rattle.search.specs.declared.trail.Step as lent
use Rattle.dts_resolver.specs.declared.lent.Lent.{Lent}
use Rattle.dts_resolver.specs.Answer.{SameMemory, count_told}
use Rattle.replay.specs.declared.call.Lookup.{Lookup}
use Rattle.replay.specs.Event.{Event, looked_up}
use Rattle.replay.specs.Requests.{look_up, Sizes, sizes, sizes_of, given_of, within, answer_told, steps_told}
use Rattle.replay.specs.Memory.{Contents, contents, contents_of, ChosenStands, HoldsOutcome, LeavesMemory, HeldInTurn}
use Rattle.replay.specs.Replay.{CarriedOut, LookedUp}
use Rattle.replay.proofs.ReplayLookup.{sizes_by}

-- a beginning is as long as it is
take_its_length : {X : Type 0} (n : ℕ) (xs : List X) → take (length (take n xs)) xs ≡ take n xs
take_its_length n xs = ap (λ k. take k xs) (length-take n xs) ∙ take_min n xs

stands : (o : Option ℕ) (buffer : List ℕ) → IfSome (option_map (λ n. take n buffer) o) (λ p. take (length p) buffer ≡ p)
stands None buffer = tt
stands (Some n) buffer = take_its_length n buffer

chosen_stands : (told : results.Result Resolution Refused) (buffer : List ℕ) → ChosenStands (answer_told told buffer) buffer
chosen_stands (Ok a) buffer = stands a.path buffer
chosen_stands (Err e) buffer = tt

-- What an answer tells, as it is shown, stands in the memory.
pub outcome_held : (l : Lookup) (told : results.Result Resolution Refused) (before after : Lent) → SameMemory before after → HoldsOutcome (given_of (sizes_of before) l) (answer_told told after.path.now) (steps_told after.bytes.now (take (count_told told) after.steps.now)) (contents_of before) (contents_of after)
outcome_held l told before after same =
    let n = count_told told in
    let path : take (length before.path.now) after.path.now ≡ after.path.now = take_all (length before.path.now) after.path.now (omega (arith, same.path_length)) in
    let bytes : take (length before.bytes.now) after.bytes.now ≡ after.bytes.now = take_all (length before.bytes.now) after.bytes.now (omega (arith, same.bytes_length)) in
    let steps : take (length before.steps.now) after.steps.now ≡ after.steps.now = take_all (length before.steps.now) after.steps.now (omega (arith, same.steps_length)) in
    let count : length (steps_told after.bytes.now (take n after.steps.now)) ≡ length (take n after.steps.now) = length-map (take n after.steps.now) (λ s. record { path = take s.length (drop s.start after.bytes.now); reply = s.reply }) in
    record {
      chosen = subst (ChosenStands (answer_told told after.path.now)) (sym path) (chosen_stands told after.path.now);
      trail =
          ap (λ ss. steps_told (take (length before.bytes.now) after.bytes.now) (take (length (steps_told after.bytes.now (take n after.steps.now))) ss)) steps
          ∙ ap (λ bs. steps_told bs (take (length (steps_told after.bytes.now (take n after.steps.now))) after.steps.now)) bytes
          ∙ ap (λ k. steps_told after.bytes.now (take k after.steps.now)) count
          ∙ ap (steps_told after.bytes.now) (take_its_length n after.steps.now);
      path_behind = drop_all (length before.path.now) after.path.now (omega (arith, same.path_length)) ∙ sym (drop_all (length before.path.now) before.path.now (omega arith));
      work_behind = drop_all (length before.work.now) after.work.now (omega (arith, same.work_length)) ∙ sym (drop_all (length before.work.now) before.work.now (omega arith));
      steps_behind = drop_all (length before.steps.now) after.steps.now (omega (arith, same.steps_length)) ∙ sym (drop_all (length before.steps.now) before.steps.now (omega arith));
      bytes_behind = drop_all (length before.bytes.now) after.bytes.now (omega (arith, same.bytes_length)) ∙ sym (drop_all (length before.bytes.now) before.bytes.now (omega arith));
    }

-- A piece whose beginning was lent, and was put back.
module _ {X : Type 0} (xs part : List X) (n k : ℕ) (long : length part ≡ k) where
  front : take k (part ++ drop n xs) ≡ take k part
  front = take_at part (drop n xs) k long ∙ sym (take_all k part (omega (arith, long)))

  back : k ≡ n → drop k (part ++ drop n xs) ≡ drop k xs
  back e = drop_at part (drop n xs) k long ∙ ap (λ m. drop m xs) (sym e)

-- as much of a piece as is asked for, and is there
lent_length : {X : Type 0} (xs : List X) (n m : ℕ) → n ≡ min m (length xs) → length (take n xs) ≡ n
lent_length xs n m h = omega (arith, length-take n xs, h)

-- A lookup in parts of the memory is a lookup of a list.
module _ {Store E : Type 0} (sound : Store → Type 0) (tree : Store → Tree) (space : Store → Space) (old new : List Event → Type 0) (r : Result (Unit {0}) E) (l : Lookup) (store store' : Store) (path work : List ℕ) (steps : List lent.Step) (bytes : List ℕ) (np nw ns nb : ℕ) (path' work' : List ℕ) (steps' : List lent.Step) (bytes' : List ℕ) where
  abbrev parts : Contents
  parts = contents (take np path) (take nw work) (take ns steps) (take nb bytes)

  pub in_parts :
      np ≡ min l.lengths.path (length path) → nw ≡ min l.lengths.work (length work) → ns ≡ min l.lengths.steps (length steps) → nb ≡ min l.lengths.bytes (length bytes) →
      length path' ≡ length (take np path) → length work' ≡ length (take nw work) → length steps' ≡ length (take ns steps) → length bytes' ≡ length (take nb bytes) →
      LookedUp sound tree space old new r (given_of (sizes (length (take np path)) (length (take nw work)) (length (take ns steps)) (length (take nb bytes))) l) store store' parts (contents path' work' steps' bytes') →
      CarriedOut sound tree space old new r (look_up (given_of (within (sizes (length path) (length work) (length steps) (length bytes)) l.lengths) l)) store store' (contents path work steps bytes) (contents (path' ++ drop np path) (work' ++ drop nw work) (steps' ++ drop ns steps) (bytes' ++ drop nb bytes))
  in_parts hp hw hs hb ep ew es eb h =
      let p = lent_length path np l.lengths.path hp in
      let w = lent_length work nw l.lengths.work hw in
      let s = lent_length steps ns l.lengths.steps hs in
      let b = lent_length bytes nb l.lengths.bytes hb in
      let kp = length (take np path) in
      let kw = length (take nw work) in
      let ks = length (take ns steps) in
      let kb = length (take nb bytes) in
      record {
        event = looked_up (given_of (sizes kp kw ks kb) l) h.answer h.steps;
        asks = ap (λ (m : Sizes). look_up (given_of m l)) (sizes_by kp _ kw _ ks _ kb _ (p ∙ hp) (w ∙ hw) (s ∙ hs) (b ∙ hb));
        heard = h.heard;
        made = h.made;
        leaves = record {
          chosen = subst (ChosenStands h.answer) (sym (front path path' np kp ep)) h.leaves.chosen;
          trail =
              ap (λ ss. steps_told (take kb (bytes' ++ drop nb bytes)) (take (length h.steps) ss)) (front steps steps' ns ks es)
              ∙ ap (λ bs. steps_told bs (take (length h.steps) (take ks steps'))) (front bytes bytes' nb kb eb)
              ∙ h.leaves.trail;
          path_behind = back path path' np kp ep p;
          work_behind = back work work' nw kw ew w;
          steps_behind = back steps steps' ns ks es s;
          bytes_behind = back bytes bytes' nb kb eb b;
        };
      }

-- memory that is held in turn, and goes on
pub held-append : (before : Contents) (es : List Event) (between : Contents) (fs : List Event) (after : Contents) → HeldInTurn before es between → HeldInTurn between fs after → HeldInTurn before (es ++ fs) after
held-append before [] between fs after h k = subst (λ (m : Contents). HeldInTurn m fs after) h k
held-append before (e ∷ es) between fs after h k = (h.0, (h.1.0, held-append h.0 es between fs after h.1.1 k))

pub one_held : (before : Contents) (e : Event) (after : Contents) → LeavesMemory e before after → HeldInTurn before (e ∷ []) after
one_held before e after h = (after, (h, refl))

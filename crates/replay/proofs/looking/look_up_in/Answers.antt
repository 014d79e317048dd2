use Rattle.std.proofs.Common.{subst, take}
use Rattle.replay.specs.Requests.{Sizes, given_of, answer_told, steps_told}
use Rattle.dts_resolver.specs.Answer.{count_told}
use Rattle.replay.specs.Event.{looked_up}
use Rattle.replay.specs.Replay.{Heard}
use Rattle.replay.proofs.ReplayLookup.{same_sizes, as_defined}
use Rattle.replay.proofs.ReplayMemory.{outcome_held}
use Rattle.replay.proofs.looking.look_up_in.Goals as goal

pub returns : goal.returns
returns g c =
    let t = g.S.FileSystem.tree c.args.store.now in
    let asked = c.args.asked.now in
    let told = c.lookup-answer.result in
    let before = c.args.lent.now in
    let after = c.lookup-answer.new.lent in
    let came = c.lookup-answer.ensures in
    let sizes = same_sizes before after came.same_memory in
    let answer = answer_told told after.path.now in
    let steps = steps_told after.bytes.now (take (count_told told) after.steps.now) in
    record {
      told_of_it = record {
        answer = answer;
        steps = steps;
        heard = subst (λ (m : Sizes). Heard (g.O.Observer.told c.args.observer.now) (g.O.Observer.told c.looked_up.new.self) c.looked_up.result (looked_up (given_of m asked) answer steps)) sizes c.looked_up.ensures.heard;
        made = λ s. record {
          right = as_defined t asked told before after (came.tells_the_answer s) came.parts_of_the_specifier (came.fills_the_memory s);
          tree_after = came.same_tree s;
          space_after = came.same_space s;
          sound_after = came.stays_sound s;
        };
        leaves = outcome_held asked told before after came.same_memory;
      };
      stays_sound = came.stays_sound;
      own_path = came.same_memory.path;
      own_work = came.same_memory.work;
      own_steps = came.same_memory.steps;
      own_bytes = came.same_memory.bytes;
      same_lengths = sizes;
    }

use Rattle.std.proofs.Common.{ℕ, ◌+◌, List, [], ◌∷◌, ◌++◌, length, is_ok, sym, ap, ◌∙◌, arith}
use Rattle.list.specs.Held.{held}
use Rattle.list.proofs.Held.{extended_by}
use Rattle.std.proofs.lemmas.Bool.{cond-true}
use Rattle.search.specs.declared.trail.Step.{Step}
use Rattle.search.specs.Search.{path_of, path_bytes}
use Rattle.search.specs.Memory.{in_lists, reply_of, steps_from, bytes_told}
use Rattle.search.proofs.TrailMemory.{bytes_more, steps_more, bytes_count, bytes_told_more}
use Rattle.search.proofs.trail.note.Goals as goal

pub returns-clause-one_more : goal.returns-clause-one_more
returns-clause-one_more c =
    let t = in_lists c.args.steps.now c.args.bytes.now in
    let path = c.args.path.now in
    let appended = ap is_ok c.unwrap.ensures in
    let pushed = ap is_ok c.unwrap-2.ensures in
    let entry : ℕ → List ℕ → Step = λ n p. record { start = n; length = length p; reply = c.args.reply } in
    λ tree qs q h same_path same_reply.
    let start = c.len-start.ensures.count ∙ bytes_count tree t qs h in
    record {
      steps =
          c.push.ensures.one_more
          ∙ cond-true (is_ok c.push.result) (held t.steps ++ entry c.len-start.result path ∷ []) (held t.steps) pushed
          ∙ ap (λ xs. xs ++ entry c.len-start.result path ∷ []) h.steps
          ∙ ap (λ n. steps_from tree 0 qs ++ entry n path ∷ []) start
          ∙ ap (λ p. steps_from tree 0 qs ++ entry (length (path_bytes qs)) p ∷ []) (sym same_path)
          ∙ ap (λ r. steps_from tree 0 qs ++ record { start = length (path_bytes qs); length = length (path_of q); reply = r } ∷ []) (sym same_reply)
          ∙ sym (steps_more tree 0 qs q ∙ ap (λ n. steps_from tree 0 qs ++ record { start = n; length = length (path_of q); reply = reply_of tree q } ∷ []) (omega arith));
      bytes =
          c.append.ensures.all_more ∙ cond-true (is_ok c.append.result) (held t.bytes ++ path) (held t.bytes) appended
          ∙ ap (λ xs. xs ++ path) h.bytes ∙ ap (λ p. path_bytes qs ++ p) (sym same_path) ∙ sym (bytes_more qs q);
      steps_within = c.push.new.self.within;
      bytes_within = c.append.new.self.within;
    }

pub returns-clause-grew : goal.returns-clause-grew
returns-clause-grew c =
    let t = in_lists c.args.steps.now c.args.bytes.now in
    record {
      steps = extended_by t.steps c.push.new.self (is_ok c.push.result) 1 c.push.ensures.counted c.push.ensures.others_as_before c.push.ensures.same_capacity;
      bytes = extended_by t.bytes c.append.new.self (is_ok c.append.result) (length c.args.path.now) c.append.ensures.counted c.append.ensures.others_as_before c.append.ensures.same_capacity;
    }

pub returns-clause-laid_out : goal.returns-clause-laid_out
returns-clause-laid_out c =
    let t = in_lists c.args.steps.now c.args.bytes.now in
    let appended = ap is_ok c.unwrap.ensures in
    let pushed = ap is_ok c.unwrap-2.ensures in
    let entry : Step = record { start = c.len-start.result; length = length c.args.path.now; reply = c.args.reply } in
    let steps = c.push.ensures.one_more ∙ cond-true (is_ok c.push.result) (held t.steps ++ entry ∷ []) (held t.steps) pushed in
    let bytes = c.append.ensures.counted ∙ cond-true (is_ok c.append.result) (t.bytes.len + length c.args.path.now) t.bytes.len appended in
    λ h. ap bytes_told steps ∙ bytes_told_more (held t.steps) entry ∙ ap (λ n. n + length c.args.path.now) h ∙ sym bytes

-- The room is the front of the buffer, as long as a path may be; what lies behind it stays.
use Rattle.std.proofs.Common.{◌≡◌, min, ◌++◌, length, take, drop, ap, ◌∙◌, sym, ◌+◌, arith, take-append-drop}
use borrow.Rule.Slice.PartMut.{post_of}
use Rattle.std.proofs.lemmas.List.{length-take}
use Rattle.std.proofs.lemmas.Slice.{drop-append-drop}
use Rattle.path.specs.Path.{joining}
use Rattle.path.specs.Report.{Reports}
use Rattle.path.proofs.Walking.{joining_normal, same_behind}
use Rattle.path.proofs.Reporting.{reports_front, reports_path, reports_same}
use Rattle.path.proofs.joining.join_text.Goals as goal

pub returns : goal.returns
returns g c =
    let into = c.args.into.now in
    let limit = c.min-limit.result in
    let after = c.join_within.new.room in
    let room : length (take (c.min-limit.result) c.args.into.now) ≡ min 1024 (length c.args.into.now) =
    omega (arith, length-take (c.min-limit.result) c.args.into.now) in
    let subpath = g.B.Bytes.to_come c.args.subpath in
    let told : Reports c.join_within.result after (joining (min 1024 (length into)) c.args.directory.now subpath) =
    reports_same c.join_within.result after _ _ (ap (λ n. joining n c.args.directory.now (take c.whole.result.len (g.B.Bytes.to_come c.whole.result.bytes))) room ∙ ap (joining (min 1024 (length into)) c.args.directory.now) c.whole.ensures.all_to_come) c.join_within.ensures.by_components in
    let whole = reports_front c.join_within.result after (post_of 0 limit into) (joining (min 1024 (length into)) c.args.directory.now subpath) told in
    record {
      by_components = whole;
      normal_result = reports_path _ _ _ _ whole (λ p e. (joining_normal _ _ _ p e).0);
      short_result = reports_path _ _ _ _ whole (λ p e. omega (arith, (joining_normal _ _ _ p e).1));
      kept_behind =
          ap (λ s. drop (length c.args.directory.now + 1 + length s) (after ++ post_of 0 limit into)) (sym c.whole.ensures.all_to_come)
          ∙ same_behind _ after (take limit into) (post_of 0 limit into) (omega (arith, c.join_within.auto.room)) c.join_within.ensures.kept_behind
          ∙ ap (λ s. drop (length c.args.directory.now + 1 + length s) (take limit into ++ post_of 0 limit into)) c.whole.ensures.all_to_come ∙ ap (drop _) (take-append-drop limit into);
      kept_from_1024_on = drop-append-drop limit into after 1024 (omega arith) (omega (arith, c.join_within.auto.room));
      kept_if_nothing = λ e. ap (λ xs. xs ++ post_of 0 limit into) (c.join_within.ensures.kept_if_nothing e) ∙ take-append-drop limit into;
    }

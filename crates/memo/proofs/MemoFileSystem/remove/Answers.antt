use Rattle.std.proofs.Common.{List, sym, subst}
use Rattle.file_system.specs.Tree.{nothing}
use Rattle.memo.specs.Memo.{Item, remembered, Faithful}
use Rattle.memo.proofs.MemoFaith.{others_faithful}
use Rattle.memo.proofs.MemoFileSystem.remove.Goals as goal

pub returns : goal.returns
returns g c =
    let m = c.args.self.now in
    let t' = g.S.FileSystem.tree c.remove.new.self in
    let below = c.in_ok-remove.ensures in
    record {
      refused_by_the_checks = λ s. below.refused_by_the_checks s.0;
      changes_that_path_alone = λ s. below.changes_that_path_alone s.0;
      stays_sound = λ s. (
        below.stays_sound s.0,
        subst (λ (xs : List Item). Faithful t' xs) (sym c.forget.ensures.that_path_alone)
            (others_faithful (g.S.FileSystem.tree m.store) t' c.args.path.now nothing (below.changes_that_path_alone s.0) (remembered m.kinds) s.1),
      );
      forgets_that_path_alone = c.forget.ensures.that_path_alone;
    }

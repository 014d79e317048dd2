use Rattle.std.proofs.Common.{List, ◌++◌, length, sym, refl, ap, ◌∙◌, subst, arith}
use Rattle.memo.specs.Memo.{Item, remembered, latest, Faithful}
use Rattle.memo.proofs.MemoFifo.{keeps_the_latest}
use Rattle.memo.proofs.Memo.new.Goals as goal

pub returns : goal.returns
returns g c =
    let xs = remembered c.new.result in
    let none = c.new.ensures.none in
    record {
      over_the_store = refl;
      remembers_nothing = none;
      is_sound = λ s. (s, subst (λ (ys : List Item). Faithful (g.S.FileSystem.tree c.args.store) ys) (sym none) tt);
      keeps_the_latest_64 = λ qs new. keeps_the_latest xs qs (omega (arith, ap length none)) new ∙ ap (λ (ys : List Item). latest (ys ++ qs)) none;
    }

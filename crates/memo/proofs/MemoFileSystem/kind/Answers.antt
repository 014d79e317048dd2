use Rattle.std.proofs.Common.{true, false, List, length, is_some, sym, refl, ap, ◌∙◌, subst, arith}
use Rattle.file_system.specs.Tree.{Tree}
use Rattle.memo.specs.Memo.{Item, item, remembered, knows, Agrees, Faithful}
use Rattle.std.proofs.lemmas.Bool.{both_ways}
use Rattle.memo.proofs.MemoFifo.{asked_by, entered_short}
use Rattle.file_system.proofs.StoreChecks.{storable_short}
use Rattle.memo.proofs.MemoFaith.{recalled_agrees, entered_faithful}
use Rattle.memo.proofs.MemoFileSystem.kind.Goals as goal

pub returns-in-Some : goal.returns-in-Some
returns-in-Some g c =
    let m = c.args.self.now in
    let p = c.args.path.now in
    let xs = remembered m.kinds in
    let told = recalled_agrees (g.S.FileSystem.tree m.store) xs p c.in-Some.kind in
    let found = sym c.recall.ensures.first ∙ c.in-Some.is in
    record {
      follows_the_tree = λ s. (told s.1 found).same_kind;
      same_tree = λ s. refl;
      same_space = λ s. refl;
      stays_sound = λ s. s;
      remembered_without_asking = λ yes. (refl, found);
      first_in_first_out = sym (asked_by xs p c.in-Some.kind true _ (ap is_some found) refl);
      at_most_64 = c.recall.ensures.at_most_64;
    }

pub returns-then-is_storable : goal.returns-then-is_storable
returns-then-is_storable g c =
    let m = c.args.self.now in
    let p = c.args.path.now in
    let k = c.kind-kind.result in
    let below = c.kind-kind.ensures in
    let unknown = ap is_some (sym c.recall.ensures.first ∙ c.in_default.is) in
    let can_store = sym c.if-is_storable.ensures.storable_path in
    let held = c.remember.ensures.first_in_first_out (storable_short p can_store) in
    record {
      follows_the_tree = λ s. below.follows_the_tree s.0;
      same_tree = λ s. below.same_tree s.0;
      same_space = λ s. below.same_space s.0;
      stays_sound = λ s.
          let new : Agrees (g.S.FileSystem.tree m.store) (item p k) = record { can_store = can_store; same_kind = below.follows_the_tree s.0 } in (
            below.stays_sound s.0,
            subst (λ (t : Tree). Faithful t (remembered c.remember.new.self)) (sym (below.same_tree s.0))
                (subst (λ (xs : List Item). Faithful (g.S.FileSystem.tree m.store) xs) (sym held)
                (entered_faithful (g.S.FileSystem.tree m.store) (remembered m.kinds) (item p k) s.1 new)),
          );
      remembered_without_asking = λ yes. absurd (both_ways (knows (remembered m.kinds) p) unknown yes);
      first_in_first_out = held ∙ sym (asked_by (remembered m.kinds) p k false true unknown can_store);
      at_most_64 = omega (arith, ap length held, entered_short (remembered m.kinds) (item p k));
    }

pub returns-else-is_storable : goal.returns-else-is_storable
returns-else-is_storable g c =
    let m = c.args.self.now in
    let p = c.args.path.now in
    let below = c.kind-kind.ensures in
    let unknown = ap is_some (sym c.recall.ensures.first ∙ c.in_default.is) in
    record {
      follows_the_tree = λ s. below.follows_the_tree s.0;
      same_tree = λ s. below.same_tree s.0;
      same_space = λ s. below.same_space s.0;
      stays_sound = λ s. (below.stays_sound s.0, subst (λ (t : Tree). Faithful t (remembered m.kinds)) (sym (below.same_tree s.0)) s.1);
      remembered_without_asking = λ yes. absurd (both_ways (knows (remembered m.kinds) p) unknown yes);
      first_in_first_out = sym (asked_by (remembered m.kinds) p c.kind-kind.result false false unknown (sym c.if-is_storable.ensures.storable_path));
      at_most_64 = c.recall.ensures.at_most_64;
    }

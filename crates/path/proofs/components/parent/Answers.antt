-- The parent ends before the last slash.
use Rattle.std.proofs.Common.{◌≡◌, max, true, take, sym, ap, ◌∙◌, arith}
use Rattle.std.proofs.lemmas.List.{length-take, length-take-le}
use Rattle.path.specs.Path.{normal, parent_of}
use Rattle.path.proofs.Cutting.{plain_from}
use Rattle.path.proofs.Normality.{normal_first, normal_parent, parent_at, has_parent_not, has_parent_root, has_parent_longer}
use Rattle.path.proofs.components.parent.Goals as goal
use Rattle.path.proofs.components.parent.Goals.{then-not-is_normal-via-then-not-is_normal, then-not-is_normal-via-else-not-is_normal+then-path-eq1}

pub returns-then-not-is_normal : goal.returns-then-not-is_normal
returns-then-not-is_normal c = record {
  without_last_component = elim c.then-not-is_normal.branch [
    | then-not-is_normal-via-then-not-is_normal w ↦ has_parent_not _ (sym c.is_normal.ensures.by_components ∙ w.if-not-is_normal.true)
    | then-not-is_normal-via-else-not-is_normal+then-path-eq1 w ↦ has_parent_root _ (sym c.is_normal.ensures.by_components ∙ w.if-not-is_normal.false) w.if-path-eq1.true
  ];
  front_of_path = tt;
  normal_result = tt;
  shorter = tt;
}

pub last_slash-requires : goal.last_slash-requires
last_slash-requires c =
    let h : normal c.args.path.now ≡ true = sym c.if-not-is_normal.ensures.by_components in
    normal_first c.args.path.now h

pub returns : goal.returns
returns c =
    let p = c.args.path.now in
    let h : normal c.args.path.now ≡ true = sym c.if-not-is_normal.ensures.by_components in
    let told = c.last_slash.ensures in
    let n : c.max-end.result ≡ max c.last_slash.result 1 = omega arith in
    let is : take c.max-end.result c.args.path.now ≡ parent_of c.args.path.now =
    ap (λ i. take i c.args.path.now) n ∙ parent_at _ _ h c.if-path-eq1.false told.inside told.slash_there (plain_from _ _ (λ i le lt. told.no_slash_after i (omega arith) lt)) in
    record {
      without_last_component = (has_parent_longer _ h c.if-path-eq1.false, is);
      front_of_path = ap (λ i. take i c.args.path.now) (sym (length-take-le c.max-end.result c.args.path.now (omega (arith, told.inside))));
      normal_result = ap normal is ∙ normal_parent _ h;
      shorter = omega (arith, length-take c.max-end.result c.args.path.now, told.inside, normal_first c.args.path.now h, c.if-path-eq1.false);
    }

use Rattle.std.proofs.Common.{◌≡◌, ℕ, ◌≤◌, List, [], ◌∷◌, ◌++◌, length, take, sym, ap, ◌∙◌, subst, arith}
use Rattle.std.proofs.lemmas.List.{length-take}
use Rattle.std.proofs.lemmas.Result.{err_from_is_err_and}
use Rattle.file_system.specs.declared.store.Kind.{Kind}
use Rattle.file_system.specs.declared.store.Kind.TheVariants.{File}
use Rattle.file_system.specs.Tree.{Path, Tree, kind_of}
use Rattle.search.specs.declared.error.Refusal.{Refusal}
use Rattle.search.specs.declared.error.Refusal.TheVariants.{TrailFull}
use Rattle.search.specs.Search.{kind_asked, Limits, Trail, full, noted, note, try_all}
use Rattle.search.specs.Memory.{InMemory, limits_of, Holds}
use Rattle.search.specs.Asking.{along}
use Rattle.search.specs.Course.{went_on, chose, broke, Went}
use Rattle.dts_resolver.specs.Rows.{suffix_of}
use Rattle.search.proofs.CourseParts.{trial_chose, trial_failed, trial_full, trial_long}
use Rattle.dts_resolver.proofs.file_step.try_file.Goals as goal

fits : (n : ℕ) (bytes p : List ℕ) → length bytes ≡ 1024 → take n bytes ≡ p → length p ≤ 1024
fits n bytes p e h = omega (arith, ap length h, length-take n bytes, e)

module _ (tree : Tree) (l : Limits) (after : InMemory) (asked p : Path) (qs : Trail) (same : asked ≡ p) (short : length p ≤ 1024) where
  full_trail : (e : Refusal) → Holds tree after qs × (note l qs (kind_asked asked) ≡ full) × (e ≡ TrailFull) → (qs' : Trail) × (Holds tree after qs' × Went l tree (try_all (p ∷ [])) qs (broke e) qs')
  full_trail e a = (qs, (a.0, subst (λ x. Went l tree (try_all (p ∷ [])) qs (broke x) qs) (sym a.2) (trial_full l tree p qs short (ap (λ x. note l qs (kind_asked x)) (sym same) ∙ a.1))))

  a_file : (chosen : Path) → chosen ≡ p → (k : Kind) → k ≡ File → (qs' : Trail) × (Holds tree after qs' × (note l qs (kind_asked asked) ≡ noted qs') × (k ≡ kind_of (tree asked))) → (qs' : Trail) × (Holds tree after qs' × Went l tree (try_all (p ∷ [])) qs (chose chosen) qs')
  a_file chosen e k is_file a = (
    a.0,
    (
      a.1.0,
      subst (λ x. Went l tree (try_all (p ∷ [])) qs (chose x) a.0) (sym e)
          (trial_chose l tree p qs a.0 short (ap (λ x. note l qs (kind_asked x)) (sym same) ∙ a.1.1) (sym (sym is_file ∙ a.1.2 ∙ ap (λ x. kind_of (tree x)) same))),
    ),
  )

  no_file : (k : Kind) → (k ≡ File → ⊥) → (qs' : Trail) × (Holds tree after qs' × (note l qs (kind_asked asked) ≡ noted qs') × (k ≡ kind_of (tree asked))) → (qs' : Trail) × (Holds tree after qs' × Went l tree (try_all (p ∷ [])) qs went_on qs')
  no_file k ne a =
      (a.0, (a.1.0, trial_failed l tree p qs a.0 short (ap (λ x. note l qs (kind_asked x)) (sym same) ∙ a.1.1) (λ e. ne (a.1.2 ∙ ap (λ x. kind_of (tree x)) same ∙ sym e))))

pub returns-in_err-end-clause-tried : goal.returns-in_err-end-clause-tried
returns-in_err-end-clause-tried g c =
    let t = along c.args.searcher.now in
    let p = c.args.stem.now ++ suffix_of c.args.suffix in
    let exit = err_from_is_err_and c.from_residual.result c.from_residual.ensures.1 in
    rw (exit.1, exit.2) (λ s qs h. (qs, (h, trial_long (limits_of t) (g.S.FileSystem.tree c.args.searcher.now.source.store.now) p qs (omega (arith, c.in_err-end.ensures.stem_and_suffix)))))

pub returns-in_err-ask_kind-clause-tried : goal.returns-in_err-ask_kind-clause-tried
returns-in_err-ask_kind-clause-tried g c =
    let tree = g.S.FileSystem.tree c.args.searcher.now.source.store.now in
    let p = c.args.stem.now ++ suffix_of c.args.suffix in
    let path = c.in_ok-end.ensures.stem_and_suffix in
    let asked = c.in_err-ask_kind.ensures in
    let exit = err_from_is_err_and c.from_residual-in_err-ask_kind.result c.from_residual-in_err-ask_kind.ensures.1 in
    rw (exit.1, exit.2) (λ s qs h. full_trail tree (limits_of (along c.args.searcher.now)) (along c.ask_kind.new.self) c.front.result.now p qs (c.front.ensures.first_elements ∙ path) (fits c.in_ok-end.end c.assemble.new.into p (omega arith) path) _ (asked.noted_and_answered s qs h))

pub returns-in-File-clause-tried : goal.returns-in-File-clause-tried
returns-in-File-clause-tried g c =
    let tree = g.S.FileSystem.tree c.args.searcher.now.source.store.now in
    let p = c.args.stem.now ++ suffix_of c.args.suffix in
    let path = c.in_ok-end.ensures.stem_and_suffix in
    let asked = c.in_ok-ask_kind.ensures in
    λ s qs h. a_file tree (limits_of (along c.args.searcher.now)) (along c.ask_kind.new.self) c.front.result.now p qs (c.front.ensures.first_elements ∙ path) (fits c.in_ok-end.end c.assemble.new.into p (omega arith) path) _ path _ c.in-File.is (asked.noted_and_answered s qs h)

pub returns-in_default-clause-tried : goal.returns-in_default-clause-tried
returns-in_default-clause-tried g c =
    let tree = g.S.FileSystem.tree c.args.searcher.now.source.store.now in
    let p = c.args.stem.now ++ suffix_of c.args.suffix in
    let path = c.in_ok-end.ensures.stem_and_suffix in
    let asked = c.in_ok-ask_kind.ensures in
    λ s qs h. no_file tree (limits_of (along c.args.searcher.now)) (along c.ask_kind.new.self) c.front.result.now p qs (c.front.ensures.first_elements ∙ path) (fits c.in_ok-end.end c.assemble.new.into p (omega arith) path) _ c.in_default.not-File (asked.noted_and_answered s qs h)

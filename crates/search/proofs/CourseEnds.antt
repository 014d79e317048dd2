-- Whole searches that were carried out.
use Rattle.std.proofs.Common.{◌≡◌, sym, refl, ap, ◌∙◌, subst}
use Rattle.file_system.specs.Tree.{Path, Tree}
use Rattle.search.specs.declared.error.Refusal.{Refusal}
use Rattle.search.specs.Search.{Search, refuse, none_left, Limits, Trail, Outcome, refused, none, chosen, result, run}
use Rattle.search.specs.Memory.{InMemory, limits_of, Grew}
use Rattle.search.specs.Course.{went_on, chose, broke, Went, Walked, Finished}
use Rattle.search.proofs.CourseWalks.{limits_kept}

went_chosen : (l : Limits) (t : Tree) (f : Search → Search) (qs : Trail) (p : Path) (qs' : Trail) → Went l t f qs (chose p) qs' → (s : Search) → run l t (f s) qs ≡ result (chosen p) qs'
unfolding Went
went_chosen l t f qs p qs' h s = h s

went_refused : (l : Limits) (t : Tree) (f : Search → Search) (qs : Trail) (e : Refusal) (qs' : Trail) → Went l t f qs (broke e) qs' → (s : Search) → run l t (f s) qs ≡ result (refused e) qs'
unfolding Went
went_refused l t f qs e qs' h s = h s

went_onward : (l : Limits) (t : Tree) (f : Search → Search) (qs qs' : Trail) → Went l t f qs went_on qs' → (s : Search) → run l t (f s) qs ≡ run l t s qs'
unfolding Went
went_onward l t f qs qs' h s = h s

module _ (tree : Tree) (a b : InMemory) (f : Search → Search) (s : Search) where
  pub finished_chose : (p : Path) → Walked tree a b f (chose p) → Finished tree a b (f s) (chosen p)
  finished_chose p w = λ qs h. let x = w qs h in (x.0, (x.1.0, went_chosen (limits_of a) tree f qs p x.0 x.1.1 s))

  pub finished_broke : (e : Refusal) → Walked tree a b f (broke e) → Finished tree a b (f s) (refused e)
  finished_broke e w = λ qs h. let x = w qs h in (x.0, (x.1.0, went_refused (limits_of a) tree f qs e x.0 x.1.1 s))

  pub finished_then : (c : InMemory) (tree' : Tree) (o : Outcome) → Grew a b → tree' ≡ tree → Walked tree a b f went_on → Finished tree' b c s o → Finished tree a c (f s) o
  finished_then c tree' o grew same first second = λ qs h.
      let x = first qs h in
      let y = subst (λ t. Finished t b c s o) same second x.0 x.1.0 in
      (y.0, (y.1.0, went_onward (limits_of a) tree f qs x.0 x.1.1 s ∙ ap (λ l. run l tree s x.0) (sym (limits_kept a b grew)) ∙ y.1.1))

-- searches that ask nothing
module _ (tree : Tree) (a : InMemory) where
  pub finished_none : Finished tree a a none_left none
  unfolding run
  finished_none = λ qs h. (qs, (h, refl))

  pub finished_refused : (e : Refusal) → Finished tree a a (refuse e) (refused e)
  unfolding run
  finished_refused e = λ qs h. (qs, (h, refl))

pub finished_same : (tree : Tree) (a b : InMemory) (s s' : Search) (o : Outcome) → s ≡ s' → Finished tree a b s o → Finished tree a b s' o
finished_same tree a b s s' o e w = subst (λ x. Finished tree a b x o) e w

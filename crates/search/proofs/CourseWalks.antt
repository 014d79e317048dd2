-- Parts of a search that were carried out, one after the other.
use Rattle.std.proofs.Common.{◌≡◌, ℕ, List, ◌++◌, sym, ap, ◌∙◌, subst}
use Rattle.list.specs.Held.{capacity}
use Rattle.file_system.specs.Tree.{Path, Tree}
use Rattle.search.specs.declared.error.Refusal.{Refusal}
use Rattle.search.specs.Search.{Limits, Trail, try_all}
use Rattle.search.specs.Memory.{InMemory, limits_of, Grew}
use Rattle.search.specs.Course.{Course, went_on, chose, broke, Went, Walked}
use Rattle.search.proofs.CourseParts.{went_then, went_chose, went_broke, went_same, try_both}

abbrev limits : ℕ → ℕ → Limits
limits n k = record { steps = n; bytes = k }

pub limits_kept : (a b : InMemory) → Grew a b → limits_of b ≡ limits_of a
limits_kept a b g = ap (λ n. limits n (capacity b.bytes)) g.steps.same_capacity ∙ ap (limits (capacity a.steps)) g.bytes.same_capacity

both : (l : Limits) (t : Tree) (ps rs : List Path) (qs : Trail) (o : Course) (qs' : Trail) → Went l t (λ s. try_all ps (try_all rs s)) qs o qs' → Went l t (try_all (ps ++ rs)) qs o qs'
both l t ps rs qs o qs' h = went_same l t (λ s. try_all ps (try_all rs s)) (try_all (ps ++ rs)) qs o qs' (λ s. sym (try_both ps rs s)) h

module _ (tree : Tree) (a b : InMemory) (ps rs : List Path) where
  -- a list of paths that found nothing, and then another
  pub walked_then : (c : InMemory) (tree' : Tree) (o : Course) → Grew a b → tree' ≡ tree → Walked tree a b (try_all ps) went_on → Walked tree' b c (try_all rs) o → Walked tree a c (try_all (ps ++ rs)) o
  walked_then c tree' o grew same first second = λ qs h.
      let x = first qs h in
      let y = subst (λ t. Walked t b c (try_all rs) o) same second x.0 x.1.0 in
      let went = subst (λ l. Went l tree (try_all rs) x.0 o y.0) (limits_kept a b grew) y.1.1 in
      (y.0, (y.1.0, both (limits_of a) tree ps rs qs o y.0 (went_then (limits_of a) tree (try_all ps) (try_all rs) qs x.0 y.0 o x.1.1 went)))

  -- a list of paths that ended the search ends it whatever paths follow
  pub walked_chose : (p : Path) → Walked tree a b (try_all ps) (chose p) → Walked tree a b (try_all (ps ++ rs)) (chose p)
  walked_chose p first = λ qs h.
      let x = first qs h in
      (x.0, (x.1.0, both (limits_of a) tree ps rs qs (chose p) x.0 (went_chose (limits_of a) tree (try_all ps) (try_all rs) qs x.0 x.0 p x.1.1)))

  pub walked_broke : (e : Refusal) → Walked tree a b (try_all ps) (broke e) → Walked tree a b (try_all (ps ++ rs)) (broke e)
  walked_broke e first = λ qs h.
      let x = first qs h in
      (x.0, (x.1.0, both (limits_of a) tree ps rs qs (broke e) x.0 (went_broke (limits_of a) tree (try_all ps) (try_all rs) qs x.0 x.0 e x.1.1)))

  pub walked_paths : (o : Course) → ps ≡ rs → Walked tree a b (try_all ps) o → Walked tree a b (try_all rs) o
  walked_paths o e w = subst (λ xs. Walked tree a b (try_all xs) o) e w

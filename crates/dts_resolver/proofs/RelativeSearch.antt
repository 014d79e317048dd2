-- The directory question of a joined path, by what it came to; and the search of a path part, by its tests.
use Rattle.std.proofs.Common.{◌≡◌, ℕ, Bool, true, false, cond, List, sym, refl, ap, ◌∙◌}
use Rattle.path.specs.Path.{joining}
use Rattle.file_system.specs.declared.store.Kind.{Kind}
use Rattle.file_system.specs.declared.store.Kind.TheVariants.{Directory}
use Rattle.file_system.specs.Tree.{Path, Node, nothing, directory, file, Tree, kind_of, is_directory}
use Rattle.search.specs.declared.error.Refusal.{Refusal}
use Rattle.search.specs.declared.error.Refusal.TheVariants.{Unfinished, TrailFull}
use Rattle.search.specs.declared.TheConstants.{PATH_SIZE}
use Rattle.search.specs.Search.{Search, refuse, none_left, kind_asked, Limits, Trail, full, noted, note, refused, none, result, when_noted, run}
use Rattle.search.specs.Memory.{InMemory, Holds}
use Rattle.dts_resolver.specs.Specifier.{holds}
use Rattle.dts_resolver.specs.Checks.{is_joined}
use Rattle.dts_resolver.specs.Steps.{on, file_step, directory_step, search_of}

directory_kind : (n : Node) → Directory ≡ kind_of n → is_directory n ≡ true
directory_kind nothing e = cc
directory_kind directory e = refl
directory_kind (file b) e = cc

other_kind : (n : Node) → (Directory ≡ kind_of n → ⊥) → is_directory n ≡ false
other_kind nothing ne = refl
other_kind directory ne = absurd (ne refl)
other_kind (file b) ne = refl

module _ (tree : Tree) (l : Limits) (b : InMemory) (p : Path) (qs : Trail) where
  -- where the question was noted, by whether a directory is there
  asks : (qs' : Trail) (x : Bool) → note l qs (kind_asked p) ≡ noted qs' → is_directory (tree p) ≡ x → run l tree (directory_step p none_left) qs ≡ run l tree (cond x (refuse Unfinished) none_left) qs'
  unfolding run
  asks qs' x e d = ap (λ n. when_noted n qs (run l tree (cond (is_directory (tree p)) (refuse Unfinished) none_left))) e ∙ ap (λ y. run l tree (cond y (refuse Unfinished) none_left) qs') d

  pub a_directory : (k : Kind) → k ≡ Directory → (qs' : Trail) × (Holds tree b qs' × (note l qs (kind_asked p) ≡ noted qs') × (k ≡ kind_of (tree p))) → (qs' : Trail) × (Holds tree b qs' × (run l tree (directory_step p none_left) qs ≡ result (refused Unfinished) qs'))
  unfolding run
  a_directory k is_one x = (x.0, (x.1.0, asks x.0 true x.1.1 (directory_kind (tree p) (sym is_one ∙ x.1.2))))

  pub no_directory : (k : Kind) → (k ≡ Directory → ⊥) → (qs' : Trail) × (Holds tree b qs' × (note l qs (kind_asked p) ≡ noted qs') × (k ≡ kind_of (tree p))) → (qs' : Trail) × (Holds tree b qs' × (run l tree (directory_step p none_left) qs ≡ result none qs'))
  unfolding run
  no_directory k ne x = (x.0, (x.1.0, asks x.0 false x.1.1 (other_kind (tree p) (λ e. ne (x.1.2 ∙ sym e)))))

  pub directory_full : (e : Refusal) → Holds tree b qs × (note l qs (kind_asked p) ≡ full) × (e ≡ TrailFull) → (qs' : Trail) × (Holds tree b qs' × (run l tree (directory_step p none_left) qs ≡ result (refused e) qs'))
  unfolding run
  directory_full e x = (qs, (x.0, ap (λ n. when_noted n qs (run l tree (cond (is_directory (tree p)) (refuse Unfinished) none_left))) x.1 ∙ ap (λ y. result (refused y) qs) (sym x.2)))

-- the search of a path part that is joined, and of one that is not
module _ (mask : ℕ) (d : Path) (part : List ℕ) where
  abbrev of_joined : Search
  of_joined = on (joining PATH_SIZE d part) (λ p. file_step mask p (directory_step p none_left)) none_left

  pub search_of_joined : is_joined part ≡ true → of_joined ≡ search_of mask d part
  unfolding search_of
  search_of_joined e = sym (ap (λ b. cond b of_joined (cond (holds 58 part) none_left (refuse Unfinished))) e)

  pub search_of_bare : (b : Bool) → is_joined part ≡ false → holds 58 part ≡ b → cond b none_left (refuse Unfinished) ≡ search_of mask d part
  unfolding search_of
  search_of_bare b e h =
      ap (λ x. cond x none_left (refuse Unfinished)) (sym h)
      ∙ sym (ap (λ x. cond x of_joined (cond (holds 58 part) none_left (refuse Unfinished))) e)

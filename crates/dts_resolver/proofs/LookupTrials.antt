-- The search of a lookup keeps to its trials.
use Rattle.std.specs.Prelude.{◌≡◌, ℕ, Bool, true, false, cond, List, [], ◌∷◌, ◌++◌, length, map, Option, Some, None, refl, nat_le}
use Rattle.std.proofs.Common.{sym, ap, subst, inl, inr}
use Rattle.path.specs.Path as paths
use Rattle.path.specs.Path.{joining}
use Rattle.file_system.specs.Tree.{Path, Tree, is_directory}
use Rattle.search.specs.declared.error.Refusal.{Refusal}
use Rattle.search.specs.declared.error.Refusal.TheVariants.{Unfinished, LongPath, TrailFull}
use Rattle.search.specs.declared.TheConstants.{PATH_SIZE}
use Rattle.search.specs.Search.{Search, refuse, none_left, if_directory, try, is_file, Outcome, refused, none, chosen, try_all}
use Rattle.search.specs.Needs.{comes_to, needs, firsts, all_fit}
use Rattle.search.proofs.SearchNeeds.{run_is_what_it_needs}
use Rattle.dts_resolver.specs.Endings.{file_trials}
use Rattle.dts_resolver.specs.Specifier.{holds, path_part}
use Rattle.dts_resolver.specs.Given.{Given}
use Rattle.dts_resolver.specs.Checks.{checks, is_joined, directory_of}
use Rattle.dts_resolver.specs.Trials.{Trial, tried, target, stop, ends, ended, within, named, tried_files, directory_trials, part_trials, checked_trials, trials}
use Rattle.dts_resolver.specs.Steps.{on, file_step, directory_step, search_of, after_checks, search_for, looked_up}
use Rattle.dts_resolver.specs.Laws.{EndsAsItsTrials, UnlessFull}

abbrev pub Like : Tree → Search → Outcome → Type 0
Like t s o = comes_to t s ≡ o

-- A step, followed by any rest, comes to what its trials end in, followed by what the rest comes to.
abbrev pub Follows : Tree → (Search → Search) → List Trial → Type 0
Follows t f ts = (s : Search) (o : Outcome) → Like t s o → Like t (f s) (ends t ts o)

module _ (t : Tree) where
  refuses : (e : Refusal) → Like t (refuse e) (refused e)
  unfolding comes_to
  refuses e = refl

  has_none : Like t none_left none
  unfolding comes_to
  has_none = refl

  asks : (p : Path) (k : Bool → Search) (o : Outcome) → Like t (k (is_directory (t p))) o → Like t (if_directory p k) o
  unfolding comes_to
  asks p k o h = h

  tries : (p : Path) (s : Search) (o : Outcome) → Like t s o → Like t (try p s) (cond (is_file (t p)) (chosen p) o)
  unfolding comes_to
  tries p s o h = ap (cond (is_file (t p)) (chosen p)) h

  -- trials one behind the other
  joined : (a b : List Trial) (o : Outcome) → ends t (a ++ b) o ≡ ends t a (ends t b o)
  unfolding ends
  joined [] b o = refl
  joined (tried p ∷ a) b o = ap (cond (is_file (t p)) (chosen p)) (joined a b o)
  joined (target p ∷ a) b o = refl
  joined (stop e ∷ a) b o = refl

  behind : (s : Search) (a b : List Trial) (o : Outcome) → Like t s (ends t a (ends t b o)) → Like t s (ends t (a ++ b) o)
  behind s a b o h = subst (Like t s) (sym (joined a b o)) h

  nothing : (s : Search) (o : Outcome) → Like t s o → Like t s (ends t [] o)
  unfolding ends
  nothing s o h = h

  stops : (e : Refusal) (o : Outcome) → Like t (refuse e) (ends t (stop e ∷ []) o)
  unfolding ends
  stops e o = refuses e

  one_file : (b : Bool) (p : Path) (s : Search) (ts : List Trial) (o : Outcome) → Like t s (ends t ts o) → Like t (cond b (try p s) (refuse LongPath)) (ends t (cond b (tried p) (stop LongPath) ∷ ts) o)
  unfolding ends
  one_file true p s ts o h = tries p s (ends t ts o) h
  one_file false p s ts o h = refuses LongPath

  files : (ps : List Path) → Follows t (try_all ps) (map within ps)
  unfolding try_all ends
  files [] s o h = h
  files (p ∷ ps) s o h = one_file (nat_le (length p) PATH_SIZE) p (try_all ps s) (map within ps) o (files ps s o h)

  files_follow : (mask : ℕ) (p : Path) → Follows t (file_step mask p) (tried_files mask p)
  unfolding tried_files
  files_follow mask p s o h = files (file_trials mask p) s o h

  by_name : (n : paths.Outcome) (k : Path → Search) (s : Search) (f : Path → List Trial) (others : List Trial) (o : Outcome)
      → ((p : Path) → Like t (k p) (ends t (f p) o)) → Like t s (ends t others o) → Like t (on n k s) (ends t (named n f others) o)
  by_name (paths.names p) k s f others o h g = h p
  by_name paths.nothing k s f others o h g = g
  by_name paths.too_long k s f others o h g = stops LongPath o

  gate : (b : Bool) (s : Search) (o : Outcome) → Like t s o → Like t (cond b (refuse Unfinished) s) (ends t (cond b (stop Unfinished ∷ []) []) o)
  gate true s o h = stops Unfinished o
  gate false s o h = nothing s o h

  directory_follows : (p : Path) → Follows t (directory_step p) (directory_trials t p)
  directory_follows p s o h = asks p (λ b. cond b (refuse Unfinished) s) (ends t (directory_trials t p) o) (gate (is_directory (t p)) s o h)

  by_part : (a b : Bool) (mask : ℕ) (n : paths.Outcome)
      → Like t (cond a (on n (λ p. file_step mask p (directory_step p none_left)) none_left) (cond b none_left (refuse Unfinished)))
      (ends t (cond a (named n (λ p. tried_files mask p ++ directory_trials t p) []) (cond b [] (stop Unfinished ∷ []))) none)
  by_part true b mask n =
      by_name n (λ p. file_step mask p (directory_step p none_left)) none_left (λ p. tried_files mask p ++ directory_trials t p) [] none
      (λ p. let x = directory_step p none_left in let x' = directory_trials t p in
      behind (file_step mask p x) (tried_files mask p) x' none (files_follow mask p x (ends t x' none) (directory_follows p none_left none has_none)))
      (nothing none_left none has_none)
  by_part false true mask n = nothing none_left none has_none
  by_part false false mask n = stops Unfinished none

  part_follows : (mask : ℕ) (d : Path) (part : List ℕ) → Like t (search_of mask d part) (ends t (part_trials t mask d part) none)
  unfolding search_of part_trials
  part_follows mask d part = by_part (is_joined part) (holds 58 part) mask (joining PATH_SIZE d part)

  by_checks : (e : Option Refusal) (s : Search) (ts : List Trial) → Like t s (ends t ts none) → Like t (after_checks e s) (ends t (checked_trials e ts) none)
  by_checks (Some e) s ts h = stops e none
  by_checks None s ts h = h

  searched : (g : Given) → Like t (search_for g) (ends t (trials t g) none)
  unfolding search_for trials
  searched g =
      let d = directory_of g.containing in let part = path_part g.specifier in
      by_checks (checks g) (search_of g.mask d part) (part_trials t g.mask d part) (part_follows g.mask d part)

pub proved : EndsAsItsTrials
proved t g = searched t g

unless : (b : Bool) (o wanted : Outcome) → o ≡ wanted → UnlessFull (cond b o (refused TrailFull)) wanted
unless true o wanted e = inr e
unless false o wanted e = inl refl

-- the outcome of a lookup is what its trials end in, unless it is refused with 8
pub unless_full : (t : Tree) (g : Given) → UnlessFull (looked_up t g).outcome (ended t (trials t g))
unless_full t g =
    subst (λ r. UnlessFull r.outcome (ended t (trials t g))) (sym (run_is_what_it_needs g.limits t (search_for g) []))
    (unless (all_fit g.limits [] (firsts [] (needs t (search_for g)))) (comes_to t (search_for g)) (ended t (trials t g)) (searched t g))

-- A path part that was read, checked and searched.
use Rattle.std.proofs.Common.{◌≡◌, ℕ, ◌<◌, ◌≤◌, List, [], ◌++◌, length, take, drop, IsOk, IfOk, IfSome, Some, None, Ok, Err, Result, sym, refl, ap, ◌∙◌, subst, arith, MatchResult}
use Rattle.std.proofs.lemmas.List.{take_at}
use Rattle.list.specs.declared.Full.{Full}
use Rattle.file_system.specs.Tree.{Path, Tree}
use Rattle.search.specs.declared.error.Refusal.{Refusal}
use Rattle.dts_resolver.specs.declared.TheConstants.{IMPORT_SIZE}
use Rattle.dts_resolver.specs.Specifier.{unescaped}
use Rattle.search.specs.Search.{Outcome, refused, run}
use Rattle.search.specs.Memory.{InMemory, limits_of}
use Rattle.search.specs.Course.{Finished}
use Rattle.dts_resolver.specs.Checks.{part_checks}
use Rattle.dts_resolver.specs.Steps.{search_of, after_checks}
use Rattle.dts_resolver.specs.Answer.{Looked}
use Rattle.dts_resolver.proofs.SpecifierParts.{length_unescaped}

-- a raw part that is no longer than a specifier may be is read whole into as many bytes
pub fits_whole : (r : Result ℕ Full) (raw first : List ℕ) → length first ≡ IMPORT_SIZE → length raw ≤ IMPORT_SIZE → MatchResult r (λ n. (n ≡ length (unescaped raw)) × (n ≤ length first)) (λ _. length first < length (unescaped raw)) → IsOk r
fits_whole (Ok n) raw first size short fits = refl
fits_whole (Err e) raw first size short fits = absurd (omega (arith, fits, length_unescaped raw))

pub part_read : (r : Result ℕ Full) (raw first first' asked : List ℕ) (end : ℕ) → MatchResult r (λ n. (n ≡ length (unescaped raw)) × (n ≤ length first)) (λ _. length first < length (unescaped raw)) → IfOk r (λ n. first' ≡ unescaped raw ++ drop n first) → r ≡ Ok end → asked ≡ take end first' → asked ≡ unescaped raw
part_read (Ok n) raw first first' asked end fits wrote e reads = let same : n ≡ end = cc in reads ∙ ap (λ k. take k first') (sym same) ∙ ap (take n) wrote ∙ take_at (unescaped raw) (drop n first) n (sym fits.0)
part_read (Err x) raw first first' asked end fits wrote e reads = absurd (cc)

module _ (tree : Tree) (a b : InMemory) (mask : ℕ) (d : Path) (asked part : List ℕ) (same : asked ≡ part) where
  -- the checks refused
  pub looked_refused : (e : Refusal) → Some e ≡ part_checks asked → Looked tree a a mask d part (refused e)
  unfolding run
  looked_refused e h = λ held. ([], (held, ap (λ x. run (limits_of a) tree (after_checks x (search_of mask d part)) []) (ap part_checks (sym same) ∙ sym h)))

  -- the checks passed, and the search came to an outcome
  pub looked_up_lem : (o : Outcome) → None ≡ part_checks asked → Finished tree a b (search_of mask d asked) o → Looked tree a b mask d part o
  looked_up_lem o h finished = λ held.
      let x = finished [] held in
      (x.0, (x.1.0, ap (λ e. run (limits_of a) tree (after_checks e (search_of mask d part)) []) (ap part_checks (sym same) ∙ sym h) ∙ ap (λ p. run (limits_of a) tree (search_of mask d p) []) (sym same) ∙ x.1.1))

-- what is said of a refusal by the checks, where the first that fails is known
pub by_check : (P : Refusal → Type 0) (part asked : List ℕ) (e : Refusal) → asked ≡ part → Some e ≡ part_checks asked → P e → IfSome (part_checks part) P
by_check P part asked e same h p = subst (λ r. IfSome r P) (h ∙ ap part_checks same) p

pub by_no_check : (P : Refusal → Type 0) (part asked : List ℕ) → asked ≡ part → None ≡ part_checks asked → IfSome (part_checks part) P
by_no_check P part asked same h = subst (λ r. IfSome r P) (h ∙ ap part_checks same) tt

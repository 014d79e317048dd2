-- The trials of a lookup, as a plain list in a tree, with where it is refused: what stands behind the first that succeeds or
-- stops is of no concern.
use Rattle.std.specs.Prelude.{ℕ, cond, List, [], ◌∷◌, ◌++◌, length, map, Some, None, Option, nat_le}
use Rattle.path.specs.Path as paths
use Rattle.path.specs.Path.{joining}
use Rattle.file_system.specs.Tree.{Path, Tree, is_directory}
use Rattle.search.specs.declared.error.Refusal.{Refusal}
use Rattle.search.specs.declared.error.Refusal.TheVariants.{Unfinished, LongPath}
use Rattle.search.specs.declared.TheConstants.{PATH_SIZE}
use Rattle.search.specs.Search.{is_file, Outcome, refused, none, chosen}
use Rattle.dts_resolver.specs.Endings.{file_trials}
use Rattle.dts_resolver.specs.Specifier.{holds, path_part}
use Rattle.dts_resolver.specs.Given.{Given}
use Rattle.dts_resolver.specs.Checks.{checks, is_joined, directory_of}

-- A path that is tried succeeds if it is a file, a plain target always; at a stop the lookup is refused.
pub data Trial : Type 0 where
  tried : Path → Trial
  target : Path → Trial
  stop : Refusal → Trial

-- The outcome of the first that succeeds or stops, and another where none does.
unfoldable pub ends : Tree → List Trial → Outcome → Outcome
ends t [] o = o
ends t (tried p ∷ ts) o = cond (is_file (t p)) (chosen p) (ends t ts o)
ends t (target p ∷ ts) o = chosen p
ends t (stop e ∷ ts) o = refused e

abbrev pub ended : Tree → List Trial → Outcome
ended t ts = ends t ts none

-- Joining comes to a path, to nothing, or to a path of more than 1,024 bytes.
abbrev pub named : paths.Outcome → (Path → List Trial) → List Trial → List Trial
named (paths.names p) f others = f p
named paths.nothing f others = others
named paths.too_long f others = stop LongPath ∷ []

abbrev pub within : Path → Trial
within p = cond (nat_le (length p) PATH_SIZE) (tried p) (stop LongPath)

-- The file step: each of its paths.
unfoldable pub tried_files : ℕ → Path → List Trial
tried_files mask p = map within (file_trials mask p)

-- The directory step, only on a directory; what it tries is still to come.
abbrev pub directory_trials : Tree → Path → List Trial
directory_trials t p = cond (is_directory (t p)) (stop Unfinished ∷ []) []

-- `.` and `/` specifiers join the containing directory: file step, then directory step. Others that hold `:` (58) have no
-- trials. The rest name packages, which are still to come.
unfoldable pub part_trials : Tree → ℕ → Path → List ℕ → List Trial
part_trials t mask d part =
    cond (is_joined part) (named (joining PATH_SIZE d part) (λ p. tried_files mask p ++ directory_trials t p) [])
    (cond (holds 58 part) [] (stop Unfinished ∷ []))

-- The first check that fails stops it.
abbrev pub checked_trials : Option Refusal → List Trial → List Trial
checked_trials (Some e) ts = stop e ∷ []
checked_trials None ts = ts

unfoldable pub trials : Tree → Given → List Trial
trials t g = checked_trials (checks g) (part_trials t g.mask (directory_of g.containing) (path_part g.specifier))

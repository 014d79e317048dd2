-- The search of a lookup: each step is the step followed by the rest of the search.
use Rattle.std.specs.Prelude.{ℕ, cond, List, [], Some, None, Option}
use Rattle.path.specs.Path as paths
use Rattle.path.specs.Path.{joining}
use Rattle.file_system.specs.Tree.{Path, Tree}
use Rattle.search.specs.declared.error.Refusal.{Refusal}
use Rattle.search.specs.declared.error.Refusal.TheVariants.{Unfinished, LongPath}
use Rattle.search.specs.declared.TheConstants.{PATH_SIZE}
use Rattle.search.specs.Search.{Search, refuse, none_left, if_directory, try_all, Result, run}
use Rattle.dts_resolver.specs.Endings.{file_trials}
use Rattle.dts_resolver.specs.Specifier.{holds, path_part}
use Rattle.dts_resolver.specs.Given.{Given}
use Rattle.dts_resolver.specs.Checks.{checks, is_joined, directory_of}

-- A step takes a path and the rest of the search.
abbrev pub Step : Type 0
Step = Path → Search → Search

-- on what joining comes to: nothing leaves the rest, and a path of more than 1,024 bytes refuses
abbrev pub on : paths.Outcome → (Path → Search) → Search → Search
on (paths.names p) k s = k p
on paths.nothing k s = s
on paths.too_long k s = refuse LongPath

abbrev pub file_step : ℕ → Step
file_step mask p s = try_all (file_trials mask p) s

-- only on a directory, where it is still to come
abbrev pub directory_step : Step
directory_step p s = if_directory p (λ b. cond b (refuse Unfinished) s)

-- the search of a path part: joined, or none with a colon (58), or packages, which are still to come
unfoldable pub search_of : ℕ → Path → List ℕ → Search
search_of mask d part =
    cond (is_joined part) (on (joining PATH_SIZE d part) (λ p. file_step mask p (directory_step p none_left)) none_left)
    (cond (holds 58 part) none_left (refuse Unfinished))

abbrev pub after_checks : Option Refusal → Search → Search
after_checks (Some e) s = refuse e
after_checks None s = s

-- the search of a lookup: the first check that fails refuses
unfoldable pub search_for : Given → Search
search_for g = after_checks (checks g) (search_of g.mask (directory_of g.containing) (path_part g.specifier))

-- What a lookup comes to in a tree, from the empty trail.
abbrev pub looked_up : Tree → Given → Result
looked_up t g = run g.limits t (search_for g) []

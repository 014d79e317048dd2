-- Which endings a path is tried with, and the type of a choice. The table follows the TypeScript Handbook's substitution of
-- endings.
use Rattle.std.specs.Prelude.{ℕ, ◌-◌, cond, ◌||◌, List, [], ◌∷◌, ◌++◌, length, take, Some, None, Option, codes, ◌==◌, nat_lt}
use Rattle.std.specs.Str.{bytes_eq}
use Rattle.file_system.specs.Tree.{Path}
use Rattle.search.specs.Search.{ends_with}
use Rattle.dts_resolver.specs.declared.resolution.ModuleType.{ModuleType}
use Rattle.dts_resolver.specs.declared.resolution.ModuleType.TheVariants.{Module, CommonJs, Json}
use Rattle.dts_resolver.specs.Extensions.{TypeScript, JavaScript, Declaration, has}

-- what follows from the last dot (46) on, the dot included; nothing where there is no dot
abbrev pub or_from : List ℕ → ℕ → List ℕ → List ℕ
or_from [] b bs = cond (b == 46) (b ∷ bs) []
or_from (x ∷ xs) b bs = x ∷ xs

unfoldable pub from_last_dot : List ℕ → List ℕ
from_last_dot [] = []
from_last_dot (b ∷ bs) = or_from (from_last_dot bs) b bs

-- The ending of a path: `.d.ts`, `.d.mts` and `.d.cts` come first; any other starts at the last dot of the whole path,
-- and counts if it has fewer than 10 bytes.
unfoldable pub ending_of : Path → List ℕ
ending_of p =
    cond (ends_with p (codes ".d.ts")) (codes ".d.ts")
    (cond (ends_with p (codes ".d.mts")) (codes ".d.mts")
    (cond (ends_with p (codes ".d.cts")) (codes ".d.cts")
    (cond (nat_lt (length (from_last_dot p)) 10) (from_last_dot p) [])))

-- the path without its ending
unfoldable pub stem_of : Path → Path
stem_of p = take (length p - length (ending_of p)) p

-- what a trial appends, and the mask that it is for
pub record Column : Type 0 where
  pub kind : ℕ
  pub suffix : List ℕ

abbrev pub column : ℕ → List ℕ → Column
column k s = record { kind = k; suffix = s }

-- the rows of the table, left to right
abbrev pub module_row : List Column
module_row = column TypeScript (codes ".mts") ∷ column Declaration (codes ".d.mts") ∷ column JavaScript (codes ".mjs") ∷ []

abbrev pub common_js_row : List Column
common_js_row = column TypeScript (codes ".cts") ∷ column Declaration (codes ".d.cts") ∷ column JavaScript (codes ".cjs") ∷ []

abbrev pub jsx_row : List Column
jsx_row =
    column TypeScript (codes ".tsx") ∷ column TypeScript (codes ".ts") ∷ column Declaration (codes ".d.ts")
    ∷ column JavaScript (codes ".jsx") ∷ column JavaScript (codes ".js") ∷ []

abbrev pub plain_row : List Column
plain_row =
    column TypeScript (codes ".ts") ∷ column TypeScript (codes ".tsx") ∷ column Declaration (codes ".d.ts")
    ∷ column JavaScript (codes ".js") ∷ column JavaScript (codes ".jsx") ∷ []

-- ... and that of any other ending e: `.d` e `.ts`, joined
abbrev pub other_row : List ℕ → List Column
other_row e = column Declaration (codes ".d" ++ (e ++ codes ".ts")) ∷ []

-- the row of an ending
unfoldable pub columns : List ℕ → List Column
columns e =
    cond (bytes_eq e (codes ".mjs") || (bytes_eq e (codes ".mts") || bytes_eq e (codes ".d.mts"))) module_row
    (cond (bytes_eq e (codes ".cjs") || (bytes_eq e (codes ".cts") || bytes_eq e (codes ".d.cts"))) common_js_row
    (cond (bytes_eq e (codes ".tsx") || bytes_eq e (codes ".jsx")) jsx_row
    (cond (bytes_eq e (codes ".ts") || (bytes_eq e (codes ".d.ts") || bytes_eq e (codes ".js"))) plain_row
    (other_row e))))

-- the paths that a row gives for a stem, as the mask allows
unfoldable pub row_trials : ℕ → Path → List Column → List Path
row_trials mask stem [] = []
row_trials mask stem (c ∷ cs) = cond (has mask c.kind) ((stem ++ c.suffix) ∷ row_trials mask stem cs) (row_trials mask stem cs)

-- the row of an ending that is there, on the stem
abbrev pub ending_trials : ℕ → Path → List ℕ → List Path
ending_trials mask stem [] = []
ending_trials mask stem (b ∷ bs) = row_trials mask stem (columns (b ∷ bs))

-- The file step: the ending's row on the stem, then the row of no ending on the whole path.
unfoldable pub file_trials : ℕ → Path → List Path
file_trials mask p = ending_trials mask (stem_of p) (ending_of p) ++ row_trials mask p plain_row

-- `.mts` is a module, `.cts` CommonJs, `.json` Json, others have no type
unfoldable pub type_of : Path → Option ModuleType
type_of p =
    cond (ends_with p (codes ".mts")) (Some Module)
    (cond (ends_with p (codes ".cts")) (Some CommonJs)
    (cond (ends_with p (codes ".json")) (Some Json) None))

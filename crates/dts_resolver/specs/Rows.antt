-- How the code has the table of endings: its sorts, its rows, and the suffixes that a trial is made with.
use Rattle.std.specs.Prelude.{ℕ, cond, ◌||◌, List, ◌++◌, codes}
use Rattle.std.specs.Borrow.{Bor}
use Rattle.std.specs.Str.{bytes_eq}
use Rattle.dts_resolver.specs.declared.endings.Suffix.{Suffix}
use Rattle.dts_resolver.specs.declared.endings.Suffix.TheVariants.{Named, Declaring}
use Rattle.dts_resolver.specs.declared.endings.Row.{Row}
use Rattle.dts_resolver.specs.declared.endings.Row.TheVariants.{Module, CommonJs, Jsx, Plain, Other}
use Rattle.dts_resolver.specs.declared.extensions.Sort as sorts
use Rattle.dts_resolver.specs.declared.resolution.ModuleType as types
use Rattle.dts_resolver.specs.Extensions.{TypeScript, JavaScript, Declaration}
use Rattle.dts_resolver.specs.Endings.{Column, column, module_row, common_js_row, jsx_row, plain_row, other_row}

-- the bit of a sort
abbrev pub bit_of : sorts.Sort → ℕ
bit_of sorts.TheVariants.TypeScript = TypeScript
bit_of sorts.TheVariants.JavaScript = JavaScript
bit_of sorts.TheVariants.Declaration = Declaration

-- the row of an ending, and the columns of a row
unfoldable pub row_of : List ℕ → Row
row_of e =
    cond (bytes_eq e (codes ".mjs") || (bytes_eq e (codes ".mts") || bytes_eq e (codes ".d.mts"))) Module
    (cond (bytes_eq e (codes ".cjs") || (bytes_eq e (codes ".cts") || bytes_eq e (codes ".d.cts"))) CommonJs
    (cond (bytes_eq e (codes ".tsx") || bytes_eq e (codes ".jsx")) Jsx
    (cond (bytes_eq e (codes ".ts") || (bytes_eq e (codes ".d.ts") || bytes_eq e (codes ".js"))) Plain
    Other)))

unfoldable pub columns_in : Row → List ℕ → List Column
columns_in Module e = module_row
columns_in CommonJs e = common_js_row
columns_in Jsx e = jsx_row
columns_in Plain e = plain_row
columns_in Other e = other_row e

-- a suffix as the code has it: an ending that the table names, or any other e as `.d` e `.ts`
abbrev pub suffix_of : Suffix → List ℕ
suffix_of (Named e) = e.now
suffix_of (Declaring e) = codes ".d" ++ (e.now ++ codes ".ts")

-- the column of a sort and a suffix, and one of the code's table
abbrev pub column_of : sorts.Sort → Suffix → Column
column_of sort suffix = column (bit_of sort) (suffix_of suffix)

abbrev pub named_column : sorts.Sort × Bor (List ℕ) → Column
named_column c = column (bit_of c.0) c.1.now

-- the name of each module type
abbrev pub type_name : types.ModuleType → List ℕ
type_name types.TheVariants.Module = codes "module"
type_name types.TheVariants.CommonJs = codes "commonjs"
type_name types.TheVariants.Json = codes "json"

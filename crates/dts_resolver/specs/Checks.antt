-- The checks of a lookup before its search, in their order: the first that fails refuses.
use Rattle.std.specs.Prelude.{ℕ, Bool, cond, not, ◌&&◌, ◌||◌, List, length, Some, None, Option, nat_le}
use Rattle.std.proofs.Math.Utf8.{scalars, encodes}
use Rattle.std.specs.Str.{bytes_eq, chars}
use Rattle.path.specs.Path.{normal, has_parent, parent_of}
use Rattle.file_system.specs.Tree.{Path}
use Rattle.search.specs.declared.error.Refusal.{Refusal}
use Rattle.search.specs.declared.error.Refusal.TheVariants.{ShortMemory, ContainingPath, SpecifierText, EmptySpecifier, AbsolutePath, PackageImport}
use Rattle.search.specs.declared.TheConstants.{PATH_SIZE}
use Rattle.dts_resolver.specs.declared.TheConstants.{WORK_SIZE, IMPORT_SIZE}
use Rattle.dts_resolver.specs.Specifier.{begins, is_empty, path_part}
use Rattle.dts_resolver.specs.Given.{Given}

-- text in UTF-8 (RFC 3629): it is what its characters encode to, and those are Unicode scalar values
unfoldable pub utf8 : List ℕ → Bool
utf8 bytes = scalars (chars bytes) && bytes_eq (encodes (chars bytes)) bytes

-- The path part is checked last: it is not empty, is normal if it begins with `/` (47), and does not begin with `#` (35),
unfoldable pub part_checks : List ℕ → Option Refusal
part_checks part =
    cond (is_empty part) (Some EmptySpecifier)
    (cond (begins 47 part && not (normal part)) (Some AbsolutePath)
    (cond (begins 35 part) (Some PackageImport) None))

-- ... before it the two texts, which are UTF-8 of at most 512 bytes,
abbrev pub is_text : List ℕ → Bool
is_text text = utf8 text && nat_le (length text) IMPORT_SIZE

unfoldable pub text_checks : Path → List ℕ → Option Refusal → Option Refusal
text_checks containing specifier next =
    cond (is_text containing && normal containing) (cond (is_text specifier) next (Some SpecifierText)) (Some ContainingPath)

-- ... and the lent memory first of all: 1,024 bytes for a path, 32,768 for work.
unfoldable pub given_checks : ℕ → ℕ → Path → List ℕ → Option Refusal → Option Refusal
given_checks path_size work_size containing specifier next =
    cond (nat_le PATH_SIZE path_size && nat_le WORK_SIZE work_size) (text_checks containing specifier next) (Some ShortMemory)

unfoldable pub checks : Given → Option Refusal
checks g = given_checks g.path_size g.work_size g.containing g.specifier (part_checks (path_part g.specifier))

-- a path part that is joined to the containing directory: it begins with `.` (46) or `/` (47)
abbrev pub is_joined : List ℕ → Bool
is_joined part = begins 46 part || begins 47 part

-- the directory of the containing path, and `/` for `/`
unfoldable pub directory_of : Path → Path
directory_of p = cond (has_parent p) (parent_of p) p

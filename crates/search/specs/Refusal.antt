-- The numbers and names of refusals.
use Rattle.std.specs.Prelude.{ℕ, List, codes}
use Rattle.search.specs.declared.error.Refusal.{Refusal}
use Rattle.search.specs.declared.error.Refusal.TheVariants.{Unfinished, ShortMemory, ContainingPath, SpecifierText, EmptySpecifier, AbsolutePath, PackageImport, LongPath, TrailFull, BrokenManifest, TooDeep}

-- the number of each refusal
abbrev pub number_of : Refusal → ℕ
number_of Unfinished = 0
number_of ShortMemory = 1
number_of ContainingPath = 2
number_of SpecifierText = 3
number_of EmptySpecifier = 4
number_of AbsolutePath = 5
number_of PackageImport = 6
number_of LongPath = 7
number_of TrailFull = 8
number_of (BrokenManifest fault) = 9
number_of TooDeep = 11

-- the name of each refusal
abbrev pub name_of : Refusal → List ℕ
name_of Unfinished = codes "unfinished"
name_of ShortMemory = codes "short-memory"
name_of ContainingPath = codes "containing-path"
name_of SpecifierText = codes "specifier-text"
name_of EmptySpecifier = codes "empty-specifier"
name_of AbsolutePath = codes "absolute-path"
name_of PackageImport = codes "package-import"
name_of LongPath = codes "long-path"
name_of TrailFull = codes "trail-full"
name_of (BrokenManifest fault) = codes "broken-manifest"
name_of TooDeep = codes "too-deep"

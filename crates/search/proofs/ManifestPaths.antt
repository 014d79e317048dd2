-- A manifest's path is called package.json.
use Rattle.std.proofs.Common.{◌≡◌, ℕ, ◌-◌, true, cond, List, [], ◌∷◌, ◌++◌, length, drop, codes, arith}
use Rattle.std.specs.Str.{bytes_eq}
use Rattle.std.proofs.lemmas.Slice.Eq.{bytes_eq-Decides}
use Rattle.std.proofs.lemmas.List.{length-append, drop_at}
use Rattle.file_system.specs.Tree.{Path}
use Rattle.search.specs.Search.{ends_with}
use Rattle.search.specs.Search.{manifest_in}
use Rattle.search.specs.Laws.{is_manifest}

-- a text ends with what was appended to it
pub ends_with_lem : (front tail : List ℕ) → ends_with (front ++ tail) tail ≡ true
unfolding ends_with
ends_with_lem front tail =
    let cut : length front ≡ length (front ++ tail) - length tail = omega (arith, length-append front tail) in
    (bytes_eq-Decides (drop (length (front ++ tail) - length tail) (front ++ tail)) tail).1 (drop_at front tail (length (front ++ tail) - length tail) cut)

pub manifest_called : (d : Path) → is_manifest (manifest_in d) ≡ true
unfolding is_manifest manifest_in
manifest_called d = ends_with_lem (cond (bytes_eq d (47 ∷ [])) [] d) (codes "/package.json")

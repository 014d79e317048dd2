-- The laws of a manifest's version paths, as statements.
use Rattle.std.specs.Prelude.{◌≡◌, [], List}
use Rattle.json_text.specs.Standing.{Entry}
use Rattle.package_json.specs.Manifest.{firsts, patterns_of}
use Rattle.package_json.specs.Standing.{candidates, kept}

-- The candidates that count are the patterns of the members that count.
abbrev pub KeptAreThePatterns : Type 0
KeptAreThePatterns = (es : List Entry) → kept (candidates [] es) ≡ patterns_of (firsts [] es)

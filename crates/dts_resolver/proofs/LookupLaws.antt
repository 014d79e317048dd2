-- The laws over every search, for the lookup.
use Rattle.std.proofs.Common.{[]}
use Rattle.file_system.specs.Tree.{Tree}
use Rattle.search.proofs.SearchNeeds.{run_is_what_it_needs}
use Rattle.search.proofs.SearchReplies as replies
use Rattle.search.proofs.SearchAdditions as additions
use Rattle.dts_resolver.specs.Given.{Given}
use Rattle.dts_resolver.specs.Steps.{search_for}
use Rattle.dts_resolver.specs.Laws.{AsksWhatItNeeds, KeepsItsAnswer, MindsOnlyNewFiles}

module _ (t : Tree) (g : Given) where
  pub needed : AsksWhatItNeeds t g
  needed = run_is_what_it_needs g.limits t (search_for g) []

  pub same_lookup : KeepsItsAnswer t g
  same_lookup t' h = replies.proved g.limits t t' (search_for g) [] h

  pub harmless_lookup : MindsOnlyNewFiles t g
  harmless_lookup t' h = additions.proved g.limits t t' h (search_for g) []

-- The library's parts are the pieces, and `all` tests each of them.
use Rattle.std.proofs.Common.{eqb, ◌∙◌, ap, rules, tests}
use Rattle.std.proofs.lemmas.Iterator.Search.{all_from_yields_List}
use Rattle.std.proofs.lemmas.Iterator.Splits.{YieldsList-from_slice_split}
use Rattle.path.specs.Path.{proper, every}
use Rattle.path.proofs.Cutting.{split_parts, all_parts}
use Rattle.path.proofs.components.has_proper_pieces.Goals as goal

pub returns : goal.returns
returns c =
    all_from_yields_List proper _ _ _ c.all.ensures.ran
    (YieldsList-from_slice_split _ (λ b. eqb b 47) c.args.text.now c.split.ensures.rest c.split.ensures.done c.split.ensures.closure (λ x b q k. search (rules, tests)))
    (λ x b q k. search (rules, tests))
    ∙ all_parts proper _ ∙ ap (every proper) (split_parts c.args.text.now)

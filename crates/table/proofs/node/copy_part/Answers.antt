use Rattle.std.proofs.Common.{◌≡◌, ℕ, min, List, ◌++◌, length, take, drop, ap, ◌∙◌, arith}
use Rattle.std.proofs.lemmas.List.{length-take, length-drop}
use Rattle.file_system.specs.Store.{count_of}
use Rattle.table.proofs.node.copy_part.Goals as goal

module _ (part rest content : List ℕ) (from size : ℕ) (fits : part ≡ take size rest) (behind : rest ≡ drop from content) where
  part_is : part ≡ take size (drop from content)
  part_is = fits ∙ ap (take size) behind

  part_length : length part ≡ count_of content from size
  part_length = ap length part_is ∙ length-take size (drop from content) ∙ ap (min size) (length-drop from content)

pub slice_bounds-copy_from_slice-end : goal.slice_bounds-copy_from_slice-end
slice_bounds-copy_from_slice-end c =
    omega (arith, part_length c.front-part.result.now c.after.result.now c.args.content.now c.args.from (length c.args.into.now) c.front-part.ensures.first_elements c.after.ensures.all_but_the_first)

pub returns : goal.returns
returns c =
    let content = c.args.content.now in
    let from = c.args.from in
    let into = c.args.into.now in
    let part = c.front-part.result.now in
    let fits = c.front-part.ensures.first_elements in
    let behind = c.after.ensures.all_but_the_first in
    let count = part_length part c.after.result.now content from (length into) fits behind in
    let same : length part ≡ count_of content from (length into) = omega (arith, count) in
    record {
      what_fits = count;
      rest_as_before =
          ap (λ xs. xs ++ drop (length part) into) (c.copy_from_slice.ensures.after ∙ part_is part c.after.result.now content from (length into) fits behind)
          ∙ ap (λ n. take (length into) (drop from content) ++ drop n into) same;
    }

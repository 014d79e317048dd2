use Rattle.std.proofs.Common.{◌≡◌, true, false, rules}
use Rattle.std.specs.List.Sorted.{IsPartitionPoint}
use Rattle.std.proofs.lemmas.List.Sorted.{IsPartitionPoint-from_clause}
use Rattle.table.specs.Table.{path_of}
use Rattle.table.specs.Sound.{before, Sorted}
use Rattle.table.proofs.TableOrder.{parted, all_before, none_before}
use Rattle.table.proofs.order.place.Goals as goal

pub returns : goal.returns
returns c =
    let bytes = c.args.bytes.now in
    let path = c.args.path.now in
    let es = c.args.entries.now in
    let bound = c.partition_point.ensures.bound in
    let point : Sorted bytes es → IsPartitionPoint (λ e. before (path_of bytes e) path ≡ true) (λ e. before (path_of bytes e) path ≡ false) es c.partition_point.result = λ s.
    IsPartitionPoint-from_clause (λ e. before (path_of bytes e) path) _ _ c.partition_point.ensures.partitioned (parted bytes path es s) (λ a r q k. search rules) in
    record {
      inside = search rules;
      those_before = λ s. let these = all_before bytes path es _ bound (point s) in search (rules, these);
      those_not_before = λ s. let these = none_before bytes path es _ bound (point s) in search (rules, these);
    }

use Rattle.std.proofs.Common.{leb, rules, sym, arith}
use Rattle.std.proofs.lemmas.List.Sums.{prefix_len_is}
use Rattle.std.proofs.lemmas.List.Sorted.{IsPartitionPoint-from_clause, IsPartitionedBy-leb}
use Rattle.id_text.proofs.places.starts_until.Goals as goal

pub returns : goal.returns
returns c =
    let parted = IsPartitionedBy-leb (λ s. s) _ c.args.at c.requires in
    let point = IsPartitionPoint-from_clause (λ s. leb s c.args.at) _ _ c.partition_point.ensures.partitioned parted (λ a r q k. search rules) in
    sym (prefix_len_is (λ s. leb s c.args.at) c.args.starts.now c.partition_point.result 0 c.partition_point.ensures.bound
    (λ k below. point.0 k 0 (omega arith) below) (λ more. point.1 c.partition_point.result 0 (omega arith) more))

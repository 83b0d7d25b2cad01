-- The first number that isn't below the lower bound tells.
use Rattle.std.proofs.Common.{ℕ, nat_lt, ◌∙◌, arith, rules}
use Rattle.std.proofs.lemmas.List.Sorted.{IsPartitionPoint-from_clause, IsPartitionedBy-ltb}
use Rattle.dm_around.proofs.NumberLemmas.{told-by-first}
use Rattle.dm_around.proofs.beside.is_any_between.Goals as goal

pub returns : goal.returns
returns c =
    let row = c.args.numbers.now in
    let from = c.args.from in
    let parted = IsPartitionedBy-ltb (λ (n : ℕ). n) row from c.requires in
    let point = IsPartitionPoint-from_clause (λ (n : ℕ). nat_lt n from) _ _ c.partition_point-index.ensures.partitioned parted (λ a r q k. search rules) in
    c.is_below.ensures
    ∙ told-by-first from c.args.to c.partition_point-index.result row c.requires (λ i d less. point.0 i d (omega arith) less) (λ i d le less. point.1 i d le less) c.partition_point-index.ensures.bound

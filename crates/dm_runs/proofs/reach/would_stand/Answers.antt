-- By the first token that comes of a later part.
use Rattle.std.proofs.Common.{ℕ, nat_le, rules}
use Rattle.std.proofs.lemmas.List.Sorted.{IsPartitionPoint-from_clause}
use Rattle.dm_runs.specs.Runs.{is_later}
use Rattle.dm_runs.proofs.ReachLemmas.{reach-parts, stands-there}
use Rattle.dm_runs.proofs.reach.would_stand.Goals as goal

pub returns : goal.returns
returns c = λ expansions tokens definition prefix under within are.
    let reach = c.args.reach.now in
    let at = c.args.at in
    let parted = reach-parts (is_later expansions definition prefix) tokens c.args.run.first at reach are in
    let point = IsPartitionPoint-from_clause (λ (part : ℕ). nat_le part at) _ _ c.partition_point-count.ensures.partitioned parted (λ a r q k. search rules) in
    stands-there expansions tokens definition prefix c.args.run at under reach c.partition_point-count.result c.requires are c.partition_point-count.ensures.bound point

-- The newlines before the offset are counted.
use Rattle.std.proofs.Common.{rules, ◌+◌, ltb, sym, ap, ◌∙◌, subst, arith, List, ℕ}
use Rattle.std.specs.List.{count_by}
use Rattle.std.specs.List.Sorted.{IsPartitionedBy}
use Rattle.std.proofs.lemmas.List.Sorted.{IsPartitionPoint-from_clause}
use Rattle.dm_subjects.proofs.NewlineLemmas.{parted, point-count, count-before}
use Rattle.dm_subjects.proofs.newlines.line_by.Goals as goal

pub returns : goal.returns
returns c bytes is =
    let newlines = c.args.newlines.now in
    let offset = c.args.offset in
    let in_order = subst (IsPartitionedBy (λ newline. ltb newline offset)) (sym is) (parted bytes offset) in
    let point = IsPartitionPoint-from_clause (λ newline. ltb newline offset) newlines c.partition_point.result c.partition_point.ensures.partitioned in_order (λ a r q k. search rules) in
    let counted = point-count (λ newline. ltb newline offset) newlines c.partition_point.result c.partition_point.ensures.bound point in
    ap (λ n. 1 + n) (sym counted ∙ ap (λ (ns : List ℕ). count_by (λ newline. ltb newline offset) ns) is ∙ count-before offset offset 0 bytes (omega arith))

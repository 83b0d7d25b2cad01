-- The parameters of the occurrences up to here are marked.
use Rattle.std.proofs.Common.{◌≡◌, ◌<◌, ◌==◌, ℕ, false, length, take, slice_index_or}
use Rattle.std.specs.List.{list_any}
use Rattle.dm_runs.specs.declared.run.Occurrence.{Occurrence}
use Rattle.dm_beside.proofs.places.occurring.Given as goal

abbrev pub invariant-loop-one : goal.invariant-loop-one
invariant-loop-one l = record {
  long : length l.marks.items ≡ l.fn.count;
  marked : (n : ℕ) → n < l.fn.count → slice_index_or l.marks.items n false ≡ list_any (λ (one : Occurrence). one.parameter == n) (take l.one-index l.occurrences);
}

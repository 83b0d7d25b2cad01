-- The keys so far, and those of the definitions that are left, are all keys.
use Rattle.std.proofs.Common.{◌≡◌, ◌≤◌, [], drop, length}
use Rattle.dm_definitions.specs.Counts.{keys_behind, limit}
use Rattle.dm_definitions.proofs.count.exceeds_limit.Given as goal

abbrev pub invariant-loop-one : goal.invariant-loop-one
invariant-loop-one l = record {
  all : keys_behind l.keys.keys (drop l.one-index l.read) ≡ keys_behind [] l.read;
  few : length l.keys.keys ≤ limit;
}

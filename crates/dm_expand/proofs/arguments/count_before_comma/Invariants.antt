use Rattle.std.proofs.Common.{◌≡◌, ◌≤◌, take, drop}
use Rattle.dm_expand.specs.Arguments as arguments
use Rattle.dm_expand.specs.Views.{in_front}
use Rattle.dm_expand.proofs.arguments.count_before_comma.Given as goal

abbrev pub invariant-loop-count : goal.invariant-loop-count
invariant-loop-count l =
    (arguments.separated l.left 0 l.items ≡ in_front (take l.count l.items) (arguments.separated l.left l.depth (drop l.count l.items))) × (l.depth ≤ l.count)

use Rattle.std.proofs.Common.{◌≡◌, ◌≤◌, length}
use Rattle.dm_expand.specs.Arguments.{enclosed_in}
use Rattle.dm_expand.specs.Views.{all_inside}
use Rattle.dm_expand.proofs.queue.Queue.gather_enclosed.Given as goal

abbrev pub invariant-tokens : goal.invariant-tokens
invariant-tokens l =
    (enclosed_in 0 l.fn.self ≡ all_inside l.inside.items (enclosed_in l.depth l.self)) × (l.depth ≤ length l.inside.items) × (length l.self ≤ length l.fn.self)

abbrev pub decreases-tokens : goal.decreases-tokens
decreases-tokens l = length l.self

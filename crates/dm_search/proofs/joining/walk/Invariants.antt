-- The walk along all the parts is the walk along what is left.
use Rattle.std.proofs.Common.{◌≡◌, map, drop}
use Rattle.dm_search.specs.Joining.{walked}
use Rattle.dm_search.proofs.joining.walk.Given as goal

abbrev pub invariant-loop-step : goal.invariant-loop-step
invariant-loop-step l =
    walked (map (λ part. part.now) l.step-items) (map (λ part. part.now) l.initial.parts.items)
    ≡ walked (map (λ part. part.now) (drop l.step-index l.step-items)) (map (λ part. part.now) l.parts.items)

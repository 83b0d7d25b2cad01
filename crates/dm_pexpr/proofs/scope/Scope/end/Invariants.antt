-- What is left is what stands behind those that were taken back.
use Rattle.std.proofs.Common.{◌≡◌, ◌≤◌, ◌-◌, length, drop, min}
use Rattle.dm_pexpr.proofs.scope.Scope.end.Given as goal

abbrev pub invariant-loop-self : goal.invariant-loop-self
invariant-loop-self l = (drop (length l.initial.self - length l.self) l.initial.self ≡ l.self) × (length l.self ≤ length l.initial.self) × (min l.kept (length l.initial.self) ≤ length l.self)

abbrev pub decreases-loop-self : goal.decreases-loop-self
decreases-loop-self l = length l.self

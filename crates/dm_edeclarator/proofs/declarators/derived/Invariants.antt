use Rattle.std.proofs.Common.{length}
use Rattle.dm_type.specs.Tables.{IsId}
use Rattle.dm_edeclarator.specs.Steps.{steps_over, StepsFit}
use Rattle.dm_typing.specs.Typing.{derived}
use Rattle.dm_typing.specs.Views.{type_over, known_over, Grows}
use Rattle.dm_edeclarator.proofs.ReachLemmas.{Reaches}
use Rattle.dm_edeclarator.proofs.declarators.derived.Given as goal

-- the steps that are left make of the type so far what all make of the first
abbrev pub invariant-loop-step : goal.invariant-loop-step
invariant-loop-step l =
    Reaches l.fn.known l.known (λ later. derived (known_over later l.fn.known) (type_over later l.fn.base) (steps_over later l.fn.steps))
    (λ later. derived (known_over later l.known) (type_over later l.kind) (steps_over later l.steps.items))
    × Grows l.fn.known l.known × IsId l.known.types l.kind × StepsFit l.known.types l.steps.items

abbrev pub decreases-loop-step : goal.decreases-loop-step
decreases-loop-step l = length l.steps.items

-- The states meet each premise of the law.
use Rattle.std.specs.Prelude.{◌≡◌, refl, false, [], Some}
use Rattle.std.proofs.Common.{inl}
use Rattle.dm_meaning.specs.Examples.{at, counted_sum}
use Rattle.dm_meaning.specs.States.{State, returns}
use Rattle.dm_meaning.specs.Steps.{scene_of}
use Rattle.dm_meaning.specs.Values.{At, overlaps_any}
use Rattle.dm_rewrite.specs.Computed.{computed, IsPure}
use Rattle.dm_rewrite.specs.Examples as examples
use Rattle.dm_rewrite.specs.PureSteps.{IsAt, Evaluated}
use Rattle.dm_rewrite.proofs.SettleLemmas.{evaluated_free, wrong_met}
use Rattle.dm_rewrite.proofs.examples.an_operand_is_evaluated_at_once.Goals as goal

pure : IsPure examples.second
pure = (refl, ((refl, tt), tt))

-- nothing is locked where the first operand hasn't begun
none_locked : (place : At) → overlaps_any place [] ≡ false
none_locked place = refl

evaluated : (state : State) → IsAt (at 0) (examples.beside examples.first) returns [] state examples.second
    → computed (scene_of counted_sum state) state.world examples.second ≡ Some (examples.read_as 0)
    → Evaluated counted_sum (at 0) (examples.beside examples.first) returns [] state examples.second
evaluated state there e =
    evaluated_free counted_sum (at 0) (examples.beside examples.first) returns [] state examples.second there pure (examples.read_as 0) e
    (λ place k. none_locked place)

pub returns-clause-at : goal.returns-clause-at
returns-clause-at c = record { stands = refl; opened = (refl, tt); evaluating = refl }

pub returns-clause-evaluated : goal.returns-clause-evaluated
returns-clause-evaluated c = evaluated _ (record { stands = refl; opened = (refl, tt); evaluating = refl }) refl

pub returns-clause-at_counted : goal.returns-clause-at_counted
returns-clause-at_counted c = record { stands = refl; opened = (refl, tt); evaluating = refl }

pub returns-clause-wrong : goal.returns-clause-wrong
returns-clause-wrong c =
    wrong_met counted_sum (at 0) (examples.beside examples.first_done) returns [] _ examples.second
    (record { stands = refl; opened = (refl, tt); evaluating = refl }) pure (Some (examples.read_as 1)) refl (examples.i, inl refl, refl)

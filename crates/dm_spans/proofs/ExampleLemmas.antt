-- The program of the example, with its body elsewhere.
use Rattle.std.specs.Prelude.{refl, [], None}
use Rattle.std.proofs.Common.{sym, subst, inl, inr}
use Rattle.dm_meaning.specs.Among.{IsAmong}
use Rattle.dm_meaning.specs.Programs.{Definition, Static}
use Rattle.dm_sound.specs.Examples.{main_definition, running}
use Rattle.dm_spans.specs.Examples.{moved}
use Rattle.dm_spans.specs.MovedPrograms.{IsMovedDefinition, IsMovedProgram, IsMovedStatic}

abbrev counter : Static
counter = record { declared = 0; initialiser = None; expressions = [] }

main_moved : (new : Definition) → IsAmong new moved.functions → (old : Definition) × IsAmong old running.functions × IsMovedDefinition old new
main_moved new (inl e) =
    (main_definition, inl refl, subst (IsMovedDefinition main_definition) (sym e) (record { function = refl; parameters = refl; body = (refl, refl, tt) }))
main_moved new (inr none) = absurd none

counter_moved : (new : Static) → IsAmong new moved.statics → (old : Static) × IsAmong old running.statics × IsMovedStatic old new
counter_moved new (inl e) = (counter, inl refl, subst (IsMovedStatic counter) (sym e) (record { declared = refl; initialiser = refl; expressions = tt }))
counter_moved new (inr none) = absurd none

pub running_moved : IsMovedProgram running moved
running_moved = record { declared = refl; table = refl; functions = main_moved; statics = counter_moved }

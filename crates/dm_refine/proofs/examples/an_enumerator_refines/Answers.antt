use Rattle.std.specs.Prelude.{[], ◌∷◌, Some}
use Rattle.dm_type.specs.Tables.{no_type}
use Rattle.dm_align.specs.Examples.{run_of_two, two_old, two_new, two_put}
use Rattle.dm_refine.proofs.EnumeratorExample as example
use Rattle.dm_refine.proofs.EnumeratorUnitLemmas.{enumerated_units}
use Rattle.dm_refine.proofs.examples.an_enumerator_refines.Goals as goal

pub returns-clause-old_typed : goal.returns-clause-old_typed
returns-clause-old_typed c = example.old_typed

pub returns-clause-new_typed : goal.returns-clause-new_typed
returns-clause-new_typed c = example.new_typed

pub returns-clause-refines : goal.returns-clause-refines
returns-clause-refines c =
    enumerated_units no_type no_type two_old two_new (run_of_two ∷ []) example.old_typed example.new_typed (Some (two_put 2)) tt example.two_aligned

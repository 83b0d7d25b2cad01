-- The premises of the laws, for the example.
use Rattle.std.specs.Prelude.{refl, []}
use Rattle.std.proofs.lemmas.List.Elements.{All-nil}
use Rattle.dm_meaning.specs.Machines.{Goes, RunsTo}
use Rattle.dm_meaning.specs.Units.{machine_of, program_of}
use Rattle.dm_sound.specs.Examples.{one_table}
use Rattle.dm_same.specs.Examples.{unit, started}

pub unit_run : RunsTo (machine_of (program_of one_table unit)) [] 0 started
unfolding Goes
unit_run = record { start = started; begins = (All-nil _, (λ i. i), ((λ i j e. e), λ i. refl), _, refl, refl); goes = refl }

-- struct { int m; } s; int main(void) {}
-- over two tables, in which int has different numbers.
--     unit      the typed unit
--     started      the state at the beginning of a run over the first table
use Rattle.std.specs.Prelude.{[], ◌∷◌, codes, true}
use Rattle.dm_type.specs.CTypes.{struct}
use Rattle.dm_tree.specs.declared.unit.Linkage.TheVariants.{External as Outer}
use Rattle.dm_tree.specs.declared.unit.Sort.TheVariants.{Object}
use Rattle.dm_tree.specs.Units.{Declaration, TypedUnit}
use Rattle.dm_meaning.specs.States.{State}
use Rattle.dm_meaning.specs.Units.{program_of, start}
use Rattle.dm_sound.specs.Examples.{somewhere, external, main_entry, main_external, main_definition, one_table}

abbrev pub entry : Declaration
entry = record { name = codes "s"; sort = Object true; kind = struct 0; linkage = Outer; place = somewhere }

abbrev pub unit : TypedUnit
unit = record { declared = entry ∷ main_entry ∷ []; externals = external ∷ main_external ∷ [] }

abbrev pub started : State
started = start (λ i. i) (program_of one_table unit) main_definition []

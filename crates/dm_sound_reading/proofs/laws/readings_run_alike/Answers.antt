use Rattle.std.specs.Prelude.{List, Ok}
use Rattle.std.proofs.Common.{sym, subst}
use Rattle.dm_token.specs.declared.token.Token.{Token}
use Rattle.dm_tree.specs.Units.{TypedUnit}
use Rattle.dm_tree.specs.Views.{view_of_unit}
use Rattle.dm_meaning.specs.Machines.{RunsTo}
use Rattle.dm_meaning.specs.Units.{machine_of, program_of}
use Rattle.dm_reading.specs.Layered.{HasLayers, layers_of}
use Rattle.dm_same.proofs.MachineLemmas.{same_runs}
use Rattle.dm_sound_reading.proofs.laws.readings_run_alike.Goals as goal

pub returns : goal.returns
returns c one other input n state first second same run =
    let again = subst (λ (tokens : List Token). HasLayers tokens (Ok (layers_of other))) same second in
    let alike = (c.one_reading.ensures one.pp.tokens (Ok (layers_of one)) (Ok (layers_of other)) first again).2 in
    subst (λ (unit : TypedUnit). RunsTo (machine_of (program_of other.types unit)) input n state) (sym alike.unit)
    (same_runs one.types other.types alike.structs (view_of_unit one.types one.core) input n state run)

use Rattle.dm_tree.specs.Views.{view_of_unit}
use Rattle.dm_initialised.specs.Units.{has_first_value}
use Rattle.dm_initialised.proofs.FirstValueLemmas.{first_values_given}
use Rattle.dm_reading.specs.Layered.{layers_of}
use Rattle.dm_sound_reading.proofs.ReadingLemmas.{states_set, names_set}
use Rattle.dm_sound_reading.proofs.laws.readings_name_what_is_set.Goals as goal

pub returns-clause-states : goal.returns-clause-states
returns-clause-states c reading input n state h = states_set reading.pp.tokens (layers_of reading) h input n state

pub returns-clause-names : goal.returns-clause-names
returns-clause-names c reading input n state h =
    let unit = view_of_unit reading.types reading.core in
    names_set reading.pp.tokens (layers_of reading) h (has_first_value unit) (first_values_given unit) input n state

pub returns-clause-others : goal.returns-clause-others
returns-clause-others c reading needs input n state h initialised = names_set reading.pp.tokens (layers_of reading) h needs initialised input n state

-- What initialisers stand for.
use Rattle.std.specs.Prelude.{ℕ, Bool}
use Rattle.dm_tree.specs.declared.tree.Initial.{Initial}
use Rattle.dm_tree.specs.declared.tree.Form.TheFolds as folds
use Rattle.dm_tree.specs.TypeNumbers.{form_known, initial_known, core_known, local_known}
pub use Rattle.dm_meaning.specs.Wholes.{view_of_initial}

abbrev pub are_known_in_initial : ℕ → Initial → Bool
are_known_in_initial types = folds.fold-Initial Bool Bool Bool Bool (form_known types) initial_known (core_known types) local_known

-- The numbers of types in the trees, declarators and initialisers of a unit are those of a table of types.
use Rattle.std.specs.Prelude.{ℕ, Bool, IsTrue, length}
use Rattle.dm_type.specs.Tables.{Table}
use Rattle.dm_tree.specs.declared.tree.Core.{Core}
use Rattle.dm_tree.specs.declared.tree.Form.{Form}
use Rattle.dm_tree.specs.declared.tree.Form.TheFolds as folds
use Rattle.dm_tree.specs.declared.tree.Initial.{Initial}
use Rattle.dm_tree.specs.declared.tree.Local.{Local}
use Rattle.dm_tree.specs.declared.unit.CoreExternal.{CoreExternal}
use Rattle.dm_tree.specs.TypeNumbers.{are_known, are_known_in_form, are_known_in_local, external_has_known, form_known, initial_known, core_known, local_known}

abbrev pub IsKnown : Table → Core → Type 0
IsKnown types core = IsTrue (are_known (length types.shapes) core)

abbrev pub IsKnownForm : Table → Form → Type 0
IsKnownForm types form = IsTrue (are_known_in_form (length types.shapes) form)

abbrev pub IsKnownLocal : Table → Local → Type 0
IsKnownLocal types local = IsTrue (are_known_in_local (length types.shapes) local)

-- each number of a type in an initialiser is below the count
abbrev pub are_known_in_initial : ℕ → Initial → Bool
are_known_in_initial types = folds.fold-Initial Bool Bool Bool Bool (form_known types) initial_known (core_known types) local_known

abbrev pub IsKnownInitial : Table → Initial → Type 0
IsKnownInitial types initial = IsTrue (are_known_in_initial (length types.shapes) initial)

abbrev pub IsKnownExternal : Table → CoreExternal → Type 0
IsKnownExternal types external = IsTrue (external_has_known (length types.shapes) external)

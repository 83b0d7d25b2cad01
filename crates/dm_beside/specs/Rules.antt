-- What the rules ask of a run, as far as its unit alone tells.
--     KeepsRules types unit is_function count run      it breaks none of the rules 8, 9, 10, 11 and 14, where the macro has so many parameters
use Rattle.std.specs.Prelude.{ℕ, Bool, IsTrue}
use Rattle.std.specs.List.{list_all, range_with_len}
use Rattle.dm_type.specs.Tables.{Table}
use Rattle.dm_tree.specs.Units.{TypedUnit}
use Rattle.dm_runs.specs.declared.run.Run.{Run}
use Rattle.dm_beside.specs.Evaluation.{evaluates_alike}
use Rattle.dm_beside.specs.Places.{is_subtree, is_value, may_be_constant, occurs}

pub record KeepsRules (types : Table) (one : TypedUnit) (is_function : Bool) (count : ℕ) (run : Run) : Type 0 where
  -- each parameter occurs
  pub parameters : IsTrue (list_all (occurs run) (range_with_len 0 count))
  pub subtree : IsTrue (is_subtree one run)
  pub constant : IsTrue (may_be_constant types one is_function run)
  pub value : IsTrue (is_value one run)
  pub evaluation : IsTrue (evaluates_alike types one run)

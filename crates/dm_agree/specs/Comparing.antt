-- What the code compares the trees of two units by.
--     rewriting it      the runs, what is added, the renaming and the values of constants
--     IsKnownAdded n added      each number of a type in the body of an added function is below n
use Rattle.std.specs.Prelude.{ℕ, IsTrue}
use Rattle.dm_type.specs.Tables.{Table}
use Rattle.dm_tree.specs.Constants.{constant}
use Rattle.dm_tree.specs.TypeNumbers.{are_known}
use Rattle.dm_tree.specs.Views.{entries_of, view}
use Rattle.dm_agree.specs.declared.comparison.Added as code
use Rattle.dm_agree.specs.declared.comparison.Added.TheVariants.{Nothing, Function, Enumerator, Constant}
use Rattle.dm_agree.specs.declared.comparison.Comparison.{Comparison}
use Rattle.dm_agree.specs.Agreement.{Added, nothing, added_function, added_enumerator, added_constant, Rewriting}
use Rattle.dm_agree.specs.Moves.{moved_past}

abbrev pub added_of : Table → code.Added → Added
added_of types Nothing = nothing
added_of types (Function one) = added_function one.number one.parameters.now (view types one.body.now)
added_of types (Enumerator d value) = added_enumerator d value
added_of types (Constant d value) = added_constant d value

abbrev pub IsKnownAdded : ℕ → code.Added → Type 0
IsKnownAdded n (Function one) = IsTrue (are_known n one.body.now)
IsKnownAdded n other = Unit {0}

abbrev pub rewriting : Comparison → Rewriting
rewriting it =
    record {
      runs = it.runs;
      added = added_of it.new_types.now it.added;
      rename = moved_past it.block;
      value = constant it.old_types.now (entries_of it.old_types.now it.declared.now);
    }

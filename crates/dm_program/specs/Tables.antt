-- The tables of a program, and what they say of its unit.
use Rattle.std.specs.Prelude.{◌≡◌, List, Option, Some}
use Rattle.dm_tree.specs.TypeNumbers.{IsTypedUnit}
use Rattle.dm_meaning.specs.Units.{main_of}
use Rattle.dm_program.specs.declared.function.Function.{Function}
use Rattle.dm_program.specs.declared.fixed.Static.{Static}
use Rattle.dm_program.specs.Functions.{view_of_function, FunctionFits, AreFunctions}
use Rattle.dm_program.specs.Sources.{Source, meant}
use Rattle.dm_program.specs.Statics.{AreStatics}

pub record AreTables (source : Source) (functions : List (Option Function)) (statics : List Static) (main : Function) : Type 0 where
  pub typed : IsTypedUnit source.table source.unit
  pub definitions : AreFunctions source functions
  pub objects : AreStatics source statics
  pub begins : main_of (meant source) ≡ Some (view_of_function source.table main)
  pub begin_fits : FunctionFits source main

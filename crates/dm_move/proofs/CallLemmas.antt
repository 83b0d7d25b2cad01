-- Calls, by what the program says of a function.
use Rattle.std.proofs.Common.{◌≡◌, ℕ, List, Option, Some, ap, ◌∙◌}
use Rattle.dm_token.specs.declared.place.Place.{Place}
use Rattle.dm_type.specs.CTypes.{CType}
use Rattle.dm_type.specs.Tables.{Table}
use Rattle.dm_layout.specs.LaidOut.{laid_out}
use Rattle.dm_tree.specs.declared.tree.Core.{Core, out-Core}
use Rattle.dm_tree.specs.Units.{Declaration}
use Rattle.dm_tree.specs.Views.{opened_form, view}
use Rattle.dm_tree.proofs.ViewLemmas.{view-core}
use Rattle.dm_meaning.specs.Expressions.{answered, function_in, function_named, undefined_called}
use Rattle.dm_meaning.specs.Operations.{Objects, World}
use Rattle.dm_meaning.specs.Primitives.{Answer, Prim}
use Rattle.dm_meaning.specs.Programs.{declaration_of}
use Rattle.dm_meaning.specs.Running.{begun, evaluates}
use Rattle.dm_meaning.specs.Values as values
use Rattle.dm_program.specs.Sources.{Source, meant}
use Rattle.dm_move.specs.Steps.{scene_with}

-- a function that isn't defined is one that the machine has
pub primitive-called : (source : Source) (statics objects : Objects) (world : World) (kind : CType) (place : Place) (arguments : List values.Value) (number : ℕ) (declaration : Declaration) (answer : Option Answer)
    → declaration_of (meant source) number ≡ Some declaration → Prim declaration.name declaration.kind (laid_out source.table) world.memory arguments world.input world.output ≡ answer
    → undefined_called (scene_with source statics objects) world kind place arguments (declaration_of (meant source) number) ≡ answered world kind place answer
primitive-called source statics objects world kind place arguments number declaration answer declared same =
    ap (undefined_called (scene_with source statics objects) world kind place arguments) declared ∙ ap (answered world kind place) same

-- the function that a tree of the code names
pub named-core : (table : Table) (core : Core) → function_named (begun (view table core)) ≡ function_in (evaluates (opened_form table (out-Core core).form).label)
named-core table core = ap (λ tree. function_named (begun tree)) (view-core table core)

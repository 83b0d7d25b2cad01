-- What the steps of nodes stand for.
--     view_of_step table kind place locks world step      the move of a node alone, of this type, place and locks of operands, which leaves
--                                                         this world
--     Keeps before after step      a step that gives no result changes nothing
--     StepFits source step      what it goes on with is of the program
use Rattle.std.specs.Prelude.{◌≡◌, List, [], ◌∷◌, ◌++◌, length, map, Some}
use Rattle.dm_token.specs.declared.place.Place.{Place}
use Rattle.dm_type.specs.CTypes.{CType}
use Rattle.dm_type.specs.Tables.{Table, type_of}
use Rattle.dm_tree.specs.declared.tree.Core.{Core, out-Core}
use Rattle.dm_tree.specs.Views.{opened_form, view}
use Rattle.dm_frame.specs.Tasks.{ExpressionFits}
use Rattle.dm_meaning.specs.Expressions.{Move, goes, calls, fails, exits, form_step, going_on, unlocked}
use Rattle.dm_meaning.specs.Operations.{Objects, Scene, World}
use Rattle.dm_meaning.specs.Programs.{definition_of}
use Rattle.dm_meaning.specs.Running.{Run, Hole, done, here, begun, gives_truth, gives_value}
use Rattle.dm_meaning.specs.Values as values
use Rattle.dm_operate.specs.declared.evaluation.Operand.{Operand}
use Rattle.dm_operate.specs.Evaluations.{view_of_evaluation, view_of_lock, view_of_operand}
use Rattle.dm_postfix.specs.Postfix.{Evaluated, Slots, arity}
use Rattle.dm_postfix.specs.Reductions.{as_operand, filled, step_at}
use Rattle.dm_program.specs.Functions.{view_of_function, FunctionFits}
use Rattle.dm_program.specs.Sources.{Source, meant}
use Rattle.dm_expression.specs.declared.waiting.Waiting.{Waiting}
use Rattle.dm_expression.specs.Waiting.{view_of_waiting}
use Rattle.dm_value.specs.Views.{view_of_value}
use Rattle.dm_move.specs.Ways.{slots_in}
use Rattle.dm_move.specs.declared.step.Step.{Step}
use Rattle.dm_move.specs.declared.step.Step.TheVariants.{Gives, Releases, Tests, Picks, Calls, Fails, Exits}

-- the locks of results, in order
abbrev pub locks_all : List Evaluated → List values.At
locks_all [] = []
locks_all (one ∷ rest) = one.locks ++ locks_all rest

abbrev pub view_of_step : Table → CType → Place → List values.At → World → Step → Move Run Hole
view_of_step table kind place locks world (Gives result lock) = goes world (done kind (view_of_evaluation result) (view_of_lock lock ++ locks))
view_of_step table kind place locks world (Releases value) = goes world (unlocked kind (view_of_value value))
view_of_step table kind place locks world (Tests operand) = goes world (going_on gives_truth kind place (begun (view table operand.now)))
view_of_step table kind place locks world (Picks operand) = goes world (going_on gives_value kind place (begun (view table operand.now)))
view_of_step table kind place locks world (Calls function arguments) = calls function.number (map view_of_value arguments.items) kind here
view_of_step table kind place locks world (Fails cause) = fails cause place
view_of_step table kind place locks world (Exits status) = exits status

-- a call changes nothing yet; a step that is undefined or ends the program writes nothing
abbrev pub Keeps : World → World → Step → Type 0
Keeps before after (Calls function arguments) = after ≡ before
Keeps before after (Fails cause) = after.output ≡ before.output
Keeps before after (Exits status) = after.output ≡ before.output
Keeps before after (Gives result lock) = Unit {0}
Keeps before after (Releases value) = Unit {0}
Keeps before after (Tests operand) = Unit {0}
Keeps before after (Picks operand) = Unit {0}

-- an operand that is evaluated next is an expression of the table's types
abbrev pub StepFits : Source → Step → Type 0
StepFits source (Tests operand) = ExpressionFits source.table operand.now
StepFits source (Picks operand) = ExpressionFits source.table operand.now
StepFits source (Calls function arguments) = (definition_of (meant source) function.number ≡ Some (view_of_function source.table function)) × FunctionFits source function
StepFits source (Gives result lock) = Unit {0}
StepFits source (Releases value) = Unit {0}
StepFits source (Fails cause) = Unit {0}
StepFits source (Exits status) = Unit {0}

-- ---- the step of a node

-- the names where these objects stand
abbrev pub scene_with : Source → Objects → Objects → Scene
scene_with source statics objects = record { program = meant source; objects = statics ++ objects }

-- The operands are these results, and as many as the node has.
pub record AreOperands (table : Table) (results : List Operand) (slots : Slots) (own : List Evaluated) : Type 0 where
  pub same : map as_operand own ≡ map (view_of_operand table) results
  pub all : length own ≡ arity slots

-- what a step did is the move of a node with any locks of these operands
abbrev pub IsStep : Source → Objects → Objects → List values.At → Waiting → List Operand → World → World → Step → Type 0
IsStep source statics objects locks node results before after step = (own : List Evaluated) → AreOperands source.table results (view_of_waiting source.table node).slots own
    → view_of_step source.table (type_of source.table (out-Core node.node.now).kind) (out-Core node.node.now).place (locks_all own) after step
    ≡ step_at (scene_with source statics objects) before locks (view_of_waiting source.table node) own

-- the same of a node that is evaluated as its form says
abbrev pub IsFormStep : Source → Objects → Objects → List values.At → Core → List Operand → World → World → Step → Type 0
IsFormStep source statics objects locks node results before after step = (own : List Evaluated) → AreOperands source.table results (slots_in (opened_form source.table (out-Core node).form)) own
    → view_of_step source.table (type_of source.table (out-Core node).kind) (out-Core node).place (locks_all own) after step
    ≡ form_step (scene_with source statics objects) before locks (opened_form source.table (out-Core node).form).label (type_of source.table (out-Core node).kind) (out-Core node).place
    (filled (slots_in (opened_form source.table (out-Core node).form)) own) (map as_operand own)

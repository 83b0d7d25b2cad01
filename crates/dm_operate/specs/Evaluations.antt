-- What evaluations and steps of nodes stand for.
--     view_of_did world did      what a step did, which left this world
--     Does table before after did step      what a step did, which found these objects and left those
--     asks_names label      the step of a node asks what names stand for
use Rattle.std.specs.Prelude.{◌≡◌, Bool, true, false, List, [], ◌∷◌, Option, Some, None}
use Rattle.dm_type.specs.Tables.{Table, IsId, type_of}
use Rattle.dm_tree.specs.Trees.{Label, enumerator, object}
use Rattle.dm_meaning.specs.Values as values
use Rattle.dm_meaning.specs.Operations as operations
use Rattle.dm_meaning.specs.Operations.{Scene, World}
use Rattle.dm_value.specs.declared.place.At.{At}
use Rattle.dm_value.specs.Places.{view_of_at}
use Rattle.dm_value.specs.Views.{view_of_value}
use Rattle.dm_memory.specs.declared.blocks.Block.{Block}
use Rattle.dm_memory.specs.Blocks.{view_of_blocks}
use Rattle.dm_memory.specs.Scenes.{Beside, scene_in, world_in}
use Rattle.dm_operate.specs.declared.evaluation.Evaluation.{Evaluation}
use Rattle.dm_operate.specs.declared.evaluation.Evaluation.TheVariants.{Value, Object}
use Rattle.dm_operate.specs.declared.evaluation.Operand.{Operand}
use Rattle.dm_operate.specs.declared.evaluation.Operands.{Operands}
use Rattle.dm_operate.specs.declared.evaluation.Operands.TheVariants as operands
use Rattle.dm_operate.specs.declared.evaluation.Did.{Did}
use Rattle.dm_operate.specs.declared.evaluation.Did.TheVariants.{Gives, Breaks}

abbrev pub view_of_evaluation : Evaluation → operations.Result
view_of_evaluation (Value value) = operations.of_value (view_of_value value)
view_of_evaluation (Object at) = operations.designates (view_of_at at)

abbrev pub view_of_operand : Table → Operand → operations.Operand
view_of_operand table operand = record { kind = type_of table operand.kind; result = view_of_evaluation operand.result }

abbrev pub view_of_operands : Table → Operands → List operations.Operand
view_of_operands table operands.None = []
view_of_operands table (operands.One a) = view_of_operand table a.now ∷ []
view_of_operands table (operands.Two a b) = view_of_operand table a.now ∷ view_of_operand table b.now ∷ []

-- their types are of the table
abbrev pub AreKnownOperands : Table → Operands → Type 0
AreKnownOperands table operands.None = Unit {0}
AreKnownOperands table (operands.One a) = IsId table a.now.kind
AreKnownOperands table (operands.Two a b) = IsId table a.now.kind × IsId table b.now.kind

abbrev pub view_of_lock : Option At → List values.At
view_of_lock None = []
view_of_lock (Some at) = view_of_at at ∷ []

abbrev pub view_of_did : World → Did → operations.Did
view_of_did world (Gives result lock) = operations.gives world (view_of_evaluation result) (view_of_lock lock)
view_of_did world (Breaks cause) = operations.breaks cause

-- what is done by a step in every scene with these types, from every world with the objects before it to that with those after it
abbrev pub Does : Table → List Block → List Block → Did → (Scene → World → operations.Did) → Type 0
Does table before after did step = (beside : Beside)
    → view_of_did (world_in (view_of_blocks table after) beside) did ≡ step (scene_in table beside) (world_in (view_of_blocks table before) beside)

-- what the names of objects and enumerators stand for is looked up before their step
abbrev pub asks_names : Label → Bool
asks_names (enumerator d) = true
asks_names (object d) = true
asks_names label = false

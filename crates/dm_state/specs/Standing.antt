-- What expressions under evaluation stand for.
--     see table operand locks      a result with its locks
--     IsUnder table expression run      the expression stands for this tree
--     AreFit table items      the types of results and in nodes are of the table, and nodes are expressions
use Rattle.std.specs.Prelude.{ℕ, List, [], ◌∷◌, ◌++◌, map, length, IsTrue}
use Rattle.dm_type.specs.Tables.{Table, IsId, type_of}
use Rattle.dm_tree.specs.TypeNumbers.{are_known}
use Rattle.dm_tree.specs.Views.{view}
use Rattle.dm_meaning.specs.Operations.{World}
use Rattle.dm_meaning.specs.Running.{Run}
use Rattle.dm_value.specs.declared.place.At.{At}
use Rattle.dm_value.specs.Places.{view_of_at}
use Rattle.dm_memory.specs.declared.blocks.Block.{Block}
use Rattle.dm_memory.specs.Blocks.{view_of_blocks}
use Rattle.dm_operate.specs.declared.evaluation.Operand.{Operand}
use Rattle.dm_operate.specs.Evaluations.{view_of_evaluation}
use Rattle.dm_primitive.specs.declared.streams.Streams.{Streams}
use Rattle.dm_row.specs.declared.item.Item.{Item}
use Rattle.dm_row.specs.declared.item.Item.TheVariants.{Done, Waits}
use Rattle.dm_postfix.specs.Postfix.{Evaluated}
use Rattle.dm_expression.specs.declared.expression.Expression.{Expression}
use Rattle.dm_expression.specs.declared.waiting.Waiting.{Waiting}
use Rattle.dm_expression.specs.Standing.{Stands}
use Rattle.dm_expression.specs.Waiting.{is_expression}

abbrev pub world_of : Table → List Block → Streams → World
world_of table blocks streams = record { memory = view_of_blocks table blocks; input = streams.input.now; output = streams.output }

abbrev pub see : Table → Operand → List At → Evaluated
see table operand locks = record { kind = type_of table operand.kind; result = view_of_evaluation operand.result; locks = map view_of_at locks }

abbrev pub IsUnder : Table → Expression Operand At → Run → Type 0
IsUnder table expression run = Stands (see table) table expression.row expression.locks.items run

abbrev pub AreFit : Table → List (Item Operand Waiting) → Type 0
AreFit table [] = Unit {0}
AreFit table (Done operand weight ∷ rest) = IsId table operand.kind × AreFit table rest
AreFit table (Waits one count ∷ rest) =
    IsTrue (are_known (length table.shapes) one.node.now) × ((types : Table) → IsTrue (is_expression (view types one.node.now))) × AreFit table rest

abbrev pub Fits : Table → Expression Operand At → Type 0
Fits table expression = AreFit table (expression.row.0 ++ expression.row.1)

-- What nodes that wait stand for, and trees that are put into a row.
--     view_of_waiting types node      the node of a postfix list
--     IsPut tree before after      the nodes of the tree were put behind the place of a row
use Rattle.std.specs.Prelude.{◌≡◌, ℕ, List, [], ◌∷◌, ◌++◌, map, IsTrue}
use Rattle.dm_type.specs.Tables.{Table}
use Rattle.dm_tree.specs.declared.tree.Core.{Core}
use Rattle.dm_tree.specs.Trees.{Tree, node}
use Rattle.dm_tree.specs.TypeNumbers.{are_known}
use Rattle.dm_tree.specs.Views.{view}
pub use Rattle.dm_meaning.specs.Wholes.{is_expression, are_expressions}
use Rattle.dm_meaning.specs.Running.{evaluates, gives_truth, gives_value, open_of, begun, all_begun}
use Rattle.dm_row.specs.declared.item.Item.{Item}
use Rattle.dm_row.specs.declared.item.Item.TheVariants.{Done, Waits}
use Rattle.dm_postfix.specs.Postfix as postfix
use Rattle.dm_postfix.specs.Postfix.{arity, operand, no_slots, slots_of, node_of, items}
use Rattle.dm_expression.specs.declared.waiting.Doing.{Doing}
use Rattle.dm_expression.specs.declared.waiting.Doing.TheVariants.{Evaluates, GivesTruth, GivesValue}
use Rattle.dm_expression.specs.declared.waiting.Waiting.{Waiting}
use Rattle.dm_expression.specs.Operands.{AreAllKnown}

abbrev pub waiting_of : Doing → Tree → postfix.Waiting
waiting_of Evaluates (node label kind spans parts) = node_of (evaluates label) kind spans.place (slots_of (open_of label) (all_begun parts))
waiting_of GivesTruth (node label kind spans parts) = node_of gives_truth kind spans.place (operand no_slots)
waiting_of GivesValue (node label kind spans parts) = node_of gives_value kind spans.place (operand no_slots)

abbrev pub view_of_waiting : Table → Waiting → postfix.Waiting
view_of_waiting types one = waiting_of one.doing (view types one.node.now)

-- nodes that wait, as those of a postfix list, each with the number of its operands
abbrev pub AreWaiting : {R : Type 0} → Table → List (Item R Waiting) → List postfix.Item → Type 0
AreWaiting types [] [] = Unit {0}
AreWaiting types (Waits one operands ∷ rest) (postfix.waiting other ∷ others) = (view_of_waiting types one ≡ other) × (operands ≡ arity other.slots) × AreWaiting types rest others
AreWaiting types some others = ⊥

-- the numbers of types in nodes that wait are below n
abbrev pub AreWaitingKnown : {R : Type 0} → ℕ → List (Item R Waiting) → Type 0
AreWaitingKnown n [] = Unit {0}
AreWaitingKnown n (Done result weight ∷ rest) = AreWaitingKnown n rest
AreWaitingKnown n (Waits one operands ∷ rest) = IsTrue (are_known n one.node.now) × AreWaitingKnown n rest

-- the items of trees of which nothing is evaluated, one after another
abbrev pub items_all : List Tree → List postfix.Item
items_all [] = []
items_all (tree ∷ rest) = items (begun tree) ++ items_all rest

abbrev pub AreAllExpressions : Table → List Core → Type 0
AreAllExpressions types [] = Unit {0}
AreAllExpressions types (core ∷ rest) = IsTrue (is_expression (view types core)) × AreAllExpressions types rest

-- no statement is in the nodes that wait
abbrev pub AreWaitingExpressions : {R : Type 0} → Table → List (Item R Waiting) → Type 0
AreWaitingExpressions types [] = Unit {0}
AreWaitingExpressions types (Done result weight ∷ rest) = AreWaitingExpressions types rest
AreWaitingExpressions types (Waits one operands ∷ rest) = IsTrue (is_expression (view types one.node.now)) × AreWaitingExpressions types rest

-- Of a tree these parts are still to be put, and its other nodes were put behind the place.
pub record IsUnfolding {R : Type 0} (tree : Core) (parts : List Core) (before after : List (Item R Waiting) × List (Item R Waiting)) : Type 0 where
  pub in_front : after.0 ≡ before.0
  pub put : List (Item R Waiting)
  pub behind : after.1 ≡ put ++ before.1
  pub waits : (types : Table) → (others : List postfix.Item) × (items_all (map (view types) parts) ++ others ≡ items (begun (view types tree))) × AreWaiting types put others
  pub known : (n : ℕ) → IsTrue (are_known n tree) → AreAllKnown n parts × AreWaitingKnown n put
  pub expressions : (types : Table) → AreAllExpressions types parts
  pub nodes : (types : Table) → AreWaitingExpressions types put

abbrev pub IsPut : {R : Type 0} → Core → List (Item R Waiting) × List (Item R Waiting) → List (Item R Waiting) × List (Item R Waiting) → Type 0
IsPut tree before after = IsUnfolding tree [] before after

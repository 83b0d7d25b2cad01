-- Which kind of step a node has that is evaluated as its form says.
--     IsWay table way form      a node of this form has such a step
use Rattle.std.specs.Prelude.{◌≡◌, ◌≤◌, Bool, true, false}
use Rattle.dm_type.specs.Tables.{Table}
use Rattle.dm_tree.specs.declared.tree.Form.{Form}
use Rattle.dm_tree.specs.declared.tree.Form.TheVariants as form
use Rattle.dm_tree.specs.Trees.{Label, both, either, choose, comma, call, sizeof_tree, is_statement, trees}
use Rattle.dm_tree.specs.Views.{Opened, opened_form}
use Rattle.dm_meaning.specs.Running.{all_begun, open_of}
use Rattle.dm_operate.specs.Evaluations.{asks_names}
use Rattle.dm_postfix.specs.Postfix.{Slots, arity, slots_of}
use Rattle.dm_move.specs.declared.way.Way.{Way}
use Rattle.dm_move.specs.declared.way.Way.TheVariants.{Both, Either, Choose, Comma, Call, Measures, Enumerator, Object, Operates}

-- the parts of a node of a form, of which nothing is evaluated
abbrev pub slots_in : Opened → Slots
slots_in one = slots_of (open_of one.label) (all_begun (trees one.parts))

-- whether the step of a node is that of its operator
abbrev pub is_operated : Label → Bool
is_operated both = false
is_operated either = false
is_operated choose = false
is_operated comma = false
is_operated call = false
is_operated sizeof_tree = false
is_operated label = true

-- an operator has at most two operands
pub record IsOperated (one : Opened) : Type 0 where
  pub operates : is_operated one.label ≡ true
  pub names : asks_names one.label ≡ false
  pub few : is_statement one.label ≡ false → arity (slots_in one) ≤ 2

abbrev pub IsWay : Table → Way → Form → Type 0
IsWay table (Both a b) own = own ≡ form.Both a.now b.now
IsWay table (Either a b) own = own ≡ form.Either a.now b.now
IsWay table (Choose a b c) own = own ≡ form.Choose a.now b.now c.now
IsWay table (Comma a b) own = own ≡ form.Comma a.now b.now
IsWay table (Call function arguments) own = own ≡ form.Call function.now arguments.now
IsWay table (Measures a) own = own ≡ form.SizeofTree a.now
IsWay table (Enumerator declared) own = own ≡ form.Enumerator declared
IsWay table (Object declared) own = own ≡ form.Object declared
IsWay table Operates own = IsOperated (opened_form table own)

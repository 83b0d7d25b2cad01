-- Operators of nodes, whatever their operands are.
--     Stands table operator label      the code's operator is this label's
--     IsKnownOperator table operator      its types are of the table
use Rattle.std.specs.Prelude.{◌≡◌, Bool, true, false}
use Rattle.dm_type.specs.Tables.{Table, IsId, type_of}
use Rattle.dm_tree.specs.Trees as label
use Rattle.dm_tree.specs.Trees.{Label}
use Rattle.dm_operate.specs.declared.operator.Operator.{Operator}
use Rattle.dm_operate.specs.declared.operator.Operator.TheVariants as operator
use Rattle.dm_operate.specs.declared.operator.Leaf.{Leaf}
use Rattle.dm_operate.specs.declared.operator.Leaf.TheVariants.{Number, Literal, Function, SizeofKind}
use Rattle.dm_operate.specs.declared.operator.OnPlace.{OnPlace}
use Rattle.dm_operate.specs.declared.operator.OnPlace.TheVariants.{Read, Address, Count}
use Rattle.dm_operate.specs.declared.operator.OnValue.{OnValue}
use Rattle.dm_operate.specs.declared.operator.OnValue.TheVariants.{Follow, Unary}

-- the labels of nodes that have such a step; those of names apart
abbrev pub has_step : Label → Bool
has_step (label.number z) = true
has_step (label.literal bytes unit) = true
has_step (label.function d) = true
has_step label.read = true
has_step label.decay = true
has_step label.convert = true
has_step label.address = true
has_step label.follow = true
has_step (label.member n) = true
has_step (label.unary sign) = true
has_step (label.binary op) = true
has_step label.store = true
has_step (label.update op works) = true
has_step (label.count plus before) = true
has_step (label.sizeof_kind type) = true
has_step other = false

abbrev pub IsFunction : Label → Type 0
IsFunction (label.function d) = Unit {0}
IsFunction other = ⊥

abbrev pub StandsLeaf : Table → Leaf → Label → Type 0
StandsLeaf table (Number z) own = own ≡ label.number z
StandsLeaf table (Literal bytes unit) own = own ≡ label.literal bytes unit
StandsLeaf table Function own = IsFunction own
StandsLeaf table (SizeofKind kind) own = own ≡ label.sizeof_kind (type_of table kind)

abbrev pub StandsOnValue : OnValue → Label → Type 0
StandsOnValue Follow own = own ≡ label.follow
StandsOnValue (Unary sign) own = own ≡ label.unary sign

abbrev pub StandsOnPlace : OnPlace → Label → Type 0
StandsOnPlace Read own = own ≡ label.read
StandsOnPlace Address own = own ≡ label.address
StandsOnPlace (Count plus before) own = own ≡ label.count plus before

abbrev pub Stands : Table → Operator → Label → Type 0
Stands table (operator.Leaf leaf) own = StandsLeaf table leaf own
Stands table operator.Convert own = own ≡ label.convert
Stands table operator.Decay own = own ≡ label.decay
Stands table (operator.Member n) own = own ≡ label.member n
Stands table (operator.Value one) own = StandsOnValue one own
Stands table (operator.Place one) own = StandsOnPlace one own
Stands table (operator.Binary op) own = own ≡ label.binary op
Stands table operator.Store own = own ≡ label.store
Stands table (operator.Update op works) own = own ≡ label.update op (type_of table works)
Stands table operator.Other own = has_step own ≡ false

abbrev pub IsKnownLeaf : Table → Leaf → Type 0
IsKnownLeaf table (SizeofKind kind) = IsId table kind
IsKnownLeaf table leaf = Unit {0}

abbrev pub IsKnownOperator : Table → Operator → Type 0
IsKnownOperator table (operator.Leaf leaf) = IsKnownLeaf table leaf
IsKnownOperator table operator.Convert = Unit {0}
IsKnownOperator table operator.Decay = Unit {0}
IsKnownOperator table (operator.Member n) = Unit {0}
IsKnownOperator table (operator.Value one) = Unit {0}
IsKnownOperator table (operator.Place one) = Unit {0}
IsKnownOperator table (operator.Binary op) = Unit {0}
IsKnownOperator table operator.Store = Unit {0}
IsKnownOperator table (operator.Update op works) = IsId table works
IsKnownOperator table operator.Other = Unit {0}

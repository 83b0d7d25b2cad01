-- What operators give on integers (6.5), each operand in the kind that the tree's conversions brought it to: the one definition that the
-- value of a constant expression (6.6) and the steps of an evaluation share.
use Rattle.std.specs.Prelude.{ℤ, pos, Bool as Truth, true, false, ◌||◌, not, if◌then◌else◌, Result, Ok, Err}
use Rattle.dm_int.specs.declared.Fault.{Fault}
use Rattle.dm_int.specs.declared.Kind.{Kind}
use Rattle.dm_int.specs.declared.Kind.TheVariants.{Int}
use Rattle.dm_int.specs.declared.Op.{Op}
use Rattle.dm_int.specs.declared.Op.TheVariants.{Add, Sub, Shl, Shr}
use Rattle.dm_int.specs.Kinds.{is_in_range, convert, common}
use Rattle.dm_int.specs.Operators.{int_eq, truth, binary, negate, complement}
use Rattle.dm_tree.specs.declared.tree.Sign.{Sign}
use Rattle.dm_tree.specs.declared.tree.Sign.TheVariants.{Plus, Minus, Complement, Not}

-- an integer compares unequal to 0: it chooses the second operand of ?: and decides && and || (6.5.13p3, 6.5.14p3, 6.5.15p4)
abbrev pub is_true : ℤ → Truth
is_true z = not (int_eq z (pos 0))

-- a unary operator on a value of the kind (6.5.3.3)
abbrev pub unary_value : Sign → Kind → ℤ → Result ℤ Fault
unary_value Plus kind a = Ok a
unary_value Minus kind a = negate kind a
unary_value Complement kind a = Ok (complement kind a)
unary_value Not kind a = Ok (truth (not (is_true a)))

-- a shift, whose right operand keeps a kind of its own (6.5.7p3)
abbrev pub is_shift : Op → Truth
is_shift Shl = true
is_shift Shr = true
is_shift op = false

-- a number may stand on the right of an operator on values of the kind: it is one itself, or the count of a shift
abbrev pub is_right : Op → Kind → ℤ → Truth
is_right op kind b = is_shift op || is_in_range kind b

-- a value converted to another kind, unless there was a fault
abbrev pub converted : Kind → Result ℤ Fault → Result ℤ Fault
converted kind (Ok z) = Ok (convert kind z)
converted kind (Err fault) = Err fault

-- What a compound assignment stores (6.5.16.2p3): the object's value is converted to the kind in which the operator works, and what it
-- gives on that and on the right operand is converted to the object's kind
abbrev pub updated_value : Op → Kind → Kind → ℤ → ℤ → Result ℤ Fault
updated_value op works kind a b = converted kind (binary op works (convert works a) b)

-- the operator of ++ or --
abbrev pub count_op : Truth → Op
count_op plus = if plus then Add else Sub

-- what ++ or -- stores: as += 1 or -= 1 (6.5.2.4p2, 6.5.3.1p2)
abbrev pub counted_value : Truth → Kind → ℤ → Result ℤ Fault
counted_value plus kind a = updated_value (count_op plus) (common kind Int) kind a (pos 1)

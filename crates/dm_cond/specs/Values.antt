-- The value of an expression in a condition (6.10.1p4, 6.6): signed operands are long and unsigned ones unsigned long.
--     signed_value, binary_value, choice_value      the values of operators by those of their operands
--     value_of tree      the value of a tree
use Rattle.std.specs.Prelude.{Bool, true, false, not, Option, Some, None, option_map, Result, Ok, Err, ℤ, pos, if◌then◌else◌}
use Rattle.std.specs.Option.{option_map_or}
use Rattle.dm_int.specs.declared.Kind.{Kind}
use Rattle.dm_int.specs.declared.Kind.TheVariants.{Long}
use Rattle.dm_int.specs.declared.Op.{Op}
use Rattle.dm_int.specs.declared.Op.TheVariants.{Shl, Shr, Less, Greater, LessEq, GreaterEq, Equal, NotEqual}
use Rattle.dm_int.specs.declared.Fault.{Fault}
use Rattle.dm_int.specs.Kinds as kinds
use Rattle.dm_int.specs.Operators as operators
use Rattle.dm_cond.specs.declared.symbol.Sign.{Sign}
use Rattle.dm_cond.specs.declared.symbol.Sign.TheVariants.{Plus, Minus, Complement, Not}
use Rattle.dm_cond.specs.declared.symbol.Operator.{Operator}
use Rattle.dm_cond.specs.declared.symbol.Operator.TheVariants.{Integer, Both, Either}
use Rattle.dm_cond.specs.Trees.{Tree, constant, paren, unary, binary, choice, comma}

-- a kind, and a number, or `None` where evaluating breaks a rule
pub record Valued : Type 0 where
  pub kind : Kind
  pub number : Option ℤ

-- the number, where there is no fault
abbrev pub without_fault : Result ℤ Fault → Option ℤ
without_fault (Ok number) = Some number
without_fault (Err fault) = None

-- whether a number is other than 0
abbrev pub is_true : ℤ → Bool
is_true number = not (operators.int_eq number (pos 0))

-- the value of a constant
abbrev pub constant_value : Kind → ℤ → Valued
constant_value kind number = record { kind = kind; number = Some number }

-- the value of a unary operator (6.5.3.3)
abbrev pub signed_value : Sign → Valued → Valued
signed_value Plus value = value
signed_value Minus value = record { kind = value.kind; number = option_map_or (λ n. without_fault (operators.negate value.kind n)) value.number None }
signed_value Complement value = record { kind = value.kind; number = option_map (operators.complement value.kind) value.number }
signed_value Not value = record { kind = Long; number = option_map (λ n. operators.truth (not (is_true n))) value.number }

-- the operators whose operands aren't balanced, and whose result has the kind of the left one (6.5.7p3)
abbrev pub is_shift : Op → Bool
is_shift Shl = true
is_shift Shr = true
is_shift op = false

-- the operators that give 0 or 1 as an int, which is a long here (6.5.8p6, 6.5.9p3)
abbrev pub is_comparison : Op → Bool
is_comparison Less = true
is_comparison Greater = true
is_comparison LessEq = true
is_comparison GreaterEq = true
is_comparison Equal = true
is_comparison NotEqual = true
is_comparison op = false

-- an operator on two numbers, where both are there
abbrev pub on_both : (ℤ → ℤ → Result ℤ Fault) → Option ℤ → Option ℤ → Option ℤ
on_both f (Some a) (Some b) = without_fault (f a b)
on_both f (Some a) None = None
on_both f None b = None

-- the value of a shift
abbrev pub shift_value : Op → Valued → Valued → Valued
shift_value op left right = record { kind = left.kind; number = on_both (operators.binary op left.kind) left.number right.number }

-- the kind of what an operator gives on operands of a common kind
abbrev pub result_kind : Op → Kind → Kind
result_kind op common = if is_comparison op then Long else common

-- the value of another operator on integers: its operands get their common kind (6.3.1.8)
abbrev pub balanced_value : Op → Kind → Valued → Valued → Valued
balanced_value op common left right = record {
  kind = result_kind op common;
  number = on_both (λ a b. operators.binary op common (kinds.convert common a) (kinds.convert common b)) left.number right.number;
}

-- 0 or 1 for a number, where there is one
abbrev pub truth_of : Option ℤ → Option ℤ
truth_of number = option_map (λ n. operators.truth (is_true n)) number

-- the value of a binary operator. The right operand of `&&` and `||` counts only where the left one doesn't decide (6.5.13p4, 6.5.14p4).
abbrev pub binary_value : Operator → Valued → Valued → Valued
binary_value (Integer op) left right = if is_shift op then shift_value op left right else balanced_value op (kinds.common left.kind right.kind) left right
binary_value Both left right = record { kind = Long; number = option_map_or (λ n. if is_true n then truth_of right.number else Some (pos 0)) left.number None }
binary_value Either left right = record { kind = Long; number = option_map_or (λ n. if is_true n then Some (pos 1) else truth_of right.number) left.number None }

-- the value of `?:`: one of its operands is evaluated, and has the common kind of both (6.5.15p4, p5)
abbrev pub choice_value : Valued → Valued → Valued → Valued
choice_value first second third =
    let common = kinds.common second.kind third.kind in
    record {
      kind = common;
      number = option_map_or (λ n. if is_true n then option_map (kinds.convert common) second.number else option_map (kinds.convert common) third.number) first.number None;
    }

-- the value of a comma: it may stand only where it isn't evaluated (6.6p3)
abbrev pub comma_value : Valued → Valued → Valued
comma_value left right = record { kind = right.kind; number = None }

-- the value of a tree
unfoldable pub value_of : Tree → Valued
value_of (constant kind number) = constant_value kind number
value_of (paren inner) = value_of inner
value_of (unary sign inner) = signed_value sign (value_of inner)
value_of (binary operator left right) = binary_value operator (value_of left) (value_of right)
value_of (choice first second third) = choice_value (value_of first) (value_of second) (value_of third)
value_of (comma left right) = comma_value (value_of left) (value_of right)

-- Operators between two pointers.
use Rattle.std.specs.Prelude.{Bool, true, false, not}
use Rattle.dm_int.specs.declared.Op.{Op}
use Rattle.dm_int.specs.declared.Op.TheVariants.{Less, Greater, LessEq, GreaterEq}

-- a relational operator (6.5.8)
abbrev pub is_order : Op → Bool
is_order Less = true
is_order Greater = true
is_order LessEq = true
is_order GreaterEq = true
is_order op = false

-- what == makes of whether pointers are equal, or what != does (6.5.9)
abbrev pub sensed : Bool → Bool → Bool
sensed true = λ truth. truth
sensed false = not

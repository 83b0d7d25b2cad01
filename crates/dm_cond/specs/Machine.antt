-- Reading an expression from left to right: a stack of what waits for an operand, the innermost first.
--     step point symbol      what a symbol does
--     run symbols point      what symbols do, one after another
--     outcome point      the value at the end
use Rattle.std.specs.Prelude.{ℕ, Bool, true, false, ◌==◌, nat_le, List, [], ◌∷◌, Option, Some, None, ℤ, if◌then◌else◌}
use Rattle.dm_int.specs.declared.Op.TheVariants.{Add, Sub}
use Rattle.dm_cond.specs.declared.symbol.Sign.{Sign}
use Rattle.dm_cond.specs.declared.symbol.Sign.TheVariants.{Plus, Minus, Complement, Not}
use Rattle.dm_cond.specs.declared.symbol.Operator.{Operator}
use Rattle.dm_cond.specs.declared.symbol.Operator.TheVariants.{Integer}
use Rattle.dm_cond.specs.declared.symbol.Symbol.{Symbol}
use Rattle.dm_cond.specs.declared.symbol.Symbol.TheVariants.{Operand, Open, Close, Question, Colon, Comma, Complement as Tilde, Not as Exclamation, Operator as Infix}
use Rattle.dm_cond.specs.declared.frame.Frame.{Frame}
use Rattle.dm_cond.specs.declared.frame.Frame.TheVariants.{Parenthesis, Unary, Binary, Second, Third, AfterComma}
use Rattle.dm_cond.specs.Trees.{level_of}
use Rattle.dm_cond.specs.Values.{Valued, constant_value, signed_value, binary_value, choice_value, comma_value}

-- whether a frame's operand ends before an operator of this level
abbrev pub ends_before : ℕ → Frame → Bool
ends_before level Parenthesis = false
ends_before level (Unary sign) = true
ends_before level (Binary operator left) = nat_le level (level_of operator)
ends_before level (Second first) = false
ends_before level (Third first second) = nat_le level 1
ends_before level (AfterComma left) = level == 0

-- whether the innermost frame's does
abbrev pub first_ends : ℕ → List Frame → Bool
first_ends level [] = false
first_ends level (frame ∷ frames) = ends_before level frame

-- the value of the expression that a frame and its last operand make
abbrev pub completed : Frame → Valued → Valued
completed Parenthesis last = last
completed (Unary sign) last = signed_value sign last
completed (Binary operator left) last = binary_value operator left last
completed (Second first) last = last
completed (Third first second) last = choice_value first second last
completed (AfterComma left) last = comma_value left last

-- how far a condition is read
pub data Point : Type 0 where
  -- an operand is to come
  awaits : List Frame → Point
  -- an operand has come
  has : List Frame → Valued → Point
  -- something stood where it can't
  fails : Point

-- an operator of this level comes: what ends before it is completed
unfoldable pub reduced : ℕ → List Frame → Valued → Point
reduced level [] value = has [] value
reduced level (frame ∷ frames) value = if ends_before level frame then reduced level frames (completed frame value) else has (frame ∷ frames) value

-- the sign that an operator is where an operand is to come
abbrev pub sign_of : Operator → Option Sign
sign_of (Integer Add) = Some Plus
sign_of (Integer Sub) = Some Minus
sign_of operator = None

-- a sign waits for its operand
abbrev pub signed : List Frame → Option Sign → Point
signed frames (Some sign) = awaits (Unary sign ∷ frames)
signed frames None = fails

-- a symbol where an operand is to come
abbrev pub begun : List Frame → Symbol → Point
begun frames (Operand kind number) = has frames (constant_value kind number)
begun frames Open = awaits (Parenthesis ∷ frames)
begun frames Tilde = awaits (Unary Complement ∷ frames)
begun frames Exclamation = awaits (Unary Not ∷ frames)
begun frames (Infix operator) = signed frames (sign_of operator)
begun frames Close = fails
begun frames Question = fails
begun frames Colon = fails
begun frames Comma = fails

-- an operator, `?`, `:`, a comma or `)` behind the operand that ends before it
abbrev pub behind_operator : Operator → Point → Point
behind_operator operator (has frames value) = awaits (Binary operator value ∷ frames)
behind_operator operator (awaits frames) = fails
behind_operator operator fails = fails

abbrev pub behind_question : Point → Point
behind_question (has frames value) = awaits (Second value ∷ frames)
behind_question (awaits frames) = fails
behind_question fails = fails

abbrev pub behind_colon : Point → Point
behind_colon (has (Second first ∷ frames) value) = awaits (Third first value ∷ frames)
behind_colon point = fails

abbrev pub behind_comma : Point → Point
behind_comma (has (frame ∷ frames) value) = awaits (AfterComma value ∷ frame ∷ frames)
behind_comma point = fails

abbrev pub behind_close : Point → Point
behind_close (has (Parenthesis ∷ frames) value) = has frames value
behind_close point = fails

-- a symbol where an operand has come
abbrev pub continued : List Frame → Valued → Symbol → Point
continued frames value (Infix operator) = behind_operator operator (reduced (level_of operator) frames value)
continued frames value Question = behind_question (reduced 2 frames value)
continued frames value Colon = behind_colon (reduced 0 frames value)
continued frames value Comma = behind_comma (reduced 0 frames value)
continued frames value Close = behind_close (reduced 0 frames value)
continued frames value (Operand kind number) = fails
continued frames value Open = fails
continued frames value Tilde = fails
continued frames value Exclamation = fails

-- what a symbol does
abbrev pub step : Point → Symbol → Point
step (awaits frames) symbol = begun frames symbol
step (has frames value) symbol = continued frames value symbol
step fails symbol = fails

-- what the symbols of tokens do, one after another; a token that stands for nothing fails
unfoldable pub run : List (Option Symbol) → Point → Point
run [] point = point
run (Some symbol ∷ others) point = run others (step point symbol)
run (None ∷ others) point = fails

-- the value where nothing waits any more
abbrev pub alone : Point → Option Valued
alone (has [] value) = Some value
alone point = None

-- the value at the end
abbrev pub outcome : Point → Option Valued
outcome (has frames value) = alone (reduced 0 frames value)
outcome (awaits frames) = None
outcome fails = None

-- its number
abbrev pub number_of : Option Valued → Option ℤ
number_of None = None
number_of (Some value) = value.number

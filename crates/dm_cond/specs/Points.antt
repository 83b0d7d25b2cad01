-- How far a parser has read.
--     stack_of parser      what waits for an operand, the innermost first
--     point_of parser      and whether an operand has come
use Rattle.std.specs.Prelude.{◌≡◌, Bool, List, Option, Some, None, MatchBool}
use mathlib.Core.List.{reverse}
use Rattle.dm_int.specs.Kinds.{InRange}
use Rattle.dm_cond.specs.declared.symbol.Symbol.{Symbol}
use Rattle.dm_cond.specs.declared.symbol.Symbol.TheVariants.{Operand, Open, Close, Question, Colon, Comma, Complement, Not, Operator}
use Rattle.dm_cond.specs.declared.frame.Frame.{Frame}
use Rattle.dm_cond.specs.declared.parser.Parser.{Parser}
use Rattle.dm_cond.specs.Values.{Valued}
use Rattle.dm_cond.specs.Machine.{Point, awaits, has, fails}

-- what waits for an operand, the innermost first
abbrev pub stack_of : Parser → List Frame
stack_of parser = reverse parser.frames.items

-- an operand has come or is to come
abbrev pub point_with : List Frame → Option Valued → Point
point_with frames (Some value) = has frames value
point_with frames None = awaits frames

-- how far a parser has read
abbrev pub point_of : Parser → Point
point_of parser = point_with (stack_of parser) parser.operand

-- a symbol is taken, and this is the point behind it; or it fails
abbrev pub Takes : Bool → Point → Point → Type 0
Takes taken meant now = MatchBool taken (now ≡ meant) (meant ≡ fails)

-- an operand's value is of its kind
abbrev pub IsSound : Symbol → Type 0
IsSound (Operand kind number) = InRange kind number
IsSound Open = Unit {0}
IsSound Close = Unit {0}
IsSound Question = Unit {0}
IsSound Colon = Unit {0}
IsSound Comma = Unit {0}
IsSound Complement = Unit {0}
IsSound Not = Unit {0}
IsSound (Operator operator) = Unit {0}

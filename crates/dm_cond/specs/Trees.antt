-- The trees of conditional expressions (6.5.1 to 6.5.15, 6.5.17) whose operands are integers, and what they spell.
--     Tree      an expression
--     level tree      how closely its outermost operator binds
--     IsFormed tree      its parts are such as the grammar of 6.5 allows
--     symbols tree      what it spells, from left to right
use Rattle.std.specs.Prelude.{ℕ, ◌≤◌, ◌<◌, List, [], ◌∷◌, ◌++◌, ℤ}
use Rattle.dm_int.specs.declared.Kind.{Kind}
use Rattle.dm_int.specs.declared.Op.{Op}
use Rattle.dm_int.specs.declared.Op.TheVariants.{Add, Sub, Mul, Div, Rem, Shl, Shr, Less, Greater, LessEq, GreaterEq, Equal, NotEqual, And, Xor, Or}
use Rattle.dm_cond.specs.declared.symbol.Sign.{Sign}
use Rattle.dm_cond.specs.declared.symbol.Sign.TheVariants.{Plus, Minus, Complement, Not}
use Rattle.dm_cond.specs.declared.symbol.Operator.{Operator}
use Rattle.dm_cond.specs.declared.symbol.Operator.TheVariants.{Integer, Both, Either}
use Rattle.dm_cond.specs.declared.symbol.Symbol.{Symbol}
use Rattle.dm_cond.specs.declared.symbol.Symbol.TheVariants.{Operand, Open, Close, Question, Colon, Comma, Complement as Tilde, Not as Exclamation, Operator as Infix}

-- an expression
pub data Tree : Type 0 where
  -- a constant, with its kind and its value
  constant : Kind → ℤ → Tree
  -- an expression in parentheses (6.5.1p5)
  paren : Tree → Tree
  unary : Sign → Tree → Tree
  binary : Operator → Tree → Tree → Tree
  -- the conditional operator (6.5.15)
  choice : Tree → Tree → Tree → Tree
  -- the comma operator (6.5.17)
  comma : Tree → Tree → Tree

-- the level of an operator on integers: the greater, the closer it binds
abbrev pub level_of_op : Op → ℕ
level_of_op Mul = 11
level_of_op Div = 11
level_of_op Rem = 11
level_of_op Add = 10
level_of_op Sub = 10
level_of_op Shl = 9
level_of_op Shr = 9
level_of_op Less = 8
level_of_op Greater = 8
level_of_op LessEq = 8
level_of_op GreaterEq = 8
level_of_op Equal = 7
level_of_op NotEqual = 7
level_of_op And = 6
level_of_op Xor = 5
level_of_op Or = 4

-- the level of a binary operator
abbrev pub level_of : Operator → ℕ
level_of (Integer op) = level_of_op op
level_of Both = 3
level_of Either = 2

-- The level of a tree is that of the first production of 6.5 that derives it, counted from the expression with commas (0) and the
-- conditional expression (1) to the unary (12) and the primary expression (13).
abbrev pub level : Tree → ℕ
level (constant kind number) = 13
level (paren inner) = 13
level (unary sign inner) = 12
level (binary operator left right) = level_of operator
level (choice first second third) = 1
level (comma left right) = 0

-- The parts of a tree are such as the productions of 6.5 allow: a binary operator's left operand is of its level or above, and its right
-- one above it; `?` stands behind a logical OR expression, and behind `:` a conditional expression follows.
unfoldable pub IsFormed : Tree → Type 0
IsFormed (constant kind number) = Unit {0}
IsFormed (paren inner) = IsFormed inner
IsFormed (unary sign inner) = IsFormed inner × (12 ≤ level inner)
IsFormed (binary operator left right) = IsFormed left × (level_of operator ≤ level left) × IsFormed right × (level_of operator < level right)
IsFormed (choice first second third) = IsFormed first × (2 ≤ level first) × IsFormed second × IsFormed third × (1 ≤ level third)
IsFormed (comma left right) = IsFormed left × IsFormed right × (1 ≤ level right)

-- what a unary operator is spelled by
abbrev pub sign_symbol : Sign → Symbol
sign_symbol Plus = Infix (Integer Add)
sign_symbol Minus = Infix (Integer Sub)
sign_symbol Complement = Tilde
sign_symbol Not = Exclamation

-- what a tree spells, from left to right
unfoldable pub symbols : Tree → List Symbol
symbols (constant kind number) = Operand kind number ∷ []
symbols (paren inner) = Open ∷ (symbols inner ++ Close ∷ [])
symbols (unary sign inner) = sign_symbol sign ∷ symbols inner
symbols (binary operator left right) = symbols left ++ Infix operator ∷ symbols right
symbols (choice first second third) = symbols first ++ Question ∷ (symbols second ++ Colon ∷ symbols third)
symbols (comma left right) = symbols left ++ Comma ∷ symbols right

-- How the tokens of a condition are read as a conditional expression (6.10.1).
--     symbol_of token      what a token stands for
--     Reads tokens tree      the tokens are a conditional expression with this tree
--     HasTruth tokens truth      and it has a value, which is other than 0 or not
use Rattle.std.specs.Prelude.{◌≡◌, ◌≤◌, ℕ, Bool, true, false, List, [], ◌∷◌, map, bytes_eq, codes, Option, Some, None, option_map, option_and_then, ℤ, pos, if◌then◌else◌}
use Rattle.dm_token.specs.declared.token.PpKind.{PpKind}
use Rattle.dm_token.specs.declared.token.PpKind.TheVariants.{Identifier, Number, Character, Literal, Punctuator, Header, Stray}
use Rattle.dm_token.specs.declared.token.Token.{Token}
use Rattle.dm_int.specs.declared.Kind.{Kind}
use Rattle.dm_int.specs.declared.Kind.TheVariants.{Long, ULong}
use Rattle.dm_int.specs.declared.Op.TheVariants.{Add, Sub, Mul, Div, Rem, Shl, Shr, Less, Greater, LessEq, GreaterEq, Equal, NotEqual, And, Xor, Or}
use Rattle.dm_ctok.specs.declared.integer.Suffix.{Suffix}
use Rattle.dm_ctok.specs.declared.integer.Suffix.TheVariants.{Plain, Unsigned, Long as L, UnsignedLong, LongLong, UnsignedLongLong}
use Rattle.dm_ctok.specs.declared.integer.Constant.{Constant}
use Rattle.dm_ctok.specs.Integers.{constant_of, first_fit}
use Rattle.dm_ctok.specs.Escapes.{character_of}
use Rattle.dm_ctok.specs.Tokens.{is_prefixed}
use Rattle.dm_cond.specs.declared.symbol.Operator.TheVariants.{Integer, Both, Either}
use Rattle.dm_cond.specs.declared.symbol.Symbol.{Symbol}
use Rattle.dm_cond.specs.declared.symbol.Symbol.TheVariants.{Operand, Open, Close, Question, Colon, Comma, Complement, Not, Operator}
use Rattle.dm_cond.specs.Trees.{Tree, level, IsFormed, symbols}
use Rattle.dm_cond.specs.Values.{value_of, is_true}

-- a suffix with `u`
abbrev pub has_u : Suffix → Bool
has_u Plain = false
has_u Unsigned = true
has_u L = false
has_u UnsignedLong = true
has_u LongLong = false
has_u UnsignedLongLong = true

-- the list of types of 6.4.4.1p5 where all signed types count as long and all unsigned ones as unsigned long (6.10.1p4)
abbrev pub kinds_for : Bool → Suffix → List Kind
kinds_for is_decimal suffix = if has_u suffix then ULong ∷ [] else if is_decimal then Long ∷ [] else Long ∷ ULong ∷ []

-- an integer constant, of the first of these types in which its value fits
abbrev pub operand_of : Constant → Option Symbol
operand_of constant = option_map (λ kind. Operand kind (pos constant.value)) (first_fit constant.value (kinds_for constant.is_decimal constant.suffix))

-- what a punctuator stands for, by its spelling
abbrev pub punctuator_symbols : List (List ℕ × Symbol)
punctuator_symbols =
    (codes "(", Open) ∷ (codes ")", Close) ∷ (codes "?", Question) ∷ (codes ":", Colon) ∷ (codes ",", Comma) ∷
    (codes "~", Complement) ∷ (codes "!", Not) ∷
    (codes "+", Operator (Integer Add)) ∷ (codes "-", Operator (Integer Sub)) ∷
    (codes "*", Operator (Integer Mul)) ∷ (codes "/", Operator (Integer Div)) ∷ (codes "%", Operator (Integer Rem)) ∷
    (codes "<<", Operator (Integer Shl)) ∷ (codes ">>", Operator (Integer Shr)) ∷
    (codes "<", Operator (Integer Less)) ∷ (codes ">", Operator (Integer Greater)) ∷
    (codes "<=", Operator (Integer LessEq)) ∷ (codes ">=", Operator (Integer GreaterEq)) ∷
    (codes "==", Operator (Integer Equal)) ∷ (codes "!=", Operator (Integer NotEqual)) ∷
    (codes "&", Operator (Integer And)) ∷ (codes "^", Operator (Integer Xor)) ∷ (codes "|", Operator (Integer Or)) ∷
    (codes "&&", Operator Both) ∷ (codes "||", Operator Either) ∷ []

-- the symbol that is spelled so
abbrev pub symbol_spelled : List ℕ → List (List ℕ × Symbol) → Option Symbol
symbol_spelled spelling [] = None
symbol_spelled spelling (row ∷ rows) = if bytes_eq spelling row.0 then Some row.1 else symbol_spelled spelling rows

-- what a preprocessing token of this kind and spelling stands for, if anything; an identifier that is left after the expansion is 0
-- (6.10.1p4)
abbrev pub symbol_as : PpKind → List ℕ → Option Symbol
symbol_as Identifier spelling = Some (Operand Long (pos 0))
symbol_as Number spelling = option_and_then operand_of (constant_of spelling)
symbol_as Character spelling = if is_prefixed spelling then None else option_map (Operand Long) (character_of spelling)
symbol_as Literal spelling = None
symbol_as (Punctuator row) spelling = symbol_spelled spelling punctuator_symbols
symbol_as Header spelling = None
symbol_as Stray spelling = None

-- what a token stands for
abbrev pub symbol_of : Token → Option Symbol
symbol_of token = symbol_as token.pp.kind token.pp.spelling

-- The tokens are a conditional expression with this tree.
abbrev pub Reads : List Token → Tree → Type 0
Reads tokens tree = IsFormed tree × (1 ≤ level tree) × (map symbol_of tokens ≡ map Some (symbols tree))

-- The tokens are a conditional expression, and it has a value, which is other than 0 or not.
abbrev pub HasTruth : List Token → Bool → Type 0
HasTruth tokens truth = (tree : Tree) × Reads tokens tree × (number : ℤ) × ((value_of tree).number ≡ Some number) × (truth ≡ is_true number)

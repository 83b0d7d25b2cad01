-- What the grammar sees of a token.
--     symbol_of class      the terminal symbol of a token of this class
--     infix_level symbol      the level of an operator between two operands, if it can be one
use Rattle.std.specs.Prelude.{ℕ, Bool, true, false, ◌==◌, ◌||◌, Option, Some, None, if◌then◌else◌}
use Rattle.dm_token.specs.declared.token.Class.{Class}
use Rattle.dm_token.specs.declared.token.Class.TheVariants as class
use Rattle.dm_spell.specs.Keywords as keyword
use Rattle.dm_spell.specs.Punctuators as punctuator
use Rattle.dm_syn.specs.declared.symbol.Symbol.{Symbol}
use Rattle.dm_syn.specs.declared.symbol.Symbol.TheVariants as symbol

-- by the row in the table of punctuators (6.4.6)
abbrev pub punctuator_symbol : ℕ → Symbol
punctuator_symbol row =
    if row == punctuator.left_bracket then symbol.LeftBracket else if row == punctuator.right_bracket then symbol.RightBracket
    else if row == punctuator.left_parenthesis then symbol.LeftParen else if row == punctuator.right_parenthesis then symbol.RightParen
    else if row == punctuator.left_brace then symbol.LeftBrace else if row == punctuator.right_brace then symbol.RightBrace
    else if row == punctuator.dot then symbol.Dot else if row == punctuator.arrow then symbol.Arrow
    else if row == punctuator.increment || row == punctuator.decrement then symbol.Increment
    else if row == punctuator.ampersand then symbol.Ampersand else if row == punctuator.star then symbol.Star
    else if row == punctuator.plus || row == punctuator.minus then symbol.Additive
    else if row == punctuator.tilde || row == punctuator.exclamation then symbol.Complement
    else if row == punctuator.slash || row == punctuator.percent then symbol.Multiplicative
    else if row == punctuator.left_shift || row == punctuator.right_shift then symbol.Shift
    else if row == punctuator.less || row == punctuator.greater || row == punctuator.less_equal || row == punctuator.greater_equal then symbol.Relational
    else if row == punctuator.equal_equal || row == punctuator.not_equal then symbol.Equality
    else if row == punctuator.caret then symbol.Caret else if row == punctuator.bar then symbol.Bar
    else if row == punctuator.and_and then symbol.And else if row == punctuator.or_or then symbol.Or
    else if row == punctuator.question then symbol.Question else if row == punctuator.colon then symbol.Colon
    else if row == punctuator.semicolon then symbol.Semicolon else if row == punctuator.comma then symbol.Comma
    else if row == punctuator.equals then symbol.Equals
    else if row == punctuator.star_equals || row == punctuator.slash_equals || row == punctuator.percent_equals then symbol.Compound
    else if row == punctuator.plus_equals || row == punctuator.minus_equals then symbol.Compound
    else if row == punctuator.left_shift_equals || row == punctuator.right_shift_equals then symbol.Compound
    else if row == punctuator.ampersand_equals || row == punctuator.caret_equals || row == punctuator.bar_equals then symbol.Compound
    else symbol.Other

-- by the row in the table of keywords (6.4.1)
abbrev pub keyword_symbol : ℕ → Symbol
keyword_symbol row =
    if row == keyword.break_word then symbol.Break else if row == keyword.case_word then symbol.Case
    else if row == keyword.const_word then symbol.Const else if row == keyword.continue_word then symbol.Continue
    else if row == keyword.default_word then symbol.Default else if row == keyword.do_word then symbol.Do
    else if row == keyword.else_word then symbol.Else else if row == keyword.enum_word then symbol.Enum
    else if row == keyword.for_word then symbol.For else if row == keyword.if_word then symbol.If
    else if row == keyword.return_word then symbol.Return else if row == keyword.sizeof_word then symbol.Sizeof
    else if row == keyword.struct_word then symbol.Struct else if row == keyword.switch_word then symbol.Switch
    else if row == keyword.typedef_word then symbol.Typedef else if row == keyword.while_word then symbol.While
    else if row == keyword.extern_word || row == keyword.static_word || row == keyword.inline_word then symbol.Storage
    else if row == keyword.void_word || row == keyword.bool_word || row == keyword.char_word || row == keyword.int_word then symbol.TypeWord
    else if row == keyword.short_word || row == keyword.long_word || row == keyword.signed_word || row == keyword.unsigned_word then symbol.TypeWord
    else symbol.Other

-- the terminal symbol of a token of this class, where an identifier counts as one that names no type
unfoldable pub symbol_of : Class → Symbol
symbol_of (class.Keyword row) = keyword_symbol row
symbol_of (class.Punctuator row) = punctuator_symbol row
symbol_of class.Identifier = symbol.Identifier
symbol_of class.Integer = symbol.Constant
symbol_of class.Literal = symbol.Literal

-- the level of an operator between two operands, from `||` (3) to `* / %` (12) (6.5.5 to 6.5.14)
abbrev pub infix_level : Symbol → Option ℕ
infix_level symbol.Star = Some 12
infix_level symbol.Additive = Some 11
infix_level symbol.Ampersand = Some 7
infix_level symbol.Multiplicative = Some 12
infix_level symbol.Shift = Some 10
infix_level symbol.Relational = Some 9
infix_level symbol.Equality = Some 8
infix_level symbol.Caret = Some 6
infix_level symbol.Bar = Some 5
infix_level symbol.And = Some 4
infix_level symbol.Or = Some 3
infix_level _ = None

-- a number for each symbol, in the order of the enum
abbrev pub number_of : Symbol → ℕ
number_of symbol.Identifier = 0
number_of symbol.TypedefName = 1
number_of symbol.Constant = 2
number_of symbol.Literal = 3
number_of symbol.LeftBracket = 4
number_of symbol.RightBracket = 5
number_of symbol.LeftParen = 6
number_of symbol.RightParen = 7
number_of symbol.LeftBrace = 8
number_of symbol.RightBrace = 9
number_of symbol.Dot = 10
number_of symbol.Arrow = 11
number_of symbol.Increment = 12
number_of symbol.Ampersand = 13
number_of symbol.Star = 14
number_of symbol.Additive = 15
number_of symbol.Complement = 16
number_of symbol.Multiplicative = 17
number_of symbol.Shift = 18
number_of symbol.Relational = 19
number_of symbol.Equality = 20
number_of symbol.Caret = 21
number_of symbol.Bar = 22
number_of symbol.And = 23
number_of symbol.Or = 24
number_of symbol.Question = 25
number_of symbol.Colon = 26
number_of symbol.Semicolon = 27
number_of symbol.Comma = 28
number_of symbol.Equals = 29
number_of symbol.Compound = 30
number_of symbol.Sizeof = 31
number_of symbol.Const = 32
number_of symbol.Typedef = 33
number_of symbol.Storage = 34
number_of symbol.TypeWord = 35
number_of symbol.Struct = 36
number_of symbol.Enum = 37
number_of symbol.Break = 38
number_of symbol.Case = 39
number_of symbol.Continue = 40
number_of symbol.Default = 41
number_of symbol.Do = 42
number_of symbol.Else = 43
number_of symbol.For = 44
number_of symbol.If = 45
number_of symbol.Return = 46
number_of symbol.Switch = 47
number_of symbol.While = 48
number_of symbol.Other = 49
number_of symbol.End = 50

-- whether two symbols are the same
abbrev pub is : Symbol → Symbol → Bool
is one other = number_of one == number_of other

-- whether it is an identifier, whatever it names
abbrev pub is_identifier : Symbol → Bool
is_identifier symbol.Identifier = true
is_identifier symbol.TypedefName = true
is_identifier _ = false

-- whether specifiers begin with it
abbrev pub begins_specifiers : Symbol → Bool
begins_specifiers symbol.TypedefName = true
begins_specifiers symbol.Const = true
begins_specifiers symbol.Typedef = true
begins_specifiers symbol.Storage = true
begins_specifiers symbol.TypeWord = true
begins_specifiers symbol.Struct = true
begins_specifiers symbol.Enum = true
begins_specifiers _ = false

-- Operators by their tokens.
--     row_at source at      the row of a punctuator in the table of punctuators, and `keyword_at` that of a keyword
use Rattle.std.specs.Prelude.{ℕ, ◌==◌, if◌then◌else◌, Option, Some, None, slice_get}
use Rattle.dm_spell.specs.Punctuators as punctuator
use Rattle.dm_token.specs.declared.token.Class.{Class}
use Rattle.dm_token.specs.declared.token.Class.TheVariants as class
use Rattle.dm_token.specs.declared.token.CToken.{CToken}
use Rattle.dm_int.specs.declared.Op.{Op}
use Rattle.dm_int.specs.declared.Op.TheVariants as o
use Rattle.dm_syn.specs.Sources.{Source}
use Rattle.dm_tree.specs.declared.tree.Sign.{Sign}
use Rattle.dm_tree.specs.declared.tree.Sign.TheVariants as s

-- the row in the table of punctuators (6.4.6) of a token that is one
abbrev pub row_of_class : Class → Option ℕ
row_of_class (class.Punctuator row) = Some row
row_of_class other = None

abbrev pub row_of_token : Option CToken → Option ℕ
row_of_token None = None
row_of_token (Some token) = row_of_class token.class

abbrev pub row_at : Source → ℕ → Option ℕ
row_at source at = row_of_token (slice_get source.tokens at)

-- the row in the table of keywords (6.4.1) of a token that is one
abbrev pub keyword_of_class : Class → Option ℕ
keyword_of_class (class.Keyword row) = Some row
keyword_of_class other = None

abbrev pub keyword_of_token : Option CToken → Option ℕ
keyword_of_token None = None
keyword_of_token (Some token) = keyword_of_class token.class

abbrev pub keyword_at : Source → ℕ → Option ℕ
keyword_at source at = keyword_of_token (slice_get source.tokens at)

-- 6.5.5 to 6.5.12
abbrev pub operator_of_row : ℕ → Option Op
operator_of_row row =
    if row == punctuator.star then Some o.Mul else if row == punctuator.slash then Some o.Div else if row == punctuator.percent then Some o.Rem
    else if row == punctuator.plus then Some o.Add else if row == punctuator.minus then Some o.Sub
    else if row == punctuator.left_shift then Some o.Shl else if row == punctuator.right_shift then Some o.Shr
    else if row == punctuator.less then Some o.Less else if row == punctuator.greater then Some o.Greater
    else if row == punctuator.less_equal then Some o.LessEq else if row == punctuator.greater_equal then Some o.GreaterEq
    else if row == punctuator.equal_equal then Some o.Equal else if row == punctuator.not_equal then Some o.NotEqual
    else if row == punctuator.ampersand then Some o.And else if row == punctuator.caret then Some o.Xor else if row == punctuator.bar then Some o.Or
    else None

-- 6.5.16.2
abbrev pub operator_of_assignment : ℕ → Option Op
operator_of_assignment row =
    if row == punctuator.star_equals then Some o.Mul else if row == punctuator.slash_equals then Some o.Div else if row == punctuator.percent_equals then Some o.Rem
    else if row == punctuator.plus_equals then Some o.Add else if row == punctuator.minus_equals then Some o.Sub
    else if row == punctuator.left_shift_equals then Some o.Shl else if row == punctuator.right_shift_equals then Some o.Shr
    else if row == punctuator.ampersand_equals then Some o.And else if row == punctuator.caret_equals then Some o.Xor else if row == punctuator.bar_equals then Some o.Or
    else None

-- 6.5.3.3
abbrev pub sign_of_row : ℕ → Option Sign
sign_of_row row =
    if row == punctuator.plus then Some s.Plus else if row == punctuator.minus then Some s.Minus
    else if row == punctuator.tilde then Some s.Complement else if row == punctuator.exclamation then Some s.Not else None

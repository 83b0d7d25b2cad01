-- Operators of one operand, step by step.
--     typed_by_sign setting known extent operand sign      a sign that is known
--     may_be_integer type kind      a value of a type may become one of a kind
use Rattle.std.specs.Prelude.{ℕ, Bool, not, ◌&&◌, Option, option_and_then, [], ◌∷◌}
use Rattle.dm_int.specs.declared.Kind.{Kind}
use Rattle.dm_int.specs.declared.Kind.TheVariants as k
use Rattle.dm_type.specs.CTypes.{CType}
use Rattle.dm_syn.specs.Sources.{Source}
use Rattle.dm_tree.specs.declared.tree.Sign.{Sign}
use Rattle.dm_tree.specs.Scenes.{is_lvalue, is_array, is_scalar, is_integer}
use Rattle.dm_tree.specs.Trees as label
use Rattle.dm_tree.specs.Trees.{Tree, kind_of}
use Rattle.dm_typing.specs.declared.extent.Extent.{Extent}
use Rattle.dm_typing.specs.Known.{Known, Setting, Outcome, given, if_given}
use Rattle.dm_typing.specs.Conversions.{made, is_complete}
use Rattle.dm_typing.specs.Operators.{row_at, sign_of_row}
use Rattle.dm_typing.specs.Rules.{signed}

-- the sign that a token is
abbrev pub sign_at : Source → ℕ → Option Sign
sign_at source operator = option_and_then sign_of_row (row_at source operator)

-- a sign that is known
abbrev pub typed_by_sign : Setting → Known → Extent → Tree → Sign → Outcome Tree
typed_by_sign setting known extent operand sign =
    if_given (signed sign operand) 16 extent.inner.first (λ (converted, kind). given known (made setting.source extent (label.unary sign) kind (converted ∷ [])))

-- a value of a type may become one of a kind
abbrev pub may_be_integer : CType → Kind → Bool
may_be_integer type k.Bool = is_scalar type
may_be_integer type kind = is_integer type

-- an lvalue of a complete type that is no array
abbrev pub is_whole_object : Known → Tree → Bool
is_whole_object known tree = is_lvalue tree && (not (is_array (kind_of tree)) && is_complete known (kind_of tree))

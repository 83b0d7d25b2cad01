-- What the code reads, and what it stands for.
use Rattle.std.specs.Prelude.{◌≡◌, ◌≤◌, ◌+◌, ℕ, Bool, true, false, not, List, [], ◌∷◌, ◌++◌, length, map, Option, Some, None}
use Rattle.dm_token.specs.Limits.{greatest_height}
use Rattle.dm_syn.specs.declared.declared.Declared.{Declared}
use Rattle.dm_syn.specs.declared.expression.Expr.{Expr}
use Rattle.dm_syn.specs.declared.declaration.TypeName.{TypeName}
use Rattle.dm_syn.specs.declared.declaration.Specifiers.{Specifiers}
use Rattle.dm_syn.specs.declared.declaration.Specifier.{Specifier}
use Rattle.dm_syn.specs.declared.declaration.MemberForm.{MemberForm}
use Rattle.dm_syn.specs.declared.declaration.EnumItem.{EnumItem}
use Rattle.dm_syn.specs.declared.declaration.Declarator.{Declarator}
use Rattle.dm_syn.specs.declared.declaration.Direct.{Direct}
use Rattle.dm_syn.specs.declared.declaration.Parameter.{Parameter}
use Rattle.dm_syn.specs.Sources.{Source, symbol_in}
use Rattle.dm_syn.specs.Trees as tree
use Rattle.dm_syn.specs.Views as view
use Rattle.dm_syn.specs.Spans.{expr_span, exprs_after, type_name_span, specifiers_span, specifier_after, words_after, member_span, members_after, declarator_span, declarators_after, enumerator_span, enumerators_after, parameter_span, parameters_after, direct_after}
use Rattle.dm_syn.specs.Heights.{expr_height, exprs_height, type_name_height, specifiers_height, highest_word, specifier_height, members_height, member_height, declarators_height, declarator_height, enumerators_height, enumerator_height, direct_height, parameters_height, parameter_height}
use Rattle.dm_syn.specs.Scopes.{expr_declares, exprs_declares, type_name_declares, specifiers_declares, words_declares, specifier_declares, member_declares, members_declares, declarator_declares, declarators_declares, enumerator_declares, enumerators_declares, direct_declares, parameter_declares, parameters_declares}
use Rattle.dm_pexpr.specs.declared.reader.Reader.{Reader}
use Rattle.dm_pexpr.specs.declared.part.Part.{Part}
use Rattle.dm_pexpr.specs.NameMaps.{is_type}
use Rattle.dm_pexpr.specs.Parsing.{Parts, where_true, checked_expr, span_of, binary_from, prefix_from, array_of, function_of}
use Rattle.dm_syn.specs.Symbols.{is, is_identifier}
use Rattle.dm_syn.specs.declared.symbol.Symbol.{Symbol}
use Rattle.dm_syn.specs.declared.symbol.Symbol.TheVariants as symbol

-- the tokens that a reader looks at
abbrev pub source_of : Reader → Source
source_of reader = record { tokens = reader.tokens.now; outer = is_type reader.typedefs.now }

-- where a token stands, the place behind it
abbrev pub Passes : Bool → ℕ → ℕ → Option ℕ → Type 0
Passes stands at end None = stands ≡ false
Passes stands at end (Some next) = (stands ≡ true) × (next ≡ at + 1) × (next ≤ end)

-- what is kept of a kind of trees: the tree that it stands for, its height, where it ends, and what it declares
pub record Kind (A T : Type 0) : Type 0 where
  pub view : A → T
  -- where it begins, as far as that is kept
  pub begins : A → ℕ
  pub first : T → ℕ
  pub height : T → ℕ
  pub after : T → ℕ
  pub declares : T → List Declared
  -- the greatest height
  pub highest : ℕ

-- the tree that was to be read, with its height and where it ends, and what is declared behind it
pub record IsPart {A T : Type 0} (kind : Kind A T) (source : Source) (before after : List Declared) (part : Part A) (wanted : Option T) : Type 0 where
  pub read : wanted ≡ Some (kind.view part.tree)
  pub starts : kind.begins part.tree ≡ kind.first (kind.view part.tree)
  pub high : part.height ≡ kind.height (kind.view part.tree)
  pub low : part.height ≤ kind.highest
  pub ends : part.after ≡ kind.after (kind.view part.tree)
  pub within : part.after ≤ length source.tokens
  pub scoped : after ≡ kind.declares (kind.view part.tree) ++ before

-- the tree that was to be read, or none where there is none
abbrev pub Gives : {A T : Type 0} → Kind A T → Source → List Declared → List Declared → Option (Part A) → Option T → Type 0
Gives kind source before after None wanted = wanted ≡ None
Gives kind source before after (Some part) wanted = IsPart kind source before after part wanted

-- each kind
abbrev pub an_expr : Source → Kind Expr tree.Expr
an_expr source = record { view = view.expr; begins = λ it. it.span.first; first = λ it. (expr_span it).first; height = expr_height; after = λ it. (expr_span it).after; declares = expr_declares source; highest = greatest_height }

abbrev pub a_type_name : Source → Kind TypeName tree.TypeName
a_type_name source = record { view = view.type_name; begins = λ _. 0; first = λ _. 0; height = type_name_height; after = λ it. (type_name_span it).after; declares = type_name_declares source; highest = greatest_height + 1 }

abbrev pub the_specifiers : Source → Kind Specifiers tree.Specifiers
the_specifiers source = record { view = view.specifiers; begins = λ _. 0; first = λ _. 0; height = specifiers_height; after = λ it. (specifiers_span it).after; declares = specifiers_declares source; highest = greatest_height }

abbrev pub a_specifier : Source → ℕ → Kind Specifier tree.Specifier
a_specifier source at = record { view = view.specifier; begins = λ _. 0; first = λ _. 0; height = specifier_height; after = specifier_after at; declares = specifier_declares source; highest = greatest_height }

abbrev pub a_member : Source → Kind MemberForm tree.Member
a_member source = record { view = view.member_form; begins = λ _. 0; first = λ _. 0; height = member_height; after = λ it. (member_span it).after; declares = member_declares source; highest = greatest_height + 1 }

abbrev pub an_enumerator : Source → Kind EnumItem tree.Enumerator
an_enumerator source = record { view = view.enum_item; begins = λ _. 0; first = λ _. 0; height = enumerator_height; after = λ it. (enumerator_span it).after; declares = enumerator_declares source; highest = greatest_height + 1 }

abbrev pub a_declarator : Source → Kind Declarator tree.Declarator
a_declarator source = record { view = view.declarator; begins = λ _. 0; first = λ _. 0; height = declarator_height; after = λ it. (declarator_span it).after; declares = declarator_declares source; highest = greatest_height }

abbrev pub a_direct : Source → ℕ → Kind Direct tree.Direct
a_direct source at = record { view = view.direct; begins = λ _. 0; first = λ _. 0; height = direct_height; after = direct_after at; declares = direct_declares source; highest = greatest_height }

abbrev pub a_parameter : Source → Kind Parameter tree.Parameter
a_parameter source = record { view = view.parameter; begins = λ _. 0; first = λ _. 0; height = parameter_height; after = λ it. (parameter_span it).after; declares = parameter_declares source; highest = greatest_height + 1 }

-- lists of them, from a place on
abbrev pub exprs_from : Source → ℕ → Kind (List Expr) tree.Exprs
exprs_from source at = record { view = λ items. view.exprs (map view.expr items); begins = λ _. 0; first = λ _. 0; height = exprs_height; after = exprs_after at; declares = exprs_declares source; highest = greatest_height + 1 }

abbrev pub words_from : Source → ℕ → Kind (List Specifier) tree.Words
words_from source at = record { view = λ items. view.words (map view.specifier items); begins = λ _. 0; first = λ _. 0; height = highest_word; after = words_after at; declares = words_declares source; highest = greatest_height + 1 }

abbrev pub members_from : Source → ℕ → Kind (List MemberForm) tree.Members
members_from source at = record { view = λ items. view.members (map view.member_form items); begins = λ _. 0; first = λ _. 0; height = members_height; after = members_after at; declares = members_declares source; highest = greatest_height + 1 }

abbrev pub enumerators_from : Source → ℕ → Kind (List EnumItem) tree.Enumerators
enumerators_from source at = record { view = λ items. view.enumerators (map view.enum_item items); begins = λ _. 0; first = λ _. 0; height = enumerators_height; after = enumerators_after at; declares = enumerators_declares source; highest = greatest_height + 1 }

abbrev pub declarators_from : Source → ℕ → Kind (List Declarator) tree.Declarators
declarators_from source at = record { view = λ items. view.declarators (map view.declarator items); begins = λ _. 0; first = λ _. 0; height = declarators_height; after = declarators_after at; declares = declarators_declares source; highest = greatest_height }

abbrev pub parameters_from : Source → ℕ → Kind (List Parameter) tree.Parameters
parameters_from source at = record { view = λ items. view.parameters (map view.parameter items); begins = λ _. 0; first = λ _. 0; height = parameters_height; after = parameters_after at; declares = parameters_declares source; highest = greatest_height + 1 }

-- an identifier behind `.` or `->`
abbrev pub member_from : Source → List Declared → tree.Expr → ℕ → Bool → Option tree.Expr
member_from source names left name true =
    where_true (is_identifier (symbol_in source names name)) (checked_expr (tree.arrow (span_of (expr_span left).first (name + 1)) left name))
member_from source names left name false =
    where_true (is_identifier (symbol_in source names name)) (checked_expr (tree.member (span_of (expr_span left).first (name + 1)) left name))

-- a prefix operator whose operand has at least a level, and the operand
abbrev pub prefixed_from : Parts → List Declared → ℕ → Option ℕ → Option tree.Expr
prefixed_from parts names at None = None
prefixed_from parts names at (Some level) = prefix_from at (parts.expr level names (at + 1))

-- an operator between two operands and its right operand
abbrev pub operated_from : Parts → List Declared → tree.Expr → ℕ → Option ℕ → Option tree.Expr
operated_from parts names left at None = None
operated_from parts names left at (Some level) = binary_from left at (parts.expr (level + 1) names (at + 1))

-- what goes on behind an operand, and the position behind it
abbrev pub GoesOn : Bool → Symbol → ℕ → ℕ → Option (Symbol × ℕ) → Type 0
GoesOn goes it at end None = goes ≡ false
GoesOn goes it at end (Some found) = (goes ≡ true) × (found.0 ≡ it) × (found.1 ≡ at + 1) × (found.1 ≤ end)

-- what is put together of some trees and of what is read behind them
abbrev pub behind_all : {T L : Type 0} → (T → Option L → Option L) → List T → Option L → Option L
behind_all prepend [] others = others
behind_all prepend (first ∷ middle) others = prepend first (behind_all prepend middle others)

-- a comma expression of these parts
abbrev pub comma_node : ℕ → ℕ → Option tree.Exprs → Option tree.Expr
comma_node first start None = None
comma_node first start (Some parts) = checked_expr (tree.comma (span_of first (exprs_after start parts)) parts)

-- an array or a function behind the innermost part of a declarator
abbrev pub direct_from : Source → Parts → Bool → List Declared → ℕ → tree.Direct → Option tree.Direct
direct_from source parts true names at direct = array_of source parts names at direct
direct_from source parts false names at direct = function_of source parts names at direct

-- whether `[` or `(` stands at a place: whether it is `[`, and the position behind it
abbrev pub OpensSuffix : Symbol → ℕ → ℕ → Option (Bool × ℕ) → Type 0
OpensSuffix opening at end None = (is opening symbol.LeftBracket ≡ false) × (is opening symbol.LeftParen ≡ false)
OpensSuffix opening at end (Some found) =
    (is opening symbol.LeftBracket ≡ found.0) × (is opening symbol.LeftParen ≡ not found.0) × (found.1 ≡ at + 1) × (found.1 ≤ end)

-- members from a place on that a closing brace follows
abbrev pub AreClosed : Source → List Declared → ℕ → Option tree.Members → Type 0
AreClosed source names inside None = Unit {0}
AreClosed source names inside (Some members) =
    is (symbol_in source (members_declares source members ++ names) (members_after inside members)) symbol.RightBrace ≡ true

-- Reading expressions, type names, specifiers and declarators from left to right. Each tree is read by what its next token is; a tree
-- within a node is read with one less depth.
--     lower source depth      what reads the parts of a node at so much depth
--     expr_of source parts least names at      the expression of at least this level at a place
--     type_name_of source parts names at      the type name at a place
use Rattle.std.specs.Prelude.{ℕ, zero, suc, ◌+◌, Bool, true, false, ◌&&◌, ◌||◌, not, nat_le, List, [], ◌∷◌, ◌++◌, length, Option, Some, None, if◌then◌else◌}
use Rattle.dm_token.specs.declared.place.Span.{Span}
use Rattle.dm_token.specs.Limits.{greatest_height}
use Rattle.dm_syn.specs.declared.declared.Declared.{Declared}
use Rattle.dm_syn.specs.declared.symbol.Symbol.{Symbol}
use Rattle.dm_syn.specs.declared.symbol.Symbol.TheVariants as symbol
use Rattle.dm_syn.specs.Symbols.{is, is_identifier, begins_specifiers}
use Rattle.dm_syn.specs.Sources.{Source, symbol_in}
use Rattle.dm_syn.specs.Trees.{Expr, Exprs, TypeName, Specifiers, Words, Specifier, Members, Member, Declarators, Enumerators, Enumerator, Declarator, Direct, Parameters, Parameter}
use Rattle.dm_syn.specs.Trees as tree
use Rattle.dm_syn.specs.Spans.{expr_span, exprs_after, type_name_span, specifiers_span, specifier_after, words_after, member_span, members_after, declarator_span, declarators_after, enumerator_span, enumerators_after, parameter_span, parameters_after, pointers_after, direct_after}
use Rattle.dm_syn.specs.Scopes.{expr_declares, exprs_declares, type_name_declares, specifiers_declares, specifier_declares, member_declares, declarator_declares, declarators_declares, enumerator_declares, enumerators_declares, direct_declares, parameter_declares, parameters_declares}
use Rattle.dm_syn.specs.Heights.{expr_height, specifiers_height, specifier_height, declarator_height, direct_height, is_absent}
use Rattle.dm_syn.specs.Grammar.{level, Types, no_type, type_words, one_name, types_behind, tag_after, trailing_after}

-- which declarators may stand at a place: those with a name, abstract ones and none, or all of these
pub data Shape : Type 0 where
  named : Shape
  abstract : Shape
  of_parameter : Shape

-- what reads the parts of a node
pub record Parts : Type 0 where
  -- an expression of at least a level
  pub expr : ℕ → List Declared → ℕ → Option Expr
  pub specifiers : List Declared → ℕ → Option Specifiers
  pub declarator : Shape → List Declared → ℕ → Option Declarator

abbrev pub span_of : ℕ → ℕ → Span
span_of first after = record { first = first; after = after }

-- a tree, unless it is too high
abbrev pub checked : {A : Type 0} → ℕ → A → Option A
checked height tree = if nat_le height greatest_height then Some tree else None

abbrev pub checked_expr : Expr → Option Expr
checked_expr expr = checked (expr_height expr) expr

-- a tree that stands where something holds
abbrev pub where_true : {A : Type 0} → Bool → Option A → Option A
where_true true found = found
where_true false found = None

-- lists of expressions: each behind a comma, up to the last
abbrev pub prepend_expr : Expr → Option Exprs → Option Exprs
prepend_expr first None = None
prepend_expr first (Some others) = Some (tree.more_exprs first others)

abbrev pub more_from : (Expr → Option Exprs) → Option Expr → Option Exprs
more_from others None = None
more_from others (Some first) = prepend_expr first (others first)

unfoldable pub more_exprs : Source → Parts → ℕ → List Declared → ℕ → Option Exprs
more_exprs source parts zero names at = Some tree.no_exprs
more_exprs source parts (suc turns) names at =
    if is (symbol_in source names at) symbol.Comma
    then more_from (λ first. more_exprs source parts turns (expr_declares source first ++ names) (expr_span first).after) (parts.expr 1 names (at + 1))
    else Some tree.no_exprs

-- the turns that a loop over tokens can take
abbrev pub all_turns : Source → ℕ
all_turns source = length source.tokens + 1

-- arguments up to the closing parenthesis
unfoldable pub arguments : Source → Parts → List Declared → ℕ → Option Exprs
arguments source parts names at =
    if is (symbol_in source names at) symbol.RightParen then Some tree.no_exprs
    else more_from (λ first. more_exprs source parts (all_turns source) (expr_declares source first ++ names) (expr_span first).after) (parts.expr 1 names at)

-- type names
abbrev pub type_name_with : ℕ → Specifiers → Option Declarator → Option TypeName
type_name_with at specifiers None = None
type_name_with at specifiers (Some declarator) = Some (tree.type_name (span_of at (declarator_span declarator).after) specifiers declarator)

abbrev pub type_name_from : Source → Parts → List Declared → ℕ → Option Specifiers → Option TypeName
type_name_from source parts names at None = None
type_name_from source parts names at (Some specifiers) =
    type_name_with at specifiers (parts.declarator abstract (specifiers_declares source specifiers ++ names) (specifiers_span specifiers).after)

unfoldable pub type_name_of : Source → Parts → List Declared → ℕ → Option TypeName
type_name_of source parts names at = type_name_from source parts names at (parts.specifiers names at)

-- `(` expression `)`
abbrev pub paren_from : Source → List Declared → ℕ → Option Expr → Option Expr
paren_from source names at None = None
paren_from source names at (Some inner) =
    where_true (is (symbol_in source (expr_declares source inner ++ names) (expr_span inner).after) symbol.RightParen)
    (checked_expr (tree.paren (span_of at ((expr_span inner).after + 1)) inner))

-- `(` type name `)` operand
abbrev pub cast_with : ℕ → TypeName → Option Expr → Option Expr
cast_with at name None = None
cast_with at name (Some operand) = checked_expr (tree.cast (span_of at (expr_span operand).after) name operand)

abbrev pub cast_from : Source → Parts → List Declared → ℕ → Option TypeName → Option Expr
cast_from source parts names at None = None
cast_from source parts names at (Some name) =
    where_true (is (symbol_in source (type_name_declares source name ++ names) (type_name_span name).after) symbol.RightParen)
    (cast_with at name (parts.expr 13 (type_name_declares source name ++ names) ((type_name_span name).after + 1)))

-- `sizeof` `(` type name `)`
abbrev pub sizeof_name_from : Source → List Declared → ℕ → Option TypeName → Option Expr
sizeof_name_from source names at None = None
sizeof_name_from source names at (Some name) =
    where_true (is (symbol_in source (type_name_declares source name ++ names) (type_name_span name).after) symbol.RightParen)
    (checked_expr (tree.sizeof_name (span_of at ((type_name_span name).after + 1)) name))

abbrev pub sizeof_expr_from : ℕ → Option Expr → Option Expr
sizeof_expr_from at None = None
sizeof_expr_from at (Some operand) = checked_expr (tree.sizeof_expr (span_of at (expr_span operand).after) operand)

abbrev pub prefix_from : ℕ → Option Expr → Option Expr
prefix_from at None = None
prefix_from at (Some operand) = checked_expr (tree.prefix (span_of at (expr_span operand).after) at operand)

-- what an expression that begins with a symbol is: one token, something in parentheses, `sizeof`, a prefix operator with the level of
-- its operand, or none
pub data Front : Type 0 where
  a_name : Front
  a_constant : Front
  a_literal : Front
  enclosing : Front
  measuring : Front
  prefixing : ℕ → Front
  no_front : Front

abbrev pub front_kind : Symbol → Front
front_kind symbol.Identifier = a_name
front_kind symbol.Constant = a_constant
front_kind symbol.Literal = a_literal
front_kind symbol.LeftParen = enclosing
front_kind symbol.Sizeof = measuring
front_kind symbol.Increment = prefixing 14
front_kind symbol.Ampersand = prefixing 13
front_kind symbol.Star = prefixing 13
front_kind symbol.Additive = prefixing 13
front_kind symbol.Complement = prefixing 13
front_kind _ = no_front

-- the part of an expression in front of every operator behind an operand
unfoldable pub front_of : Source → Parts → List Declared → ℕ → Front → Option Expr
front_of source parts names at a_name = Some (tree.name (span_of at (at + 1)))
front_of source parts names at a_constant = Some (tree.constant (span_of at (at + 1)))
front_of source parts names at a_literal = Some (tree.literal (span_of at (at + 1)))
front_of source parts names at enclosing =
    if begins_specifiers (symbol_in source names (at + 1)) then cast_from source parts names at (type_name_of source parts names (at + 1))
    else paren_from source names at (parts.expr 0 names (at + 1))
front_of source parts names at measuring =
    if is (symbol_in source names (at + 1)) symbol.LeftParen && begins_specifiers (symbol_in source names (at + 2))
    then sizeof_name_from source names at (type_name_of source parts names (at + 2))
    else sizeof_expr_from at (parts.expr 14 names (at + 1))
front_of source parts names at (prefixing least) = prefix_from at (parts.expr least names (at + 1))
front_of source parts names at no_front = None

-- what goes on behind an operand
pub data Suffix : Type 0 where
  indexing : Suffix
  calling : Suffix
  selecting : Suffix
  following : Suffix
  counting : Suffix
  operating : ℕ → Suffix
  choosing : Suffix
  assigning : Suffix
  separating : Suffix
  no_suffix : Suffix

abbrev pub suffix_kind : Symbol → Suffix
suffix_kind symbol.LeftBracket = indexing
suffix_kind symbol.LeftParen = calling
suffix_kind symbol.Dot = selecting
suffix_kind symbol.Arrow = following
suffix_kind symbol.Increment = counting
suffix_kind symbol.Star = operating 12
suffix_kind symbol.Multiplicative = operating 12
suffix_kind symbol.Additive = operating 11
suffix_kind symbol.Shift = operating 10
suffix_kind symbol.Relational = operating 9
suffix_kind symbol.Equality = operating 8
suffix_kind symbol.Ampersand = operating 7
suffix_kind symbol.Caret = operating 6
suffix_kind symbol.Bar = operating 5
suffix_kind symbol.And = operating 4
suffix_kind symbol.Or = operating 3
suffix_kind symbol.Question = choosing
suffix_kind symbol.Equals = assigning
suffix_kind symbol.Compound = assigning
suffix_kind symbol.Comma = separating
suffix_kind _ = no_suffix

-- whether it goes on behind an operand of this level, where an expression of at least the other level is read
abbrev pub goes_on : ℕ → ℕ → Suffix → Bool
goes_on least left indexing = nat_le least 15 && nat_le 15 left
goes_on least left calling = nat_le least 15 && nat_le 15 left
goes_on least left selecting = nat_le least 15 && nat_le 15 left
goes_on least left following = nat_le least 15 && nat_le 15 left
goes_on least left counting = nat_le least 15 && nat_le 15 left
goes_on least left (operating level) = nat_le least level && nat_le level left
goes_on least left choosing = nat_le least 2 && nat_le 3 left
goes_on least left assigning = nat_le least 1 && nat_le 14 left
goes_on least left separating = nat_le least 0 && nat_le 1 left
goes_on least left no_suffix = false

abbrev pub index_from : Source → List Declared → Expr → Option Expr → Option Expr
index_from source names left None = None
index_from source names left (Some right) =
    where_true (is (symbol_in source (expr_declares source right ++ names) (expr_span right).after) symbol.RightBracket)
    (checked_expr (tree.index (span_of (expr_span left).first ((expr_span right).after + 1)) left right))

abbrev pub call_from : Source → List Declared → Expr → ℕ → Option Exprs → Option Expr
call_from source names left at None = None
call_from source names left at (Some arguments) =
    where_true (is (symbol_in source (exprs_declares source arguments ++ names) (exprs_after at arguments)) symbol.RightParen)
    (checked_expr (tree.call (span_of (expr_span left).first (exprs_after at arguments + 1)) left arguments))

abbrev pub binary_from : Expr → ℕ → Option Expr → Option Expr
binary_from left operator None = None
binary_from left operator (Some right) = checked_expr (tree.binary (span_of (expr_span left).first (expr_span right).after) left operator right)

abbrev pub assign_from : Expr → ℕ → Option Expr → Option Expr
assign_from left operator None = None
assign_from left operator (Some right) = checked_expr (tree.assign (span_of (expr_span left).first (expr_span right).after) left operator right)

abbrev pub conditional_with : Expr → Expr → Option Expr → Option Expr
conditional_with first second None = None
conditional_with first second (Some third) =
    checked_expr (tree.conditional (span_of (expr_span first).first (expr_span third).after) first second third)

abbrev pub conditional_from : Source → Parts → List Declared → Expr → Option Expr → Option Expr
conditional_from source parts names first None = None
conditional_from source parts names first (Some second) =
    where_true (is (symbol_in source (expr_declares source second ++ names) (expr_span second).after) symbol.Colon)
    (conditional_with first second (parts.expr 2 (expr_declares source second ++ names) ((expr_span second).after + 1)))

abbrev pub comma_from : Expr → ℕ → Option Exprs → Option Expr
comma_from left at None = None
comma_from left at (Some others) = checked_expr (tree.comma (span_of (expr_span left).first (exprs_after at others)) (tree.more_exprs left others))

-- an operand with what goes on behind it, up to the next thing that goes on, where these names are in scope behind it
unfoldable pub turn : Source → Parts → List Declared → Expr → ℕ → Suffix → Option Expr
turn source parts names left at indexing = index_from source names left (parts.expr 0 names (at + 1))
turn source parts names left at calling = call_from source names left (at + 1) (arguments source parts names (at + 1))
turn source parts names left at selecting =
    where_true (is_identifier (symbol_in source names (at + 1))) (checked_expr (tree.member (span_of (expr_span left).first (at + 2)) left (at + 1)))
turn source parts names left at following =
    where_true (is_identifier (symbol_in source names (at + 1))) (checked_expr (tree.arrow (span_of (expr_span left).first (at + 2)) left (at + 1)))
turn source parts names left at counting = checked_expr (tree.postfix (span_of (expr_span left).first (at + 1)) left at)
turn source parts names left at (operating level) = binary_from left at (parts.expr (level + 1) names (at + 1))
turn source parts names left at choosing = conditional_from source parts names left (parts.expr 0 names (at + 1))
turn source parts names left at assigning = assign_from left at (parts.expr 1 names (at + 1))
turn source parts names left at separating = comma_from left at (more_exprs source parts (all_turns source) names at)
turn source parts names left at no_suffix = None

abbrev pub and_then : {A B : Type 0} → (A → Option B) → Option A → Option B
and_then next None = None
and_then next (Some found) = next found

-- what goes on behind an expression
abbrev pub suffix_behind : Source → List Declared → Expr → Suffix
suffix_behind source names left = suffix_kind (symbol_in source (expr_declares source left ++ names) (expr_span left).after)

-- An operand with all that goes on behind it. Each turn makes the tree higher.
unfoldable pub grown : Source → Parts → ℕ → List Declared → ℕ → Expr → Option Expr
grown source parts least names zero left =
    if goes_on least (level source left) (suffix_behind source names left) then None else Some left
grown source parts least names (suc turns) left =
    if goes_on least (level source left) (suffix_behind source names left)
    then and_then (grown source parts least names turns)
    (turn source parts (expr_declares source left ++ names) left (expr_span left).after (suffix_behind source names left))
    else Some left

abbrev pub grown_from : Source → Parts → ℕ → List Declared → Option Expr → Option Expr
grown_from source parts least names None = None
grown_from source parts least names (Some front) =
    if nat_le least (level source front) then grown source parts least names greatest_height front else None

-- the expression of at least this level at a place
unfoldable pub expr_of : Source → Parts → ℕ → List Declared → ℕ → Option Expr
expr_of source parts least names at = grown_from source parts least names (front_of source parts names at (front_kind (symbol_in source names at)))

-- pointers
unfoldable pub consts : Source → List Declared → ℕ → ℕ → ℕ
consts source names zero at = 0
consts source names (suc turns) at = if is (symbol_in source names at) symbol.Const then consts source names turns (at + 1) + 1 else 0

unfoldable pub pointers : Source → List Declared → ℕ → ℕ → List ℕ
pointers source names zero at = []
pointers source names (suc turns) at =
    if is (symbol_in source names at) symbol.Star
    then consts source names (all_turns source) (at + 1) ∷ pointers source names turns (at + 1 + consts source names (all_turns source) (at + 1))
    else []

-- parameters
abbrev pub parameter_with : ℕ → Specifiers → Option Declarator → Option Parameter
parameter_with at specifiers None = None
parameter_with at specifiers (Some declarator) = Some (tree.parameter (span_of at (declarator_span declarator).after) specifiers declarator)

abbrev pub parameter_from : Source → Parts → List Declared → ℕ → Option Specifiers → Option Parameter
parameter_from source parts names at None = None
parameter_from source parts names at (Some specifiers) =
    parameter_with at specifiers (parts.declarator of_parameter (specifiers_declares source specifiers ++ names) (specifiers_span specifiers).after)

unfoldable pub parameter_of : Source → Parts → List Declared → ℕ → Option Parameter
parameter_of source parts names at = parameter_from source parts names at (parts.specifiers names at)

abbrev pub prepend_parameter : Parameter → Option Parameters → Option Parameters
prepend_parameter first None = None
prepend_parameter first (Some others) = Some (tree.more_parameters first others)

abbrev pub more_parameters_from : (Parameter → Option Parameters) → Option Parameter → Option Parameters
more_parameters_from others None = None
more_parameters_from others (Some first) = prepend_parameter first (others first)

unfoldable pub more_parameters : Source → Parts → ℕ → List Declared → ℕ → Option Parameters
more_parameters source parts zero names at = Some tree.no_parameters
more_parameters source parts (suc turns) names at =
    if is (symbol_in source names at) symbol.Comma
    then more_parameters_from (λ first. more_parameters source parts turns (parameter_declares source first ++ names) (parameter_span first).after)
    (parameter_of source parts names (at + 1))
    else Some tree.no_parameters

unfoldable pub parameters_of : Source → Parts → List Declared → ℕ → Option Parameters
parameters_of source parts names at =
    if is (symbol_in source names at) symbol.RightParen then Some tree.no_parameters
    else more_parameters_from (λ first. more_parameters source parts (all_turns source) (parameter_declares source first ++ names) (parameter_span first).after)
    (parameter_of source parts names at)

-- declarators
abbrev pub checked_direct : Direct → Option Direct
checked_direct direct = checked (direct_height direct) direct

abbrev pub enclosed_from : Source → List Declared → Option Declarator → Option Direct
enclosed_from source names None = None
enclosed_from source names (Some declarator) =
    where_true (not (is_absent declarator) && is (symbol_in source (declarator_declares source declarator ++ names) (declarator_span declarator).after) symbol.RightParen)
    (checked_direct (tree.enclosed declarator))

-- whether a `(` encloses a declarator, by what follows it, and doesn't begin a parameter list
abbrev pub encloses : Shape → Symbol → Bool
encloses named next = true
encloses abstract next = not (is next symbol.RightParen || begins_specifiers next)
encloses of_parameter next = not (is next symbol.RightParen || begins_specifiers next)

abbrev pub takes_name : Shape → Bool
takes_name named = true
takes_name abstract = false
takes_name of_parameter = true

-- nothing, where the declarator may be without a name
abbrev pub nothing : Shape → Option Direct
nothing named = None
nothing abstract = Some tree.absent
nothing of_parameter = Some tree.absent

-- the innermost part of a declarator, behind its pointers
unfoldable pub core : Source → Parts → Shape → List Declared → ℕ → Option Direct
core source parts shape names at =
    if takes_name shape && is_identifier (symbol_in source names at) then Some (tree.declared at)
    else if is (symbol_in source names at) symbol.LeftParen && encloses shape (symbol_in source names (at + 1))
    then enclosed_from source names (parts.declarator shape names (at + 1))
    else nothing shape

abbrev pub sized_from : Source → List Declared → Direct → Option Expr → Option Direct
sized_from source names direct None = None
sized_from source names direct (Some length) =
    where_true (is (symbol_in source (expr_declares source length ++ names) (expr_span length).after) symbol.RightBracket)
    (checked_direct (tree.sized direct length))

abbrev pub function_from : Source → List Declared → ℕ → Direct → Option Parameters → Option Direct
function_from source names at direct None = None
function_from source names at direct (Some parameters) =
    where_true (is (symbol_in source (parameters_declares source parameters ++ names) (parameters_after at parameters)) symbol.RightParen)
    (checked_direct (tree.function direct parameters))

-- behind `[`, and behind `(`
unfoldable pub array_of : Source → Parts → List Declared → ℕ → Direct → Option Direct
array_of source parts names at direct =
    if is (symbol_in source names at) symbol.RightBracket then checked_direct (tree.array direct)
    else sized_from source names direct (parts.expr 2 names at)

unfoldable pub function_of : Source → Parts → List Declared → ℕ → Direct → Option Direct
function_of source parts names at direct = function_from source names at direct (parameters_of source parts names at)

-- a declarator with all arrays and functions behind its innermost part, which begins at `start`
unfoldable pub suffixed : Source → Parts → List Declared → ℕ → ℕ → Direct → Option Direct
suffixed source parts names start zero direct =
    if is (symbol_in source (direct_declares source direct ++ names) (direct_after start direct)) symbol.LeftBracket
    || is (symbol_in source (direct_declares source direct ++ names) (direct_after start direct)) symbol.LeftParen
    then None else Some direct
suffixed source parts names start (suc turns) direct =
    if is (symbol_in source (direct_declares source direct ++ names) (direct_after start direct)) symbol.LeftBracket
    then and_then (suffixed source parts names start turns) (array_of source parts (direct_declares source direct ++ names) (direct_after start direct + 1) direct)
    else if is (symbol_in source (direct_declares source direct ++ names) (direct_after start direct)) symbol.LeftParen
    then and_then (suffixed source parts names start turns) (function_of source parts (direct_declares source direct ++ names) (direct_after start direct + 1) direct)
    else Some direct

abbrev pub declarator_with : ℕ → List ℕ → Option Direct → Option Declarator
declarator_with at stars None = None
declarator_with at stars (Some direct) =
    checked (declarator_height (tree.shaped (span_of at (direct_after (pointers_after at stars) direct)) stars direct))
    (tree.shaped (span_of at (direct_after (pointers_after at stars) direct)) stars direct)

abbrev pub declarator_behind : Source → Parts → Shape → List Declared → ℕ → List ℕ → Option Declarator
declarator_behind source parts shape names at stars =
    declarator_with at stars (and_then (suffixed source parts names (pointers_after at stars) greatest_height) (core source parts shape names (pointers_after at stars)))

-- the declarator at a place
unfoldable pub declarator_of : Source → Parts → Shape → List Declared → ℕ → Option Declarator
declarator_of source parts shape names at = declarator_behind source parts shape names at (pointers source names (all_turns source) at)

-- declarators of members: each behind a comma
abbrev pub prepend_declarator : Declarator → Option Declarators → Option Declarators
prepend_declarator first None = None
prepend_declarator first (Some others) = Some (tree.more_declarators first others)

abbrev pub more_declarators_from : (Declarator → Option Declarators) → Option Declarator → Option Declarators
more_declarators_from others None = None
more_declarators_from others (Some first) = prepend_declarator first (others first)

unfoldable pub more_declarators : Source → Parts → ℕ → List Declared → ℕ → Option Declarators
more_declarators source parts zero names at = Some tree.no_declarators
more_declarators source parts (suc turns) names at =
    if is (symbol_in source names at) symbol.Comma
    then more_declarators_from (λ first. more_declarators source parts turns (declarator_declares source first ++ names) (declarator_span first).after)
    (parts.declarator named names (at + 1))
    else Some tree.no_declarators

-- members
abbrev pub member_with : Source → List Declared → ℕ → Specifiers → Declarator → Option Declarators → Option Member
member_with source names at specifiers first None = None
member_with source names at specifiers first (Some others) =
    where_true (is (symbol_in source (declarators_declares source others ++ names) (declarators_after (declarator_span first).after others)) symbol.Semicolon)
    (Some (tree.members (span_of at (declarators_after (declarator_span first).after others + 1)) specifiers (tree.more_declarators first others)))

abbrev pub member_behind : Source → Parts → List Declared → ℕ → Specifiers → Option Declarator → Option Member
member_behind source parts names at specifiers None = None
member_behind source parts names at specifiers (Some first) =
    member_with source (declarator_declares source first ++ names) at specifiers first
    (more_declarators source parts (all_turns source) (declarator_declares source first ++ names) (declarator_span first).after)

abbrev pub member_from : Source → Parts → List Declared → ℕ → Option Specifiers → Option Member
member_from source parts names at None = None
member_from source parts names at (Some specifiers) =
    member_behind source parts (specifiers_declares source specifiers ++ names) at specifiers
    (parts.declarator named (specifiers_declares source specifiers ++ names) (specifiers_span specifiers).after)

unfoldable pub member_of : Source → Parts → List Declared → ℕ → Option Member
member_of source parts names at = member_from source parts names at (parts.specifiers names at)

abbrev pub prepend_member : Member → Option Members → Option Members
prepend_member first None = None
prepend_member first (Some others) = Some (tree.more_members first others)

abbrev pub members_from : (Member → Option Members) → Option Member → Option Members
members_from others None = None
members_from others (Some first) = prepend_member first (others first)

-- members up to the closing brace
unfoldable pub members_of : Source → Parts → ℕ → List Declared → ℕ → Option Members
members_of source parts zero names at = None
members_of source parts (suc turns) names at =
    if is (symbol_in source names at) symbol.RightBrace then Some tree.no_members
    else members_from (λ first. members_of source parts turns (member_declares source first ++ names) (member_span first).after) (member_of source parts names at)

-- the tag at a place, if there is one
abbrev pub tag_at : Source → List Declared → ℕ → Option ℕ
tag_at source names at = if is_identifier (symbol_in source names at) then Some at else None

abbrev pub checked_specifier : Specifier → Option Specifier
checked_specifier specifier = checked (specifier_height specifier) specifier

-- `struct` and its members, of which there is one at least
abbrev pub struct_from : ℕ → Option ℕ → ℕ → Option Members → Option Specifier
struct_from at tag inside None = None
struct_from at tag inside (Some tree.no_members) = None
struct_from at tag inside (Some (tree.more_members first others)) =
    checked_specifier (tree.struct_with (span_of at (members_after inside (tree.more_members first others) + 1)) tag (tree.more_members first others))

-- `struct` with a tag alone
abbrev pub struct_tagged : ℕ → Option ℕ → Option Specifier
struct_tagged at None = None
struct_tagged at (Some tag) = Some (tree.struct_only (span_of at (at + 2)) (Some tag))

abbrev pub struct_behind : Source → Parts → List Declared → ℕ → Option ℕ → Option Specifier
struct_behind source parts names at tag =
    if is (symbol_in source names (tag_after (at + 1) tag)) symbol.LeftBrace
    then struct_from at tag (tag_after (at + 1) tag + 1) (members_of source parts (all_turns source) names (tag_after (at + 1) tag + 1))
    else struct_tagged at tag

unfoldable pub struct_of : Source → Parts → List Declared → ℕ → Option Specifier
struct_of source parts names at = struct_behind source parts names at (tag_at source names (at + 1))

-- enumerators
abbrev pub valued_from : ℕ → Option Expr → Option Enumerator
valued_from at None = None
valued_from at (Some value) = Some (tree.valued (span_of at (expr_span value).after) at value)

unfoldable pub enumerator_of : Source → Parts → List Declared → ℕ → Option Enumerator
enumerator_of source parts names at =
    if is_identifier (symbol_in source names at)
    then if is (symbol_in source names (at + 1)) symbol.Equals then valued_from at (parts.expr 2 names (at + 2))
    else Some (tree.bare (span_of at (at + 1)) at)
    else None

abbrev pub prepend_enumerator : Enumerator → Option Enumerators → Option Enumerators
prepend_enumerator first None = None
prepend_enumerator first (Some others) = Some (tree.more_enumerators first others)

abbrev pub more_enumerators_from : (Enumerator → Option Enumerators) → Option Enumerator → Option Enumerators
more_enumerators_from others None = None
more_enumerators_from others (Some first) = prepend_enumerator first (others first)

-- each behind a comma that no closing brace follows
unfoldable pub more_enumerators : Source → Parts → ℕ → List Declared → ℕ → Option Enumerators
more_enumerators source parts zero names at = Some tree.no_enumerators
more_enumerators source parts (suc turns) names at =
    if is (symbol_in source names at) symbol.Comma && not (is (symbol_in source names (at + 1)) symbol.RightBrace)
    then more_enumerators_from (λ first. more_enumerators source parts turns (enumerator_declares source first ++ names) (enumerator_span first).after)
    (enumerator_of source parts names (at + 1))
    else Some tree.no_enumerators

-- the closing brace, with a comma before it or without
abbrev pub enum_closed : Source → List Declared → ℕ → Option ℕ → Enumerators → ℕ → Bool → Option Specifier
enum_closed source names at tag enumerators inside trailing =
    where_true (is (symbol_in source names (trailing_after inside trailing)) symbol.RightBrace)
    (checked_specifier (tree.enum_with (span_of at (trailing_after inside trailing + 1)) tag enumerators trailing))

abbrev pub enum_with : Source → List Declared → ℕ → Option ℕ → Enumerator → Option Enumerators → Option Specifier
enum_with source names at tag first None = None
enum_with source names at tag first (Some others) =
    enum_closed source (enumerators_declares source others ++ names) at tag (tree.more_enumerators first others) (enumerators_after (enumerator_span first).after others)
    (is (symbol_in source (enumerators_declares source others ++ names) (enumerators_after (enumerator_span first).after others)) symbol.Comma)

abbrev pub enum_from : Source → Parts → List Declared → ℕ → Option ℕ → Option Enumerator → Option Specifier
enum_from source parts names at tag None = None
enum_from source parts names at tag (Some first) =
    enum_with source (enumerator_declares source first ++ names) at tag first
    (more_enumerators source parts (all_turns source) (enumerator_declares source first ++ names) (enumerator_span first).after)

abbrev pub enum_tagged : ℕ → Option ℕ → Option Specifier
enum_tagged at None = None
enum_tagged at (Some tag) = Some (tree.enum_only (span_of at (at + 2)) (Some tag) false)

abbrev pub enum_behind : Source → Parts → List Declared → ℕ → Option ℕ → Option Specifier
enum_behind source parts names at tag =
    if is (symbol_in source names (tag_after (at + 1) tag)) symbol.LeftBrace
    then enum_from source parts names at tag (enumerator_of source parts names (tag_after (at + 1) tag + 1))
    else enum_tagged at tag

unfoldable pub enum_of : Source → Parts → List Declared → ℕ → Option Specifier
enum_of source parts names at = enum_behind source parts names at (tag_at source names (at + 1))

-- specifiers
pub data Word : Type 0 where
  plain_word : Word
  type_word : Word
  name_word : Word
  struct_word : Word
  enum_word : Word
  no_word : Word

abbrev pub word_kind : Symbol → Word
word_kind symbol.Const = plain_word
word_kind symbol.Typedef = plain_word
word_kind symbol.Storage = plain_word
word_kind symbol.TypeWord = type_word
word_kind symbol.TypedefName = name_word
word_kind symbol.Struct = struct_word
word_kind symbol.Enum = enum_word
word_kind _ = no_word

-- whether it is one more specifier behind these type specifiers
abbrev pub is_one_more : Types → Word → Bool
is_one_more types plain_word = true
is_one_more no_type type_word = true
is_one_more type_words type_word = true
is_one_more one_name type_word = false
is_one_more no_type name_word = true
is_one_more type_words name_word = false
is_one_more one_name name_word = false
is_one_more no_type struct_word = true
is_one_more type_words struct_word = true
is_one_more one_name struct_word = false
is_one_more no_type enum_word = true
is_one_more type_words enum_word = true
is_one_more one_name enum_word = false
is_one_more types no_word = false

unfoldable pub specifier_of : Source → Parts → List Declared → ℕ → Word → Option Specifier
specifier_of source parts names at plain_word = Some (tree.keyword at)
specifier_of source parts names at type_word = Some (tree.keyword at)
specifier_of source parts names at name_word = Some (tree.typedef_name at)
specifier_of source parts names at struct_word = struct_of source parts names at
specifier_of source parts names at enum_word = enum_of source parts names at
specifier_of source parts names at no_word = None

abbrev pub prepend_word : Specifier → Option Words → Option Words
prepend_word first None = None
prepend_word first (Some others) = Some (tree.more_words first others)

abbrev pub words_from : (Specifier → Option Words) → Option Specifier → Option Words
words_from others None = None
words_from others (Some first) = prepend_word first (others first)

unfoldable pub words_of : Source → Parts → ℕ → List Declared → ℕ → Types → Option Words
words_of source parts zero names at types =
    if is_one_more types (word_kind (symbol_in source names at)) then None else Some tree.no_words
words_of source parts (suc turns) names at types =
    if is_one_more types (word_kind (symbol_in source names at))
    then words_from (λ first. words_of source parts turns (specifier_declares source first ++ names) (specifier_after at first) (types_behind source at first types))
    (specifier_of source parts names at (word_kind (symbol_in source names at)))
    else Some tree.no_words

abbrev pub specifiers_from : ℕ → Option Words → Option Specifiers
specifiers_from at None = None
specifiers_from at (Some tree.no_words) = None
specifiers_from at (Some (tree.more_words first others)) =
    checked (specifiers_height (tree.listed (span_of at (words_after at (tree.more_words first others))) (tree.more_words first others)))
    (tree.listed (span_of at (words_after at (tree.more_words first others))) (tree.more_words first others))

-- the specifiers at a place
unfoldable pub specifiers_of : Source → Parts → List Declared → ℕ → Option Specifiers
specifiers_of source parts names at = specifiers_from at (words_of source parts (all_turns source) names at no_type)

-- nothing is read without depth
abbrev pub no_parts : Parts
no_parts = record { expr = λ least names at. None; specifiers = λ names at. None; declarator = λ shape names at. None }

-- what reads the parts of a node at so much depth
unfoldable pub lower : Source → ℕ → Parts
lower source zero = no_parts
lower source (suc depth) =
    record {
      expr = expr_of source (lower source depth);
      specifiers = specifiers_of source (lower source depth);
      declarator = declarator_of source (lower source depth);
    }

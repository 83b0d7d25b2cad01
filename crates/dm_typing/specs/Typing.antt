-- The typing of expressions and type names (6.3, 6.5, 6.7.2, 6.7.6, 6.7.7), a clause a form of the syntax. Parts come before the whole,
-- from left to right, and what a part declares is in scope in what follows.
--     typed setting used known expr      the typed tree of an expression; `used` says whether it is evaluated, and so uses functions (6.9p3)
--     typed_name setting known name      the type of a type name, with the trees of its lengths and enumerator values
use Rattle.std.specs.Prelude.{ℕ, ◌+◌, ℤ, pos, Bool, true, false, ◌&&◌, ◌||◌, not, ◌==◌, nat_le, if◌then◌else◌, List, [], ◌∷◌, ◌++◌, length, Option, Some, None, is_some, option_and_then, unwrap_or, slice_get, codes, bytes_eq, int_le, ◌+ℤ◌, negsuc, unsigned_abs}
use Rattle.std.specs.FinMap as map
use Rattle.dm_spell.specs.Punctuators.{increment}
use Rattle.dm_token.specs.declared.place.Span.{Span}
use Rattle.dm_token.specs.declared.token.CToken.{CToken}
use Rattle.dm_int.specs.declared.Kind.{Kind}
use Rattle.dm_int.specs.declared.Kind.TheVariants as k
use Rattle.dm_int.specs.declared.Op.{Op}
use Rattle.dm_int.specs.declared.Op.TheVariants as o
use Rattle.dm_int.specs.Kinds.{kinds, is_in_range}
use Rattle.dm_type.specs.declared.shape.Member.{Member as Field}
use Rattle.dm_type.specs.CTypes.{CType, void, integer, pointer, array as array_type, struct as struct_type, function as function_type, all_of, bare}
use Rattle.dm_type.specs.Layouts.{contained, struct_layout}
use Rattle.dm_type.specs.Tables.{Table, types_of, members_of, with_struct, with_content}
use Rattle.dm_scope.specs.Scopes.{Scopes, number_of, is_declared}
use Rattle.dm_syn.specs.Sources.{spelling_at, symbol_at}
use Rattle.dm_syn.specs.declared.symbol.Symbol.{Symbol}
use Rattle.dm_syn.specs.declared.symbol.Symbol.TheVariants as symbol
use Rattle.dm_syn.specs.Spans.{expr_span, declarator_span}
use Rattle.dm_syn.specs.Scopes.{declarator_name}
use Rattle.dm_syn.specs.Trees.{Expr, Exprs, TypeName, Specifiers, Words, Specifier, Members, Member, Declarators, Enumerators, Enumerator, Declarator, Direct, Parameters, Parameter}
use Rattle.dm_syn.specs.Trees as tree
use Rattle.dm_tree.specs.declared.unit.Sort.TheVariants.{Object, Enumerator as EnumeratorSort}
use Rattle.dm_tree.specs.declared.unit.Linkage.{Linkage}
use Rattle.dm_tree.specs.declared.unit.Linkage.TheVariants.{Internal, Absent}
use Rattle.dm_tree.specs.Trees.{Label, Tree, label_of, kind_of}
use Rattle.dm_tree.specs.Trees as label
use Rattle.dm_tree.specs.Scenes.{is_lvalue, is_integer, is_scalar, is_void, is_array, is_function}
use Rattle.dm_tree.specs.Initialisers.{is_function_sort}
use Rattle.dm_tree.specs.Units.{Declaration}
use Rattle.dm_typing.specs.declared.extent.Extent.{Extent}
use Rattle.dm_typing.specs.Known.{Known, Setting, Outcome, given, broken, after, with_it, obeys, if_given, place_at, meaning_of, declaring, tag_key, tag_entry}
use Rattle.dm_typing.specs.Operators.{row_at, keyword_at, operator_of_row, operator_of_assignment, sign_of_row}
use Rattle.dm_typing.specs.Conversions.{made, as_value, as_type, is_same, is_complete, complete_target, constant_of}
use Rattle.dm_typing.specs.Rules.{named_by_sort, Pair, indexed, member_by_name, is_modifiable, may_be_counted, signed, may_be_cast, operated, rule_of, arms, is_assignable, called, updated}
use Rattle.dm_typing.specs.Specifiers.{Said, nothing_said, with_word, with_type, type_said, Where, elsewhere, are_allowed, with_said_const}

-- ---- names (6.5.1)

-- C37: a function with internal linkage that is used is defined in the unit
abbrev pub is_internal : Linkage → Bool
is_internal Internal = true
is_internal other = false

abbrev pub may_be_used : Setting → Bool → List ℕ → Declaration → Bool
may_be_used setting used name entry = not (used && is_function_sort entry.sort && is_internal entry.linkage && setting.lacks name)

abbrev pub named : Setting → Bool → Known → Extent → List ℕ → Option Declaration → Outcome Tree
named setting used known extent name None = broken 1 extent.inner.first
named setting used known extent name (Some entry) =
    if_given (named_by_sort entry.sort (unwrap_or (number_of known.scopes name) 0) entry.kind) 1 extent.inner.first
    (λ (form, kind). obeys (may_be_used setting used name entry) 37 extent.inner.first (given known (made setting.source extent form kind [])))

-- ---- constants and string literals (6.4.4, 6.4.5)

abbrev pub kind_numbered : ℕ → Kind
kind_numbered n = unwrap_or (slice_get kinds n) k.Int

abbrev pub constant_tree : Setting → Extent → Option CToken → Tree
constant_tree setting extent None = made setting.source extent (label.number (pos 0)) (integer k.Int) []
constant_tree setting extent (Some token) = made setting.source extent (label.number token.value) (integer (kind_numbered token.kind)) []

abbrev pub literal_tree : Setting → Extent → List ℕ → Tree
literal_tree setting extent bytes = made setting.source extent (label.literal bytes 0) (array_type (integer k.Char) (Some (length bytes + 1))) []

-- ---- nodes on typed parts

abbrev pub index_tree : Setting → Extent → Tree → Tree → CType → Option CType → Tree
index_tree setting extent a b type None = a
index_tree setting extent a b type (Some to) =
    made setting.source extent label.follow to (made setting.source extent (label.binary o.Add) type (a ∷ b ∷ []) ∷ [])

-- C11
abbrev pub typed_index : Setting → Known → Extent → Tree → Tree → Outcome Tree
typed_index setting known extent a b =
    if_given (indexed known (kind_of a) (kind_of b)) 11 extent.inner.first
    (λ type. given known (index_tree setting extent a b type (complete_target known type)))

-- C12, of an operand that is a struct
abbrev pub typed_member : Setting → Known → Extent → ℕ → Tree → Outcome Tree
typed_member setting known extent name whole =
    if_given (member_by_name known (spelling_at setting.source name) whole) 12 extent.inner.first
    (λ (n, kind). given known (made setting.source extent (label.member n) kind (whole ∷ [])))

-- and of a pointer to one
abbrev pub typed_arrow : Setting → Known → Extent → ℕ → Tree → Outcome Tree
typed_arrow setting known extent name pointing =
    if_given (complete_target known (kind_of pointing)) 12 extent.inner.first
    (λ to. typed_member setting known extent name (made setting.source extent label.follow to (pointing ∷ [])))

-- C13
abbrev pub is_plus_plus : Option ℕ → Bool
is_plus_plus None = false
is_plus_plus (Some row) = row == increment

abbrev pub typed_count : Setting → Known → Extent → ℕ → Bool → Tree → Outcome Tree
typed_count setting known extent operator before operand =
    obeys (may_be_counted known operand) 13 extent.inner.first
    (given known (made setting.source extent (label.count (is_plus_plus (row_at setting.source operator)) before) (bare (kind_of operand)) (operand ∷ [])))

-- C14
abbrev pub typed_address : Setting → Known → Extent → Tree → Outcome Tree
typed_address setting known extent operand =
    obeys (is_lvalue operand) 14 extent.inner.first (given known (made setting.source extent label.address (pointer (kind_of operand)) (operand ∷ [])))

-- C15
abbrev pub typed_follow : Setting → Known → Extent → Tree → Outcome Tree
typed_follow setting known extent operand =
    if_given (complete_target known (kind_of operand)) 15 extent.inner.first (λ to. given known (made setting.source extent label.follow to (operand ∷ [])))

-- C16
abbrev pub typed_sign : Setting → Known → Extent → ℕ → Tree → Outcome Tree
typed_sign setting known extent operator operand =
    if_given (option_and_then sign_of_row (row_at setting.source operator)) 16 extent.inner.first
    (λ sign. if_given (signed sign operand) 16 extent.inner.first (λ (converted, kind). given known (made setting.source extent (label.unary sign) kind (converted ∷ []))))

abbrev pub typed_prefix : Setting → Known → Extent → ℕ → Tree → Symbol → Outcome Tree
typed_prefix setting known extent operator operand symbol.Increment = typed_count setting known extent operator true operand
typed_prefix setting known extent operator operand symbol.Ampersand = typed_address setting known extent operand
typed_prefix setting known extent operator operand symbol.Star = typed_follow setting known extent (as_value operand)
typed_prefix setting known extent operator operand _ = typed_sign setting known extent operator (as_value operand)

-- C17
abbrev pub typed_sizeof : Setting → Known → Extent → Tree → Outcome Tree
typed_sizeof setting known extent operand =
    obeys (is_complete known (kind_of operand)) 17 extent.inner.first (given known (made setting.source extent label.sizeof_tree (integer k.ULong) (operand ∷ [])))

abbrev pub typed_sizeof_name : Setting → Known → Extent → CType → List Tree → Outcome Tree
typed_sizeof_name setting known extent type lengths =
    obeys (is_complete known type) 17 extent.inner.first (given known (made setting.source extent (label.sizeof_kind type) (integer k.ULong) lengths))

-- C18
abbrev pub typed_cast : Setting → Known → Extent → CType → List Tree → Tree → Outcome Tree
typed_cast setting known extent type lengths operand =
    obeys (may_be_cast known operand type) 18 extent.inner.first (given known (made setting.source extent label.convert type (operand ∷ lengths)))

-- C19 to C25
abbrev pub typed_operation : Setting → Known → Extent → Tree → Tree → Option Op → Outcome Tree
typed_operation setting known extent a b None = broken 19 extent.inner.first
typed_operation setting known extent a b (Some op) =
    if_given (operated known op a b) (rule_of op) extent.inner.first
    (λ (pair : Pair). given known (made setting.source extent (label.binary op) pair.kind (pair.left ∷ pair.right ∷ [])))

-- C26
abbrev pub typed_logic : Setting → Known → Extent → Label → Tree → Tree → Outcome Tree
typed_logic setting known extent form a b =
    obeys (is_scalar (kind_of a) && is_scalar (kind_of b)) 26 extent.inner.first (given known (made setting.source extent form (integer k.Int) (a ∷ b ∷ [])))

abbrev pub typed_binary : Setting → Known → Extent → ℕ → Tree → Tree → Symbol → Outcome Tree
typed_binary setting known extent operator a b symbol.And = typed_logic setting known extent label.both a b
typed_binary setting known extent operator a b symbol.Or = typed_logic setting known extent label.either a b
typed_binary setting known extent operator a b _ =
    typed_operation setting known extent a b (option_and_then operator_of_row (row_at setting.source operator))

-- C27
abbrev pub typed_choice : Setting → Known → Extent → Tree → Tree → Tree → Outcome Tree
typed_choice setting known extent condition a b =
    obeys (is_scalar (kind_of condition)) 27 extent.inner.first
    (if_given (arms known a b) 27 extent.inner.first
    (λ (pair : Pair). given known (made setting.source extent label.choose pair.kind (condition ∷ pair.left ∷ pair.right ∷ []))))

-- C28
abbrev pub typed_store : Setting → Known → Extent → Tree → Tree → Outcome Tree
typed_store setting known extent object value =
    obeys (is_modifiable known object && is_assignable known value (kind_of object)) 28 extent.inner.first
    (given known (made setting.source extent label.store (bare (kind_of object)) (object ∷ as_type (kind_of object) value ∷ [])))

-- C29
abbrev pub typed_update : Setting → Known → Extent → Tree → Tree → Option Op → Outcome Tree
typed_update setting known extent object value None = broken 29 extent.inner.first
typed_update setting known extent object value (Some op) =
    if_given (updated known op object value) 29 extent.inner.first
    (λ (works, converted). given known (made setting.source extent (label.update op works) (bare (kind_of object)) (object ∷ converted ∷ [])))

abbrev pub typed_assignment : Setting → Known → Extent → ℕ → Tree → Tree → Symbol → Outcome Tree
typed_assignment setting known extent operator object value symbol.Equals = typed_store setting known extent object value
typed_assignment setting known extent operator object value _ =
    typed_update setting known extent object value (option_and_then operator_of_assignment (row_at setting.source operator))

-- C10: the callee is the name of a function, in parentheses or not
abbrev pub is_name : Expr → Bool
is_name (tree.name span) = true
is_name (tree.paren span inner) = is_name inner
is_name expr = false

abbrev pub is_function_label : Label → Bool
is_function_label (label.function at) = true
is_function_label other = false

abbrev pub typed_call : Setting → Known → Extent → Expr → Tree → List Tree → Outcome Tree
typed_call setting known extent callee tree values =
    obeys (is_name callee && is_function_label (label_of tree)) 10 extent.inner.first
    (if_given (called known (kind_of tree) values) 10 extent.inner.first
    (λ (kind, arguments). given known (made setting.source extent label.call kind (tree ∷ arguments))))

-- commas nest to the left (6.5.17)
abbrev pub comma_tree : Setting → Extent → Tree → List Tree → Tree
comma_tree setting extent first [] = first
comma_tree setting extent first (second ∷ others) = comma_tree setting extent (made setting.source extent label.comma (kind_of second) (first ∷ second ∷ [])) others

abbrev pub comma_of : Setting → Extent → List Tree → Option Tree
comma_of setting extent [] = None
comma_of setting extent (first ∷ others) = Some (comma_tree setting extent first others)

-- ---- tags (6.7.2.3)

-- a struct by its number
abbrev pub number_if_struct : CType → Option ℕ
number_if_struct (struct_type at) = Some at
number_if_struct type = None

-- a tag at a place, by its spelling
abbrev pub spelled : Setting → Option ℕ → Option (List ℕ)
spelled setting None = None
spelled setting (Some at) = Some (spelling_at setting.source at)

-- a struct of which nothing is known but its tag, which is in scope from here on
abbrev pub tag_declared : Setting → Known → Option ℕ → CType → Known
tag_declared setting known None type = known
tag_declared setting known (Some at) type =
    declaring known (tag_key (spelling_at setting.source at)) (tag_entry (spelling_at setting.source at) type (place_at setting.source at))

abbrev pub new_struct : Setting → Known → Option ℕ → Known
new_struct setting known tag =
    tag_declared setting (record known { types = with_struct known.types (spelled setting tag) }) tag (struct_type (length known.types.structs))

-- the declaration of a tag in the innermost scope, or in any
abbrev pub tag_inside : Setting → Known → Option ℕ → Option Declaration
tag_inside setting known None = None
tag_inside setting known (Some at) =
    if is_declared known.scopes (tag_key (spelling_at setting.source at)) then meaning_of known (tag_key (spelling_at setting.source at)) else None

abbrev pub tag_seen : Setting → Known → Option ℕ → Option Declaration
tag_seen setting known None = None
tag_seen setting known (Some at) = meaning_of known (tag_key (spelling_at setting.source at))

-- `struct` with a tag alone: the struct that the tag means, or a new one. In a declaration of nothing else it is one of the innermost
-- scope (6.7.2.3p7)
abbrev pub struct_named : Setting → Known → Span → Option ℕ → Option Declaration → Outcome CType
struct_named setting known span tag None = given (new_struct setting known tag) (struct_type (length known.types.structs))
struct_named setting known span tag (Some entry) = obeys (is_some (number_if_struct entry.kind)) 4 span.first (given known entry.kind)

-- `enum` with a tag alone (6.7.2.3p3)
abbrev pub enum_named : Known → Span → Option Declaration → Outcome CType
enum_named known span None = broken 1 span.first
enum_named known span (Some entry) = obeys (is_integer entry.kind) 4 span.first (given known (integer k.Int))

abbrev pub is_among : ℕ → List ℕ → Bool
is_among n [] = false
is_among n (m ∷ others) = (n == m) || is_among n others

-- the struct whose members follow: a new one, or that which the tag means in this scope, unless that has its members, is being read, or
-- is an enum
abbrev pub may_have_members : Known → ℕ → Option ℕ
may_have_members known at = if is_some (members_of known.types at) || is_among at known.begun then None else Some at

abbrev pub struct_begun : Known → Option Declaration → Option ℕ
struct_begun known None = Some (length known.types.structs)
struct_begun known (Some entry) = option_and_then (may_have_members known) (number_if_struct entry.kind)

-- what is known where the members begin
abbrev pub with_new_struct : Setting → Known → Option ℕ → Option Declaration → Known
with_new_struct setting known tag None = new_struct setting known tag
with_new_struct setting known tag (Some entry) = known

abbrev pub beginning : Known → Option ℕ → Known
beginning known None = known
beginning known (Some at) = record known { begun = at ∷ known.begun }

-- a member that is typed
pub record TypedMember : Type 0 where
  pub name : List ℕ
  pub kind : CType

abbrev pub is_named : List ℕ → List TypedMember → Bool
is_named name [] = false
is_named name (first ∷ others) = bytes_eq first.name name || is_named name others

-- the number of a type: the first that is that type
abbrev pub number_among : CType → ℕ → List CType → ℕ
number_among type n [] = n
number_among type n (first ∷ others) = if is_same first type then n else number_among type (n + 1) others

abbrev pub number_of_type : Table → CType → ℕ
number_of_type types type = number_among type 0 (types_of types.shapes)

abbrev pub fields : Table → List TypedMember → List Field
fields types [] = []
fields types (member ∷ members) = record { name = member.name; kind = number_of_type types member.kind } ∷ fields types members

-- the struct has its members (6.7.2.1p8), unless it takes more bytes than a type may (C5). One without members is none
abbrev pub struct_ended : Known → Span → Option ℕ → List ℕ → List TypedMember → Outcome CType
struct_ended known span None begun members = broken 4 span.first
struct_ended known span (Some at) begun [] = broken 5 span.first
struct_ended known span (Some at) begun members =
    obeys (is_some (struct_layout known.types (fields known.types members))) 5 span.first
    (given (record known { types = with_content known.types at (contained known.types (fields known.types members)); begun = begun }) (struct_type at))

-- ---- enumerators (6.7.2.2)

abbrev pub is_int : ℤ → Bool
is_int value = is_in_range k.Int value

-- C2, C7 and C36: an enumerator is declared once in a scope, int can represent its value, and none is called `main` in file scope
abbrev pub is_file_scope : Scopes → Bool
is_file_scope (scope ∷ []) = true
is_file_scope scopes = false

abbrev pub enumerator_entry : Setting → ℕ → ℤ → Declaration
enumerator_entry setting at value = record {
  name = spelling_at setting.source at;
  sort = EnumeratorSort value;
  kind = integer k.Int;
  linkage = Absent;
  place = place_at setting.source at;
}

abbrev pub enumerator_declared : Setting → Known → ℕ → ℤ → Outcome ℤ
enumerator_declared setting known at value =
    obeys (not (is_declared known.scopes (spelling_at setting.source at))) 2 at
    (obeys (is_int value) 7 at
    (obeys (not (is_file_scope known.scopes && bytes_eq (spelling_at setting.source at) (codes "main"))) 36 at
    (given (declaring known (spelling_at setting.source at) (enumerator_entry setting at value)) value)))

-- C7: a value that is written is an integer constant expression that int can represent, which is looked at before the enumerator
abbrev pub with_constant : Known → Tree → Known
with_constant known tree = record known { constants = known.constants ++ tree ∷ [] }

abbrev pub enumerator_valued : Setting → Known → ℕ → ℕ → Tree → Outcome ℤ
enumerator_valued setting known at here tree =
    if_given (constant_of known tree) 7 here
    (λ value. obeys (is_int value) 7 here (enumerator_declared setting (with_constant known tree) at value))

-- ---- declarators (6.7.6)

-- the parameters of a function: their types, and the number of each that is named
pub record TypedParameter : Type 0 where
  pub kind : CType
  pub declared : Option ℕ

-- a step by which a declarator makes a type of another, with the token at which it begins
pub data Step : Type 0 where
  -- a pointer, and whether it is const (6.7.6.1)
  pointing : ℕ → Bool → Step
  -- an array, and its length if it has one (6.7.6.2)
  arraying : ℕ → Option ℕ → Step
  -- a function (6.7.6.3)
  calling : ℕ → List TypedParameter → Step

abbrev pub kinds_of : List TypedParameter → List CType
kinds_of [] = []
kinds_of (first ∷ others) = first.kind ∷ kinds_of others

-- the type that a step makes. C5: there is no pointer to a function, no array of what is incomplete or too large, and the result of a
-- function is void or a complete type that is no array
abbrev pub length_fits : Known → CType → Option ℕ → Bool
length_fits known type None = true
length_fits known type (Some n) = is_complete known (array_type type (Some n))

abbrev pub is_result : Known → CType → Bool
is_result known type = not (is_function type) && not (is_array type) && (is_void (bare type) || is_complete known type)

abbrev pub stepped : Known → CType → Step → Outcome CType
stepped known type (pointing at const) = obeys (not (is_function type)) 5 at (given known (with_said_const const (pointer type)))
stepped known type (arraying at n) = obeys (is_complete known type && length_fits known type n) 5 at (given known (array_type type n))
stepped known type (calling at parameters) = obeys (is_result known type) 5 at (given known (function_type type (all_of (kinds_of parameters))))

-- all steps in turn
abbrev pub derived : Known → CType → List Step → Outcome CType
derived known type [] = given known type
derived known type (step ∷ steps) = after (stepped known type step) (λ behind made. derived behind made steps)

-- the pointers of a declarator, which apply first
abbrev pub pointers : ℕ → List ℕ → List Step
pointers at [] = []
pointers at (consts ∷ others) = pointing at (nat_le 1 consts) ∷ pointers at others

abbrev pub direct_at : ℕ → List ℕ → ℕ
direct_at at [] = at
direct_at at (consts ∷ others) = direct_at (at + 1 + consts) others

-- C5: a length is an integer constant expression of at least 1
abbrev pub natural : ℤ → Option ℕ
natural value = if int_le (pos 1) value then Some (unsigned_abs value) else None

abbrev pub length_of : Known → ℕ → Tree → Outcome ℕ
length_of known here tree =
    if_given (option_and_then natural (constant_of known tree)) 5 here (λ n. given (with_constant known tree) n)

-- the type of a parameter: that of an array is a pointer (6.7.6.3p7)
abbrev pub adjusted : CType → CType
adjusted (array_type type n) = pointer type
adjusted type = type

-- `(void)` declares no parameters (6.7.6.3p10)
abbrev pub is_no_parameters : List TypedParameter → Bool
is_no_parameters (first ∷ []) = is_same first.kind void && not (is_some first.declared)
is_no_parameters parameters = false

abbrev pub without_void : List TypedParameter → List TypedParameter
without_void parameters = if is_no_parameters parameters then [] else parameters

-- C2: a parameter is declared once in its list
abbrev pub parameter_entry : Setting → ℕ → CType → Declaration
parameter_entry setting at kind = record {
  name = spelling_at setting.source at;
  sort = Object false;
  kind = kind;
  linkage = Absent;
  place = place_at setting.source at;
}

abbrev pub is_new_parameter : Setting → Known → Option ℕ → Bool
is_new_parameter setting known None = true
is_new_parameter setting known (Some at) = not (is_declared known.scopes (spelling_at setting.source at))

abbrev pub parameter_declared : Setting → Known → CType → Option ℕ → Outcome TypedParameter
parameter_declared setting known kind None = given known (record { kind = kind; declared = None })
parameter_declared setting known kind (Some at) =
    given (declaring known (spelling_at setting.source at) (parameter_entry setting at kind)) (record { kind = kind; declared = Some (length known.declared) })

-- C2; C5: no parameter is a function
abbrev pub typed_parameter : Setting → Known → ℕ → CType → Option ℕ → Outcome TypedParameter
typed_parameter setting known here type name =
    obeys (is_new_parameter setting known name) 2 (unwrap_or name here)
    (obeys (not (is_function type)) 5 here (parameter_declared setting known (adjusted type) name))

-- where a fault of a parameter's type is: at its declarator, or where there is none, at its first token
abbrev pub parameter_at : Span → Declarator → ℕ
parameter_at span (tree.shaped at [] tree.absent) = span.first
parameter_at span (tree.shaped at pointers direct) = at.first

-- a scope of its own for what a parameter list declares (6.2.1p4)
abbrev pub entered : Known → Known
entered known = record known { scopes = map.empty ∷ known.scopes }

abbrev pub left : {A : Type 0} → Scopes → Outcome A → Outcome A
left scopes (given known it) = given (record known { scopes = scopes }) it
left scopes (broken rule at) = broken rule at

-- C6: the members of a struct have different names; C5: each has a complete type
abbrev pub name_of : Setting → Option ℕ → List ℕ
name_of setting None = []
name_of setting (Some at) = spelling_at setting.source at

abbrev pub typed_field : Setting → Known → ℕ → Option ℕ → List TypedMember → CType → Outcome (List TypedMember)
typed_field setting known here name before kind =
    obeys (is_complete known kind) 5 here
    (obeys (not (is_named (name_of setting name) before)) 6 (unwrap_or name here)
    (given known (before ++ record { name = name_of setting name; kind = kind } ∷ [])))

-- C3: specifiers name a type
abbrev pub typed_said : Known → Where → ℕ → Said → Outcome CType
typed_said known stands here said =
    if_given (type_said said) 3 here (λ type. obeys (are_allowed stands said) 3 here (given known (with_said_const said.const type)))

-- a type name, and the trees in it
pub record TypedName : Type 0 where
  pub kind : CType
  pub constants : List Tree

-- the trees of a type name are a list of their own
abbrev pub name_ended : List Tree → Outcome CType → Outcome TypedName
name_ended constants (given known kind) = given (record known { constants = constants }) (record { kind = kind; constants = known.constants })
name_ended constants (broken rule at) = broken rule at

-- ---- the syntax

-- where a piece of syntax stands that has so much with all parentheses round it
abbrev pub extent : Span → Span → Extent
extent inner outer = record { inner = inner; outer = outer }

unfoldable mutual
  -- 6.5, where the span with all parentheses round the expression is given
  pub typed_within : Setting → Bool → Known → Span → Expr → Outcome Tree
  typed_within setting used known outer (tree.name span) =
      named setting used known (extent span outer) (spelling_at setting.source span.first) (meaning_of known (spelling_at setting.source span.first))
  typed_within setting used known outer (tree.constant span) = given known (constant_tree setting (extent span outer) (slice_get setting.source.tokens span.first))
  typed_within setting used known outer (tree.literal span) = given known (literal_tree setting (extent span outer) (spelling_at setting.source span.first))
  typed_within setting used known outer (tree.paren span inner) = typed_within setting used known outer inner
  typed_within setting used known outer (tree.index span a b) =
      after (typed_within setting used known (expr_span a) a) (λ then_known first. after (typed_within setting used then_known (expr_span b) b)
      (λ behind second. typed_index setting behind (extent span outer) (as_value first) (as_value second)))
  typed_within setting used known outer (tree.call span callee arguments) =
      after (typed_within setting used known (expr_span callee) callee) (λ then_known first. after (typed_values setting used then_known arguments)
      (λ behind values. typed_call setting behind (extent span outer) callee first values))
  typed_within setting used known outer (tree.member span whole name) =
      after (typed_within setting used known (expr_span whole) whole) (λ behind made. typed_member setting behind (extent span outer) name made)
  typed_within setting used known outer (tree.arrow span operand name) =
      after (typed_within setting used known (expr_span operand) operand) (λ behind made. typed_arrow setting behind (extent span outer) name (as_value made))
  typed_within setting used known outer (tree.postfix span operand operator) =
      after (typed_within setting used known (expr_span operand) operand) (λ behind made. typed_count setting behind (extent span outer) operator false made)
  typed_within setting used known outer (tree.prefix span operator operand) =
      after (typed_within setting used known (expr_span operand) operand)
      (λ behind made. typed_prefix setting behind (extent span outer) operator made (symbol_at setting.source operator))
  typed_within setting used known outer (tree.sizeof_expr span operand) =
      after (typed_within setting false known (expr_span operand) operand) (λ behind made. typed_sizeof setting behind (extent span outer) made)
  typed_within setting used known outer (tree.sizeof_name span name) =
      after (typed_name setting false known name) (λ behind named. typed_sizeof_name setting behind (extent span outer) named.kind named.constants)
  typed_within setting used known outer (tree.cast span name operand) =
      after (typed_name setting used known name) (λ then_known named. after (typed_within setting used then_known (expr_span operand) operand)
      (λ behind made. typed_cast setting behind (extent span outer) (bare named.kind) named.constants (as_value made)))
  typed_within setting used known outer (tree.binary span a operator b) =
      after (typed_within setting used known (expr_span a) a) (λ then_known first. after (typed_within setting used then_known (expr_span b) b)
      (λ behind second. typed_binary setting behind (extent span outer) operator (as_value first) (as_value second) (symbol_at setting.source operator)))
  typed_within setting used known outer (tree.conditional span a b c) =
      after (typed_within setting used known (expr_span a) a) (λ then_known first. after (typed_within setting used then_known (expr_span b) b)
      (λ then_more second. after (typed_within setting used then_more (expr_span c) c)
      (λ behind third. typed_choice setting behind (extent span outer) (as_value first) (as_value second) (as_value third))))
  typed_within setting used known outer (tree.assign span object operator value) =
      after (typed_within setting used known (expr_span object) object) (λ then_known first. after (typed_within setting used then_known (expr_span value) value)
      (λ behind second. typed_assignment setting behind (extent span outer) operator first (as_value second) (symbol_at setting.source operator)))
  typed_within setting used known outer (tree.comma span parts) =
      after (typed_values setting used known parts)
      (λ behind values. if_given (comma_of setting (extent span outer) values) 1 span.first (λ made. given behind made))

  -- the values of expressions, from left to right
  pub typed_values : Setting → Bool → Known → Exprs → Outcome (List Tree)
  typed_values setting used known tree.no_exprs = given known []
  typed_values setting used known (tree.more_exprs first others) =
      after (typed_within setting used known (expr_span first) first) (λ then_known made. after (typed_values setting used then_known others)
      (λ behind values. given behind (as_value made ∷ values)))

  -- 6.7.7
  pub typed_name : Setting → Bool → Known → TypeName → Outcome TypedName
  typed_name setting used known (tree.type_name span specifiers declarator) =
      name_ended known.constants
      (after (typed_specifiers setting used elsewhere false (record known { constants = [] }) specifiers) (λ then_known base.
      after (steps_of setting used then_known declarator) (λ behind steps. derived behind base steps)))

  -- 6.7. `alone` says that a declaration has nothing but these specifiers
  pub typed_specifiers : Setting → Bool → Where → Bool → Known → Specifiers → Outcome CType
  typed_specifiers setting used stands alone known (tree.listed span words) =
      after (words_said setting used alone known nothing_said words) (λ behind said. typed_said behind stands span.first said)

  pub words_said : Setting → Bool → Bool → Known → Said → Words → Outcome Said
  words_said setting used alone known said tree.no_words = given known said
  words_said setting used alone known said (tree.more_words first others) =
      after (word_said setting used alone known said first) (λ behind so_far. words_said setting used alone behind so_far others)

  pub word_said : Setting → Bool → Bool → Known → Said → Specifier → Outcome Said
  word_said setting used alone known said (tree.keyword at) = given known (with_word (unwrap_or (keyword_at setting.source at) 0) said)
  word_said setting used alone known said (tree.typedef_name at) =
      if_given (meaning_of known (spelling_at setting.source at)) 1 at (λ (entry : Declaration). given known (with_type entry.kind said))
  word_said setting used alone known said (tree.struct_only span tag) =
      with_it (struct_named setting known span tag (if alone then tag_inside setting known tag else tag_seen setting known tag)) (λ behind type. with_type type said)
  word_said setting used alone known said (tree.struct_with span tag members) =
      with_it
      (after (fields_of setting used (beginning (with_new_struct setting known tag (tag_inside setting known tag)) (struct_begun known (tag_inside setting known tag))) [] members)
      (λ behind typed_members. struct_ended behind span (struct_begun known (tag_inside setting known tag)) known.begun typed_members))
      (λ behind type. with_type type said)
  word_said setting used alone known said (tree.enum_only span tag trailing) =
      with_it (enum_named known span (tag_seen setting known tag)) (λ behind type. with_type type said)
  word_said setting used alone known said (tree.enum_with span tag enumerators trailing) =
      with_it
      (after (enumerators_of setting used (if is_some (tag_inside setting known tag) then known else tag_declared setting known tag (integer k.Int)) (negsuc 0) enumerators)
      (λ behind last. obeys (not (is_some (tag_inside setting known tag))) 4 span.first (given behind (integer k.Int))))
      (λ behind type. with_type type said)

  -- 6.7.2.1
  pub fields_of : Setting → Bool → Known → List TypedMember → Members → Outcome (List TypedMember)
  fields_of setting used known before tree.no_members = given known before
  fields_of setting used known before (tree.more_members first others) =
      after (fields_declared setting used known before first) (λ behind so_far. fields_of setting used behind so_far others)

  pub fields_declared : Setting → Bool → Known → List TypedMember → Member → Outcome (List TypedMember)
  fields_declared setting used known before (tree.members span specifiers declarators) =
      after (typed_specifiers setting used elsewhere false known specifiers) (λ behind base. fields_with setting used behind base before declarators)

  pub fields_with : Setting → Bool → Known → CType → List TypedMember → Declarators → Outcome (List TypedMember)
  fields_with setting used known base before tree.no_declarators = given known before
  fields_with setting used known base before (tree.more_declarators first others) =
      after (steps_of setting used known first) (λ then_known steps. after (derived then_known base steps) (λ then_more type.
      after (typed_field setting then_more (declarator_span first).first (declarator_name first) before type)
      (λ behind so_far. fields_with setting used behind base so_far others)))

  -- 6.7.2.2: an enumerator without a value has one more than the one before
  pub enumerators_of : Setting → Bool → Known → ℤ → Enumerators → Outcome ℤ
  enumerators_of setting used known last tree.no_enumerators = given known last
  enumerators_of setting used known last (tree.more_enumerators first others) =
      after (enumerator_of setting used known last first) (λ behind value. enumerators_of setting used behind value others)

  pub enumerator_of : Setting → Bool → Known → ℤ → Enumerator → Outcome ℤ
  enumerator_of setting used known last (tree.bare span at) = enumerator_declared setting known at (last +ℤ pos 1)
  enumerator_of setting used known last (tree.valued span at value) =
      after (typed_within setting used known (expr_span value) value) (λ behind made. enumerator_valued setting behind at (expr_span value).first (as_value made))

  -- 6.7.6: the steps that a declarator takes, in the order in which they apply; what stands in it is typed from left to right
  pub steps_of : Setting → Bool → Known → Declarator → Outcome (List Step)
  steps_of setting used known (tree.shaped span consts direct) =
      with_it (direct_steps setting used known (direct_at span.first consts) direct) (λ behind steps. pointers span.first consts ++ steps)

  pub direct_steps : Setting → Bool → Known → ℕ → Direct → Outcome (List Step)
  direct_steps setting used known here tree.absent = given known []
  direct_steps setting used known here (tree.declared at) = given known []
  direct_steps setting used known here (tree.enclosed declarator) = steps_of setting used known declarator
  direct_steps setting used known here (tree.array direct) =
      with_it (direct_steps setting used known here direct) (λ behind steps. arraying here None ∷ steps)
  direct_steps setting used known here (tree.sized direct value) =
      after (direct_steps setting used known here direct) (λ then_known steps. after (typed_within setting used then_known (expr_span value) value) (λ then_more made.
      with_it (length_of then_more (expr_span value).first (as_value made)) (λ behind n. arraying here (Some n) ∷ steps)))
  direct_steps setting used known here (tree.function direct parameters) =
      after (direct_steps setting used known here direct) (λ then_known steps.
      with_it (left then_known.scopes (parameters_of setting used (entered then_known) parameters)) (λ behind typed_ones. calling here (without_void typed_ones) ∷ steps))

  -- 6.7.6.3
  pub parameters_of : Setting → Bool → Known → Parameters → Outcome (List TypedParameter)
  parameters_of setting used known tree.no_parameters = given known []
  parameters_of setting used known (tree.more_parameters first others) =
      after (parameter_of setting used known first) (λ then_known made. with_it (parameters_of setting used then_known others) (λ behind rest. made ∷ rest))

  pub parameter_of : Setting → Bool → Known → Parameter → Outcome TypedParameter
  parameter_of setting used known (tree.parameter span specifiers declarator) =
      after (typed_specifiers setting used elsewhere false known specifiers) (λ then_known base. after (steps_of setting used then_known declarator) (λ then_more steps.
      after (derived then_more base steps) (λ behind type. typed_parameter setting behind (parameter_at span declarator) type (declarator_name declarator))))

-- the typed tree of an expression that stands alone
abbrev pub typed : Setting → Bool → Known → Expr → Outcome Tree
typed setting used known expr = typed_within setting used known (expr_span expr) expr

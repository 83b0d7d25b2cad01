-- The declarations that a tree puts into the scope in which it stands, the latest first (6.2.1): enumerators also within type names,
-- and the names of parameters within their list.
use Rattle.std.specs.Prelude.{ℕ, Bool, true, false, ◌||◌, List, [], ◌∷◌, ◌++◌, Option, Some, None}
use Rattle.dm_syn.specs.declared.declared.Declared.{Declared}
use Rattle.dm_syn.specs.declared.symbol.Symbol.{Symbol}
use Rattle.dm_syn.specs.declared.symbol.Symbol.TheVariants as symbol
use Rattle.dm_syn.specs.Sources.{Source, symbol_at, spelling_at}
use Rattle.dm_syn.specs.Trees.{Expr, Exprs, TypeName, Specifiers, Words, Specifier, Members, Member, Declarators, Enumerators, Enumerator, Declarator, Direct, Parameters, Parameter, Initialiser, Initialisers, Item, Declaration, ForStart, Stmt, BlockItem, SwitchItem, External}
use Rattle.dm_syn.specs.Trees as tree

-- the identifier that a declarator declares
abbrev mutual
  pub declarator_name : Declarator → Option ℕ
  declarator_name (tree.shaped span pointers direct) = direct_name direct

  pub direct_name : Direct → Option ℕ
  direct_name tree.absent = None
  direct_name (tree.declared name) = Some name
  direct_name (tree.enclosed declarator) = declarator_name declarator
  direct_name (tree.array direct) = direct_name direct
  direct_name (tree.sized direct length) = direct_name direct
  direct_name (tree.function direct _) = direct_name direct

-- the declaration of a name, if there is one
abbrev pub declaration_of : Source → Bool → Option ℕ → List Declared
declaration_of source is_type None = []
declaration_of source is_type (Some name) = record { name = spelling_at source name; is_type = is_type } ∷ []

unfoldable mutual
  pub expr_declares : Source → Expr → List Declared
  expr_declares source (tree.name span) = []
  expr_declares source (tree.constant span) = []
  expr_declares source (tree.literal span) = []
  expr_declares source (tree.paren span inner) = expr_declares source inner
  expr_declares source (tree.index span left right) = expr_declares source right ++ expr_declares source left
  expr_declares source (tree.call span callee arguments) = exprs_declares source arguments ++ expr_declares source callee
  expr_declares source (tree.member span left name) = expr_declares source left
  expr_declares source (tree.arrow span left name) = expr_declares source left
  expr_declares source (tree.postfix span left operator) = expr_declares source left
  expr_declares source (tree.prefix span operator operand) = expr_declares source operand
  expr_declares source (tree.sizeof_expr span operand) = expr_declares source operand
  expr_declares source (tree.sizeof_name span name) = type_name_declares source name
  expr_declares source (tree.cast span name operand) = expr_declares source operand ++ type_name_declares source name
  expr_declares source (tree.binary span left operator right) = expr_declares source right ++ expr_declares source left
  expr_declares source (tree.conditional span first second third) = expr_declares source third ++ (expr_declares source second ++ expr_declares source first)
  expr_declares source (tree.assign span left operator right) = expr_declares source right ++ expr_declares source left
  expr_declares source (tree.comma span parts) = exprs_declares source parts

  pub exprs_declares : Source → Exprs → List Declared
  exprs_declares source tree.no_exprs = []
  exprs_declares source (tree.more_exprs first others) = exprs_declares source others ++ expr_declares source first

  pub type_name_declares : Source → TypeName → List Declared
  type_name_declares source (tree.type_name span specifiers declarator) = declarator_declares source declarator ++ specifiers_declares source specifiers

  pub specifiers_declares : Source → Specifiers → List Declared
  specifiers_declares source (tree.listed span words) = words_declares source words

  pub words_declares : Source → Words → List Declared
  words_declares source tree.no_words = []
  words_declares source (tree.more_words first others) = words_declares source others ++ specifier_declares source first

  pub specifier_declares : Source → Specifier → List Declared
  specifier_declares source (tree.keyword at) = []
  specifier_declares source (tree.typedef_name at) = []
  specifier_declares source (tree.struct_only span tag) = []
  specifier_declares source (tree.struct_with span tag members) = members_declares source members
  specifier_declares source (tree.enum_only span tag trailing) = []
  specifier_declares source (tree.enum_with span tag enumerators trailing) = enumerators_declares source enumerators

  pub members_declares : Source → Members → List Declared
  members_declares source tree.no_members = []
  members_declares source (tree.more_members first others) = members_declares source others ++ member_declares source first

  pub member_declares : Source → Member → List Declared
  member_declares source (tree.members span specifiers declarators) = declarators_declares source declarators ++ specifiers_declares source specifiers

  pub declarators_declares : Source → Declarators → List Declared
  declarators_declares source tree.no_declarators = []
  declarators_declares source (tree.more_declarators first others) = declarators_declares source others ++ declarator_declares source first

  pub enumerators_declares : Source → Enumerators → List Declared
  enumerators_declares source tree.no_enumerators = []
  enumerators_declares source (tree.more_enumerators first others) = enumerators_declares source others ++ enumerator_declares source first

  -- an enumerator counts from behind its value on
  pub enumerator_declares : Source → Enumerator → List Declared
  enumerator_declares source (tree.bare span name) = declaration_of source false (Some name)
  enumerator_declares source (tree.valued span name value) = declaration_of source false (Some name) ++ expr_declares source value

  pub declarator_declares : Source → Declarator → List Declared
  declarator_declares source (tree.shaped span pointers direct) = direct_declares source direct

  -- the scope of parameters ends with their list
  pub direct_declares : Source → Direct → List Declared
  direct_declares source tree.absent = []
  direct_declares source (tree.declared name) = []
  direct_declares source (tree.enclosed declarator) = declarator_declares source declarator
  direct_declares source (tree.array direct) = direct_declares source direct
  direct_declares source (tree.sized direct length) = expr_declares source length ++ direct_declares source direct
  direct_declares source (tree.function direct _) = direct_declares source direct

-- a parameter counts from behind its declarator on, until the list ends
abbrev pub parameter_declares : Source → Parameter → List Declared
parameter_declares source (tree.parameter span specifiers declarator) =
    declaration_of source false (declarator_name declarator) ++ (declarator_declares source declarator ++ specifiers_declares source specifiers)

abbrev pub parameters_declares : Source → Parameters → List Declared
parameters_declares source tree.no_parameters = []
parameters_declares source (tree.more_parameters first others) = parameters_declares source others ++ parameter_declares source first

unfoldable mutual
  pub initialiser_declares : Source → Initialiser → List Declared
  initialiser_declares source (tree.value span expr) = expr_declares source expr
  initialiser_declares source (tree.braces span items trailing) = initialisers_declares source items

  pub initialisers_declares : Source → Initialisers → List Declared
  initialisers_declares source tree.no_initialisers = []
  initialisers_declares source (tree.more_initialisers first others) = initialisers_declares source others ++ initialiser_declares source first

-- what a declarator declares, where its specifiers have `typedef` or not
abbrev pub named_declares : Source → Bool → Declarator → List Declared
named_declares source is_type declarator = declaration_of source is_type (declarator_name declarator) ++ declarator_declares source declarator

-- a declared name counts from behind its declarator on, and so within its initialiser
unfoldable pub item_declares : Source → Bool → Item → List Declared
item_declares source is_type (tree.plain span declarator) = named_declares source is_type declarator
item_declares source is_type (tree.initialised span declarator initialiser) = initialiser_declares source initialiser ++ named_declares source is_type declarator

unfoldable pub items_declares : Source → Bool → List Item → List Declared
items_declares source is_type [] = []
items_declares source is_type (first ∷ others) = items_declares source is_type others ++ item_declares source is_type first

-- whether `typedef` stands among specifiers
abbrev pub is_typedef_symbol : Symbol → Bool
is_typedef_symbol symbol.Typedef = true
is_typedef_symbol _ = false

abbrev pub has_typedef : Source → Words → Bool
has_typedef source tree.no_words = false
has_typedef source (tree.more_words (tree.keyword at) others) = is_typedef_symbol (symbol_at source at) || has_typedef source others
has_typedef source (tree.more_words _ others) = has_typedef source others

abbrev pub defines_types : Source → Specifiers → Bool
defines_types source (tree.listed span words) = has_typedef source words

unfoldable pub declaration_declares : Source → Declaration → List Declared
declaration_declares source (tree.declaring span specifiers items) =
    items_declares source (defines_types source specifiers) items ++ specifiers_declares source specifiers

abbrev pub optional_declares : Source → Option Expr → List Declared
optional_declares source None = []
optional_declares source (Some expr) = expr_declares source expr

abbrev pub start_declares : Source → ForStart → List Declared
start_declares source (tree.declares declaration) = declaration_declares source declaration
start_declares source (tree.evaluates expr) = optional_declares source expr

-- a block, a selection and an iteration statement are scopes of their own (6.8.2, 6.8.4, 6.8.5)
unfoldable pub stmt_declares : Source → Stmt → List Declared
stmt_declares source (tree.expression span expr) = optional_declares source expr
stmt_declares source (tree.return span expr) = optional_declares source expr
stmt_declares source _ = []

unfoldable pub block_item_declares : Source → BlockItem → List Declared
block_item_declares source (tree.declared_item declaration) = declaration_declares source declaration
block_item_declares source (tree.stated_item stmt) = stmt_declares source stmt

unfoldable pub switch_item_declares : Source → SwitchItem → List Declared
switch_item_declares source (tree.case span label item) = switch_item_declares source item ++ expr_declares source label
switch_item_declares source (tree.default span item) = switch_item_declares source item
switch_item_declares source (tree.unlabelled span stmt) = stmt_declares source stmt

-- what an external declaration declares in file scope
unfoldable pub external_declares : Source → External → List Declared
external_declares source (tree.external span declaration) = declaration_declares source declaration
external_declares source (tree.definition span specifiers declarator body) =
    named_declares source (defines_types source specifiers) declarator ++ specifiers_declares source specifiers

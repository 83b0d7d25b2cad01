-- The height of a tree. A token alone has the height 1, and a node 1 more than the highest of its parts. A list is no node beside what
-- holds it, so its items are parts of that. Where an alternative has one part and no token of its own, it is no node: specifiers
-- that are one, a declarator without pointers, a type name without a declarator, an initialiser that is an expression.
use Rattle.std.specs.Prelude.{ℕ, ◌+◌, List, [], ◌∷◌, Option, Some, None, max, Bool, true, false, if◌then◌else◌}
use Rattle.dm_syn.specs.Trees.{Expr, Exprs, TypeName, Specifiers, Words, Specifier, Members, Member, Declarators, Enumerators, Enumerator, Declarator, Direct, Parameters, Parameter, Initialiser, Initialisers, Item, Declaration, ForStart, Stmt, BlockItems, BlockItem, SwitchItems, SwitchItem, External}
use Rattle.dm_syn.specs.Trees as tree

-- one more than the highest of two parts
abbrev pub above : ℕ → ℕ → ℕ
above left right = max left right + 1

-- of specifiers, the highest of which has this height: one alone is no node
abbrev pub words_node : Words → ℕ → ℕ
words_node tree.no_words height = 0
words_node (tree.more_words first tree.no_words) height = height
words_node (tree.more_words first (tree.more_words second others)) height = height + 1

-- with pointers, or without
abbrev pub pointers_node : List ℕ → ℕ → ℕ
pointers_node [] direct = direct
pointers_node (pointer ∷ pointers) direct = direct + 1

-- whether nothing stands behind the pointers of a declarator
abbrev pub is_nothing : Direct → Bool
is_nothing tree.absent = true
is_nothing _ = false

-- whether a declarator is empty
abbrev pub is_absent : Declarator → Bool
is_absent (tree.shaped span [] direct) = is_nothing direct
is_absent (tree.shaped span (pointer ∷ pointers) direct) = false

-- of specifiers with a declarator, which may be empty
abbrev pub named_node : ℕ → Declarator → ℕ → ℕ
named_node specifiers declarator height = if is_absent declarator then specifiers else above specifiers height

unfoldable mutual
  pub expr_height : Expr → ℕ
  expr_height (tree.name span) = 1
  expr_height (tree.constant span) = 1
  expr_height (tree.literal span) = 1
  expr_height (tree.paren span inner) = expr_height inner + 1
  expr_height (tree.index span left right) = above (expr_height left) (expr_height right)
  expr_height (tree.call span callee arguments) = above (expr_height callee) (exprs_height arguments)
  expr_height (tree.member span left name) = expr_height left + 1
  expr_height (tree.arrow span left name) = expr_height left + 1
  expr_height (tree.postfix span left operator) = expr_height left + 1
  expr_height (tree.prefix span operator operand) = expr_height operand + 1
  expr_height (tree.sizeof_expr span operand) = expr_height operand + 1
  expr_height (tree.sizeof_name span name) = type_name_height name + 1
  expr_height (tree.cast span name operand) = above (type_name_height name) (expr_height operand)
  expr_height (tree.binary span left operator right) = above (expr_height left) (expr_height right)
  expr_height (tree.conditional span first second third) = above (expr_height first) (max (expr_height second) (expr_height third))
  expr_height (tree.assign span left operator right) = above (expr_height left) (expr_height right)
  expr_height (tree.comma span parts) = exprs_height parts + 1

  -- of lists, the height of the highest item
  pub exprs_height : Exprs → ℕ
  exprs_height tree.no_exprs = 0
  exprs_height (tree.more_exprs first others) = max (expr_height first) (exprs_height others)

  pub type_name_height : TypeName → ℕ
  type_name_height (tree.type_name span specifiers declarator) = named_node (specifiers_height specifiers) declarator (declarator_height declarator)

  pub specifiers_height : Specifiers → ℕ
  specifiers_height (tree.listed span words) = words_node words (highest_word words)

  pub highest_word : Words → ℕ
  highest_word tree.no_words = 0
  highest_word (tree.more_words first others) = max (specifier_height first) (highest_word others)

  pub specifier_height : Specifier → ℕ
  specifier_height (tree.keyword at) = 1
  specifier_height (tree.typedef_name at) = 1
  specifier_height (tree.struct_only span tag) = 1
  specifier_height (tree.struct_with span tag members) = members_height members + 1
  specifier_height (tree.enum_only span tag trailing) = 1
  specifier_height (tree.enum_with span tag enumerators trailing) = enumerators_height enumerators + 1

  pub members_height : Members → ℕ
  members_height tree.no_members = 0
  members_height (tree.more_members first others) = max (member_height first) (members_height others)

  pub member_height : Member → ℕ
  member_height (tree.members span specifiers declarators) = above (specifiers_height specifiers) (declarators_height declarators)

  pub declarators_height : Declarators → ℕ
  declarators_height tree.no_declarators = 0
  declarators_height (tree.more_declarators first others) = max (declarator_height first) (declarators_height others)

  pub enumerators_height : Enumerators → ℕ
  enumerators_height tree.no_enumerators = 0
  enumerators_height (tree.more_enumerators first others) = max (enumerator_height first) (enumerators_height others)

  pub enumerator_height : Enumerator → ℕ
  enumerator_height (tree.bare span name) = 1
  enumerator_height (tree.valued span name value) = above 1 (expr_height value)

  pub declarator_height : Declarator → ℕ
  declarator_height (tree.shaped span pointers direct) = pointers_node pointers (direct_height direct)

  pub direct_height : Direct → ℕ
  direct_height tree.absent = 0
  direct_height (tree.declared name) = 1
  direct_height (tree.enclosed declarator) = declarator_height declarator + 1
  direct_height (tree.array direct) = direct_height direct + 1
  direct_height (tree.sized direct length) = above (direct_height direct) (expr_height length)
  direct_height (tree.function direct parameters) = above (direct_height direct) (parameters_height parameters)

  pub parameters_height : Parameters → ℕ
  parameters_height tree.no_parameters = 0
  parameters_height (tree.more_parameters first others) = max (parameter_height first) (parameters_height others)

  pub parameter_height : Parameter → ℕ
  parameter_height (tree.parameter span specifiers declarator) = named_node (specifiers_height specifiers) declarator (declarator_height declarator)

unfoldable mutual
  pub initialiser_height : Initialiser → ℕ
  initialiser_height (tree.value span expr) = expr_height expr
  initialiser_height (tree.braces span items trailing) = initialisers_height items + 1

  pub initialisers_height : Initialisers → ℕ
  initialisers_height tree.no_initialisers = 0
  initialisers_height (tree.more_initialisers first others) = max (initialiser_height first) (initialisers_height others)

-- a declarator with its initialiser is no node
unfoldable pub item_height : Item → ℕ
item_height (tree.plain span declarator) = declarator_height declarator
item_height (tree.initialised span declarator initialiser) = max (declarator_height declarator) (initialiser_height initialiser)

unfoldable pub items_height : List Item → ℕ
items_height [] = 0
items_height (first ∷ others) = max (item_height first) (items_height others)

unfoldable pub declaration_height : Declaration → ℕ
declaration_height (tree.declaring span specifiers items) = above (specifiers_height specifiers) (items_height items)

-- of a part that may be absent
abbrev pub optional_height : Option Expr → ℕ
optional_height None = 0
optional_height (Some expr) = expr_height expr

abbrev pub start_height : ForStart → ℕ
start_height (tree.declares declaration) = declaration_height declaration
start_height (tree.evaluates expr) = optional_height expr

unfoldable mutual
  pub stmt_height : Stmt → ℕ
  stmt_height (tree.block span items) = block_items_height items + 1
  stmt_height (tree.expression span expr) = optional_height expr + 1
  stmt_height (tree.if_only span condition body) = above (expr_height condition) (stmt_height body)
  stmt_height (tree.if_else span condition body other) = above (expr_height condition) (max (stmt_height body) (stmt_height other))
  -- the braces with the items are a node of their own
  stmt_height (tree.switch span subject items) = above (expr_height subject) (switch_items_height items + 1)
  stmt_height (tree.while span condition body) = above (expr_height condition) (stmt_height body)
  stmt_height (tree.do_while span body condition) = above (stmt_height body) (expr_height condition)
  stmt_height (tree.for_loop span start condition step body) =
      above (max (start_height start) (optional_height condition)) (max (optional_height step) (stmt_height body))
  stmt_height (tree.break span) = 1
  stmt_height (tree.continue span) = 1
  stmt_height (tree.return span expr) = optional_height expr + 1

  pub block_items_height : BlockItems → ℕ
  block_items_height tree.no_items = 0
  block_items_height (tree.more_items first others) = max (block_item_height first) (block_items_height others)

  pub block_item_height : BlockItem → ℕ
  block_item_height (tree.declared_item declaration) = declaration_height declaration
  block_item_height (tree.stated_item stmt) = stmt_height stmt

  pub switch_items_height : SwitchItems → ℕ
  switch_items_height tree.no_switch_items = 0
  switch_items_height (tree.more_switch_items first others) = max (switch_item_height first) (switch_items_height others)

  pub switch_item_height : SwitchItem → ℕ
  switch_item_height (tree.case span label item) = above (expr_height label) (switch_item_height item)
  switch_item_height (tree.default span item) = switch_item_height item + 1
  switch_item_height (tree.unlabelled span stmt) = stmt_height stmt

-- the height of an external declaration
unfoldable pub height_of : External → ℕ
height_of (tree.external span declaration) = declaration_height declaration
height_of (tree.definition span specifiers declarator body) = above (specifiers_height specifiers) (max (declarator_height declarator) (stmt_height body))

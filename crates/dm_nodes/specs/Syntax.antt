-- Where the nodes of a piece of syntax stand that are typed, in the order of the source: each expression with its tokens without and with all
-- parentheses round it, each statement with its tokens, and so each declaration in a block.
use Rattle.std.specs.Prelude.{List, [], ◌∷◌, ◌++◌, Option, None, Some}
use Rattle.dm_token.specs.declared.place.Span.{Span}
use Rattle.dm_syn.specs.Spans.{expr_span, declaration_span}
use Rattle.dm_syn.specs.Trees.{Expr, Exprs, TypeName, Specifiers, Words, Specifier, Members, Member, Declarators, Enumerators, Enumerator, Declarator, Direct, Parameters, Parameter, Initialiser, Initialisers, Item, Declaration, ForStart, Stmt, BlockItems, BlockItem, SwitchItems, SwitchItem, External}
use Rattle.dm_syn.specs.Trees as tree
use Rattle.dm_typing.specs.declared.extent.Extent.{Extent}
use Rattle.dm_typing.specs.Typing.{extent}

abbrev mutual
  -- an expression, where the span with all parentheses round it is given (6.5)
  pub in_expr : Span → Expr → List Extent
  in_expr outer (tree.name span) = extent span outer ∷ []
  in_expr outer (tree.constant span) = extent span outer ∷ []
  in_expr outer (tree.literal span) = extent span outer ∷ []
  in_expr outer (tree.paren span inner) = in_expr outer inner
  in_expr outer (tree.index span a b) = extent span outer ∷ (in_expr (expr_span a) a ++ in_expr (expr_span b) b)
  in_expr outer (tree.call span callee arguments) = extent span outer ∷ (in_expr (expr_span callee) callee ++ in_exprs arguments)
  in_expr outer (tree.member span whole name) = extent span outer ∷ in_expr (expr_span whole) whole
  in_expr outer (tree.arrow span operand name) = extent span outer ∷ in_expr (expr_span operand) operand
  in_expr outer (tree.postfix span operand operator) = extent span outer ∷ in_expr (expr_span operand) operand
  in_expr outer (tree.prefix span operator operand) = extent span outer ∷ in_expr (expr_span operand) operand
  in_expr outer (tree.sizeof_expr span operand) = extent span outer ∷ in_expr (expr_span operand) operand
  in_expr outer (tree.sizeof_name span name) = extent span outer ∷ in_name name
  in_expr outer (tree.cast span name operand) = extent span outer ∷ (in_name name ++ in_expr (expr_span operand) operand)
  in_expr outer (tree.binary span a operator b) = extent span outer ∷ (in_expr (expr_span a) a ++ in_expr (expr_span b) b)
  in_expr outer (tree.conditional span a b c) = extent span outer ∷ (in_expr (expr_span a) a ++ (in_expr (expr_span b) b ++ in_expr (expr_span c) c))
  in_expr outer (tree.assign span object operator value) = extent span outer ∷ (in_expr (expr_span object) object ++ in_expr (expr_span value) value)
  in_expr outer (tree.comma span parts) = extent span outer ∷ in_exprs parts

  pub in_exprs : Exprs → List Extent
  in_exprs tree.no_exprs = []
  in_exprs (tree.more_exprs first others) = in_expr (expr_span first) first ++ in_exprs others

  -- a type name (6.7.7)
  pub in_name : TypeName → List Extent
  in_name (tree.type_name span specifiers declarator) = in_specifiers specifiers ++ in_declarator declarator

  -- specifiers (6.7)
  pub in_specifiers : Specifiers → List Extent
  in_specifiers (tree.listed span words) = in_words words

  pub in_words : Words → List Extent
  in_words tree.no_words = []
  in_words (tree.more_words first others) = in_specifier first ++ in_words others

  pub in_specifier : Specifier → List Extent
  in_specifier (tree.keyword at) = []
  in_specifier (tree.typedef_name at) = []
  in_specifier (tree.struct_only span tag) = []
  in_specifier (tree.struct_with span tag members) = in_members members
  in_specifier (tree.enum_only span tag trailing) = []
  in_specifier (tree.enum_with span tag enumerators trailing) = in_enumerators enumerators

  -- the members of a struct (6.7.2.1)
  pub in_members : Members → List Extent
  in_members tree.no_members = []
  in_members (tree.more_members first others) = in_member first ++ in_members others

  pub in_member : Member → List Extent
  in_member (tree.members span specifiers declarators) = in_specifiers specifiers ++ in_declarators declarators

  pub in_declarators : Declarators → List Extent
  in_declarators tree.no_declarators = []
  in_declarators (tree.more_declarators first others) = in_declarator first ++ in_declarators others

  -- enumerators (6.7.2.2)
  pub in_enumerators : Enumerators → List Extent
  in_enumerators tree.no_enumerators = []
  in_enumerators (tree.more_enumerators first others) = in_enumerator first ++ in_enumerators others

  pub in_enumerator : Enumerator → List Extent
  in_enumerator (tree.bare span at) = []
  in_enumerator (tree.valued span at value) = in_expr (expr_span value) value

  -- a declarator (6.7.6)
  pub in_declarator : Declarator → List Extent
  in_declarator (tree.shaped span consts direct) = in_direct direct

  pub in_direct : Direct → List Extent
  in_direct tree.absent = []
  in_direct (tree.declared at) = []
  in_direct (tree.enclosed declarator) = in_declarator declarator
  in_direct (tree.array direct) = in_direct direct
  in_direct (tree.sized direct value) = in_direct direct ++ in_expr (expr_span value) value
  in_direct (tree.function direct parameters) = in_direct direct ++ in_parameters parameters

  pub in_parameters : Parameters → List Extent
  in_parameters tree.no_parameters = []
  in_parameters (tree.more_parameters first others) = in_parameter first ++ in_parameters others

  pub in_parameter : Parameter → List Extent
  in_parameter (tree.parameter span specifiers declarator) = in_specifiers specifiers ++ in_declarator declarator

abbrev mutual
  -- an initialiser (6.7.9)
  pub in_initialiser : Initialiser → List Extent
  in_initialiser (tree.value span expr) = in_expr (expr_span expr) expr
  in_initialiser (tree.braces span items trailing) = in_initialisers items

  pub in_initialisers : Initialisers → List Extent
  in_initialisers tree.no_initialisers = []
  in_initialisers (tree.more_initialisers first others) = in_initialiser first ++ in_initialisers others

-- a declaration (6.7)
abbrev pub in_item : Item → List Extent
in_item (tree.plain span declarator) = in_declarator declarator
in_item (tree.initialised span declarator initialiser) = in_declarator declarator ++ in_initialiser initialiser

abbrev pub in_items : List Item → List Extent
in_items [] = []
in_items (first ∷ others) = in_item first ++ in_items others

abbrev pub in_declaration : Declaration → List Extent
in_declaration (tree.declaring span specifiers items) = in_specifiers specifiers ++ in_items items

-- one that stands in a block or in a `for` has a node of its own
abbrev pub in_declared : Declaration → List Extent
in_declared declaration = extent (declaration_span declaration) (declaration_span declaration) ∷ in_declaration declaration

abbrev pub in_whole : Expr → List Extent
in_whole expr = in_expr (expr_span expr) expr

abbrev pub in_optional : Option Expr → List Extent
in_optional None = []
in_optional (Some expr) = in_whole expr

abbrev pub in_start : ForStart → List Extent
in_start (tree.declares declaration) = in_declared declaration
in_start (tree.evaluates expr) = in_optional expr

abbrev mutual
  -- a statement (6.8)
  pub in_stmt : Stmt → List Extent
  in_stmt (tree.block span items) = extent span span ∷ in_block items
  in_stmt (tree.expression span expr) = extent span span ∷ in_optional expr
  in_stmt (tree.if_only span condition body) = extent span span ∷ (in_whole condition ++ in_stmt body)
  in_stmt (tree.if_else span condition body other) = extent span span ∷ (in_whole condition ++ (in_stmt body ++ in_stmt other))
  in_stmt (tree.switch span operand items) = extent span span ∷ (in_whole operand ++ in_switch items)
  in_stmt (tree.while span condition body) = extent span span ∷ (in_whole condition ++ in_stmt body)
  in_stmt (tree.do_while span body condition) = extent span span ∷ (in_stmt body ++ in_whole condition)
  in_stmt (tree.for_loop span start condition step body) =
      extent span span ∷ (in_start start ++ (in_optional condition ++ (in_optional step ++ in_stmt body)))
  in_stmt (tree.break span) = extent span span ∷ []
  in_stmt (tree.continue span) = extent span span ∷ []
  in_stmt (tree.return span expr) = extent span span ∷ in_optional expr

  -- what stands in a block (6.8.2)
  pub in_block : BlockItems → List Extent
  in_block tree.no_items = []
  in_block (tree.more_items first others) = in_block_item first ++ in_block others

  pub in_block_item : BlockItem → List Extent
  in_block_item (tree.declared_item declaration) = in_declared declaration
  in_block_item (tree.stated_item stmt) = in_stmt stmt

  -- what stands in a `switch` (6.8.4.2)
  pub in_switch : SwitchItems → List Extent
  in_switch tree.no_switch_items = []
  in_switch (tree.more_switch_items first others) = in_switch_item first ++ in_switch others

  pub in_switch_item : SwitchItem → List Extent
  in_switch_item (tree.case span expr item) = extent span span ∷ (in_whole expr ++ in_switch_item item)
  in_switch_item (tree.default span item) = extent span span ∷ in_switch_item item
  in_switch_item (tree.unlabelled span stmt) = in_stmt stmt

-- an external declaration (6.9)
abbrev pub in_external : External → List Extent
in_external (tree.external span declaration) = in_declaration declaration
in_external (tree.definition span specifiers declarator body) = in_specifiers specifiers ++ (in_declarator declarator ++ in_stmt body)

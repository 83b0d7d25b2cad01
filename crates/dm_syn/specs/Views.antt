-- What the trees of the code stand for: the same trees, without the places of their parts in memory.
use Rattle.std.specs.Prelude.{ℕ, Bool, List, [], ◌∷◌, Option, Some, None, map, option_map}
use Rattle.dm_token.specs.declared.place.Span.{Span}
use Rattle.dm_syn.specs.declared.expression.Expr.{Expr}
use Rattle.dm_syn.specs.declared.declaration.Specifiers.{Specifiers}
use Rattle.dm_syn.specs.declared.declaration.Specifier.{Specifier}
use Rattle.dm_syn.specs.declared.declaration.TypeName.{TypeName}
use Rattle.dm_syn.specs.declared.declaration.Declarator.{Declarator}
use Rattle.dm_syn.specs.declared.declaration.Direct.{Direct}
use Rattle.dm_syn.specs.declared.declaration.Parameter.{Parameter}
use Rattle.dm_syn.specs.declared.declaration.MemberForm.{MemberForm}
use Rattle.dm_syn.specs.declared.declaration.EnumItem.{EnumItem}
use Rattle.dm_syn.specs.declared.declaration.StructForm.{StructForm}
use Rattle.dm_syn.specs.declared.declaration.EnumForm.{EnumForm}
use Rattle.dm_syn.specs.declared.expression.ExprForm.{ExprForm}
use Rattle.dm_syn.specs.declared.declaration.Direct.TheOpen as layer
use Rattle.dm_syn.specs.declared.declaration.Direct.TheFolds as folds
use Rattle.dm_syn.specs.declared.declaration.Initialiser.{Initialiser}
use Rattle.dm_syn.specs.declared.declaration.InitDeclarator.{InitDeclarator}
use Rattle.dm_syn.specs.declared.declaration.Declaration.{Declaration}
use Rattle.dm_syn.specs.declared.statement.ForStart.{ForStart}
use Rattle.dm_syn.specs.declared.statement.ForStart.TheVariants as for_start
use Rattle.dm_syn.specs.declared.statement.Stmt.{Stmt}
use Rattle.dm_syn.specs.declared.statement.Item.{Item}
use Rattle.dm_syn.specs.declared.statement.SwitchItem.{SwitchItem}
use Rattle.dm_syn.specs.declared.statement.External.{External}
use Rattle.dm_syn.specs.declared.statement.ExternalForm.{ExternalForm}
use Rattle.dm_syn.specs.declared.statement.ExternalForm.TheVariants as external_form
use Rattle.dm_syn.specs.declared.declaration.InitForm.TheOpen as init
use Rattle.dm_syn.specs.declared.declaration.InitForm.TheFolds as init_folds
use Rattle.dm_syn.specs.declared.statement.Item.TheOpen as stmt_layers
use Rattle.dm_syn.specs.declared.statement.Item.TheFolds as stmt_folds
use Rattle.dm_syn.specs.Trees as tree

-- lists
abbrev pub exprs : List tree.Expr → tree.Exprs
exprs [] = tree.no_exprs
exprs (first ∷ others) = tree.more_exprs first (exprs others)

abbrev pub words : List tree.Specifier → tree.Words
words [] = tree.no_words
words (first ∷ others) = tree.more_words first (words others)

abbrev pub members : List tree.Member → tree.Members
members [] = tree.no_members
members (first ∷ others) = tree.more_members first (members others)

abbrev pub declarators : List tree.Declarator → tree.Declarators
declarators [] = tree.no_declarators
declarators (first ∷ others) = tree.more_declarators first (declarators others)

abbrev pub enumerators : List tree.Enumerator → tree.Enumerators
enumerators [] = tree.no_enumerators
enumerators (first ∷ others) = tree.more_enumerators first (enumerators others)

abbrev pub parameters : List tree.Parameter → tree.Parameters
parameters [] = tree.no_parameters
parameters (first ∷ others) = tree.more_parameters first (parameters others)

-- parts that may be absent
abbrev pub struct_view : Span → Option ℕ → Option (List tree.Member) → tree.Specifier
struct_view span tag None = tree.struct_only span tag
struct_view span tag (Some content) = tree.struct_with span tag (members content)

abbrev pub enum_view : Span → Option ℕ → Option (List tree.Enumerator) → Bool → tree.Specifier
enum_view span tag None trailing = tree.enum_only span tag trailing
enum_view span tag (Some content) trailing = tree.enum_with span tag (enumerators content) trailing

abbrev pub enumerator_view : Span → ℕ → Option tree.Expr → tree.Enumerator
enumerator_view span name None = tree.bare span name
enumerator_view span name (Some value) = tree.valued span name value

abbrev pub array_view : tree.Direct → Option tree.Expr → tree.Direct
array_view direct None = tree.array direct
array_view direct (Some length) = tree.sized direct length

-- one layer of a tree, whose parts are views already
abbrev pub expr_form_layer : layer.ExprForm-F tree.Direct tree.Specifier (Span → tree.Expr) tree.Declarator tree.Specifier tree.Enumerator tree.Member tree.Parameter tree.Specifiers tree.Specifier tree.TypeName tree.Expr → Span → tree.Expr
expr_form_layer layer.ExprForm::Name span = tree.name span
expr_form_layer layer.Constant span = tree.constant span
expr_form_layer layer.Literal span = tree.literal span
expr_form_layer (layer.ExprForm::Paren inner) span = tree.paren span inner
expr_form_layer (layer.Index left right) span = tree.index span left right
expr_form_layer (layer.Call callee arguments) span = tree.call span callee (exprs arguments)
expr_form_layer (layer.Member left name) span = tree.member span left name
expr_form_layer (layer.Arrow left name) span = tree.arrow span left name
expr_form_layer (layer.Postfix left operator) span = tree.postfix span left operator
expr_form_layer (layer.Prefix operator operand) span = tree.prefix span operator operand
expr_form_layer (layer.SizeofExpr operand) span = tree.sizeof_expr span operand
expr_form_layer (layer.SizeofName name) span = tree.sizeof_name span name
expr_form_layer (layer.Cast name operand) span = tree.cast span name operand
expr_form_layer (layer.Binary left operator right) span = tree.binary span left operator right
expr_form_layer (layer.Conditional first second third) span = tree.conditional span first second third
expr_form_layer (layer.Assign left operator right) span = tree.assign span left operator right
expr_form_layer (layer.Comma parts) span = tree.comma span (exprs parts)

abbrev pub expr_layer : layer.Expr-F tree.Direct tree.Specifier (Span → tree.Expr) tree.Declarator tree.Specifier tree.Enumerator tree.Member tree.Parameter tree.Specifiers tree.Specifier tree.TypeName tree.Expr → tree.Expr
expr_layer node = node.form node.span

abbrev pub direct_layer : layer.Direct-F tree.Direct tree.Specifier (Span → tree.Expr) tree.Declarator tree.Specifier tree.Enumerator tree.Member tree.Parameter tree.Specifiers tree.Specifier tree.TypeName tree.Expr → tree.Direct
direct_layer layer.Absent = tree.absent
direct_layer (layer.Direct::Name name) = tree.declared name
direct_layer (layer.Direct::Paren inner) = tree.enclosed inner
direct_layer (layer.Array direct length) = array_view direct length
direct_layer (layer.Function direct content) = tree.function direct (parameters content)

abbrev pub specifier_layer : layer.Specifier-F tree.Direct tree.Specifier (Span → tree.Expr) tree.Declarator tree.Specifier tree.Enumerator tree.Member tree.Parameter tree.Specifiers tree.Specifier tree.TypeName tree.Expr → tree.Specifier
specifier_layer (layer.Word at) = tree.keyword at
specifier_layer (layer.Typedef at) = tree.typedef_name at
specifier_layer (layer.Struct form) = form
specifier_layer (layer.Enum form) = form

abbrev pub specifiers_layer : layer.Specifiers-F tree.Direct tree.Specifier (Span → tree.Expr) tree.Declarator tree.Specifier tree.Enumerator tree.Member tree.Parameter tree.Specifiers tree.Specifier tree.TypeName tree.Expr → tree.Specifiers
specifiers_layer node = tree.listed node.span (words node.words)

abbrev pub struct_form_layer : layer.StructForm-F tree.Direct tree.Specifier (Span → tree.Expr) tree.Declarator tree.Specifier tree.Enumerator tree.Member tree.Parameter tree.Specifiers tree.Specifier tree.TypeName tree.Expr → tree.Specifier
struct_form_layer node = struct_view node.span node.tag node.members

abbrev pub enum_form_layer : layer.EnumForm-F tree.Direct tree.Specifier (Span → tree.Expr) tree.Declarator tree.Specifier tree.Enumerator tree.Member tree.Parameter tree.Specifiers tree.Specifier tree.TypeName tree.Expr → tree.Specifier
enum_form_layer node = enum_view node.span node.tag node.enumerators node.trailing

abbrev pub enum_item_layer : layer.EnumItem-F tree.Direct tree.Specifier (Span → tree.Expr) tree.Declarator tree.Specifier tree.Enumerator tree.Member tree.Parameter tree.Specifiers tree.Specifier tree.TypeName tree.Expr → tree.Enumerator
enum_item_layer node = enumerator_view node.span node.name node.value

abbrev pub member_form_layer : layer.MemberForm-F tree.Direct tree.Specifier (Span → tree.Expr) tree.Declarator tree.Specifier tree.Enumerator tree.Member tree.Parameter tree.Specifiers tree.Specifier tree.TypeName tree.Expr → tree.Member
member_form_layer node = tree.members node.span node.specifiers (declarators node.declarators)

abbrev pub declarator_layer : layer.Declarator-F tree.Direct tree.Specifier (Span → tree.Expr) tree.Declarator tree.Specifier tree.Enumerator tree.Member tree.Parameter tree.Specifiers tree.Specifier tree.TypeName tree.Expr → tree.Declarator
declarator_layer node = tree.shaped node.span node.pointers node.direct

abbrev pub parameter_layer : layer.Parameter-F tree.Direct tree.Specifier (Span → tree.Expr) tree.Declarator tree.Specifier tree.Enumerator tree.Member tree.Parameter tree.Specifiers tree.Specifier tree.TypeName tree.Expr → tree.Parameter
parameter_layer node = tree.parameter node.span node.specifiers node.declarator

abbrev pub type_name_layer : layer.TypeName-F tree.Direct tree.Specifier (Span → tree.Expr) tree.Declarator tree.Specifier tree.Enumerator tree.Member tree.Parameter tree.Specifiers tree.Specifier tree.TypeName tree.Expr → tree.TypeName
type_name_layer node = tree.type_name node.span node.specifiers node.declarator

-- what a tree of the code stands for
abbrev pub direct : Direct → tree.Direct
direct = folds.fold-Direct tree.Direct tree.Specifier (Span → tree.Expr) tree.Declarator tree.Specifier tree.Enumerator tree.Member tree.Parameter tree.Specifiers tree.Specifier tree.TypeName tree.Expr direct_layer specifier_layer expr_form_layer declarator_layer enum_form_layer enum_item_layer member_form_layer parameter_layer specifiers_layer struct_form_layer type_name_layer expr_layer

abbrev pub specifier : Specifier → tree.Specifier
specifier = folds.fold-Specifier tree.Direct tree.Specifier (Span → tree.Expr) tree.Declarator tree.Specifier tree.Enumerator tree.Member tree.Parameter tree.Specifiers tree.Specifier tree.TypeName tree.Expr direct_layer specifier_layer expr_form_layer declarator_layer enum_form_layer enum_item_layer member_form_layer parameter_layer specifiers_layer struct_form_layer type_name_layer expr_layer

abbrev pub expr_form : ExprForm → (Span → tree.Expr)
expr_form = folds.fold-ExprForm tree.Direct tree.Specifier (Span → tree.Expr) tree.Declarator tree.Specifier tree.Enumerator tree.Member tree.Parameter tree.Specifiers tree.Specifier tree.TypeName tree.Expr direct_layer specifier_layer expr_form_layer declarator_layer enum_form_layer enum_item_layer member_form_layer parameter_layer specifiers_layer struct_form_layer type_name_layer expr_layer

abbrev pub declarator : Declarator → tree.Declarator
declarator = folds.fold-Declarator tree.Direct tree.Specifier (Span → tree.Expr) tree.Declarator tree.Specifier tree.Enumerator tree.Member tree.Parameter tree.Specifiers tree.Specifier tree.TypeName tree.Expr direct_layer specifier_layer expr_form_layer declarator_layer enum_form_layer enum_item_layer member_form_layer parameter_layer specifiers_layer struct_form_layer type_name_layer expr_layer

abbrev pub enum_form : EnumForm → tree.Specifier
enum_form = folds.fold-EnumForm tree.Direct tree.Specifier (Span → tree.Expr) tree.Declarator tree.Specifier tree.Enumerator tree.Member tree.Parameter tree.Specifiers tree.Specifier tree.TypeName tree.Expr direct_layer specifier_layer expr_form_layer declarator_layer enum_form_layer enum_item_layer member_form_layer parameter_layer specifiers_layer struct_form_layer type_name_layer expr_layer

abbrev pub enum_item : EnumItem → tree.Enumerator
enum_item = folds.fold-EnumItem tree.Direct tree.Specifier (Span → tree.Expr) tree.Declarator tree.Specifier tree.Enumerator tree.Member tree.Parameter tree.Specifiers tree.Specifier tree.TypeName tree.Expr direct_layer specifier_layer expr_form_layer declarator_layer enum_form_layer enum_item_layer member_form_layer parameter_layer specifiers_layer struct_form_layer type_name_layer expr_layer

abbrev pub member_form : MemberForm → tree.Member
member_form = folds.fold-MemberForm tree.Direct tree.Specifier (Span → tree.Expr) tree.Declarator tree.Specifier tree.Enumerator tree.Member tree.Parameter tree.Specifiers tree.Specifier tree.TypeName tree.Expr direct_layer specifier_layer expr_form_layer declarator_layer enum_form_layer enum_item_layer member_form_layer parameter_layer specifiers_layer struct_form_layer type_name_layer expr_layer

abbrev pub parameter : Parameter → tree.Parameter
parameter = folds.fold-Parameter tree.Direct tree.Specifier (Span → tree.Expr) tree.Declarator tree.Specifier tree.Enumerator tree.Member tree.Parameter tree.Specifiers tree.Specifier tree.TypeName tree.Expr direct_layer specifier_layer expr_form_layer declarator_layer enum_form_layer enum_item_layer member_form_layer parameter_layer specifiers_layer struct_form_layer type_name_layer expr_layer

abbrev pub specifiers : Specifiers → tree.Specifiers
specifiers = folds.fold-Specifiers tree.Direct tree.Specifier (Span → tree.Expr) tree.Declarator tree.Specifier tree.Enumerator tree.Member tree.Parameter tree.Specifiers tree.Specifier tree.TypeName tree.Expr direct_layer specifier_layer expr_form_layer declarator_layer enum_form_layer enum_item_layer member_form_layer parameter_layer specifiers_layer struct_form_layer type_name_layer expr_layer

abbrev pub struct_form : StructForm → tree.Specifier
struct_form = folds.fold-StructForm tree.Direct tree.Specifier (Span → tree.Expr) tree.Declarator tree.Specifier tree.Enumerator tree.Member tree.Parameter tree.Specifiers tree.Specifier tree.TypeName tree.Expr direct_layer specifier_layer expr_form_layer declarator_layer enum_form_layer enum_item_layer member_form_layer parameter_layer specifiers_layer struct_form_layer type_name_layer expr_layer

abbrev pub type_name : TypeName → tree.TypeName
type_name = folds.fold-TypeName tree.Direct tree.Specifier (Span → tree.Expr) tree.Declarator tree.Specifier tree.Enumerator tree.Member tree.Parameter tree.Specifiers tree.Specifier tree.TypeName tree.Expr direct_layer specifier_layer expr_form_layer declarator_layer enum_form_layer enum_item_layer member_form_layer parameter_layer specifiers_layer struct_form_layer type_name_layer expr_layer

abbrev pub expr : Expr → tree.Expr
expr = folds.fold-Expr tree.Direct tree.Specifier (Span → tree.Expr) tree.Declarator tree.Specifier tree.Enumerator tree.Member tree.Parameter tree.Specifiers tree.Specifier tree.TypeName tree.Expr direct_layer specifier_layer expr_form_layer declarator_layer enum_form_layer enum_item_layer member_form_layer parameter_layer specifiers_layer struct_form_layer type_name_layer expr_layer

-- initialisers
abbrev pub initialisers : List tree.Initialiser → tree.Initialisers
initialisers [] = tree.no_initialisers
initialisers (first ∷ others) = tree.more_initialisers first (initialisers others)

abbrev pub init_form_layer : init.InitForm-F (Span → tree.Initialiser) tree.Initialiser → Span → tree.Initialiser
init_form_layer (init.Value value) span = tree.value span (expr value)
init_form_layer (init.Braces items trailing) span = tree.braces span (initialisers items) trailing

abbrev pub initialiser_layer : init.Initialiser-F (Span → tree.Initialiser) tree.Initialiser → tree.Initialiser
initialiser_layer node = node.form node.span

abbrev pub initialiser : Initialiser → tree.Initialiser
initialiser = init_folds.fold-Initialiser (Span → tree.Initialiser) tree.Initialiser init_form_layer initialiser_layer

-- declarations
abbrev pub item_view : Span → tree.Declarator → Option Initialiser → tree.Item
item_view span declarator None = tree.plain span declarator
item_view span declarator (Some value) = tree.initialised span declarator (initialiser value)

abbrev pub item : InitDeclarator → tree.Item
item node = item_view node.span (declarator node.declarator) node.initialiser

abbrev pub items : List InitDeclarator → List tree.Item
items = map item

abbrev pub declaration : Declaration → tree.Declaration
declaration node = tree.declaring node.span (specifiers node.specifiers) (items node.items)

abbrev pub optional : Option Expr → Option tree.Expr
optional = option_map expr

abbrev pub start : ForStart → tree.ForStart
start (for_start.Declaration node) = tree.declares (declaration node)
start (for_start.Expression value) = tree.evaluates (optional value)

-- statements
abbrev pub block_items : List tree.BlockItem → tree.BlockItems
block_items [] = tree.no_items
block_items (first ∷ others) = tree.more_items first (block_items others)

abbrev pub switch_items : List tree.SwitchItem → tree.SwitchItems
switch_items [] = tree.no_switch_items
switch_items (first ∷ others) = tree.more_switch_items first (switch_items others)

abbrev pub if_view : Span → tree.Expr → tree.Stmt → Option tree.Stmt → tree.Stmt
if_view span condition body None = tree.if_only span condition body
if_view span condition body (Some other) = tree.if_else span condition body other

abbrev pub stmt_form_layer : stmt_layers.StmtForm-F tree.BlockItem (Span → tree.Stmt) (Span → tree.SwitchItem) tree.Stmt tree.SwitchItem → Span → tree.Stmt
stmt_form_layer (stmt_layers.Block items) span = tree.block span (block_items items)
stmt_form_layer (stmt_layers.Expression value) span = tree.expression span (optional value)
stmt_form_layer (stmt_layers.If condition body other) span = if_view span (expr condition) body other
stmt_form_layer (stmt_layers.Switch subject items) span = tree.switch span (expr subject) (switch_items items)
stmt_form_layer (stmt_layers.While condition body) span = tree.while span (expr condition) body
stmt_form_layer (stmt_layers.Do body condition) span = tree.do_while span body (expr condition)
stmt_form_layer (stmt_layers.For first condition step body) span = tree.for_loop span (start first) (optional condition) (optional step) body
stmt_form_layer stmt_layers.Break span = tree.break span
stmt_form_layer stmt_layers.Continue span = tree.continue span
stmt_form_layer (stmt_layers.Return value) span = tree.return span (optional value)

abbrev pub block_item_layer : stmt_layers.Item-F tree.BlockItem (Span → tree.Stmt) (Span → tree.SwitchItem) tree.Stmt tree.SwitchItem → tree.BlockItem
block_item_layer (stmt_layers.Declaration node) = tree.declared_item (declaration node)
block_item_layer (stmt_layers.Item::Statement node) = tree.stated_item node

abbrev pub switch_form_layer : stmt_layers.SwitchForm-F tree.BlockItem (Span → tree.Stmt) (Span → tree.SwitchItem) tree.Stmt tree.SwitchItem → Span → tree.SwitchItem
switch_form_layer (stmt_layers.Case label inner) span = tree.case span (expr label) inner
switch_form_layer (stmt_layers.Default inner) span = tree.default span inner
switch_form_layer (stmt_layers.SwitchForm::Statement node) span = tree.unlabelled span node

abbrev pub stmt_layer : stmt_layers.Stmt-F tree.BlockItem (Span → tree.Stmt) (Span → tree.SwitchItem) tree.Stmt tree.SwitchItem → tree.Stmt
stmt_layer node = node.form node.span

abbrev pub switch_item_layer : stmt_layers.SwitchItem-F tree.BlockItem (Span → tree.Stmt) (Span → tree.SwitchItem) tree.Stmt tree.SwitchItem → tree.SwitchItem
switch_item_layer node = node.form node.span

abbrev pub stmt : Stmt → tree.Stmt
stmt = stmt_folds.fold-Stmt tree.BlockItem (Span → tree.Stmt) (Span → tree.SwitchItem) tree.Stmt tree.SwitchItem block_item_layer stmt_form_layer switch_form_layer stmt_layer switch_item_layer

abbrev pub block_item : Item → tree.BlockItem
block_item = stmt_folds.fold-Item tree.BlockItem (Span → tree.Stmt) (Span → tree.SwitchItem) tree.Stmt tree.SwitchItem block_item_layer stmt_form_layer switch_form_layer stmt_layer switch_item_layer

abbrev pub switch_item : SwitchItem → tree.SwitchItem
switch_item = stmt_folds.fold-SwitchItem tree.BlockItem (Span → tree.Stmt) (Span → tree.SwitchItem) tree.Stmt tree.SwitchItem block_item_layer stmt_form_layer switch_form_layer stmt_layer switch_item_layer

-- external declarations
abbrev pub external_view : Span → ExternalForm → tree.External
external_view span (external_form.Declaration node) = tree.external span (declaration node)
external_view span (external_form.Function its_specifiers its_declarator body) =
    tree.definition span (specifiers its_specifiers) (declarator its_declarator) (stmt body)

abbrev pub external : External → tree.External
external node = external_view node.span node.form

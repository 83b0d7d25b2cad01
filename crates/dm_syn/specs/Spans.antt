-- Where trees begin and end.
use Rattle.std.specs.Prelude.{ℕ, ◌+◌, List, [], ◌∷◌}
use Rattle.dm_token.specs.declared.place.Span.{Span}
use Rattle.dm_syn.specs.Trees.{Expr, Exprs, TypeName, Specifiers, Words, Specifier, Members, Member, Declarators, Enumerators, Enumerator, Declarator, Direct, Parameters, Parameter, Initialiser, Initialisers, Item, Declaration, Stmt, BlockItems, BlockItem, SwitchItems, SwitchItem, External}
use Rattle.dm_syn.specs.Trees as tree

abbrev pub expr_span : Expr → Span
expr_span (tree.name span) = span
expr_span (tree.constant span) = span
expr_span (tree.literal span) = span
expr_span (tree.paren span inner) = span
expr_span (tree.index span left right) = span
expr_span (tree.call span callee arguments) = span
expr_span (tree.member span left name) = span
expr_span (tree.arrow span left name) = span
expr_span (tree.postfix span left operator) = span
expr_span (tree.prefix span operator operand) = span
expr_span (tree.sizeof_expr span operand) = span
expr_span (tree.sizeof_name span name) = span
expr_span (tree.cast span name operand) = span
expr_span (tree.binary span left operator right) = span
expr_span (tree.conditional span first second third) = span
expr_span (tree.assign span left operator right) = span
expr_span (tree.comma span parts) = span

abbrev pub type_name_span : TypeName → Span
type_name_span (tree.type_name span specifiers declarator) = span

abbrev pub specifiers_span : Specifiers → Span
specifiers_span (tree.listed span words) = span

abbrev pub member_span : Member → Span
member_span (tree.members span specifiers _) = span

abbrev pub enumerator_span : Enumerator → Span
enumerator_span (tree.bare span name) = span
enumerator_span (tree.valued span name value) = span

abbrev pub declarator_span : Declarator → Span
declarator_span (tree.shaped span pointers direct) = span

abbrev pub parameter_span : Parameter → Span
parameter_span (tree.parameter span specifiers declarator) = span

abbrev pub initialiser_span : Initialiser → Span
initialiser_span (tree.value span expr) = span
initialiser_span (tree.braces span items trailing) = span

abbrev pub item_span : Item → Span
item_span (tree.plain span declarator) = span
item_span (tree.initialised span declarator initialiser) = span

abbrev pub declaration_span : Declaration → Span
declaration_span (tree.declaring span specifiers items) = span

abbrev pub stmt_span : Stmt → Span
stmt_span (tree.block span items) = span
stmt_span (tree.expression span expr) = span
stmt_span (tree.if_only span condition body) = span
stmt_span (tree.if_else span condition body other) = span
stmt_span (tree.switch span subject items) = span
stmt_span (tree.while span condition body) = span
stmt_span (tree.do_while span body condition) = span
stmt_span (tree.for_loop span start condition step body) = span
stmt_span (tree.break span) = span
stmt_span (tree.continue span) = span
stmt_span (tree.return span expr) = span

abbrev pub block_item_span : BlockItem → Span
block_item_span (tree.declared_item declaration) = declaration_span declaration
block_item_span (tree.stated_item stmt) = stmt_span stmt

abbrev pub switch_item_span : SwitchItem → Span
switch_item_span (tree.case span label item) = span
switch_item_span (tree.default span item) = span
switch_item_span (tree.unlabelled span stmt) = span

abbrev pub external_span : External → Span
external_span (tree.external span declaration) = span
external_span (tree.definition span specifiers declarator body) = span

-- where a list that begins at a position ends, with the separators between its items
abbrev pub exprs_after : ℕ → Exprs → ℕ
exprs_after at tree.no_exprs = at
exprs_after at (tree.more_exprs first others) = exprs_after (expr_span first).after others

abbrev pub specifier_after : ℕ → Specifier → ℕ
specifier_after at (tree.keyword word) = at + 1
specifier_after at (tree.typedef_name name) = at + 1
specifier_after at (tree.struct_only span tag) = span.after
specifier_after at (tree.struct_with span tag _) = span.after
specifier_after at (tree.enum_only span tag trailing) = span.after
specifier_after at (tree.enum_with span tag _ trailing) = span.after

abbrev pub words_after : ℕ → Words → ℕ
words_after at tree.no_words = at
words_after at (tree.more_words first others) = words_after (specifier_after at first) others

abbrev pub members_after : ℕ → Members → ℕ
members_after at tree.no_members = at
members_after at (tree.more_members first others) = members_after (member_span first).after others

abbrev pub declarators_after : ℕ → Declarators → ℕ
declarators_after at tree.no_declarators = at
declarators_after at (tree.more_declarators first others) = declarators_after (declarator_span first).after others

abbrev pub enumerators_after : ℕ → Enumerators → ℕ
enumerators_after at tree.no_enumerators = at
enumerators_after at (tree.more_enumerators first others) = enumerators_after (enumerator_span first).after others

abbrev pub parameters_after : ℕ → Parameters → ℕ
parameters_after at tree.no_parameters = at
parameters_after at (tree.more_parameters first others) = parameters_after (parameter_span first).after others

-- for each `*`, with so many `const` behind it
abbrev pub pointers_after : ℕ → List ℕ → ℕ
pointers_after at [] = at
pointers_after at (consts ∷ others) = pointers_after (at + 1 + consts) others

abbrev pub direct_after : ℕ → Direct → ℕ
direct_after at tree.absent = at
direct_after at (tree.declared name) = at + 1
direct_after at (tree.enclosed declarator) = (declarator_span declarator).after + 1
direct_after at (tree.array direct) = direct_after at direct + 2
direct_after at (tree.sized direct length) = (expr_span length).after + 1
direct_after at (tree.function direct parameters) = parameters_after (direct_after at direct + 1) parameters + 1

abbrev pub initialisers_after : ℕ → Initialisers → ℕ
initialisers_after at tree.no_initialisers = at
initialisers_after at (tree.more_initialisers first others) = initialisers_after (initialiser_span first).after others

abbrev pub items_after : ℕ → List Item → ℕ
items_after at [] = at
items_after at (first ∷ others) = items_after (item_span first).after others

abbrev pub block_items_after : ℕ → BlockItems → ℕ
block_items_after at tree.no_items = at
block_items_after at (tree.more_items first others) = block_items_after (block_item_span first).after others

abbrev pub switch_items_after : ℕ → SwitchItems → ℕ
switch_items_after at tree.no_switch_items = at
switch_items_after at (tree.more_switch_items first others) = switch_items_after (switch_item_span first).after others

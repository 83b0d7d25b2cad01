-- What the code reads, and what it stands for: kinds of trees.
use Rattle.std.specs.Prelude.{ℕ, ◌+◌, Bool, List, [], ◌++◌, map, Option}
use Rattle.dm_token.specs.Limits.{greatest_height}
use Rattle.dm_syn.specs.declared.declared.Declared.{Declared}
use Rattle.dm_syn.specs.declared.expression.Expr.{Expr}
use Rattle.dm_syn.specs.declared.declaration.Initialiser.{Initialiser}
use Rattle.dm_syn.specs.declared.declaration.InitDeclarator.{InitDeclarator}
use Rattle.dm_syn.specs.declared.declaration.Declaration.{Declaration}
use Rattle.dm_syn.specs.declared.statement.ForStart.{ForStart}
use Rattle.dm_syn.specs.declared.statement.Stmt.{Stmt}
use Rattle.dm_syn.specs.declared.statement.Item.{Item}
use Rattle.dm_syn.specs.declared.statement.SwitchItem.{SwitchItem}
use Rattle.dm_syn.specs.declared.statement.External.{External}
use Rattle.dm_pstmt.specs.declared.nodes.ForClauses.{ForClauses}
use Rattle.dm_syn.specs.Sources.{Source}
use Rattle.dm_syn.specs.Trees as tree
use Rattle.dm_syn.specs.Views as view
use Rattle.dm_syn.specs.Spans.{initialiser_span, initialisers_after, item_span, items_after, declaration_span, stmt_span, block_item_span, block_items_after, switch_item_span, switch_items_after, external_span}
use Rattle.dm_syn.specs.Heights.{initialiser_height, initialisers_height, item_height, items_height, declaration_height, optional_height, start_height, stmt_height, block_item_height, block_items_height, switch_item_height, switch_items_height, height_of}
use Rattle.dm_syn.specs.Scopes.{initialiser_declares, initialisers_declares, item_declares, items_declares, declaration_declares, optional_declares, start_declares, stmt_declares, block_item_declares, switch_item_declares, external_declares}
use Rattle.dm_syn.specs.Statements.{optional_after, start_after}
use Rattle.dm_pexpr.specs.Parts.{Kind}
use Rattle.dm_pstmt.specs.Steps.{Clauses, clauses_height, clauses_after, clauses_declare}

-- what the items of a block declare, the latest first
abbrev pub block_items_declares : Source → tree.BlockItems → List Declared
block_items_declares source tree.no_items = []
block_items_declares source (tree.more_items first others) = block_items_declares source others ++ block_item_declares source first

abbrev pub switch_items_declares : Source → tree.SwitchItems → List Declared
switch_items_declares source tree.no_switch_items = []
switch_items_declares source (tree.more_switch_items first others) = switch_items_declares source others ++ switch_item_declares source first

abbrev pub an_initialiser : Source → Kind Initialiser tree.Initialiser
an_initialiser source = record { view = view.initialiser; begins = λ _. 0; first = λ _. 0; height = initialiser_height; after = λ it. (initialiser_span it).after; declares = initialiser_declares source; highest = greatest_height }

-- a declarator with its initialiser, behind specifiers with `typedef` or without
abbrev pub an_item : Source → Bool → Kind InitDeclarator tree.Item
an_item source is_type = record { view = view.item; begins = λ _. 0; first = λ _. 0; height = item_height; after = λ it. (item_span it).after; declares = item_declares source is_type; highest = greatest_height }

abbrev pub a_declaration : Source → Kind Declaration tree.Declaration
a_declaration source = record { view = view.declaration; begins = λ _. 0; first = λ _. 0; height = declaration_height; after = λ it. (declaration_span it).after; declares = declaration_declares source; highest = greatest_height }

abbrev pub a_stmt : Source → Kind Stmt tree.Stmt
a_stmt source = record { view = view.stmt; begins = λ _. 0; first = λ _. 0; height = stmt_height; after = λ it. (stmt_span it).after; declares = stmt_declares source; highest = greatest_height }

abbrev pub a_labelled : Source → Kind SwitchItem tree.SwitchItem
a_labelled source = record { view = view.switch_item; begins = λ _. 0; first = λ _. 0; height = switch_item_height; after = λ it. (switch_item_span it).after; declares = switch_item_declares source; highest = greatest_height }

abbrev pub a_block_item : Source → Kind Item tree.BlockItem
a_block_item source = record { view = view.block_item; begins = λ _. 0; first = λ _. 0; height = block_item_height; after = λ it. (block_item_span it).after; declares = block_item_declares source; highest = greatest_height }

abbrev pub an_external : Source → Kind External tree.External
an_external source = record { view = view.external; begins = λ _. 0; first = λ _. 0; height = height_of; after = λ it. (external_span it).after; declares = external_declares source; highest = greatest_height }

-- lists of them, from a place on
abbrev pub initialisers_from : Source → ℕ → Kind (List Initialiser) tree.Initialisers
initialisers_from source at = record { view = λ items. view.initialisers (map view.initialiser items); begins = λ _. 0; first = λ _. 0; height = initialisers_height; after = initialisers_after at; declares = initialisers_declares source; highest = greatest_height + 1 }

abbrev pub items_from : Source → Bool → ℕ → Kind (List InitDeclarator) (List tree.Item)
items_from source is_type at = record { view = view.items; begins = λ _. 0; first = λ _. 0; height = items_height; after = items_after at; declares = items_declares source is_type; highest = greatest_height + 1 }

abbrev pub block_items_from : Source → ℕ → Kind (List Item) tree.BlockItems
block_items_from source at = record { view = λ items. view.block_items (map view.block_item items); begins = λ _. 0; first = λ _. 0; height = block_items_height; after = block_items_after at; declares = block_items_declares source; highest = greatest_height + 1 }

abbrev pub switch_items_from : Source → ℕ → Kind (List SwitchItem) tree.SwitchItems
switch_items_from source at = record { view = λ items. view.switch_items (map view.switch_item items); begins = λ _. 0; first = λ _. 0; height = switch_items_height; after = switch_items_after at; declares = switch_items_declares source; highest = greatest_height + 1 }

-- an expression that may be absent, and the first clause of a `for`, at a place
abbrev pub an_optional : Source → ℕ → Kind (Option Expr) (Option tree.Expr)
an_optional source at = record { view = view.optional; begins = λ _. 0; first = λ _. 0; height = optional_height; after = optional_after at; declares = optional_declares source; highest = greatest_height }

abbrev pub a_start : Source → ℕ → Kind ForStart tree.ForStart
a_start source at = record { view = view.start; begins = λ _. 0; first = λ _. 0; height = start_height; after = start_after at; declares = start_declares source; highest = greatest_height }

-- the clauses of a `for`, with the closing parenthesis, at a place
abbrev pub seen_clauses : ForClauses → Clauses
seen_clauses clauses = record { start = view.start clauses.start; condition = view.optional clauses.condition; step = view.optional clauses.step }

abbrev pub clauses_from : Source → ℕ → Kind ForClauses Clauses
clauses_from source at = record { view = seen_clauses; begins = λ _. 0; first = λ _. 0; height = clauses_height; after = clauses_after at; declares = clauses_declare source; highest = greatest_height }

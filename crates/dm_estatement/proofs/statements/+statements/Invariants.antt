-- The size of the syntax falls from a statement to its parts. At one size a function calls those that are counted lower here. Of a loop over
-- items, what is typed so far, in front of what the rest comes to, is the whole.
use Rattle.std.proofs.Common.{◌+◌, ◌*◌, max, [], map, drop}
use Rattle.std.specs.Option.{option_map_or}
use denote.Param.Weighed.{most}
use Rattle.dm_syn.specs.declared.statement.Item.{size-Item}
use Rattle.dm_syn.specs.declared.statement.Stmt.{size-Stmt}
use Rattle.dm_syn.specs.declared.statement.SwitchItem.{size-SwitchItem}
use Rattle.dm_syn.specs.Views as syntax
use Rattle.dm_typing.specs.Fitting.{AreNumbered}
use Rattle.dm_typing.specs.Views.{setting_of}
use Rattle.dm_edecl.specs.Statements.{typed_items_in, typed_switch_items}
use Rattle.dm_estanding.proofs.ProceedingLemmas.{Arrives}
use Rattle.dm_estatement.specs.Parts.{within_over, trees_over, all_over, AllFit, labels_of}
use Rattle.dm_estatement.proofs.StepLemmas.{behind_these, behind_all}
use Rattle.dm_estatement.proofs.statements.+statements.Given as goal

abbrev pub decreases-typed_stmt : goal.decreases-typed_stmt
decreases-typed_stmt l = 8 * size-Stmt l.stmt.now + 3

abbrev pub decreases-own_scope : goal.decreases-own_scope
decreases-own_scope l = 8 * size-Stmt l.stmt.now + 2

abbrev pub decreases-stmt_inside : goal.decreases-stmt_inside
decreases-stmt_inside l = 8 * size-Stmt l.stmt.now + 1

abbrev pub decreases-part : goal.decreases-part
decreases-part l = 8 * size-Stmt l.stmt.now + 4

abbrev pub decreases-block : goal.decreases-block
decreases-block l = 8 * most size-Item l.items.now + 6

abbrev pub decreases-choice : goal.decreases-choice
decreases-choice l = 8 * max (size-Stmt l.body.now) (option_map_or size-Stmt l.other.now 0) + 7

abbrev pub decreases-other_part : goal.decreases-other_part
decreases-other_part l = 8 * option_map_or size-Stmt l.other.now 0 + 5

abbrev pub decreases-switch : goal.decreases-switch
decreases-switch l = 8 * most size-SwitchItem l.items.now + 7

abbrev pub decreases-switch_part : goal.decreases-switch_part
decreases-switch_part l = 8 * most size-SwitchItem l.items.now + 6

abbrev pub decreases-while_statement : goal.decreases-while_statement
decreases-while_statement l = 8 * size-Stmt l.body.now + 7

abbrev pub decreases-do_statement : goal.decreases-do_statement
decreases-do_statement l = 8 * size-Stmt l.body.now + 7

abbrev pub decreases-for_statement : goal.decreases-for_statement
decreases-for_statement l = 8 * size-Stmt l.body.now + 7

abbrev pub decreases-typed_items_in : goal.decreases-typed_items_in
decreases-typed_items_in l = 8 * most size-Item l.items.now + 5

abbrev pub decreases-typed_item_in : goal.decreases-typed_item_in
decreases-typed_item_in l = 8 * size-Item l.item.now + 4

abbrev pub decreases-typed_switch_items : goal.decreases-typed_switch_items
decreases-typed_switch_items l = 8 * most size-SwitchItem l.items.now + 5

abbrev pub decreases-item_behind : goal.decreases-item_behind
decreases-item_behind l = 8 * size-SwitchItem l.item.now + 4

abbrev pub decreases-typed_switch_item : goal.decreases-typed_switch_item
decreases-typed_switch_item l = 8 * size-SwitchItem l.item.now + 3

abbrev pub decreases-case_item : goal.decreases-case_item
decreases-case_item l = 8 * size-SwitchItem l.inner.now + 5

abbrev pub decreases-default_item : goal.decreases-default_item
decreases-default_item l = 8 * size-SwitchItem l.inner.now + 5

abbrev pub invariant-typed_items_in-loop-item : goal.invariant-typed_items_in-loop-item
invariant-typed_items_in-loop-item l =
    Arrives l.fn.standing l.standing (λ later before. typed_items_in (setting_of l.typer) (within_over later l.within) before (syntax.block_items (map syntax.block_item l.items)))
    (λ later behind. behind_these (trees_over later l.trees) (typed_items_in (setting_of l.typer) (within_over later l.within) behind (syntax.block_items (map syntax.block_item (drop l.item-index l.items)))))
    × AreNumbered l.standing.known.types l.trees

abbrev pub invariant-typed_switch_items-loop-item : goal.invariant-typed_switch_items-loop-item
invariant-typed_switch_items-loop-item l =
    Arrives l.fn.standing l.standing (λ later before. typed_switch_items (setting_of l.typer) (within_over later l.within) l.kind before [] (syntax.switch_items (map syntax.switch_item l.items)))
    (λ later behind. behind_all (all_over later l.all) (typed_switch_items (setting_of l.typer) (within_over later l.within) l.kind behind (labels_of l.all.labels) (syntax.switch_items (map syntax.switch_item (drop l.item-index l.items)))))
    × AllFit l.standing.known.types l.all

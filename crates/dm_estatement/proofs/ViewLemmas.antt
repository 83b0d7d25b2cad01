-- What the statements of the code stand for, form by form.
use Rattle.std.specs.Prelude.{◌≡◌, List, map, Option, option_map}
use Rattle.std.proofs.Common.{rules, ap, ◌∙◌}
use Rattle.dm_token.specs.declared.place.Span.{Span}
use Rattle.dm_syn.specs.declared.expression.Expr.{Expr}
use Rattle.dm_syn.specs.declared.declaration.Declaration.{Declaration}
use Rattle.dm_syn.specs.declared.statement.ForStart.{ForStart}
use Rattle.dm_syn.specs.declared.statement.Item.{Item}
use Rattle.dm_syn.specs.declared.statement.Item.TheVariants as item
use Rattle.dm_syn.specs.declared.statement.Stmt.{Stmt}
use Rattle.dm_syn.specs.declared.statement.Stmt as q
use Rattle.dm_syn.specs.declared.statement.StmtForm.{StmtForm}
use Rattle.dm_syn.specs.declared.statement.StmtForm.TheVariants as form
use Rattle.dm_syn.specs.declared.statement.SwitchItem.{SwitchItem}
use Rattle.dm_syn.specs.declared.statement.SwitchItem as w
use Rattle.dm_syn.specs.declared.statement.SwitchForm.{SwitchForm}
use Rattle.dm_syn.specs.declared.statement.SwitchForm.TheVariants as label_form
use Rattle.dm_syn.specs.Trees as tree
use Rattle.dm_syn.specs.Views as view

-- a statement with a form
abbrev stmt-of : Span → StmtForm → tree.Stmt
stmt-of span it = view.stmt (record { span = span; form = it })

module _ (span : Span) where
  block-at : (items : List Item) → view.stmt (record { span = span; form = form.Block items }) ≡ tree.block span (view.block_items (map view.block_item items))
  block-at items = search (rules, q.the_lemmas)

  expression-at : (value : Option Expr) → view.stmt (record { span = span; form = form.Expression value }) ≡ tree.expression span (option_map view.expr value)
  expression-at value = search (rules, q.the_lemmas)

  if-at : (condition : Expr) (body : Stmt) (other : Option Stmt) → view.stmt (record { span = span; form = form.If condition body other }) ≡ view.if_view span (view.expr condition) (view.stmt body) (option_map view.stmt other)
  if-at condition body other = search (rules, q.the_lemmas)

  switch-at : (subject : Expr) (items : List SwitchItem) → view.stmt (record { span = span; form = form.Switch subject items }) ≡ tree.switch span (view.expr subject) (view.switch_items (map view.switch_item items))
  switch-at subject items = search (rules, q.the_lemmas)

  while-at : (condition : Expr) (body : Stmt) → view.stmt (record { span = span; form = form.While condition body }) ≡ tree.while span (view.expr condition) (view.stmt body)
  while-at condition body = search (rules, q.the_lemmas)

  do-at : (body : Stmt) (condition : Expr) → view.stmt (record { span = span; form = form.Do body condition }) ≡ tree.do_while span (view.stmt body) (view.expr condition)
  do-at body condition = search (rules, q.the_lemmas)

  for-at : (start : ForStart) (condition step : Option Expr) (body : Stmt) → view.stmt (record { span = span; form = form.For start condition step body })
      ≡ tree.for_loop span (view.start start) (option_map view.expr condition) (option_map view.expr step) (view.stmt body)
  for-at start condition step body = search (rules, q.the_lemmas)

  break-at : view.stmt (record { span = span; form = form.Break }) ≡ tree.break span
  break-at = search (rules, q.the_lemmas)

  continue-at : view.stmt (record { span = span; form = form.Continue }) ≡ tree.continue span
  continue-at = search (rules, q.the_lemmas)

  return-at : (value : Option Expr) → view.stmt (record { span = span; form = form.Return value }) ≡ tree.return span (option_map view.expr value)
  return-at value = search (rules, q.the_lemmas)

  case-at : (label : Expr) (inner : SwitchItem) → view.switch_item (record { span = span; form = label_form.Case label inner }) ≡ tree.case span (view.expr label) (view.switch_item inner)
  case-at label inner = search (rules, w.the_lemmas)

  default-at : (inner : SwitchItem) → view.switch_item (record { span = span; form = label_form.Default inner }) ≡ tree.default span (view.switch_item inner)
  default-at inner = search (rules, w.the_lemmas)

  unlabelled-at : (stmt : Stmt) → view.switch_item (record { span = span; form = label_form.Statement stmt }) ≡ tree.unlabelled span (view.stmt stmt)
  unlabelled-at stmt = search (rules, w.the_lemmas)

module _ (stmt : Stmt) where
  pub view-block : (items : List Item) → stmt.form ≡ form.Block items → view.stmt stmt ≡ tree.block stmt.span (view.block_items (map view.block_item items))
  view-block items is = ap (stmt-of stmt.span) is ∙ block-at stmt.span items

  pub view-expression : (value : Option Expr) → stmt.form ≡ form.Expression value → view.stmt stmt ≡ tree.expression stmt.span (option_map view.expr value)
  view-expression value is = ap (stmt-of stmt.span) is ∙ expression-at stmt.span value

  pub view-if : (condition : Expr) (body : Stmt) (other : Option Stmt) → stmt.form ≡ form.If condition body other
      → view.stmt stmt ≡ view.if_view stmt.span (view.expr condition) (view.stmt body) (option_map view.stmt other)
  view-if condition body other is = ap (stmt-of stmt.span) is ∙ if-at stmt.span condition body other

  pub view-switch : (subject : Expr) (items : List SwitchItem) → stmt.form ≡ form.Switch subject items → view.stmt stmt ≡ tree.switch stmt.span (view.expr subject) (view.switch_items (map view.switch_item items))
  view-switch subject items is = ap (stmt-of stmt.span) is ∙ switch-at stmt.span subject items

  pub view-while : (condition : Expr) (body : Stmt) → stmt.form ≡ form.While condition body → view.stmt stmt ≡ tree.while stmt.span (view.expr condition) (view.stmt body)
  view-while condition body is = ap (stmt-of stmt.span) is ∙ while-at stmt.span condition body

  pub view-do : (body : Stmt) (condition : Expr) → stmt.form ≡ form.Do body condition → view.stmt stmt ≡ tree.do_while stmt.span (view.stmt body) (view.expr condition)
  view-do body condition is = ap (stmt-of stmt.span) is ∙ do-at stmt.span body condition

  pub view-for : (start : ForStart) (condition step : Option Expr) (body : Stmt) → stmt.form ≡ form.For start condition step body
      → view.stmt stmt ≡ tree.for_loop stmt.span (view.start start) (option_map view.expr condition) (option_map view.expr step) (view.stmt body)
  view-for start condition step body is = ap (stmt-of stmt.span) is ∙ for-at stmt.span start condition step body

  pub view-break : stmt.form ≡ form.Break → view.stmt stmt ≡ tree.break stmt.span
  view-break is = ap (stmt-of stmt.span) is ∙ break-at stmt.span

  pub view-continue : stmt.form ≡ form.Continue → view.stmt stmt ≡ tree.continue stmt.span
  view-continue is = ap (stmt-of stmt.span) is ∙ continue-at stmt.span

  pub view-return : (value : Option Expr) → stmt.form ≡ form.Return value → view.stmt stmt ≡ tree.return stmt.span (option_map view.expr value)
  view-return value is = ap (stmt-of stmt.span) is ∙ return-at stmt.span value

module _ (one : SwitchItem) where
  abbrev item-of : SwitchForm → tree.SwitchItem
  item-of it = view.switch_item (record { span = one.span; form = it })

  pub view-case : (label : Expr) (inner : SwitchItem) → one.form ≡ label_form.Case label inner → view.switch_item one ≡ tree.case one.span (view.expr label) (view.switch_item inner)
  view-case label inner is = ap item-of is ∙ case-at one.span label inner

  pub view-default : (inner : SwitchItem) → one.form ≡ label_form.Default inner → view.switch_item one ≡ tree.default one.span (view.switch_item inner)
  view-default inner is = ap item-of is ∙ default-at one.span inner

  pub view-unlabelled : (stmt : Stmt) → one.form ≡ label_form.Statement stmt → view.switch_item one ≡ tree.unlabelled one.span (view.stmt stmt)
  view-unlabelled stmt is = ap item-of is ∙ unlabelled-at one.span stmt

pub view-declared : (declaration : Declaration) → view.block_item (item.Declaration declaration) ≡ tree.declared_item (view.declaration declaration)
view-declared declaration = search (rules, q.the_lemmas)

pub view-stated : (stmt : Stmt) → view.block_item (item.Statement stmt) ≡ tree.stated_item (view.stmt stmt)
view-stated stmt = search (rules, q.the_lemmas)

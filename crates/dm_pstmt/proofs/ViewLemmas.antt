-- What the statements of the code stand for, form by form.
use Rattle.std.proofs.Common.{◌≡◌, ℕ, Bool, List, map, Option, Some, None, option_map, rules}
use Rattle.dm_token.specs.declared.place.Span.{Span}
use Rattle.dm_syn.specs.declared.expression.Expr.{Expr}
use Rattle.dm_syn.specs.declared.declaration.Initialiser.{Initialiser}
use Rattle.dm_syn.specs.declared.declaration.Initialiser as i
use Rattle.dm_syn.specs.declared.declaration.Specifier as s
use Rattle.dm_syn.specs.declared.declaration.Specifiers.{Specifiers}
use Rattle.dm_syn.specs.declared.declaration.Specifiers as w_s
use Rattle.dm_syn.specs.declared.declaration.Parameter.{Parameter}
use Rattle.dm_syn.specs.declared.declaration.Specifier.TheVariants as specifier
use Rattle.dm_syn.specs.declared.declaration.InitForm.TheVariants as init_form
use Rattle.dm_syn.specs.declared.statement.Stmt.{Stmt}
use Rattle.dm_syn.specs.declared.statement.Stmt as q
use Rattle.dm_syn.specs.declared.statement.ForStart.{ForStart}
use Rattle.dm_syn.specs.declared.statement.Item.{Item}
use Rattle.dm_syn.specs.declared.statement.Item.TheVariants as item
use Rattle.dm_syn.specs.declared.declaration.Declaration.{Declaration}
use Rattle.dm_syn.specs.declared.statement.SwitchItem.{SwitchItem}
use Rattle.dm_syn.specs.declared.statement.SwitchItem as w
use Rattle.dm_syn.specs.declared.statement.SwitchForm.TheVariants as label_form
use Rattle.dm_syn.specs.declared.statement.StmtForm.TheVariants as form
use Rattle.dm_syn.specs.Trees as tree
use Rattle.dm_syn.specs.Views as view

pub view-word : (at : ℕ) → view.specifier (specifier.Word at) ≡ tree.keyword at
view-word at = search (rules, s.the_lemmas)

pub view-specifiers : (it : Specifiers) → view.specifiers it ≡ tree.listed it.span (view.words (map view.specifier it.words))
view-specifiers it = search (rules, w_s.the_lemmas)

pub view-parameter : (it : Parameter) → view.parameter it ≡ tree.parameter it.span (view.specifiers it.specifiers) (view.declarator it.declarator)
view-parameter it = search (rules, w_s.the_lemmas)

pub view-value : (span : Span) (value : Expr) → view.initialiser (record { span = span; form = init_form.Value value }) ≡ tree.value span (view.expr value)
view-value span value = search (rules, i.the_lemmas)

pub view-braces : (span : Span) (items : List Initialiser) (trailing : Bool) → view.initialiser (record { span = span; form = init_form.Braces items trailing }) ≡ tree.braces span (view.initialisers (map view.initialiser items)) trailing
view-braces span items trailing = search (rules, i.the_lemmas)

pub view-block : (span : Span) (items : List Item) → view.stmt (record { span = span; form = form.Block items }) ≡ tree.block span (view.block_items (map view.block_item items))
view-block span items = search (rules, q.the_lemmas)

pub view-while : (span : Span) (condition : Expr) (body : Stmt) → view.stmt (record { span = span; form = form.While condition body }) ≡ tree.while span (view.expr condition) (view.stmt body)
view-while span condition body = search (rules, q.the_lemmas)

view-if : (span : Span) (condition : Expr) (body : Stmt) (other : Option Stmt) → view.stmt (record { span = span; form = form.If condition body other }) ≡ view.if_view span (view.expr condition) (view.stmt body) (option_map view.stmt other)
view-if span condition body other = search (rules, q.the_lemmas)

pub view-if_only : (span : Span) (condition : Expr) (body : Stmt) → view.stmt (record { span = span; form = form.If condition body None }) ≡ tree.if_only span (view.expr condition) (view.stmt body)
view-if_only span condition body = view-if span condition body None

pub view-if_else : (span : Span) (condition : Expr) (body other : Stmt) → view.stmt (record { span = span; form = form.If condition body (Some other) }) ≡ tree.if_else span (view.expr condition) (view.stmt body) (view.stmt other)
view-if_else span condition body other = view-if span condition body (Some other)

pub view-expression : (span : Span) (value : Option Expr) → view.stmt (record { span = span; form = form.Expression value }) ≡ tree.expression span (view.optional value)
view-expression span value = search (rules, q.the_lemmas)

pub view-return : (span : Span) (value : Option Expr) → view.stmt (record { span = span; form = form.Return value }) ≡ tree.return span (view.optional value)
view-return span value = search (rules, q.the_lemmas)

pub view-break : (span : Span) → view.stmt (record { span = span; form = form.Break }) ≡ tree.break span
view-break span = search (rules, q.the_lemmas)

pub view-continue : (span : Span) → view.stmt (record { span = span; form = form.Continue }) ≡ tree.continue span
view-continue span = search (rules, q.the_lemmas)

pub view-do : (span : Span) (body : Stmt) (condition : Expr) → view.stmt (record { span = span; form = form.Do body condition }) ≡ tree.do_while span (view.stmt body) (view.expr condition)
view-do span body condition = search (rules, q.the_lemmas)

pub view-switch : (span : Span) (subject : Expr) (items : List SwitchItem) → view.stmt (record { span = span; form = form.Switch subject items }) ≡ tree.switch span (view.expr subject) (view.switch_items (map view.switch_item items))
view-switch span subject items = search (rules, q.the_lemmas)

pub view-for : (span : Span) (start : ForStart) (condition step : Option Expr) (body : Stmt) → view.stmt (record { span = span; form = form.For start condition step body }) ≡ tree.for_loop span (view.start start) (view.optional condition) (view.optional step) (view.stmt body)
view-for span start condition step body = search (rules, q.the_lemmas)

pub view-case : (span : Span) (label : Expr) (item : SwitchItem) → view.switch_item (record { span = span; form = label_form.Case label item }) ≡ tree.case span (view.expr label) (view.switch_item item)
view-case span label item = search (rules, w.the_lemmas)

pub view-default : (span : Span) (item : SwitchItem) → view.switch_item (record { span = span; form = label_form.Default item }) ≡ tree.default span (view.switch_item item)
view-default span item = search (rules, w.the_lemmas)

pub view-unlabelled : (span : Span) (stmt : Stmt) → view.switch_item (record { span = span; form = label_form.Statement stmt }) ≡ tree.unlabelled span (view.stmt stmt)
view-unlabelled span stmt = search (rules, w.the_lemmas)

pub view-declared : (declaration : Declaration) → view.block_item (item.Declaration declaration) ≡ tree.declared_item (view.declaration declaration)
view-declared declaration = search (rules, q.the_lemmas)

pub view-stated : (stmt : Stmt) → view.block_item (item.Statement stmt) ≡ tree.stated_item (view.stmt stmt)
view-stated stmt = search (rules, q.the_lemmas)

-- What the trees of the code stand for, form by form.
use Rattle.std.proofs.Common.{◌≡◌, ℕ, List, map, rules}
use Rattle.dm_token.specs.declared.place.Span.{Span}
use Rattle.dm_syn.specs.declared.expression.Expr.{Expr}
use Rattle.dm_syn.specs.declared.expression.Expr as q
use Rattle.dm_syn.specs.declared.declaration.TypeName.{TypeName}
use Rattle.dm_syn.specs.declared.expression.ExprForm.TheVariants as form
use Rattle.dm_syn.specs.Trees as tree
use Rattle.dm_syn.specs.Views as view

pub view-name : (span : Span) → view.expr (record { span = span; form = form.Name }) ≡ tree.name span
view-name span = search (rules, q.the_lemmas)

pub view-constant : (span : Span) → view.expr (record { span = span; form = form.Constant }) ≡ tree.constant span
view-constant span = search (rules, q.the_lemmas)

pub view-literal : (span : Span) → view.expr (record { span = span; form = form.Literal }) ≡ tree.literal span
view-literal span = search (rules, q.the_lemmas)

pub view-paren : (span : Span) (a : Expr) → view.expr (record { span = span; form = form.Paren a }) ≡ tree.paren span (view.expr a)
view-paren span a = search (rules, q.the_lemmas)

pub view-index : (span : Span) (a : Expr) (b : Expr) → view.expr (record { span = span; form = form.Index a b }) ≡ tree.index span (view.expr a) (view.expr b)
view-index span a b = search (rules, q.the_lemmas)

pub view-call : (span : Span) (a : Expr) (b : List Expr) → view.expr (record { span = span; form = form.Call a b }) ≡ tree.call span (view.expr a) (view.exprs (map view.expr b))
view-call span a b = search (rules, q.the_lemmas)

pub view-member : (span : Span) (a : Expr) (b : ℕ) → view.expr (record { span = span; form = form.Member a b }) ≡ tree.member span (view.expr a) b
view-member span a b = search (rules, q.the_lemmas)

pub view-arrow : (span : Span) (a : Expr) (b : ℕ) → view.expr (record { span = span; form = form.Arrow a b }) ≡ tree.arrow span (view.expr a) b
view-arrow span a b = search (rules, q.the_lemmas)

pub view-postfix : (span : Span) (a : Expr) (b : ℕ) → view.expr (record { span = span; form = form.Postfix a b }) ≡ tree.postfix span (view.expr a) b
view-postfix span a b = search (rules, q.the_lemmas)

pub view-prefix : (span : Span) (a : ℕ) (b : Expr) → view.expr (record { span = span; form = form.Prefix a b }) ≡ tree.prefix span a (view.expr b)
view-prefix span a b = search (rules, q.the_lemmas)

pub view-sizeof_expr : (span : Span) (a : Expr) → view.expr (record { span = span; form = form.SizeofExpr a }) ≡ tree.sizeof_expr span (view.expr a)
view-sizeof_expr span a = search (rules, q.the_lemmas)

pub view-sizeof_name : (span : Span) (a : TypeName) → view.expr (record { span = span; form = form.SizeofName a }) ≡ tree.sizeof_name span (view.type_name a)
view-sizeof_name span a = search (rules, q.the_lemmas)

pub view-cast : (span : Span) (a : TypeName) (b : Expr) → view.expr (record { span = span; form = form.Cast a b }) ≡ tree.cast span (view.type_name a) (view.expr b)
view-cast span a b = search (rules, q.the_lemmas)

pub view-binary : (span : Span) (a : Expr) (b : ℕ) (c : Expr) → view.expr (record { span = span; form = form.Binary a b c }) ≡ tree.binary span (view.expr a) b (view.expr c)
view-binary span a b c = search (rules, q.the_lemmas)

pub view-conditional : (span : Span) (a : Expr) (b : Expr) (c : Expr) → view.expr (record { span = span; form = form.Conditional a b c }) ≡ tree.conditional span (view.expr a) (view.expr b) (view.expr c)
view-conditional span a b c = search (rules, q.the_lemmas)

pub view-assign : (span : Span) (a : Expr) (b : ℕ) (c : Expr) → view.expr (record { span = span; form = form.Assign a b c }) ≡ tree.assign span (view.expr a) b (view.expr c)
view-assign span a b c = search (rules, q.the_lemmas)

pub view-comma : (span : Span) (a : List Expr) → view.expr (record { span = span; form = form.Comma a }) ≡ tree.comma span (view.exprs (map view.expr a))
view-comma span a = search (rules, q.the_lemmas)

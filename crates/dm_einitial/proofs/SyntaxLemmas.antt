-- What the syntax of initialisers in the code stands for, form by form.
use Rattle.std.specs.Prelude.{◌≡◌, Bool, List, map}
use Rattle.std.proofs.Common.{rules, ap, ◌∙◌}
use Rattle.dm_token.specs.declared.place.Span.{Span}
use Rattle.dm_syn.specs.declared.expression.Expr.{Expr}
use Rattle.dm_syn.specs.declared.declaration.Initialiser.{Initialiser}
use Rattle.dm_syn.specs.declared.declaration.Initialiser as q
use Rattle.dm_syn.specs.declared.declaration.InitForm.TheVariants as form
use Rattle.dm_syn.specs.Trees as tree
use Rattle.dm_syn.specs.Views as syntax

pub view-value : (span : Span) (expr : Expr) → syntax.initialiser (record { span = span; form = form.Value expr }) ≡ tree.value span (syntax.expr expr)
view-value span expr = search (rules, q.the_lemmas)

pub view-braces : (span : Span) (items : List Initialiser) (trailing : Bool)
    → syntax.initialiser (record { span = span; form = form.Braces items trailing }) ≡ tree.braces span (syntax.initialisers (map syntax.initialiser items)) trailing
view-braces span items trailing = search (rules, q.the_lemmas)

pub initialiser-value : (one : Initialiser) (expr : Expr) → one.form ≡ form.Value expr → syntax.initialiser one ≡ tree.value one.span (syntax.expr expr)
initialiser-value one expr h = ap (λ f. syntax.initialiser (record { span = one.span; form = f })) h ∙ view-value one.span expr

pub initialiser-braces : (one : Initialiser) (items : List Initialiser) (trailing : Bool) → one.form ≡ form.Braces items trailing
    → syntax.initialiser one ≡ tree.braces one.span (syntax.initialisers (map syntax.initialiser items)) trailing
initialiser-braces one items trailing h = ap (λ f. syntax.initialiser (record { span = one.span; form = f })) h ∙ view-braces one.span items trailing

-- What the expressions of statements leave as it is.
use Rattle.std.specs.Prelude.{ℕ, ℤ, true, not, List, [], ◌∷◌, Option, Some, None, refl}
use Rattle.std.proofs.Common.{◌∙◌}
use Rattle.dm_token.specs.declared.place.Span.{Span}
use Rattle.dm_int.specs.declared.Kind.{Kind}
use Rattle.dm_type.specs.CTypes.{CType}
use Rattle.dm_syn.specs.Spans.{expr_span}
use Rattle.dm_syn.specs.Trees.{Expr}
use Rattle.dm_tree.specs.Constants.{integer_kind}
use Rattle.dm_tree.specs.Scenes.{is_scalar, is_void}
use Rattle.dm_tree.specs.Trees.{Tree, kind_of}
use Rattle.dm_typing.specs.Known.{Known, Setting}
use Rattle.dm_typing.specs.Conversions.{as_value, as_kind, constant_of}
use Rattle.dm_typing.specs.Rules.{is_assignable}
use Rattle.dm_typing.specs.Typing.{typed}
use Rattle.dm_eexpr.proofs.KeepLemmas.{Keeps, KeepsIn, Leads, SameTrees, keeps-itself, adds-on, after-leads, with-leads, obeys-leads, if-leads, stays, expr-keeps, expr-trees}
use Rattle.dm_edecl.specs.Statements.{typed_value, typed_optional, typed_condition, typed_optional_condition, typed_subject, is_label_among, case_value, typed_case, returned, typed_return}

same-itself : (known : Known) → SameTrees known known
same-itself known = refl

same-on : (a b c : Known) → SameTrees a b → SameTrees b c → SameTrees a c
same-on a b c first second = second ∙ first

module _ (R : Known → Known → Type 0) (itself : (known : Known) → R known known) (on : (a b c : Known) → R a b → R b c → R a c) (setting : Setting)
    (exprs : (known : Known) (expr : Expr) → Leads R known (typed setting true known expr)) where
  value-leads : (known : Known) (expr : Expr) → Leads R known (typed_value setting known expr)
  value-leads known expr = with-leads R known (typed setting true known expr) (λ behind made. as_value made) (exprs known expr)

  optional-leads : (known : Known) (expr : Option Expr) → Leads R known (typed_optional setting known expr)
  optional-leads known None = stays R known [] (itself known)
  optional-leads known (Some expr) = with-leads R known (typed_value setting known expr) (λ behind value. value ∷ []) (value-leads known expr)

  condition-leads : (known : Known) (expr : Expr) → Leads R known (typed_condition setting known expr)
  condition-leads known expr =
      after-leads R itself on known (typed_value setting known expr) _ (value-leads known expr)
      (λ behind value. obeys-leads R behind (is_scalar (kind_of value)) 32 (expr_span expr).first _ (stays R behind value (itself behind)))

  optional-condition-leads : (known : Known) (expr : Option Expr) → Leads R known (typed_optional_condition setting known expr)
  optional-condition-leads known None = stays R known [] (itself known)
  optional-condition-leads known (Some expr) = with-leads R known (typed_condition setting known expr) (λ behind value. value ∷ []) (condition-leads known expr)

  subject-leads : (known : Known) (expr : Expr) → Leads R known (typed_subject setting known expr)
  subject-leads known expr =
      after-leads R itself on known (typed_value setting known expr) _ (value-leads known expr)
      (λ behind value. if-leads R behind (integer_kind (kind_of value)) 32 (expr_span expr).first _ (λ kind. stays R behind _ (itself behind)))

  new-case-leads : (known : Known) (labels : List (Option ℤ)) (here : ℕ) (value : Tree) → Leads R known (case_value known labels here value)
  new-case-leads known labels here value =
      if-leads R known (constant_of known value) 30 here _ (λ n. obeys-leads R known (not (is_label_among (Some n) labels)) 31 here _ (stays R known _ (itself known)))

  case-leads : (known : Known) (kind : Kind) (labels : List (Option ℤ)) (expr : Expr) → Leads R known (typed_case setting known kind labels expr)
  case-leads known kind labels expr =
      after-leads R itself on known (typed_value setting known expr) _ (value-leads known expr)
      (λ behind value. new-case-leads behind labels (expr_span expr).first (as_kind kind value))

  given-leads : (known : Known) (result : CType) (span : Span) (values : List Tree) → Leads R known (returned setting known result span values)
  given-leads known result span [] = obeys-leads R known (is_void result) 34 span.first _ (stays R known _ (itself known))
  given-leads known result span (value ∷ others) = obeys-leads R known (is_assignable known value result) 34 span.first _ (stays R known _ (itself known))

  return-leads : (known : Known) (result : CType) (span : Span) (expr : Option Expr) → Leads R known (typed_return setting known result span expr)
  return-leads known result span expr =
      after-leads R itself on known (typed_optional setting known expr) _ (optional-leads known expr) (λ behind values. given-leads behind result span values)

-- ---- declarations

keeps-on : (a b c : Known) → Keeps a b → Keeps b c → Keeps a c
keeps-on a b c first second = record { adds = adds-on a b c first.adds second.adds; begun = second.begun ∙ first.begun }

module _ (setting : Setting) (known : Known) where
  exprs-keep : (known : Known) (expr : Expr) → KeepsIn known (typed setting true known expr)
  exprs-keep known expr = expr-keeps setting true known (expr_span expr) expr

  pub optional-keeps : (expr : Option Expr) → KeepsIn known (typed_optional setting known expr)
  optional-keeps expr = optional-leads Keeps keeps-itself keeps-on setting exprs-keep known expr

  pub condition-keeps : (expr : Expr) → KeepsIn known (typed_condition setting known expr)
  condition-keeps expr = condition-leads Keeps keeps-itself keeps-on setting exprs-keep known expr

  pub optional-condition-keeps : (expr : Option Expr) → KeepsIn known (typed_optional_condition setting known expr)
  optional-condition-keeps expr = optional-condition-leads Keeps keeps-itself keeps-on setting exprs-keep known expr

  pub subject-keeps : (expr : Expr) → KeepsIn known (typed_subject setting known expr)
  subject-keeps expr = subject-leads Keeps keeps-itself keeps-on setting exprs-keep known expr

  pub case-keeps : (kind : Kind) (labels : List (Option ℤ)) (expr : Expr) → KeepsIn known (typed_case setting known kind labels expr)
  case-keeps kind labels expr = case-leads Keeps keeps-itself keeps-on setting exprs-keep known kind labels expr

  pub return-keeps : (result : CType) (span : Span) (expr : Option Expr) → KeepsIn known (typed_return setting known result span expr)
  return-keeps result span expr = return-leads Keeps keeps-itself keeps-on setting exprs-keep known result span expr

-- ---- lengths and enumerator values

module _ (setting : Setting) (known : Known) where
  exprs-trees : (known : Known) (expr : Expr) → Leads SameTrees known (typed setting true known expr)
  exprs-trees known expr = expr-trees setting true known (expr_span expr) expr

  pub optional-trees : (expr : Option Expr) → Leads SameTrees known (typed_optional setting known expr)
  optional-trees expr = optional-leads SameTrees same-itself same-on setting exprs-trees known expr

  pub condition-trees : (expr : Expr) → Leads SameTrees known (typed_condition setting known expr)
  condition-trees expr = condition-leads SameTrees same-itself same-on setting exprs-trees known expr

  pub optional-condition-trees : (expr : Option Expr) → Leads SameTrees known (typed_optional_condition setting known expr)
  optional-condition-trees expr = optional-condition-leads SameTrees same-itself same-on setting exprs-trees known expr

  pub subject-trees : (expr : Expr) → Leads SameTrees known (typed_subject setting known expr)
  subject-trees expr = subject-leads SameTrees same-itself same-on setting exprs-trees known expr

  pub case-trees : (kind : Kind) (labels : List (Option ℤ)) (expr : Expr) → Leads SameTrees known (typed_case setting known kind labels expr)
  case-trees kind labels expr = case-leads SameTrees same-itself same-on setting exprs-trees known kind labels expr

  pub return-trees : (result : CType) (span : Span) (expr : Option Expr) → Leads SameTrees known (typed_return setting known result span expr)
  return-trees result span expr = return-leads SameTrees same-itself same-on setting exprs-trees known result span expr

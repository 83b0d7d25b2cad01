-- What the syntax trees of the code stand for, form by form.
use Rattle.std.specs.Prelude.{◌≡◌, ℕ, Bool, List, map, Option, Some, None, refl}
use Rattle.std.proofs.Common.{rules, sym, ap, ◌∙◌}
use Rattle.dm_token.specs.declared.place.Span.{Span}
use Rattle.dm_syn.specs.declared.expression.Expr.{Expr}
use Rattle.dm_syn.specs.declared.expression.Expr as q
use Rattle.dm_syn.specs.declared.expression.ExprForm.{ExprForm}
use Rattle.dm_syn.specs.declared.expression.ExprForm.TheVariants as form
use Rattle.dm_syn.specs.declared.declaration.TypeName.{TypeName}
use Rattle.dm_syn.specs.declared.declaration.Specifiers.{Specifiers}
use Rattle.dm_syn.specs.declared.declaration.Specifier.{Specifier}
use Rattle.dm_syn.specs.declared.declaration.Specifier.TheVariants as specifier
use Rattle.dm_syn.specs.declared.declaration.StructForm.{StructForm, roll-StructForm, out-StructForm}
use Rattle.dm_syn.specs.declared.declaration.EnumForm.{EnumForm, roll-EnumForm, out-EnumForm}
use Rattle.dm_syn.specs.declared.declaration.EnumItem.{EnumItem, roll-EnumItem, out-EnumItem}
use Rattle.dm_syn.specs.declared.declaration.MemberForm.{MemberForm, out-MemberForm}
use Rattle.dm_syn.specs.declared.declaration.Declarator.{Declarator}
use Rattle.dm_syn.specs.declared.declaration.Direct.TheVariants as direct
use Rattle.dm_syn.specs.declared.declaration.Direct.TheFolds as folds
use Rattle.dm_syn.specs.declared.declaration.Direct.TheOpen as layer
use Rattle.dm_syn.specs.declared.declaration.Parameter.{Parameter}
use Rattle.dm_syn.specs.Trees as tree
use Rattle.dm_syn.specs.Spans.{expr_span}
use Rattle.dm_syn.specs.Views as view

expr-at : (span : Span) (f : ExprForm) → view.expr (record { span = span; form = f }) ≡ view.expr_form f span
expr-at span f = search (rules, q.the_lemmas)

pub view-expr : (e : Expr) → view.expr e ≡ view.expr_form e.form e.span
view-expr e = expr-at e.span e.form

pub form-name : (span : Span) → view.expr_form form.Name span ≡ tree.name span
form-name span = search (rules, q.the_lemmas)

pub form-constant : (span : Span) → view.expr_form form.Constant span ≡ tree.constant span
form-constant span = search (rules, q.the_lemmas)

pub form-literal : (span : Span) → view.expr_form form.Literal span ≡ tree.literal span
form-literal span = search (rules, q.the_lemmas)

pub form-paren : (span : Span) (a : Expr) → view.expr_form (form.Paren a) span ≡ tree.paren span (view.expr a)
form-paren span a = search (rules, q.the_lemmas)

-- the span of a form
span-layer : (f : layer.ExprForm-F tree.Direct tree.Specifier (Span → tree.Expr) tree.Declarator tree.Specifier tree.Enumerator tree.Member tree.Parameter tree.Specifiers tree.Specifier tree.TypeName tree.Expr) (span : Span)
    → expr_span (view.expr_form_layer f span) ≡ span
span-layer layer.ExprForm::Name span = refl
span-layer layer.Constant span = refl
span-layer layer.Literal span = refl
span-layer (layer.ExprForm::Paren inner) span = refl
span-layer (layer.Index left right) span = refl
span-layer (layer.Call callee arguments) span = refl
span-layer (layer.Member left name) span = refl
span-layer (layer.Arrow left name) span = refl
span-layer (layer.Postfix left operator) span = refl
span-layer (layer.Prefix operator operand) span = refl
span-layer (layer.SizeofExpr operand) span = refl
span-layer (layer.SizeofName name) span = refl
span-layer (layer.Cast name operand) span = refl
span-layer (layer.Binary left operator right) span = refl
span-layer (layer.Conditional first second third) span = refl
span-layer (layer.Assign left operator right) span = refl
span-layer (layer.Comma parts) span = refl

span-form : (span : Span) (f : ExprForm) → expr_span (view.expr_form f span) ≡ span
span-form span f =
    ap (λ (made : Span → tree.Expr). expr_span (made span))
    (folds.fold_out-ExprForm tree.Direct tree.Specifier (Span → tree.Expr) tree.Declarator tree.Specifier tree.Enumerator tree.Member tree.Parameter tree.Specifiers tree.Specifier tree.TypeName tree.Expr
    view.direct_layer view.specifier_layer view.expr_form_layer view.declarator_layer view.enum_form_layer view.enum_item_layer view.member_form_layer view.parameter_layer view.specifiers_layer
    view.struct_form_layer view.type_name_layer view.expr_layer f) ∙ span-layer _ span

pub span-expr : (e : Expr) → expr_span (view.expr e) ≡ e.span
span-expr e = ap expr_span (view-expr e) ∙ span-form e.span e.form

-- ---- type names, specifiers and declarators

name-at : (span : Span) (a : Specifiers) (b : Declarator) → view.type_name (record { span = span; specifiers = a; declarator = b }) ≡ tree.type_name span (view.specifiers a) (view.declarator b)
name-at span a b = search (rules, q.the_lemmas)

pub view-type-name : (name : TypeName) → view.type_name name ≡ tree.type_name name.span (view.specifiers name.specifiers) (view.declarator name.declarator)
view-type-name name = name-at name.span name.specifiers name.declarator

parameter-at : (span : Span) (a : Specifiers) (b : Declarator) → view.parameter (record { span = span; specifiers = a; declarator = b }) ≡ tree.parameter span (view.specifiers a) (view.declarator b)
parameter-at span a b = search (rules, q.the_lemmas)

pub view-parameter : (one : Parameter) → view.parameter one ≡ tree.parameter one.span (view.specifiers one.specifiers) (view.declarator one.declarator)
view-parameter one = parameter-at one.span one.specifiers one.declarator

specifiers-at : (span : Span) (a : List Specifier) → view.specifiers (record { span = span; words = a }) ≡ tree.listed span (view.words (map view.specifier a))
specifiers-at span a = search (rules, q.the_lemmas)

pub view-specifiers : (all : Specifiers) → view.specifiers all ≡ tree.listed all.span (view.words (map view.specifier all.words))
view-specifiers all = specifiers-at all.span all.words

pub view-word : (at : ℕ) → view.specifier (specifier.Word at) ≡ tree.keyword at
view-word at = search (rules, q.the_lemmas)

pub view-typedef : (at : ℕ) → view.specifier (specifier.Typedef at) ≡ tree.typedef_name at
view-typedef at = search (rules, q.the_lemmas)

pub view-struct : (one : StructForm) → view.specifier (specifier.Struct one) ≡ view.struct_form one
view-struct one = search (rules, q.the_lemmas)

pub view-enum : (one : EnumForm) → view.specifier (specifier.Enum one) ≡ view.enum_form one
view-enum one = search (rules, q.the_lemmas)

pub view-absent : view.direct direct.Absent ≡ tree.absent
view-absent = search (rules, q.the_lemmas)

pub view-declared : (name : ℕ) → view.direct (direct.Name name) ≡ tree.declared name
view-declared name = search (rules, q.the_lemmas)

pub view-enclosed : (a : Declarator) → view.direct (direct.Paren a) ≡ tree.enclosed (view.declarator a)
view-enclosed a = search (rules, q.the_lemmas)

-- ---- structs and enums

struct-alone : (span : Span) (tag : Option ℕ) → view.struct_form (roll-StructForm (record { span = span; tag = tag; members = None })) ≡ tree.struct_only span tag
struct-alone span tag = search (rules, q.the_lemmas)

struct-full : (span : Span) (tag : Option ℕ) (members : List MemberForm)
    → view.struct_form (roll-StructForm (record { span = span; tag = tag; members = Some members })) ≡ tree.struct_with span tag (view.members (map view.member_form members))
struct-full span tag members = search (rules, q.the_lemmas)

struct-whole : (one : StructForm) → roll-StructForm (out-StructForm one) ≡ one
struct-whole one = search (rules, q.the_lemmas)

module _ (one : StructForm) where
  abbrev struct_at : Option (List MemberForm) → StructForm
  struct_at all = roll-StructForm (record { span = (out-StructForm one).span; tag = (out-StructForm one).tag; members = all })

  pub struct-none : (out-StructForm one).members ≡ None → view.struct_form one ≡ tree.struct_only (out-StructForm one).span (out-StructForm one).tag
  struct-none h = ap view.struct_form (sym (struct-whole one) ∙ ap struct_at h) ∙ struct-alone (out-StructForm one).span (out-StructForm one).tag

  pub struct-some : (members : List MemberForm) → (out-StructForm one).members ≡ Some members
      → view.struct_form one ≡ tree.struct_with (out-StructForm one).span (out-StructForm one).tag (view.members (map view.member_form members))
  struct-some members h = ap view.struct_form (sym (struct-whole one) ∙ ap struct_at h) ∙ struct-full (out-StructForm one).span (out-StructForm one).tag members

enum-alone : (span : Span) (tag : Option ℕ) (trailing : Bool) → view.enum_form (roll-EnumForm (record { span = span; tag = tag; enumerators = None; trailing = trailing })) ≡ tree.enum_only span tag trailing
enum-alone span tag trailing = search (rules, q.the_lemmas)

enum-full : (span : Span) (tag : Option ℕ) (items : List EnumItem) (trailing : Bool)
    → view.enum_form (roll-EnumForm (record { span = span; tag = tag; enumerators = Some items; trailing = trailing })) ≡ tree.enum_with span tag (view.enumerators (map view.enum_item items)) trailing
enum-full span tag items trailing = search (rules, q.the_lemmas)

enum-whole : (one : EnumForm) → roll-EnumForm (out-EnumForm one) ≡ one
enum-whole one = search (rules, q.the_lemmas)

module _ (one : EnumForm) where
  abbrev enum_at : Option (List EnumItem) → EnumForm
  enum_at all = roll-EnumForm (record { span = (out-EnumForm one).span; tag = (out-EnumForm one).tag; enumerators = all; trailing = (out-EnumForm one).trailing })

  pub enum-none : (out-EnumForm one).enumerators ≡ None → view.enum_form one ≡ tree.enum_only (out-EnumForm one).span (out-EnumForm one).tag (out-EnumForm one).trailing
  enum-none h = ap view.enum_form (sym (enum-whole one) ∙ ap enum_at h) ∙ enum-alone (out-EnumForm one).span (out-EnumForm one).tag (out-EnumForm one).trailing

  pub enum-some : (items : List EnumItem) → (out-EnumForm one).enumerators ≡ Some items
      → view.enum_form one ≡ tree.enum_with (out-EnumForm one).span (out-EnumForm one).tag (view.enumerators (map view.enum_item items)) (out-EnumForm one).trailing
  enum-some items h = ap view.enum_form (sym (enum-whole one) ∙ ap enum_at h) ∙ enum-full (out-EnumForm one).span (out-EnumForm one).tag items (out-EnumForm one).trailing

bare-at : (span : Span) (name : ℕ) → view.enum_item (roll-EnumItem (record { span = span; name = name; value = None })) ≡ tree.bare span name
bare-at span name = search (rules, q.the_lemmas)

valued-at : (span : Span) (name : ℕ) (value : Expr) → view.enum_item (roll-EnumItem (record { span = span; name = name; value = Some value })) ≡ tree.valued span name (view.expr value)
valued-at span name value = search (rules, q.the_lemmas)

item-whole : (one : EnumItem) → roll-EnumItem (out-EnumItem one) ≡ one
item-whole one = search (rules, q.the_lemmas)

module _ (one : EnumItem) where
  abbrev item_at : Option Expr → EnumItem
  item_at value = roll-EnumItem (record { span = (out-EnumItem one).span; name = (out-EnumItem one).name; value = value })

  pub item-bare : (out-EnumItem one).value ≡ None → view.enum_item one ≡ tree.bare (out-EnumItem one).span (out-EnumItem one).name
  item-bare h = ap view.enum_item (sym (item-whole one) ∙ ap item_at h) ∙ bare-at (out-EnumItem one).span (out-EnumItem one).name

  pub item-valued : (value : Expr) → (out-EnumItem one).value ≡ Some value → view.enum_item one ≡ tree.valued (out-EnumItem one).span (out-EnumItem one).name (view.expr value)
  item-valued value h = ap view.enum_item (sym (item-whole one) ∙ ap item_at h) ∙ valued-at (out-EnumItem one).span (out-EnumItem one).name value

pub view-members : (one : MemberForm) → view.member_form one ≡ tree.members (out-MemberForm one).span (view.specifiers (out-MemberForm one).specifiers) (view.declarators (map view.declarator (out-MemberForm one).declarators))
view-members one =
    folds.fold_out-MemberForm tree.Direct tree.Specifier (Span → tree.Expr) tree.Declarator tree.Specifier tree.Enumerator tree.Member tree.Parameter tree.Specifiers tree.Specifier tree.TypeName tree.Expr
    view.direct_layer view.specifier_layer view.expr_form_layer view.declarator_layer view.enum_form_layer view.enum_item_layer view.member_form_layer view.parameter_layer view.specifiers_layer
    view.struct_form_layer view.type_name_layer view.expr_layer one

-- What type names, specifiers and declarators of the code stand for, form by form.
use Rattle.std.proofs.Common.{◌≡◌, ℕ, Bool, List, map, Option, Some, None, rules}
use Rattle.dm_token.specs.declared.place.Span.{Span}
use Rattle.dm_syn.specs.declared.expression.Expr.{Expr}
use Rattle.dm_syn.specs.declared.expression.Expr as q
use Rattle.dm_syn.specs.declared.declaration.Specifiers.{Specifiers}
use Rattle.dm_syn.specs.declared.declaration.Specifier.{Specifier}
use Rattle.dm_syn.specs.declared.declaration.Specifier.TheVariants as specifier
use Rattle.dm_syn.specs.declared.declaration.StructForm.{roll-StructForm}
use Rattle.dm_syn.specs.declared.declaration.EnumForm.{roll-EnumForm}
use Rattle.dm_syn.specs.declared.declaration.MemberForm.{MemberForm, roll-MemberForm}
use Rattle.dm_syn.specs.declared.declaration.EnumItem.{EnumItem, roll-EnumItem}
use Rattle.dm_syn.specs.declared.declaration.Declarator.{Declarator}
use Rattle.dm_syn.specs.declared.declaration.Direct.{Direct}
use Rattle.dm_syn.specs.declared.declaration.Direct.TheVariants as direct
use Rattle.dm_syn.specs.declared.declaration.Parameter.{Parameter}
use Rattle.dm_syn.specs.Trees as tree
use Rattle.dm_syn.specs.Views as view

pub view-type-name : (span : Span) (a : Specifiers) (b : Declarator) → view.type_name (record { span = span; specifiers = a; declarator = b }) ≡ tree.type_name span (view.specifiers a) (view.declarator b)
view-type-name span a b = search (rules, q.the_lemmas)

pub view-parameter : (span : Span) (a : Specifiers) (b : Declarator) → view.parameter (record { span = span; specifiers = a; declarator = b }) ≡ tree.parameter span (view.specifiers a) (view.declarator b)
view-parameter span a b = search (rules, q.the_lemmas)

pub view-specifiers : (span : Span) (a : List Specifier) → view.specifiers (record { span = span; words = a }) ≡ tree.listed span (view.words (map view.specifier a))
view-specifiers span a = search (rules, q.the_lemmas)

pub view-struct-with : (span : Span) (tag : Option ℕ) (a : List MemberForm) → view.specifier (specifier.Struct (roll-StructForm (record { span = span; tag = tag; members = Some a }))) ≡ tree.struct_with span tag (view.members (map view.member_form a))
view-struct-with span tag a = search (rules, q.the_lemmas)

pub view-struct-only : (span : Span) (tag : Option ℕ) → view.specifier (specifier.Struct (roll-StructForm (record { span = span; tag = tag; members = None }))) ≡ tree.struct_only span tag
view-struct-only span tag = search (rules, q.the_lemmas)

pub view-enum-with : (span : Span) (tag : Option ℕ) (a : List EnumItem) (trailing : Bool) → view.specifier (specifier.Enum (roll-EnumForm (record { span = span; tag = tag; enumerators = Some a; trailing = trailing }))) ≡ tree.enum_with span tag (view.enumerators (map view.enum_item a)) trailing
view-enum-with span tag a trailing = search (rules, q.the_lemmas)

pub view-enum-only : (span : Span) (tag : Option ℕ) (trailing : Bool) → view.specifier (specifier.Enum (roll-EnumForm (record { span = span; tag = tag; enumerators = None; trailing = trailing }))) ≡ tree.enum_only span tag trailing
view-enum-only span tag trailing = search (rules, q.the_lemmas)

pub view-members : (span : Span) (a : Specifiers) (b : List Declarator) → view.member_form (roll-MemberForm (record { span = span; specifiers = a; declarators = b })) ≡ tree.members span (view.specifiers a) (view.declarators (map view.declarator b))
view-members span a b = search (rules, q.the_lemmas)

pub view-bare : (span : Span) (name : ℕ) → view.enum_item (roll-EnumItem (record { span = span; name = name; value = None })) ≡ tree.bare span name
view-bare span name = search (rules, q.the_lemmas)

pub view-valued : (span : Span) (name : ℕ) (a : Expr) → view.enum_item (roll-EnumItem (record { span = span; name = name; value = Some a })) ≡ tree.valued span name (view.expr a)
view-valued span name a = search (rules, q.the_lemmas)

pub view-shaped : (span : Span) (stars : List ℕ) (a : Direct) → view.declarator (record { span = span; pointers = stars; direct = a }) ≡ tree.shaped span stars (view.direct a)
view-shaped span stars a = search (rules, q.the_lemmas)

pub view-absent : view.direct direct.Absent ≡ tree.absent
view-absent = search (rules, q.the_lemmas)

pub view-declared : (name : ℕ) → view.direct (direct.Name name) ≡ tree.declared name
view-declared name = search (rules, q.the_lemmas)

pub view-enclosed : (a : Declarator) → view.direct (direct.Paren a) ≡ tree.enclosed (view.declarator a)
view-enclosed a = search (rules, q.the_lemmas)

pub view-array : (a : Direct) → view.direct (direct.Array a None) ≡ tree.array (view.direct a)
view-array a = search (rules, q.the_lemmas)

pub view-sized : (a : Direct) (b : Expr) → view.direct (direct.Array a (Some b)) ≡ tree.sized (view.direct a) (view.expr b)
view-sized a b = search (rules, q.the_lemmas)

pub view-function : (a : Direct) (b : List Parameter) → view.direct (direct.Function a b) ≡ tree.function (view.direct a) (view.parameters (map view.parameter b))
view-function a b = search (rules, q.the_lemmas)

-- The typed tree of an expression is no statement.
--     Says P outcome      what is given is such
--     IsPlain tree      the tree is an expression
use Rattle.std.specs.Prelude.{◌≡◌, refl, ℕ, Bool, true, false, not, ◌&&◌, List, [], ◌∷◌, Option, Some, None, option_and_then, unwrap_or}
use Rattle.std.proofs.Common.{subst}
use Rattle.dm_int.specs.declared.Op.{Op}
use Rattle.dm_type.specs.CTypes.{CType, bare}
use Rattle.dm_scope.specs.Scopes.{number_of}
use Rattle.dm_token.specs.declared.place.Span.{Span}
use Rattle.dm_token.specs.declared.token.CToken.{CToken}
use Rattle.dm_syn.specs.declared.symbol.Symbol.{Symbol}
use Rattle.dm_syn.specs.declared.symbol.Symbol.TheVariants as symbol
use Rattle.dm_syn.specs.Sources.{symbol_at, spelling_at}
use Rattle.dm_syn.specs.Spans.{expr_span}
use Rattle.dm_syn.specs.Trees.{Expr, Exprs}
use Rattle.dm_syn.specs.Trees as tree
use Rattle.dm_tree.specs.declared.unit.Sort.{Sort}
use Rattle.dm_tree.specs.declared.unit.Sort.TheVariants.{Object, Function, Typedef, Enumerator, Tag}
use Rattle.dm_tree.specs.Scenes.{is_lvalue, is_scalar}
use Rattle.dm_tree.specs.Trees.{Label, Tree, label_of, kind_of, is_statement}
use Rattle.dm_tree.specs.Trees as label
use Rattle.dm_tree.specs.Units.{Declaration}
use Rattle.dm_typing.specs.declared.extent.Extent.{Extent}
use Rattle.dm_typing.specs.Known.{Known, Setting, Outcome, given, broken, after, with_it, obeys, if_given, meaning_of}
use Rattle.dm_typing.specs.Conversions.{made, as_value, complete_target, is_complete}
use Rattle.dm_typing.specs.Operators.{row_at, operator_of_row, operator_of_assignment, sign_of_row}
use Rattle.dm_typing.specs.Rules.{named_by_sort, indexed, member_by_name, is_modifiable, may_be_counted, signed, may_be_cast, operated, rule_of, arms, is_assignable, called, updated}
use Rattle.dm_typing.specs.Typing.{may_be_used, named, constant_tree, index_tree, typed_index, typed_member, typed_arrow, typed_count, typed_follow, typed_sign, typed_prefix, typed_sizeof, typed_sizeof_name, typed_cast, typed_operation, typed_binary, typed_choice, typed_update, typed_assignment, is_name, is_function_label, typed_call, comma_tree, comma_of, typed, typed_within, typed_values, typed_name, extent}
use Rattle.dm_edecl.specs.Statements.{typed_value, typed_optional, typed_condition, typed_optional_condition}
use Rattle.dm_scoped.proofs.OverLemmas.{IsKept, Every, value-kept}
use Rattle.dm_scoped.proofs.StepLemmas.{first-of}

-- ---- what is given

unfoldable pub Says : {A : Type 0} → (A → Type 0) → Outcome A → Type 0
Says P (given known it) = P it
Says P (broken rule at) = Unit {0}

abbrev NoClaim : {A : Type 0} → A → Type 0
NoClaim it = Unit {0}

no_claim : {A : Type 0} (outcome : Outcome A) → Says NoClaim outcome
unfolding Says
no_claim (given known it) = tt
no_claim (broken rule at) = tt

pub says : {A : Type 0} (P : A → Type 0) (known : Known) (it : A) → P it → Says P (given known it)
unfolding Says
says P known it h = h

pub after_says : {A B : Type 0} (P : A → Type 0) (Q : B → Type 0) (outcome : Outcome A) (next : Known → A → Outcome B) → Says P outcome
    → ((known : Known) (it : A) → P it → Says Q (next known it)) → Says Q (after outcome next)
unfolding Says
after_says P Q (given known it) next h step = step known it h
after_says P Q (broken rule at) next h step = tt

-- the parts before are of no account
pub behind_says : {A B : Type 0} (Q : B → Type 0) (outcome : Outcome A) (next : Known → A → Outcome B) → ((known : Known) (it : A) → Says Q (next known it)) → Says Q (after outcome next)
behind_says Q outcome next step = after_says NoClaim Q outcome next (no_claim outcome) (λ known it any. step known it)

with_says : {A B : Type 0} (P : A → Type 0) (Q : B → Type 0) (outcome : Outcome A) (make : Known → A → B) → Says P outcome → ((known : Known) (it : A) → P it → Q (make known it))
    → Says Q (with_it outcome make)
unfolding Says
with_says P Q (given known it) make h step = step known it h
with_says P Q (broken rule at) make h step = tt

pub obeys_says : {A : Type 0} (Q : A → Type 0) (test : Bool) (rule at : ℕ) (next : Outcome A) → Says Q next → Says Q (obeys test rule at next)
unfolding Says
obeys_says Q true rule at next h = h
obeys_says Q false rule at next h = tt

if_says : {A B : Type 0} (Q : B → Type 0) (found : Option A) (rule at : ℕ) (next : A → Outcome B) → ((it : A) → found ≡ Some it → Says Q (next it)) → Says Q (if_given found rule at next)
unfolding Says
if_says Q (Some it) rule at next h = h it refl
if_says Q None rule at next h = tt

broken_says : {A : Type 0} (Q : A → Type 0) (rule at : ℕ) → Says Q (broken rule at)
unfolding Says
broken_says Q rule at = tt

-- ---- nodes

abbrev pub IsPlain : Tree → Type 0
IsPlain tree = not (is_statement (label_of tree)) ≡ true

plain_kept : IsKept IsPlain
plain_kept = record { read_kept = λ kind tree is h. refl; decay_kept = λ kind tree is h. refl; convert_kept = λ kind tree h. refl }

value_plain : (it : Tree) → IsPlain it → IsPlain (as_value it)
value_plain = value-kept IsPlain plain_kept

module _ (setting : Setting) (known : Known) (span : Extent) where
  named_plain : (sort : Sort) (d : ℕ) (type kind : CType) (form : Label) → named_by_sort sort d type ≡ Some (form, kind) → not (is_statement form) ≡ true
  named_plain (Object fixed) d type kind form e = subst (λ it. not (is_statement it) ≡ true) (first-of (label.object d) form _ kind e) refl
  named_plain Function d type kind form e = subst (λ it. not (is_statement it) ≡ true) (first-of (label.function d) form _ kind e) refl
  named_plain (Enumerator value) d type kind form e = subst (λ it. not (is_statement it) ≡ true) (first-of (label.enumerator d) form _ kind e) refl
  named_plain Typedef d type kind form e = absurd (cc)
  named_plain Tag d type kind form e = absurd (cc)

  name_says : (used : Bool) (name : List ℕ) (found : Option Declaration) → Says IsPlain (named setting used known span name found)
  name_says used name None = broken_says IsPlain 1 span.inner.first
  name_says used name (Some entry) =
      let d = unwrap_or (number_of known.scopes name) 0 in
      if_says IsPlain (named_by_sort entry.sort d entry.kind) 1 span.inner.first _
      (λ it e. obeys_says IsPlain (may_be_used setting used name entry) 37 span.inner.first _
      (says IsPlain known (made setting.source span it.0 it.1 []) (named_plain entry.sort d entry.kind it.1 it.0 e)))

  constant_plain : (found : Option CToken) → IsPlain (constant_tree setting span found)
  constant_plain None = refl
  constant_plain (Some token) = refl

  index_plain : (a b : Tree) (type : CType) (to : Option CType) → IsPlain a → IsPlain (index_tree setting span a b type to)
  index_plain a b type None h = h
  index_plain a b type (Some to) h = refl

  index_says : (a b : Tree) → IsPlain a → Says IsPlain (typed_index setting known span a b)
  index_says a b h = if_says IsPlain (indexed known (kind_of a) (kind_of b)) 11 span.inner.first _ (λ type e. says IsPlain known _ (index_plain a b type (complete_target known type) h))

  member_says : (name : ℕ) (whole : Tree) → Says IsPlain (typed_member setting known span name whole)
  member_says name whole = if_says IsPlain (member_by_name known (spelling_at setting.source name) whole) 12 span.inner.first _ (λ it e. says IsPlain known _ refl)

  arrow_says : (name : ℕ) (operand : Tree) → Says IsPlain (typed_arrow setting known span name operand)
  arrow_says name operand = if_says IsPlain (complete_target known (kind_of operand)) 12 span.inner.first _ (λ to e. member_says name (made setting.source span label.follow to (operand ∷ [])))

  count_says : (operator : ℕ) (before : Bool) (operand : Tree) → Says IsPlain (typed_count setting known span operator before operand)
  count_says operator before operand = obeys_says IsPlain (may_be_counted known operand) 13 span.inner.first _ (says IsPlain known _ refl)

  follow_says : (operand : Tree) → Says IsPlain (typed_follow setting known span operand)
  follow_says operand = if_says IsPlain (complete_target known (kind_of operand)) 15 span.inner.first _ (λ to e. says IsPlain known _ refl)

  sign_says : (operator : ℕ) (operand : Tree) → Says IsPlain (typed_sign setting known span operator operand)
  sign_says operator operand =
      if_says IsPlain (option_and_then sign_of_row (row_at setting.source operator)) 16 span.inner.first _
      (λ sign e. if_says IsPlain (signed sign operand) 16 span.inner.first _ (λ one is. says IsPlain known _ refl))

  prefix_says : (operator : ℕ) (operand : Tree) (it : Symbol) → Says IsPlain (typed_prefix setting known span operator operand it)
  prefix_says operator operand symbol.Increment = count_says operator true operand
  prefix_says operator operand symbol.Ampersand = obeys_says IsPlain (is_lvalue operand) 14 span.inner.first _ (says IsPlain known _ refl)
  prefix_says operator operand symbol.Star = follow_says (as_value operand)
  prefix_says operator operand it = sign_says operator (as_value operand)

  operation_says : (a b : Tree) (found : Option Op) → Says IsPlain (typed_operation setting known span a b found)
  operation_says a b None = broken_says IsPlain 19 span.inner.first
  operation_says a b (Some op) = if_says IsPlain (operated known op a b) (rule_of op) span.inner.first _ (λ it e. says IsPlain known _ refl)

  binary_says : (operator : ℕ) (a b : Tree) (it : Symbol) → Says IsPlain (typed_binary setting known span operator a b it)
  binary_says operator a b symbol.And = obeys_says IsPlain (is_scalar (kind_of a) && is_scalar (kind_of b)) 26 span.inner.first _ (says IsPlain known _ refl)
  binary_says operator a b symbol.Or = obeys_says IsPlain (is_scalar (kind_of a) && is_scalar (kind_of b)) 26 span.inner.first _ (says IsPlain known _ refl)
  binary_says operator a b it = operation_says a b (option_and_then operator_of_row (row_at setting.source operator))

  update_says : (object value : Tree) (found : Option Op) → Says IsPlain (typed_update setting known span object value found)
  update_says object value None = broken_says IsPlain 29 span.inner.first
  update_says object value (Some op) = if_says IsPlain (updated known op object value) 29 span.inner.first _ (λ it e. says IsPlain known _ refl)

  assignment_says : (operator : ℕ) (object value : Tree) (it : Symbol) → Says IsPlain (typed_assignment setting known span operator object value it)
  assignment_says operator object value symbol.Equals = obeys_says IsPlain (is_modifiable known object && is_assignable known value (kind_of object)) 28 span.inner.first _ (says IsPlain known _ refl)
  assignment_says operator object value it = update_says object value (option_and_then operator_of_assignment (row_at setting.source operator))

  sizeof_says : (operand : Tree) → Says IsPlain (typed_sizeof setting known span operand)
  sizeof_says operand = obeys_says IsPlain (is_complete known (kind_of operand)) 17 span.inner.first _ (says IsPlain known _ refl)

  sizeof_name_says : (type : CType) (lengths : List Tree) → Says IsPlain (typed_sizeof_name setting known span type lengths)
  sizeof_name_says type lengths = obeys_says IsPlain (is_complete known type) 17 span.inner.first _ (says IsPlain known _ refl)

  cast_says : (type : CType) (lengths : List Tree) (operand : Tree) → Says IsPlain (typed_cast setting known span type lengths operand)
  cast_says type lengths operand = obeys_says IsPlain (may_be_cast known operand type) 18 span.inner.first _ (says IsPlain known _ refl)

  choice_says : (condition a b : Tree) → Says IsPlain (typed_choice setting known span condition a b)
  choice_says condition a b =
      obeys_says IsPlain (is_scalar (kind_of condition)) 27 span.inner.first _ (if_says IsPlain (arms known a b) 27 span.inner.first _ (λ it e. says IsPlain known _ refl))

  call_says : (callee : Expr) (function : Tree) (values : List Tree) → Says IsPlain (typed_call setting known span callee function values)
  call_says callee function values =
      obeys_says IsPlain (is_name callee && is_function_label (label_of function)) 10 span.inner.first _
      (if_says IsPlain (called known (kind_of function) values) 10 span.inner.first _ (λ it e. says IsPlain known _ refl))

  comma_plain : (first : Tree) (others : List Tree) → IsPlain first → IsPlain (comma_tree setting span first others)
  comma_plain first [] h = h
  comma_plain first (second ∷ others) h = comma_plain (made setting.source span label.comma (kind_of second) (first ∷ second ∷ [])) others refl

  comma_says : (at : ℕ) (values : List Tree) → Every IsPlain values → Says IsPlain (if_given (comma_of setting span values) 1 at (λ it. given known it))
  comma_says at [] h = broken_says IsPlain 1 at
  comma_says at (first ∷ others) h = says IsPlain known _ (comma_plain first others h.0)

-- ---- the syntax

module _ (setting : Setting) where
  mutual
    unfolding typed_within typed_values

    expr_says : (used : Bool) (known : Known) (outer : Span) (expr : Expr) → Says IsPlain (typed_within setting used known outer expr)
    expr_says used known outer (tree.name span) = name_says setting known (extent span outer) used _ (meaning_of known (spelling_at setting.source span.first))
    expr_says used known outer (tree.constant span) = says IsPlain known _ (constant_plain setting known (extent span outer) _)
    expr_says used known outer (tree.literal span) = says IsPlain known _ refl
    expr_says used known outer (tree.paren span inner) = expr_says used known outer inner
    expr_says used known outer (tree.index span a b) =
        after_says IsPlain IsPlain (typed setting used known a) _ (expr_says used known (expr_span a) a) (λ then_known first h.
        behind_says IsPlain (typed setting used then_known b) _ (λ behind second. index_says setting behind (extent span outer) (as_value first) (as_value second) (value_plain first h)))
    expr_says used known outer (tree.call span callee arguments) =
        behind_says IsPlain (typed setting used known callee) _ (λ then_known first. behind_says IsPlain (typed_values setting used then_known arguments) _ (λ behind values.
        call_says setting behind (extent span outer) callee first values))
    expr_says used known outer (tree.member span whole name) =
        behind_says IsPlain (typed setting used known whole) _ (λ behind it. member_says setting behind (extent span outer) name it)
    expr_says used known outer (tree.arrow span operand name) =
        behind_says IsPlain (typed setting used known operand) _ (λ behind it. arrow_says setting behind (extent span outer) name (as_value it))
    expr_says used known outer (tree.postfix span operand operator) =
        behind_says IsPlain (typed setting used known operand) _ (λ behind it. count_says setting behind (extent span outer) operator false it)
    expr_says used known outer (tree.prefix span operator operand) =
        behind_says IsPlain (typed setting used known operand) _ (λ behind it. prefix_says setting behind (extent span outer) operator it (symbol_at setting.source operator))
    expr_says used known outer (tree.sizeof_expr span operand) =
        behind_says IsPlain (typed setting false known operand) _ (λ behind it. sizeof_says setting behind (extent span outer) it)
    expr_says used known outer (tree.sizeof_name span name) =
        behind_says IsPlain (typed_name setting false known name) _ (λ behind it. sizeof_name_says setting behind (extent span outer) it.kind it.constants)
    expr_says used known outer (tree.cast span name operand) =
        behind_says IsPlain (typed_name setting used known name) _ (λ then_known it. behind_says IsPlain (typed setting used then_known operand) _ (λ behind one.
        cast_says setting behind (extent span outer) (bare it.kind) it.constants (as_value one)))
    expr_says used known outer (tree.binary span a operator b) =
        behind_says IsPlain (typed setting used known a) _ (λ then_known first. behind_says IsPlain (typed setting used then_known b) _ (λ behind second.
        binary_says setting behind (extent span outer) operator (as_value first) (as_value second) (symbol_at setting.source operator)))
    expr_says used known outer (tree.conditional span a b c) =
        behind_says IsPlain (typed setting used known a) _ (λ then_known first. behind_says IsPlain (typed setting used then_known b) _ (λ then_more second.
        behind_says IsPlain (typed setting used then_more c) _ (λ behind third.
        choice_says setting behind (extent span outer) (as_value first) (as_value second) (as_value third))))
    expr_says used known outer (tree.assign span object operator value) =
        behind_says IsPlain (typed setting used known object) _ (λ then_known first. behind_says IsPlain (typed setting used then_known value) _ (λ behind second.
        assignment_says setting behind (extent span outer) operator first (as_value second) (symbol_at setting.source operator)))
    expr_says used known outer (tree.comma span parts) =
        after_says (Every IsPlain) IsPlain (typed_values setting used known parts) _ (values_say used known parts) (λ behind values all. comma_says setting behind (extent span outer) span.first values all)

    values_say : (used : Bool) (known : Known) (exprs : Exprs) → Says (Every IsPlain) (typed_values setting used known exprs)
    values_say used known tree.no_exprs = says (Every IsPlain) known [] tt
    values_say used known (tree.more_exprs first others) =
        after_says IsPlain (Every IsPlain) (typed setting used known first) _ (expr_says used known (expr_span first) first) (λ then_known it h.
        after_says (Every IsPlain) (Every IsPlain) (typed_values setting used then_known others) _ (values_say used then_known others) (λ behind values all.
        says (Every IsPlain) behind (as_value it ∷ values) (value_plain it h, all)))

-- ---- an expression that may be absent

abbrev pub IsOptional : List Tree → Type 0
IsOptional [] = Unit {0}
IsOptional (it ∷ []) = IsPlain it
IsOptional (it ∷ other ∷ others) = ⊥

-- there is one at most
abbrev pub AtMostOne : List Tree → Type 0
AtMostOne [] = Unit {0}
AtMostOne (it ∷ []) = Unit {0}
AtMostOne (it ∷ other ∷ others) = ⊥

module _ (setting : Setting) where
  pub optional_says : (known : Known) (expr : Option Expr) → Says IsOptional (typed_optional setting known expr)
  optional_says known None = says IsOptional known [] tt
  optional_says known (Some expr) =
      with_says IsPlain IsOptional (typed_value setting known expr) _ (with_says IsPlain IsPlain (typed setting true known expr) _ (expr_says setting true known (expr_span expr) expr) (λ behind it h. value_plain it h))
      (λ behind it h. h)

  pub step_says : (known : Known) (expr : Option Expr) → Says AtMostOne (typed_optional setting known expr)
  step_says known None = says AtMostOne known [] tt
  step_says known (Some expr) = with_says NoClaim AtMostOne (typed_value setting known expr) _ (no_claim (typed_value setting known expr)) (λ behind it any. tt)

  pub test_says : (known : Known) (expr : Option Expr) → Says AtMostOne (typed_optional_condition setting known expr)
  test_says known None = says AtMostOne known [] tt
  test_says known (Some expr) = with_says NoClaim AtMostOne (typed_condition setting known expr) _ (no_claim (typed_condition setting known expr)) (λ behind it any. tt)

-- The names in expressions are in scope, and what type names and declarators declare isn't automatic: by induction over the syntax.
use Rattle.std.specs.Prelude.{ℕ, ℤ, pos, ◌+ℤ◌, negsuc, Bool, true, false, ◌&&◌, not, if◌then◌else◌, List, [], ◌∷◌, length, Option, Some, None, is_some, option_and_then, slice_get, refl}
use Rattle.dm_token.specs.declared.place.Span.{Span}
use Rattle.dm_int.specs.declared.Kind.TheVariants as k
use Rattle.dm_int.specs.declared.Op.{Op}
use Rattle.dm_int.specs.declared.Op.TheVariants as o
use Rattle.dm_token.specs.declared.token.CToken.{CToken}
use Rattle.dm_type.specs.CTypes.{CType, integer, bare, struct as struct_type}
use Rattle.dm_type.specs.Layouts.{struct_layout}
use Rattle.dm_syn.specs.declared.symbol.Symbol.{Symbol}
use Rattle.dm_syn.specs.declared.symbol.Symbol.TheVariants as symbol
use Rattle.dm_syn.specs.Sources.{symbol_at, spelling_at}
use Rattle.dm_syn.specs.Spans.{expr_span, declarator_span}
use Rattle.dm_syn.specs.Scopes.{declarator_name}
use Rattle.dm_syn.specs.Trees.{Expr, Exprs, TypeName, Specifiers, Words, Specifier, Members, Member, Declarators, Enumerators, Enumerator, Declarator, Direct, Parameters, Parameter}
use Rattle.dm_syn.specs.Trees as tree
use Rattle.dm_tree.specs.Scenes.{is_lvalue, is_integer, is_scalar, is_function}
use Rattle.dm_tree.specs.Trees.{Label, Tree, label_of, kind_of}
use Rattle.dm_tree.specs.Trees as label
use Rattle.dm_tree.specs.Units.{Declaration}
use Rattle.dm_typing.specs.declared.extent.Extent.{Extent}
use Rattle.dm_typing.specs.Known.{Known, Setting, Outcome, given, broken, after, if_given, meaning_of, tag_key, tag_entry, place_at}
use Rattle.dm_typing.specs.Operators.{row_at, operator_of_row, operator_of_assignment, sign_of_row}
use Rattle.dm_typing.specs.Conversions.{made, as_value, as_type, complete_target, is_complete, constant_of}
use Rattle.dm_typing.specs.Rules.{indexed, member_by_name, is_modifiable, may_be_counted, signed, may_be_cast, operated, rule_of, arms, is_assignable, called, updated}
use Rattle.dm_typing.specs.Specifiers.{Said, nothing_said, with_type, type_said, are_allowed, Where, elsewhere}
use Rattle.dm_typing.specs.Typing.{constant_tree, literal_tree, index_tree, typed_index, typed_member, typed_arrow, is_plus_plus, typed_count, typed_address, typed_follow, typed_sign, typed_prefix, typed_sizeof, typed_sizeof_name, typed_cast, typed_operation, typed_logic, typed_binary, typed_choice, typed_store, typed_update, typed_assignment, is_name, is_function_label, typed_call, comma_tree, comma_of, number_if_struct, tag_declared, new_struct, tag_inside, tag_seen, struct_named, enum_named, with_new_struct, struct_begun, beginning, TypedMember, typed_field, fields, struct_ended, is_int, enumerator_entry, enumerator_declared, with_constant, enumerator_valued, Step as Made, arraying, calling, pointing, stepped, derived, length_fits, is_result, direct_at, natural, length_of, adjusted, parameter_entry, is_new_parameter, parameter_declared, typed_parameter, parameter_at, entered, left, typed_said, name_ended, extent, typed, typed_within, typed_values, typed_name, typed_specifiers, words_said, word_said, fields_of, fields_declared, fields_with, enumerators_of, enumerator_of, steps_of, direct_steps, parameters_of, parameter_of}
use Rattle.dm_scoped.proofs.OverLemmas.{Every, pair-of, signed-of, called-of, updated-of, value-kept, type-kept, operated-kept, arms-kept, signed-kept, called-kept, updated-kept}
use Rattle.dm_scoped.proofs.ScopeLemmas.{Sees}
use Rattle.dm_scoped.proofs.StepLemmas.{IsScopedIn, scoped-later, scoped-kept, made-scoped, cast-scoped, size-scoped, Step, Gives, Any, AllScoped, step-none, gives-so, stays, gives-from, after-gives, with-gives, obeys-gives, if-gives, broken-gives, declaring-step, all-pass, entered-sees, left-gives, name-gives}

-- ---- nodes on typed parts

module _ (seen : ℕ → Bool) (setting : Setting) (known : Known) (sees : Sees known.declared seen known.scopes) where
  abbrev P : Tree → Type 0
  P = IsScopedIn seen known.declared

  abbrev Fine : Outcome Tree → Type 0
  Fine = Gives seen (IsScopedIn seen) known

  -- a node of an operator on these
  there : (span : Extent) (form : Label) (kind : CType) (parts : List Tree) → P (made setting.source span form kind parts) → Fine (given known (made setting.source span form kind parts))
  there span form kind parts h = stays seen (IsScopedIn seen) known (made setting.source span form kind parts) sees h

  pub value-scoped : (tree : Tree) → P tree → P (as_value tree)
  value-scoped = value-kept P (scoped-kept seen known.declared)

  pub as-type-scoped : (kind : CType) (tree : Tree) → P tree → P (as_type kind tree)
  as-type-scoped = type-kept P (scoped-kept seen known.declared)

  pub constant-scoped : (span : Extent) (found : Option CToken) → P (constant_tree setting span found)
  constant-scoped span None = made-scoped seen known.declared setting span (label.number (pos 0)) (integer k.Int) [] refl tt
  constant-scoped span (Some token) = made-scoped seen known.declared setting span (label.number token.value) _ [] refl tt

  pub literal-scoped : (span : Extent) (bytes : List ℕ) → P (literal_tree setting span bytes)
  literal-scoped span bytes = made-scoped seen known.declared setting span (label.literal bytes 0) _ [] refl tt

  index-scoped : (span : Extent) (a b : Tree) (type : CType) (to : Option CType) → P a → P b → P (index_tree setting span a b type to)
  index-scoped span a b type None h g = h
  index-scoped span a b type (Some to) h g =
      made-scoped seen known.declared setting span label.follow to (made setting.source span (label.binary o.Add) type (a ∷ b ∷ []) ∷ []) refl
      (made-scoped seen known.declared setting span (label.binary o.Add) type (a ∷ b ∷ []) refl (h, (g, tt)), tt)

  pub index-gives : (span : Extent) (a b : Tree) → P a → P b → Fine (typed_index setting known span a b)
  index-gives span a b h g =
      if-gives seen (IsScopedIn seen) known (indexed known (kind_of a) (kind_of b)) 11 span.inner.first _
      (λ type e. stays seen (IsScopedIn seen) known _ sees (index-scoped span a b type (complete_target known type) h g))

  pub member-gives : (span : Extent) (name : ℕ) (whole : Tree) → P whole → Fine (typed_member setting known span name whole)
  member-gives span name whole h =
      if-gives seen (IsScopedIn seen) known (member_by_name known (spelling_at setting.source name) whole) 12 span.inner.first _
      (λ it e. there span (label.member it.0) it.1 (whole ∷ []) (made-scoped seen known.declared setting span (label.member it.0) it.1 (whole ∷ []) refl (h, tt)))

  pub arrow-gives : (span : Extent) (name : ℕ) (pointer : Tree) → P pointer → Fine (typed_arrow setting known span name pointer)
  arrow-gives span name it h =
      if-gives seen (IsScopedIn seen) known (complete_target known (kind_of it)) 12 span.inner.first _
      (λ to e. member-gives span name (made setting.source span label.follow to (it ∷ []))
      (made-scoped seen known.declared setting span label.follow to (it ∷ []) refl (h, tt)))

  pub count-gives : (span : Extent) (operator : ℕ) (before : Bool) (operand : Tree) → P operand → Fine (typed_count setting known span operator before operand)
  count-gives span operator before operand h =
      obeys-gives seen (IsScopedIn seen) known (may_be_counted known operand) 13 span.inner.first _
      (there span _ _ (operand ∷ []) (made-scoped seen known.declared setting span (label.count (is_plus_plus (row_at setting.source operator)) before) _ (operand ∷ []) refl (h, tt)))

  address-gives : (span : Extent) (operand : Tree) → P operand → Fine (typed_address setting known span operand)
  address-gives span operand h =
      obeys-gives seen (IsScopedIn seen) known (is_lvalue operand) 14 span.inner.first _
      (there span label.address _ (operand ∷ []) (made-scoped seen known.declared setting span label.address _ (operand ∷ []) refl (h, tt)))

  follow-gives : (span : Extent) (operand : Tree) → P operand → Fine (typed_follow setting known span operand)
  follow-gives span operand h =
      if-gives seen (IsScopedIn seen) known (complete_target known (kind_of operand)) 15 span.inner.first _
      (λ to e. there span label.follow to (operand ∷ []) (made-scoped seen known.declared setting span label.follow to (operand ∷ []) refl (h, tt)))

  sign-gives : (span : Extent) (operator : ℕ) (operand : Tree) → P operand → Fine (typed_sign setting known span operator operand)
  sign-gives span operator operand h =
      if-gives seen (IsScopedIn seen) known (option_and_then sign_of_row (row_at setting.source operator)) 16 span.inner.first _
      (λ sign e. if-gives seen (IsScopedIn seen) known (signed sign operand) 16 span.inner.first _
      (λ it is. there span (label.unary sign) it.1 (it.0 ∷ [])
      (made-scoped seen known.declared setting span (label.unary sign) it.1 (it.0 ∷ []) refl
      (signed-of P (signed sign operand) it is (signed-kept P (scoped-kept seen known.declared) sign operand h), tt))))

  pub prefix-gives : (span : Extent) (operator : ℕ) (operand : Tree) (it : Symbol) → P operand → Fine (typed_prefix setting known span operator operand it)
  prefix-gives span operator operand symbol.Increment h = count-gives span operator true operand h
  prefix-gives span operator operand symbol.Ampersand h = address-gives span operand h
  prefix-gives span operator operand symbol.Star h = follow-gives span (as_value operand) (value-scoped operand h)
  prefix-gives span operator operand it h = sign-gives span operator (as_value operand) (value-scoped operand h)

  pub sizeof-gives : (span : Extent) (operand : Tree) → P operand → Fine (typed_sizeof setting known span operand)
  sizeof-gives span operand h =
      obeys-gives seen (IsScopedIn seen) known (is_complete known (kind_of operand)) 17 span.inner.first _
      (there span label.sizeof_tree (integer k.ULong) (operand ∷ []) (made-scoped seen known.declared setting span label.sizeof_tree (integer k.ULong) (operand ∷ []) refl (h, tt)))

  pub sizeof-name-gives : (span : Extent) (type : CType) (lengths : List Tree) → Fine (typed_sizeof_name setting known span type lengths)
  sizeof-name-gives span type lengths =
      obeys-gives seen (IsScopedIn seen) known (is_complete known type) 17 span.inner.first _
      (there span (label.sizeof_kind type) (integer k.ULong) lengths (size-scoped seen known.declared setting span type (integer k.ULong) lengths))

  pub cast-gives : (span : Extent) (type : CType) (lengths : List Tree) (operand : Tree) → P operand → Fine (typed_cast setting known span type lengths operand)
  cast-gives span type lengths operand h =
      obeys-gives seen (IsScopedIn seen) known (may_be_cast known operand type) 18 span.inner.first _
      (there span label.convert type (operand ∷ lengths) (cast-scoped seen known.declared setting span type operand lengths h))

  operation-gives : (span : Extent) (a b : Tree) (found : Option Op) → P a → P b → Fine (typed_operation setting known span a b found)
  operation-gives span a b None h g = broken-gives seen (IsScopedIn seen) known 19 span.inner.first
  operation-gives span a b (Some op) h g =
      if-gives seen (IsScopedIn seen) known (operated known op a b) (rule_of op) span.inner.first _
      (λ it e. let parts = pair-of P P (operated known op a b) it e (operated-kept P P (scoped-kept seen known.declared) (scoped-kept seen known.declared) known a b h g op) in
      there span (label.binary op) it.kind (it.left ∷ it.right ∷ [])
      (made-scoped seen known.declared setting span (label.binary op) it.kind (it.left ∷ it.right ∷ []) refl (parts.0, (parts.1, tt))))

  logic-gives : (span : Extent) (form : Label) (a b : Tree) → P (made setting.source span form (integer k.Int) (a ∷ b ∷ [])) → Fine (typed_logic setting known span form a b)
  logic-gives span form a b h =
      obeys-gives seen (IsScopedIn seen) known (is_scalar (kind_of a) && is_scalar (kind_of b)) 26 span.inner.first _ (there span form (integer k.Int) (a ∷ b ∷ []) h)

  pub binary-gives : (span : Extent) (operator : ℕ) (a b : Tree) (it : Symbol) → P a → P b → Fine (typed_binary setting known span operator a b it)
  binary-gives span operator a b symbol.And h g =
      logic-gives span label.both a b (made-scoped seen known.declared setting span label.both (integer k.Int) (a ∷ b ∷ []) refl (h, (g, tt)))
  binary-gives span operator a b symbol.Or h g =
      logic-gives span label.either a b (made-scoped seen known.declared setting span label.either (integer k.Int) (a ∷ b ∷ []) refl (h, (g, tt)))
  binary-gives span operator a b it h g = operation-gives span a b (option_and_then operator_of_row (row_at setting.source operator)) h g

  pub choice-gives : (span : Extent) (condition a b : Tree) → P condition → P a → P b → Fine (typed_choice setting known span condition a b)
  choice-gives span condition a b c h g =
      obeys-gives seen (IsScopedIn seen) known (is_scalar (kind_of condition)) 27 span.inner.first _
      (if-gives seen (IsScopedIn seen) known (arms known a b) 27 span.inner.first _
      (λ it e. let parts = pair-of P P (arms known a b) it e (arms-kept P P (scoped-kept seen known.declared) (scoped-kept seen known.declared) known a b h g) in
      there span label.choose it.kind (condition ∷ it.left ∷ it.right ∷ [])
      (made-scoped seen known.declared setting span label.choose it.kind (condition ∷ it.left ∷ it.right ∷ []) refl (c, (parts.0, (parts.1, tt))))))

  store-gives : (span : Extent) (object value : Tree) → P object → P value → Fine (typed_store setting known span object value)
  store-gives span object value h g =
      obeys-gives seen (IsScopedIn seen) known (is_modifiable known object && is_assignable known value (kind_of object)) 28 span.inner.first _
      (there span label.store _ (object ∷ as_type (kind_of object) value ∷ [])
      (made-scoped seen known.declared setting span label.store _ (object ∷ as_type (kind_of object) value ∷ []) refl (h, (as-type-scoped (kind_of object) value g, tt))))

  update-gives : (span : Extent) (object value : Tree) (found : Option Op) → P object → P value → Fine (typed_update setting known span object value found)
  update-gives span object value None h g = broken-gives seen (IsScopedIn seen) known 29 span.inner.first
  update-gives span object value (Some op) h g =
      if-gives seen (IsScopedIn seen) known (updated known op object value) 29 span.inner.first _
      (λ it e. there span (label.update op it.0) _ (object ∷ it.1 ∷ [])
      (made-scoped seen known.declared setting span (label.update op it.0) _ (object ∷ it.1 ∷ []) refl
      (h, (updated-of P (updated known op object value) it e (updated-kept P (scoped-kept seen known.declared) known op object value g), tt))))

  pub assignment-gives : (span : Extent) (operator : ℕ) (object value : Tree) (it : Symbol) → P object → P value → Fine (typed_assignment setting known span operator object value it)
  assignment-gives span operator object value symbol.Equals h g = store-gives span object value h g
  assignment-gives span operator object value it h g =
      update-gives span object value (option_and_then operator_of_assignment (row_at setting.source operator)) h g

  pub call-gives : (span : Extent) (callee : Expr) (function : Tree) (values : List Tree) → P function → Every P values → Fine (typed_call setting known span callee function values)
  call-gives span callee function values h g =
      obeys-gives seen (IsScopedIn seen) known (is_name callee && is_function_label (label_of function)) 10 span.inner.first _
      (if-gives seen (IsScopedIn seen) known (called known (kind_of function) values) 10 span.inner.first _
      (λ it e. there span label.call it.0 (function ∷ it.1)
      (made-scoped seen known.declared setting span label.call it.0 (function ∷ it.1) refl
      (h, called-of P (called known (kind_of function) values) it e (called-kept P (scoped-kept seen known.declared) known (kind_of function) values g)))))

  comma-scoped : (span : Extent) (first : Tree) (others : List Tree) → P first → Every P others → P (comma_tree setting span first others)
  comma-scoped span first [] h g = h
  comma-scoped span first (second ∷ others) h g =
      comma-scoped span (made setting.source span label.comma (kind_of second) (first ∷ second ∷ [])) others
      (made-scoped seen known.declared setting span label.comma (kind_of second) (first ∷ second ∷ []) refl (h, (g.0, tt))) g.1

  pub comma-gives : (span : Extent) (at : ℕ) (values : List Tree) → Every P values → Fine (if_given (comma_of setting span values) 1 at (λ made. given known made))
  comma-gives span at [] h = broken-gives seen (IsScopedIn seen) known 1 at
  comma-gives span at (first ∷ others) h = stays seen (IsScopedIn seen) known _ sees (comma-scoped span first others h.0 h.1)

  -- ---- specifiers

  pub said-gives : (stands : Where) (here : ℕ) (said : Said) → Gives seen Any known (typed_said known stands here said)
  said-gives stands here said =
      if-gives seen Any known (type_said said) 3 here _ (λ type e. obeys-gives seen Any known (are_allowed stands said) 3 here _ (stays seen Any known _ sees tt))

  -- ---- tags and enumerators

  pub tag-step : (tag : Option ℕ) (type : CType) → Step seen known (tag_declared setting known tag type)
  tag-step None type = step-none seen known sees
  tag-step (Some at) type =
      declaring-step seen known (tag_key (spelling_at setting.source at)) (tag_entry (spelling_at setting.source at) type (place_at setting.source at)) sees (λ no. absurd (cc))

  pub enum-gives : (span : Span) (found : Option Declaration) → Gives seen Any known (enum_named known span found)
  enum-gives span None = broken-gives seen Any known 1 span.first
  enum-gives span (Some entry) = obeys-gives seen Any known (is_integer entry.kind) 4 span.first _ (stays seen Any known _ sees tt)

  pub enumerator-gives : (at : ℕ) (value : ℤ) → Gives seen Any known (enumerator_declared setting known at value)
  enumerator-gives at value =
      obeys-gives seen Any known _ 2 at _ (obeys-gives seen Any known _ 7 at _ (obeys-gives seen Any known _ 36 at _
      (gives-so seen Any known _ value (declaring-step seen known (spelling_at setting.source at) (enumerator_entry setting at value) sees (λ no. absurd (cc))) tt)))

  pub field-gives : (here : ℕ) (name : Option ℕ) (before : List TypedMember) (kind : CType) → Gives seen Any known (typed_field setting known here name before kind)
  field-gives here name before kind =
      obeys-gives seen Any known (is_complete known kind) 5 here _ (obeys-gives seen Any known _ 6 _ _ (stays seen Any known _ sees tt))

-- the steps of a declarator
stepped-gives : (seen : ℕ → Bool) (known : Known) → Sees known.declared seen known.scopes → (type : CType) (step : Made) → Gives seen Any known (stepped known type step)
stepped-gives seen known sees type (pointing at const) = obeys-gives seen Any known (not (is_function type)) 5 at _ (stays seen Any known _ sees tt)
stepped-gives seen known sees type (arraying at n) = obeys-gives seen Any known (is_complete known type && length_fits known type n) 5 at _ (stays seen Any known _ sees tt)
stepped-gives seen known sees type (calling at parameters) = obeys-gives seen Any known (is_result known type) 5 at _ (stays seen Any known _ sees tt)

pub derived-gives : (seen : ℕ → Bool) (known : Known) (type : CType) (steps : List Made) → Sees known.declared seen known.scopes → Gives seen Any known (derived known type steps)
derived-gives seen known type [] sees = stays seen Any known type sees tt
derived-gives seen known type (step ∷ steps) sees =
    after-gives seen Any Any known (stepped known type step) (λ behind made. derived behind made steps) (stepped-gives seen known sees type step)
    (λ behind made more any. derived-gives seen behind made steps more.sees)

module _ (seen : ℕ → Bool) (setting : Setting) (known : Known) (sees : Sees known.declared seen known.scopes) where
  pub new-step : (tag : Option ℕ) → Step seen known (new_struct setting known tag)
  new-step None = let step = step-none seen known sees in record { grown = step.grown; sees = step.sees; depth = step.depth }
  new-step (Some at) =
      let step = tag-step seen setting known sees (Some at) (struct_type (length known.types.structs)) in record { grown = step.grown; sees = step.sees; depth = step.depth }

  pub struct-gives : (span : Span) (tag : Option ℕ) (found : Option Declaration) → Gives seen Any known (struct_named setting known span tag found)
  struct-gives span tag None = gives-so seen Any known (new_struct setting known tag) _ (new-step tag) tt
  struct-gives span tag (Some entry) = obeys-gives seen Any known (is_some (number_if_struct entry.kind)) 4 span.first _ (stays seen Any known _ sees tt)

  -- a struct whose members follow
  struct-step : (tag : Option ℕ) (found : Option Declaration) → Step seen known (with_new_struct setting known tag found)
  struct-step tag None = new-step tag
  struct-step tag (Some entry) = step-none seen known sees

  pub begun-step : (tag : Option ℕ) (found : Option Declaration) (number : Option ℕ) → Step seen known (beginning (with_new_struct setting known tag found) number)
  begun-step tag found None = struct-step tag found
  begun-step tag found (Some at) = let step = struct-step tag found in record { grown = step.grown; sees = step.sees; depth = step.depth }

  pub ended-gives : (span : Span) (number : Option ℕ) (begun : List ℕ) (members : List TypedMember) → Gives seen Any known (struct_ended known span number begun members)
  ended-gives span None begun members = broken-gives seen Any known 4 span.first
  ended-gives span (Some at) begun [] = broken-gives seen Any known 5 span.first
  ended-gives span (Some at) begun (first ∷ rest) =
      obeys-gives seen Any known (is_some (struct_layout known.types (fields known.types (first ∷ rest)))) 5 span.first _
      (gives-so seen Any known _ _ (let step = step-none seen known sees in record { grown = step.grown; sees = step.sees; depth = step.depth }) tt)

  -- an enum whose enumerators follow
  pub enum-step : (tag : Option ℕ) (test : Bool) → Step seen known (if test then known else tag_declared setting known tag (integer k.Int))
  enum-step tag true = step-none seen known sees
  enum-step tag false = tag-step seen setting known sees tag (integer k.Int)

  -- a tree of a length or an enumerator value is kept
  constant-step : (tree : Tree) → Step seen known (with_constant known tree)
  constant-step tree = let step = step-none seen known sees in record { grown = step.grown; sees = step.sees; depth = step.depth }

  pub valued-gives : (at here : ℕ) (tree : Tree) → Gives seen Any known (enumerator_valued setting known at here tree)
  valued-gives at here tree =
      if-gives seen Any known (constant_of known tree) 7 here _ (λ value e. obeys-gives seen Any known (is_int value) 7 here _
      (gives-from seen Any known (with_constant known tree) (enumerator_declared setting (with_constant known tree) at value) (constant-step tree)
      (enumerator-gives seen setting (with_constant known tree) sees at value)))

  pub length-gives : (here : ℕ) (tree : Tree) → Gives seen Any known (length_of known here tree)
  length-gives here tree =
      if-gives seen Any known (option_and_then natural (constant_of known tree)) 5 here _ (λ n e. gives-so seen Any known (with_constant known tree) n (constant-step tree) tt)

-- a parameter, in a scope where all names pass
pub parameter-gives : (setting : Setting) (known : Known) (here : ℕ) (type : CType) (name : Option ℕ) → Sees known.declared all-pass known.scopes
    → Gives all-pass Any known (typed_parameter setting known here type name)
parameter-gives setting known here type name sees =
    obeys-gives all-pass Any known (is_new_parameter setting known name) 2 _ _ (obeys-gives all-pass Any known (not (is_function type)) 5 here _ (declared name))
  where
    declared : (name : Option ℕ) → Gives all-pass Any known (parameter_declared setting known (adjusted type) name)
    declared None = stays all-pass Any known _ sees tt
    declared (Some at) =
        gives-so all-pass Any known _ _ (declaring-step all-pass known (spelling_at setting.source at) (parameter_entry setting at (adjusted type)) sees (λ auto. refl)) tt

-- the trees of a type name are a list of their own
pub name-ends : (seen : ℕ → Bool) (known : Known) (constants : List Tree) (outcome : Outcome CType)
    → Gives seen Any (record known { constants = [] }) outcome → Gives seen Any known (name_ended constants outcome)
unfolding Gives
name-ends seen known constants (given behind kind) h = (record { grown = h.0.grown; sees = h.0.sees; depth = h.0.depth }, tt)
name-ends seen known constants (broken rule at) h = tt

-- ---- the syntax

module _ (setting : Setting) where
  mutual
    unfolding typed_within typed_values typed_name typed_specifiers words_said word_said fields_of fields_declared fields_with enumerators_of enumerator_of steps_of direct_steps parameters_of parameter_of

    -- 6.5
    pub expr-scoped : (seen : ℕ → Bool) (used : Bool) (known : Known) (outer : Span) (expr : Expr) → Sees known.declared seen known.scopes
        → Gives seen (IsScopedIn seen) known (typed_within setting used known outer expr)
    expr-scoped seen used known outer (tree.name span) sees = name-gives seen setting known sees (extent span outer) used (spelling_at setting.source span.first)
    expr-scoped seen used known outer (tree.constant span) sees =
        stays seen (IsScopedIn seen) known _ sees (constant-scoped seen setting known sees (extent span outer) (slice_get setting.source.tokens span.first))
    expr-scoped seen used known outer (tree.literal span) sees =
        stays seen (IsScopedIn seen) known _ sees (literal-scoped seen setting known sees (extent span outer) (spelling_at setting.source span.first))
    expr-scoped seen used known outer (tree.paren span inner) sees = expr-scoped seen used known outer inner sees
    expr-scoped seen used known outer (tree.index span a b) sees =
        after-gives seen (IsScopedIn seen) (IsScopedIn seen) known (typed setting used known a) _ (expr-scoped seen used known (expr_span a) a sees) (λ then_known first step one.
        after-gives seen (IsScopedIn seen) (IsScopedIn seen) then_known (typed setting used then_known b) _ (expr-scoped seen used then_known (expr_span b) b step.sees) (λ behind second more other.
        index-gives seen setting behind more.sees (extent span outer) (as_value first) (as_value second)
        (value-scoped seen setting behind more.sees first (scoped-later seen then_known.declared behind.declared first more.grown one))
        (value-scoped seen setting behind more.sees second other)))
    expr-scoped seen used known outer (tree.call span callee arguments) sees =
        after-gives seen (IsScopedIn seen) (IsScopedIn seen) known (typed setting used known callee) _ (expr-scoped seen used known (expr_span callee) callee sees) (λ then_known first step one.
        after-gives seen (AllScoped seen) (IsScopedIn seen) then_known (typed_values setting used then_known arguments) _ (values-scoped seen used then_known arguments step.sees) (λ behind values more others.
        call-gives seen setting behind more.sees (extent span outer) callee first values (scoped-later seen then_known.declared behind.declared first more.grown one) others))
    expr-scoped seen used known outer (tree.member span whole name) sees =
        after-gives seen (IsScopedIn seen) (IsScopedIn seen) known (typed setting used known whole) _ (expr-scoped seen used known (expr_span whole) whole sees)
        (λ behind made step one. member-gives seen setting behind step.sees (extent span outer) name made one)
    expr-scoped seen used known outer (tree.arrow span operand name) sees =
        after-gives seen (IsScopedIn seen) (IsScopedIn seen) known (typed setting used known operand) _ (expr-scoped seen used known (expr_span operand) operand sees)
        (λ behind made step one. arrow-gives seen setting behind step.sees (extent span outer) name (as_value made) (value-scoped seen setting behind step.sees made one))
    expr-scoped seen used known outer (tree.postfix span operand operator) sees =
        after-gives seen (IsScopedIn seen) (IsScopedIn seen) known (typed setting used known operand) _ (expr-scoped seen used known (expr_span operand) operand sees)
        (λ behind made step one. count-gives seen setting behind step.sees (extent span outer) operator false made one)
    expr-scoped seen used known outer (tree.prefix span operator operand) sees =
        after-gives seen (IsScopedIn seen) (IsScopedIn seen) known (typed setting used known operand) _ (expr-scoped seen used known (expr_span operand) operand sees)
        (λ behind made step one. prefix-gives seen setting behind step.sees (extent span outer) operator made (symbol_at setting.source operator) one)
    expr-scoped seen used known outer (tree.sizeof_expr span operand) sees =
        after-gives seen (IsScopedIn seen) (IsScopedIn seen) known (typed setting false known operand) _ (expr-scoped seen false known (expr_span operand) operand sees)
        (λ behind made step one. sizeof-gives seen setting behind step.sees (extent span outer) made one)
    expr-scoped seen used known outer (tree.sizeof_name span name) sees =
        after-gives seen Any (IsScopedIn seen) known (typed_name setting false known name) _ (name-scoped seen false known name sees)
        (λ behind it step any. sizeof-name-gives seen setting behind step.sees (extent span outer) it.kind it.constants)
    expr-scoped seen used known outer (tree.cast span name operand) sees =
        after-gives seen Any (IsScopedIn seen) known (typed_name setting used known name) _ (name-scoped seen used known name sees) (λ then_known it step any.
        after-gives seen (IsScopedIn seen) (IsScopedIn seen) then_known (typed setting used then_known operand) _ (expr-scoped seen used then_known (expr_span operand) operand step.sees)
        (λ behind made more one. cast-gives seen setting behind more.sees (extent span outer) (bare it.kind) it.constants (as_value made) (value-scoped seen setting behind more.sees made one)))
    expr-scoped seen used known outer (tree.binary span a operator b) sees =
        after-gives seen (IsScopedIn seen) (IsScopedIn seen) known (typed setting used known a) _ (expr-scoped seen used known (expr_span a) a sees) (λ then_known first step one.
        after-gives seen (IsScopedIn seen) (IsScopedIn seen) then_known (typed setting used then_known b) _ (expr-scoped seen used then_known (expr_span b) b step.sees) (λ behind second more other.
        binary-gives seen setting behind more.sees (extent span outer) operator (as_value first) (as_value second) (symbol_at setting.source operator)
        (value-scoped seen setting behind more.sees first (scoped-later seen then_known.declared behind.declared first more.grown one))
        (value-scoped seen setting behind more.sees second other)))
    expr-scoped seen used known outer (tree.conditional span a b c) sees =
        after-gives seen (IsScopedIn seen) (IsScopedIn seen) known (typed setting used known a) _ (expr-scoped seen used known (expr_span a) a sees) (λ then_known first step one.
        after-gives seen (IsScopedIn seen) (IsScopedIn seen) then_known (typed setting used then_known b) _ (expr-scoped seen used then_known (expr_span b) b step.sees) (λ then_more second more other.
        after-gives seen (IsScopedIn seen) (IsScopedIn seen) then_more (typed setting used then_more c) _ (expr-scoped seen used then_more (expr_span c) c more.sees) (λ behind third last another.
        choice-gives seen setting behind last.sees (extent span outer) (as_value first) (as_value second) (as_value third)
        (value-scoped seen setting behind last.sees first
        (scoped-later seen then_more.declared behind.declared first last.grown (scoped-later seen then_known.declared then_more.declared first more.grown one)))
        (value-scoped seen setting behind last.sees second (scoped-later seen then_more.declared behind.declared second last.grown other))
        (value-scoped seen setting behind last.sees third another))))
    expr-scoped seen used known outer (tree.assign span object operator value) sees =
        after-gives seen (IsScopedIn seen) (IsScopedIn seen) known (typed setting used known object) _ (expr-scoped seen used known (expr_span object) object sees) (λ then_known first step one.
        after-gives seen (IsScopedIn seen) (IsScopedIn seen) then_known (typed setting used then_known value) _ (expr-scoped seen used then_known (expr_span value) value step.sees) (λ behind second more other.
        assignment-gives seen setting behind more.sees (extent span outer) operator first (as_value second) (symbol_at setting.source operator)
        (scoped-later seen then_known.declared behind.declared first more.grown one) (value-scoped seen setting behind more.sees second other)))
    expr-scoped seen used known outer (tree.comma span parts) sees =
        after-gives seen (AllScoped seen) (IsScopedIn seen) known (typed_values setting used known parts) _ (values-scoped seen used known parts sees)
        (λ behind values step all. comma-gives seen setting behind step.sees (extent span outer) span.first values all)

    values-scoped : (seen : ℕ → Bool) (used : Bool) (known : Known) (exprs : Exprs) → Sees known.declared seen known.scopes
        → Gives seen (AllScoped seen) known (typed_values setting used known exprs)
    values-scoped seen used known tree.no_exprs sees = stays seen (AllScoped seen) known [] sees tt
    values-scoped seen used known (tree.more_exprs first others) sees =
        after-gives seen (IsScopedIn seen) (AllScoped seen) known (typed setting used known first) _ (expr-scoped seen used known (expr_span first) first sees) (λ then_known made step one.
        after-gives seen (AllScoped seen) (AllScoped seen) then_known (typed_values setting used then_known others) _ (values-scoped seen used then_known others step.sees) (λ behind values more all.
        stays seen (AllScoped seen) behind (as_value made ∷ values) more.sees
        (value-scoped seen setting behind more.sees made (scoped-later seen then_known.declared behind.declared made more.grown one), all)))

    -- 6.7.7
    pub name-scoped : (seen : ℕ → Bool) (used : Bool) (known : Known) (name : TypeName) → Sees known.declared seen known.scopes
        → Gives seen Any known (typed_name setting used known name)
    name-scoped seen used known (tree.type_name span specifiers declarator) sees =
        let bared : Known = record known { constants = [] } in
        name-ends seen known known.constants _
        (after-gives seen Any Any bared (typed_specifiers setting used elsewhere false bared specifiers) _ (specifiers-scoped seen used elsewhere false bared specifiers sees) (λ then_known base step any.
        after-gives seen Any Any then_known (steps_of setting used then_known declarator) _ (declarator-scoped seen used then_known declarator step.sees)
        (λ behind steps more any. derived-gives seen behind base steps more.sees)))

    -- 6.7
    pub specifiers-scoped : (seen : ℕ → Bool) (used : Bool) (stands : Where) (alone : Bool) (known : Known) (specifiers : Specifiers) → Sees known.declared seen known.scopes
        → Gives seen Any known (typed_specifiers setting used stands alone known specifiers)
    specifiers-scoped seen used stands alone known (tree.listed span words) sees =
        after-gives seen Any Any known (words_said setting used alone known nothing_said words) _ (words-scoped seen used alone known nothing_said words sees)
        (λ behind said step any. said-gives seen setting behind step.sees stands span.first said)

    pub words-scoped : (seen : ℕ → Bool) (used alone : Bool) (known : Known) (said : Said) (words : Words) → Sees known.declared seen known.scopes
        → Gives seen Any known (words_said setting used alone known said words)
    words-scoped seen used alone known said tree.no_words sees = stays seen Any known said sees tt
    words-scoped seen used alone known said (tree.more_words first others) sees =
        after-gives seen Any Any known (word_said setting used alone known said first) _ (word-scoped seen used alone known said first sees)
        (λ behind so_far step any. words-scoped seen used alone behind so_far others step.sees)

    word-scoped : (seen : ℕ → Bool) (used alone : Bool) (known : Known) (said : Said) (word : Specifier) → Sees known.declared seen known.scopes
        → Gives seen Any known (word_said setting used alone known said word)
    word-scoped seen used alone known said (tree.keyword at) sees = stays seen Any known _ sees tt
    word-scoped seen used alone known said (tree.typedef_name at) sees =
        if-gives seen Any known (meaning_of known (spelling_at setting.source at)) 1 at _ (λ entry e. stays seen Any known _ sees tt)
    word-scoped seen used alone known said (tree.struct_only span tag) sees =
        with-gives seen Any Any known _ (λ behind type. with_type type said)
        (struct-gives seen setting known sees span tag (if alone then tag_inside setting known tag else tag_seen setting known tag)) (λ behind type step any. tt)
    word-scoped seen used alone known said (tree.struct_with span tag members) sees =
        let found = tag_inside setting known tag in
        let number = struct_begun known found in
        let begun = beginning (with_new_struct setting known tag found) number in
        let step = begun-step seen setting known sees tag found number in
        with-gives seen Any Any known _ (λ behind type. with_type type said)
        (gives-from seen Any known begun (after (fields_of setting used begun [] members) (λ behind all. struct_ended behind span number known.begun all)) step
        (after-gives seen Any Any begun (fields_of setting used begun [] members) _ (fields-scoped seen used begun [] members step.sees)
        (λ behind all more any. ended-gives seen setting behind more.sees span number known.begun all))) (λ behind type step any. tt)
    word-scoped seen used alone known said (tree.enum_only span tag trailing) sees =
        with-gives seen Any Any known _ (λ behind type. with_type type said) (enum-gives seen setting known sees span (tag_seen setting known tag)) (λ behind type step any. tt)
    word-scoped seen used alone known said (tree.enum_with span tag enumerators trailing) sees =
        let test = is_some (tag_inside setting known tag) in
        let begun = if test then known else tag_declared setting known tag (integer k.Int) in
        let step = enum-step seen setting known sees tag test in
        with-gives seen Any Any known _ (λ behind type. with_type type said)
        (gives-from seen Any known begun _ step
        (after-gives seen Any Any begun (enumerators_of setting used begun (negsuc 0) enumerators) _ (enumerators-scoped seen used begun (negsuc 0) enumerators step.sees)
        (λ behind last more any. obeys-gives seen Any behind (not test) 4 span.first _ (stays seen Any behind (integer k.Int) more.sees tt)))) (λ behind type step any. tt)

    -- 6.7.2.1
    fields-scoped : (seen : ℕ → Bool) (used : Bool) (known : Known) (before : List TypedMember) (members : Members) → Sees known.declared seen known.scopes
        → Gives seen Any known (fields_of setting used known before members)
    fields-scoped seen used known before tree.no_members sees = stays seen Any known before sees tt
    fields-scoped seen used known before (tree.more_members first others) sees =
        after-gives seen Any Any known (fields_declared setting used known before first) _ (member-scoped seen used known before first sees)
        (λ behind so_far step any. fields-scoped seen used behind so_far others step.sees)

    member-scoped : (seen : ℕ → Bool) (used : Bool) (known : Known) (before : List TypedMember) (member : Member) → Sees known.declared seen known.scopes
        → Gives seen Any known (fields_declared setting used known before member)
    member-scoped seen used known before (tree.members span specifiers declarators) sees =
        after-gives seen Any Any known (typed_specifiers setting used elsewhere false known specifiers) _ (specifiers-scoped seen used elsewhere false known specifiers sees)
        (λ behind base step any. declarators-scoped seen used behind base before declarators step.sees)

    declarators-scoped : (seen : ℕ → Bool) (used : Bool) (known : Known) (base : CType) (before : List TypedMember) (declarators : Declarators) → Sees known.declared seen known.scopes
        → Gives seen Any known (fields_with setting used known base before declarators)
    declarators-scoped seen used known base before tree.no_declarators sees = stays seen Any known before sees tt
    declarators-scoped seen used known base before (tree.more_declarators first others) sees =
        after-gives seen Any Any known (steps_of setting used known first) _ (declarator-scoped seen used known first sees) (λ then_known steps step any.
        after-gives seen Any Any then_known (derived then_known base steps) _ (derived-gives seen then_known base steps step.sees) (λ then_more type more any.
        after-gives seen Any Any then_more (typed_field setting then_more (declarator_span first).first (declarator_name first) before type) _
        (field-gives seen setting then_more more.sees (declarator_span first).first (declarator_name first) before type)
        (λ behind so_far last any. declarators-scoped seen used behind base so_far others last.sees)))

    -- 6.7.2.2
    enumerators-scoped : (seen : ℕ → Bool) (used : Bool) (known : Known) (last : ℤ) (enumerators : Enumerators) → Sees known.declared seen known.scopes
        → Gives seen Any known (enumerators_of setting used known last enumerators)
    enumerators-scoped seen used known last tree.no_enumerators sees = stays seen Any known last sees tt
    enumerators-scoped seen used known last (tree.more_enumerators first others) sees =
        after-gives seen Any Any known (enumerator_of setting used known last first) _ (enumerator-scoped seen used known last first sees)
        (λ behind value step any. enumerators-scoped seen used behind value others step.sees)

    enumerator-scoped : (seen : ℕ → Bool) (used : Bool) (known : Known) (last : ℤ) (enumerator : Enumerator) → Sees known.declared seen known.scopes
        → Gives seen Any known (enumerator_of setting used known last enumerator)
    enumerator-scoped seen used known last (tree.bare span at) sees = enumerator-gives seen setting known sees at (last +ℤ pos 1)
    enumerator-scoped seen used known last (tree.valued span at value) sees =
        after-gives seen (IsScopedIn seen) Any known (typed setting used known value) _ (expr-scoped seen used known (expr_span value) value sees)
        (λ behind made step one. valued-gives seen setting behind step.sees at (expr_span value).first (as_value made))

    -- 6.7.6
    pub declarator-scoped : (seen : ℕ → Bool) (used : Bool) (known : Known) (declarator : Declarator) → Sees known.declared seen known.scopes
        → Gives seen Any known (steps_of setting used known declarator)
    declarator-scoped seen used known (tree.shaped span consts direct) sees =
        with-gives seen Any Any known (direct_steps setting used known (direct_at span.first consts) direct) _
        (direct-scoped seen used known (direct_at span.first consts) direct sees) (λ behind steps step any. tt)

    pub direct-scoped : (seen : ℕ → Bool) (used : Bool) (known : Known) (here : ℕ) (direct : Direct) → Sees known.declared seen known.scopes
        → Gives seen Any known (direct_steps setting used known here direct)
    direct-scoped seen used known here tree.absent sees = stays seen Any known [] sees tt
    direct-scoped seen used known here (tree.declared at) sees = stays seen Any known [] sees tt
    direct-scoped seen used known here (tree.enclosed declarator) sees = declarator-scoped seen used known declarator sees
    direct-scoped seen used known here (tree.array direct) sees =
        with-gives seen Any Any known (direct_steps setting used known here direct) _ (direct-scoped seen used known here direct sees) (λ behind steps step any. tt)
    direct-scoped seen used known here (tree.sized direct value) sees =
        after-gives seen Any Any known (direct_steps setting used known here direct) _ (direct-scoped seen used known here direct sees) (λ then_known steps step any.
        after-gives seen (IsScopedIn seen) Any then_known (typed setting used then_known value) _ (expr-scoped seen used then_known (expr_span value) value step.sees) (λ then_more made more one.
        with-gives seen Any Any then_more (length_of then_more (expr_span value).first (as_value made)) _
        (length-gives seen setting then_more more.sees (expr_span value).first (as_value made)) (λ behind n last any. tt)))
    direct-scoped seen used known here (tree.function direct parameters) sees =
        after-gives seen Any Any known (direct_steps setting used known here direct) _ (direct-scoped seen used known here direct sees) (λ then_known steps step any.
        with-gives seen Any Any then_known (left then_known.scopes (parameters_of setting used (entered then_known) parameters)) _
        (left-gives seen then_known (parameters_of setting used (entered then_known) parameters) step.sees
        (parameters-scoped used (entered then_known) parameters (entered-sees seen then_known step.sees))) (λ behind these last any. tt))

    -- 6.7.6.3
    pub parameters-scoped : (used : Bool) (known : Known) (parameters : Parameters) → Sees known.declared all-pass known.scopes
        → Gives all-pass Any known (parameters_of setting used known parameters)
    parameters-scoped used known tree.no_parameters sees = stays all-pass Any known [] sees tt
    parameters-scoped used known (tree.more_parameters first others) sees =
        after-gives all-pass Any Any known (parameter_of setting used known first) _ (parameter-scoped used known first sees) (λ then_known made step any.
        with-gives all-pass Any Any then_known (parameters_of setting used then_known others) _ (parameters-scoped used then_known others step.sees) (λ behind rest last any. tt))

    parameter-scoped : (used : Bool) (known : Known) (parameter : Parameter) → Sees known.declared all-pass known.scopes
        → Gives all-pass Any known (parameter_of setting used known parameter)
    parameter-scoped used known (tree.parameter span specifiers declarator) sees =
        after-gives all-pass Any Any known (typed_specifiers setting used elsewhere false known specifiers) _ (specifiers-scoped all-pass used elsewhere false known specifiers sees) (λ then_known base step any.
        after-gives all-pass Any Any then_known (steps_of setting used then_known declarator) _ (declarator-scoped all-pass used then_known declarator step.sees) (λ then_more steps more any.
        after-gives all-pass Any Any then_more (derived then_more base steps) _ (derived-gives all-pass then_more base steps more.sees)
        (λ behind type last any. parameter-gives setting behind (parameter_at span declarator) type (declarator_name declarator) last.sees)))

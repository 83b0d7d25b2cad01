-- The definition of each form of expression, type name and declarator, as the code goes through it.
use Rattle.std.specs.Prelude.{◌≡◌, ℕ, ℤ, pos, ◌+ℤ◌, Bool, false, List, [], ◌∷◌, ◌++◌, Option, Some, None, slice_get, unwrap_or, refl}
use Rattle.std.proofs.Common.{sym, subst, map}
use Rattle.dm_token.specs.declared.place.Span.{Span}
use Rattle.dm_type.specs.CTypes.{CType, bare}
use Rattle.dm_syn.specs.Sources.{spelling_at, symbol_at}
use Rattle.dm_syn.specs.Scopes.{declarator_name}
use Rattle.dm_syn.specs.Trees.{Expr, Exprs, TypeName, Specifiers, Words, Members, Declarators, Enumerators, Declarator, Direct, Parameters}
use Rattle.dm_syn.specs.Trees as tree
use Rattle.dm_syn.specs.Views as view
use Rattle.dm_syn.specs.declared.declaration.StructForm.{StructForm, out-StructForm}
use Rattle.dm_syn.specs.declared.declaration.EnumForm.{EnumForm, out-EnumForm}
use Rattle.dm_syn.specs.declared.declaration.EnumItem.{EnumItem}
use Rattle.dm_syn.specs.declared.declaration.MemberForm.{MemberForm}
use Rattle.dm_tree.specs.Trees.{Tree}
use Rattle.dm_typing.specs.declared.extent.Extent.{Extent}
use Rattle.dm_typing.specs.Known.{Known, Setting, Outcome, given, broken, after, with_it, if_given, meaning_of}
use Rattle.dm_typing.specs.Operators.{keyword_at}
use Rattle.dm_typing.specs.Specifiers.{Said, nothing_said, with_word, with_type, Where, elsewhere}
use Rattle.dm_edeclarator.specs.Steps.{typedef_said}
use Rattle.dm_eexpr.specs.Parts.{valued, type_of_specifier, declared_type, typed_with, enumerator_with, array_steps, calling_steps}
use Rattle.dm_typing.specs.Typing.{named, constant_tree, literal_tree, typed_index, typed_member, typed_arrow, typed_count, typed_prefix, typed_sizeof, typed_sizeof_name, typed_cast, typed_binary, typed_choice, typed_assignment, typed_call, comma_of, TypedName, TypedMember, Step, arraying, pointers, direct_at, derived, typed_parameter, parameter_at, name_ended, typed_said, enumerator_declared, typed, typed_within, typed_values, typed_name, typed_specifiers, words_said, word_said, fields_declared, fields_with, enumerator_of, steps_of, direct_steps, parameter_of}
use Rattle.dm_edeclarator.proofs.ReachLemmas.{after-after}
use Rattle.dm_eexpr.proofs.CycleLemmas.{after-valued, two-valued, second-valued, three-valued}
use Rattle.dm_eexpr.proofs.SyntaxViewLemmas.{struct-none, struct-some, enum-none, enum-some}

module _ (setting : Setting) (used : Bool) (known : Known) (at : Extent) where
  abbrev of_form : Expr → Outcome Tree
  of_form expr = typed_within setting used known at.outer expr

  abbrev value_in : Known → Expr → Outcome Tree
  value_in now expr = valued (typed setting used now expr)

  pub name-split : of_form (tree.name at.inner) ≡ named setting used known at (spelling_at setting.source at.inner.first) (meaning_of known (spelling_at setting.source at.inner.first))
  unfolding typed_within
  name-split = refl

  pub constant-split : of_form (tree.constant at.inner) ≡ given known (constant_tree setting at (slice_get setting.source.tokens at.inner.first))
  unfolding typed_within
  constant-split = refl

  pub literal-split : of_form (tree.literal at.inner) ≡ given known (literal_tree setting at (spelling_at setting.source at.inner.first))
  unfolding typed_within
  literal-split = refl

  pub paren-split : (inner : Expr) → of_form (tree.paren at.inner inner) ≡ of_form inner
  unfolding typed_within
  paren-split inner = refl

  pub index-split : (a b : Expr) → of_form (tree.index at.inner a b)
      ≡ after (value_in known a) (λ then_known first. after (value_in then_known b) (λ behind second. typed_index setting behind at first second))
  unfolding typed_within
  index-split a b = two-valued (typed setting used known a) (λ then_known. typed setting used then_known b) (λ behind first second. typed_index setting behind at first second)

  pub binary-split : (a b : Expr) (operator : ℕ) → of_form (tree.binary at.inner a operator b)
      ≡ after (value_in known a) (λ then_known first. after (value_in then_known b) (λ behind second. typed_binary setting behind at operator first second (symbol_at setting.source operator)))
  unfolding typed_within
  binary-split a b operator =
      two-valued (typed setting used known a) (λ then_known. typed setting used then_known b) (λ behind first second. typed_binary setting behind at operator first second (symbol_at setting.source operator))

  pub conditional-split : (a b c : Expr) → of_form (tree.conditional at.inner a b c)
      ≡ after (value_in known a) (λ then_known first. after (value_in then_known b) (λ then_more second. after (value_in then_more c) (λ behind third. typed_choice setting behind at first second third)))
  unfolding typed_within
  conditional-split a b c =
      three-valued (typed setting used known a) (λ then_known. typed setting used then_known b) (λ then_more. typed setting used then_more c) (λ behind first second third. typed_choice setting behind at first second third)

  pub assign-split : (object : Expr) (operator : ℕ) (value : Expr) → of_form (tree.assign at.inner object operator value)
      ≡ after (typed setting used known object) (λ then_known first. after (value_in then_known value) (λ behind second. typed_assignment setting behind at operator first second (symbol_at setting.source operator)))
  unfolding typed_within
  assign-split object operator value =
      second-valued (typed setting used known object) (λ then_known. typed setting used then_known value) (λ behind first second. typed_assignment setting behind at operator first second (symbol_at setting.source operator))

  pub call-split : (callee : Expr) (arguments : Exprs) → of_form (tree.call at.inner callee arguments)
      ≡ after (typed setting used known callee) (λ then_known first. after (typed_values setting used then_known arguments) (λ behind values. typed_call setting behind at callee first values))
  unfolding typed_within
  call-split callee arguments = refl

  pub member-split : (whole : Expr) (name : ℕ) → of_form (tree.member at.inner whole name) ≡ after (typed setting used known whole) (λ behind made. typed_member setting behind at name made)
  unfolding typed_within
  member-split whole name = refl

  pub arrow-split : (operand : Expr) (name : ℕ) → of_form (tree.arrow at.inner operand name) ≡ after (value_in known operand) (λ behind made. typed_arrow setting behind at name made)
  unfolding typed_within
  arrow-split operand name = after-valued (typed setting used known operand) (λ behind made. typed_arrow setting behind at name made)

  pub postfix-split : (operand : Expr) (operator : ℕ) → of_form (tree.postfix at.inner operand operator) ≡ after (typed setting used known operand) (λ behind made. typed_count setting behind at operator false made)
  unfolding typed_within
  postfix-split operand operator = refl

  pub prefix-split : (operator : ℕ) (operand : Expr) → of_form (tree.prefix at.inner operator operand)
      ≡ after (typed setting used known operand) (λ behind made. typed_prefix setting behind at operator made (symbol_at setting.source operator))
  unfolding typed_within
  prefix-split operator operand = refl

  pub sizeof-expr-split : (operand : Expr) → of_form (tree.sizeof_expr at.inner operand) ≡ after (typed setting false known operand) (λ behind made. typed_sizeof setting behind at made)
  unfolding typed_within
  sizeof-expr-split operand = refl

  pub sizeof-name-split : (name : TypeName) → of_form (tree.sizeof_name at.inner name) ≡ after (typed_name setting false known name) (λ behind named. typed_sizeof_name setting behind at named.kind named.constants)
  unfolding typed_within
  sizeof-name-split name = refl

  pub cast-split : (name : TypeName) (operand : Expr) → of_form (tree.cast at.inner name operand)
      ≡ after (typed_name setting used known name) (λ then_known named. after (value_in then_known operand) (λ behind made. typed_cast setting behind at (bare named.kind) named.constants made))
  unfolding typed_within
  cast-split name operand =
      second-valued (typed_name setting used known name) (λ then_known. typed setting used then_known operand) (λ behind (named : TypedName) made. typed_cast setting behind at (bare named.kind) named.constants made)

  pub comma-split : (parts : Exprs) → of_form (tree.comma at.inner parts)
      ≡ after (typed_values setting used known parts) (λ behind values. if_given (comma_of setting at values) 1 at.inner.first (λ made. given behind made))
  unfolding typed_within
  comma-split parts = refl

module _ (setting : Setting) (used : Bool) (known : Known) where
  pub name-parts : (span : Span) (specifiers : Specifiers) (declarator : Declarator) → typed_name setting used known (tree.type_name span specifiers declarator)
      ≡ name_ended known.constants (typed_with setting used (record known { constants = [] }) specifiers declarator)
  unfolding typed_name
  name-parts span specifiers declarator = refl

  pub specifiers-parts : (stands : Where) (alone : Bool) (span : Span) (words : Words) → typed_specifiers setting used stands alone known (tree.listed span words)
      ≡ after (words_said setting used alone known nothing_said words) (λ behind said. typed_said behind stands span.first said)
  unfolding typed_specifiers
  specifiers-parts stands alone span words = refl

  pub keyword-said : (alone : Bool) (said : Said) (at : ℕ) → word_said setting used alone known said (tree.keyword at) ≡ given known (with_word (unwrap_or (keyword_at setting.source at) 0) said)
  unfolding word_said
  keyword-said alone said at = refl

  pub typedef-said : (alone : Bool) (said : Said) (at : ℕ) → word_said setting used alone known said (tree.typedef_name at) ≡ typedef_said setting known said at
  unfolding word_said
  typedef-said alone said at = refl

  pub struct-said : (alone : Bool) (said : Said) (span : Span) (tag : Option ℕ) → word_said setting used alone known said (tree.struct_only span tag)
      ≡ with_it (type_of_specifier setting used alone known (tree.struct_only span tag)) (λ behind type. with_type type said)
  unfolding word_said
  struct-said alone said span tag = refl

  pub struct-with-said : (alone : Bool) (said : Said) (span : Span) (tag : Option ℕ) (members : Members) → word_said setting used alone known said (tree.struct_with span tag members)
      ≡ with_it (type_of_specifier setting used alone known (tree.struct_with span tag members)) (λ behind type. with_type type said)
  unfolding word_said
  struct-with-said alone said span tag members = refl

  pub enum-said : (alone : Bool) (said : Said) (span : Span) (tag : Option ℕ) (trailing : Bool) → word_said setting used alone known said (tree.enum_only span tag trailing)
      ≡ with_it (type_of_specifier setting used false known (tree.enum_only span tag trailing)) (λ behind type. with_type type said)
  unfolding word_said
  enum-said alone said span tag trailing = refl

  pub enum-with-said : (alone : Bool) (said : Said) (span : Span) (tag : Option ℕ) (enumerators : Enumerators) (trailing : Bool) → word_said setting used alone known said (tree.enum_with span tag enumerators trailing)
      ≡ with_it (type_of_specifier setting used false known (tree.enum_with span tag enumerators trailing)) (λ behind type. with_type type said)
  unfolding word_said
  enum-with-said alone said span tag enumerators trailing = refl

  pub declared-parts : (before : List TypedMember) (span : Span) (specifiers : Specifiers) (declarators : Declarators) → fields_declared setting used known before (tree.members span specifiers declarators)
      ≡ after (typed_specifiers setting used elsewhere false known specifiers) (λ behind base. fields_with setting used behind base before declarators)
  unfolding fields_declared
  declared-parts before span specifiers declarators = refl

  pub bare-parts : (last : ℤ) (span : Span) (at : ℕ) → enumerator_of setting used known last (tree.bare span at) ≡ enumerator_declared setting known at (last +ℤ pos 1)
  unfolding enumerator_of
  bare-parts last span at = refl

  pub valued-parts : (last : ℤ) (span : Span) (at : ℕ) (value : Expr) → enumerator_of setting used known last (tree.valued span at value) ≡ enumerator_with setting used known at value
  unfolding enumerator_of
  valued-parts last span at value = refl

  pub shaped-parts : (span : Span) (consts : List ℕ) (direct : Direct) → steps_of setting used known (tree.shaped span consts direct)
      ≡ with_it (direct_steps setting used known (direct_at span.first consts) direct) (λ behind steps. pointers span.first consts ++ steps)
  unfolding steps_of
  shaped-parts span consts direct = refl

  pub absent-parts : (here : ℕ) → direct_steps setting used known here tree.absent ≡ given known []
  unfolding direct_steps
  absent-parts here = refl

  pub named-parts : (here at : ℕ) → direct_steps setting used known here (tree.declared at) ≡ given known []
  unfolding direct_steps
  named-parts here at = refl

  pub enclosed-parts : (here : ℕ) (declarator : Declarator) → direct_steps setting used known here (tree.enclosed declarator) ≡ steps_of setting used known declarator
  unfolding direct_steps
  enclosed-parts here declarator = refl

  pub array-view-parts : (here : ℕ) (direct : Direct) (length : Option Expr) → direct_steps setting used known here (view.array_view direct length)
      ≡ after (direct_steps setting used known here direct) (λ behind steps. array_steps setting used behind here steps length)
  unfolding direct_steps
  array-view-parts here direct None = go (direct_steps setting used known here direct)
    where
      go : (outcome : Outcome (List Step)) → with_it outcome (λ behind steps. arraying here None ∷ steps) ≡ after outcome (λ behind steps. given behind (arraying here None ∷ steps))
      go (given behind steps) = refl
      go (broken rule at) = refl
  array-view-parts here direct (Some value) = refl

  pub function-parts : (here : ℕ) (direct : Direct) (parameters : Parameters) → direct_steps setting used known here (tree.function direct parameters)
      ≡ after (direct_steps setting used known here direct) (λ behind steps. calling_steps setting used behind here steps parameters)
  unfolding direct_steps
  function-parts here direct parameters = refl

  pub parameter-parts : (span : Span) (specifiers : Specifiers) (declarator : Declarator) → parameter_of setting used known (tree.parameter span specifiers declarator)
      ≡ after (typed_with setting used known specifiers declarator) (λ behind type. typed_parameter setting behind (parameter_at span declarator) type (declarator_name declarator))
  unfolding parameter_of
  parameter-parts span specifiers declarator =
      go (typed_specifiers setting used elsewhere false known specifiers)
    where
      go : (outcome : Outcome CType) → after outcome (λ then_known base. after (steps_of setting used then_known declarator) (λ then_more steps.
          after (derived then_more base steps) (λ behind type. typed_parameter setting behind (parameter_at span declarator) type (declarator_name declarator))))
          ≡ after (after outcome (λ behind base. declared_type setting used behind base declarator)) (λ behind type. typed_parameter setting behind (parameter_at span declarator) type (declarator_name declarator))
      go (broken rule at) = refl
      go (given then_known base) =
          after-after (steps_of setting used then_known declarator) (λ behind steps. derived behind base steps) (λ behind type. typed_parameter setting behind (parameter_at span declarator) type (declarator_name declarator))

  -- a struct or an enum among specifiers
  pub struct-form-said : (alone : Bool) (said : Said) (one : StructForm) → word_said setting used alone known said (view.struct_form one)
      ≡ with_it (type_of_specifier setting used alone known (view.struct_form one)) (λ behind type. with_type type said)
  struct-form-said alone said one = go (out-StructForm one).members refl
    where
      go : (all : Option (List MemberForm)) → (out-StructForm one).members ≡ all → word_said setting used alone known said (view.struct_form one)
          ≡ with_it (type_of_specifier setting used alone known (view.struct_form one)) (λ behind type. with_type type said)
      go None h = subst (λ s. word_said setting used alone known said s ≡ with_it (type_of_specifier setting used alone known s) (λ behind type. with_type type said)) (sym (struct-none one h))
          (struct-said alone said (out-StructForm one).span (out-StructForm one).tag)
      go (Some members) h = subst (λ s. word_said setting used alone known said s ≡ with_it (type_of_specifier setting used alone known s) (λ behind type. with_type type said)) (sym (struct-some one members h))
          (struct-with-said alone said (out-StructForm one).span (out-StructForm one).tag (view.members (map view.member_form members)))

  pub enum-form-said : (alone : Bool) (said : Said) (one : EnumForm) → word_said setting used alone known said (view.enum_form one)
      ≡ with_it (type_of_specifier setting used false known (view.enum_form one)) (λ behind type. with_type type said)
  enum-form-said alone said one = go (out-EnumForm one).enumerators refl
    where
      go : (all : Option (List EnumItem)) → (out-EnumForm one).enumerators ≡ all → word_said setting used alone known said (view.enum_form one)
          ≡ with_it (type_of_specifier setting used false known (view.enum_form one)) (λ behind type. with_type type said)
      go None h = subst (λ s. word_said setting used alone known said s ≡ with_it (type_of_specifier setting used false known s) (λ behind type. with_type type said)) (sym (enum-none one h))
          (enum-said alone said (out-EnumForm one).span (out-EnumForm one).tag (out-EnumForm one).trailing)
      go (Some items) h = subst (λ s. word_said setting used alone known said s ≡ with_it (type_of_specifier setting used false known s) (λ behind type. with_type type said)) (sym (enum-some one items h))
          (enum-with-said alone said (out-EnumForm one).span (out-EnumForm one).tag (view.enumerators (map view.enum_item items)) (out-EnumForm one).trailing)

-- The typing of expressions and type names gives the same where types have other numbers, and what is known behind it is the same by the
-- other numbers.
use Rattle.std.specs.Prelude.{◌≡◌, ℕ, ℤ, pos, ◌+ℤ◌, negsuc, Bool, true, false, ◌&&◌, not, if◌then◌else◌, List, [], ◌∷◌, length, Option, Some, None, is_some, option_and_then, unwrap_or, bytes_eq, codes, refl}
use Rattle.std.proofs.Common.{sym, ap, ap₂, subst}
use Rattle.std.proofs.lemmas.List.{length-map}
use Rattle.dm_token.specs.declared.place.Span.{Span}
use Rattle.dm_int.specs.declared.Kind.TheVariants as k
use Rattle.dm_int.specs.declared.Op.{Op}
use Rattle.dm_type.specs.declared.shape.Shape.{Shape}
use Rattle.dm_type.specs.CTypes.{CType, integer, struct, bare}
use Rattle.dm_type.specs.Layouts.{contained}
use Rattle.dm_type.specs.Tables.{Table, with_content}
use Rattle.dm_scope.specs.Scopes.{number_of, is_declared}
use Rattle.dm_syn.specs.declared.symbol.Symbol.{Symbol}
use Rattle.dm_syn.specs.declared.symbol.Symbol.TheVariants as symbol
use Rattle.dm_syn.specs.Sources.{spelling_at, symbol_at}
use Rattle.dm_syn.specs.Spans.{expr_span, declarator_span}
use Rattle.dm_syn.specs.Scopes.{declarator_name}
use Rattle.dm_syn.specs.Trees.{Expr, Exprs, TypeName, Specifiers, Words, Specifier, Members, Member, Declarators, Enumerators, Enumerator, Declarator, Direct, Parameters, Parameter}
use Rattle.dm_syn.specs.Trees as tree
use Rattle.dm_tree.specs.Trees.{Tree, kind_of, label_of}
use Rattle.dm_tree.specs.Trees as label
use Rattle.dm_tree.specs.Scenes.{is_lvalue, is_integer, is_scalar, is_function}
use Rattle.dm_tree.specs.Units.{Declaration}
use Rattle.dm_typing.specs.declared.extent.Extent.{Extent}
use Rattle.dm_typing.specs.Rules.{named_by_sort, signed, rule_of}
use Rattle.dm_typing.specs.Operators.{row_at, operator_of_row, operator_of_assignment, sign_of_row}
use Rattle.dm_typing.specs.Known.{meaning_of, Known, Setting, Outcome, given, broken, after, with_it, obeys, if_given, declaring}
use Rattle.dm_typing.specs.Conversions.{as_value, made}
use Rattle.dm_typing.specs.Specifiers.{type_said, are_allowed, Said, Where, elsewhere, nothing_said}
use Rattle.dm_typing.specs.Typing.{may_be_used, comma_of, index_tree, is_name, is_function_label, number_if_struct, fields, is_file_scope, enumerator_entry, is_int, with_constant, natural, parameter_entry, is_named, named, typed_index, typed_member, typed_arrow, typed_count, typed_sign, typed_prefix, typed_sizeof, typed_sizeof_name, typed_cast, typed_operation, typed_binary, typed_choice, typed_update, typed_assignment, typed_call, tag_declared, new_struct, tag_inside, tag_seen, struct_named, enum_named, struct_begun, with_new_struct, beginning, TypedMember, struct_ended, enumerator_declared, enumerator_valued, Step, pointing, arraying, calling, stepped, derived, direct_at, length_of, adjusted, is_new_parameter, parameter_declared, typed_parameter, parameter_at, entered, left, name_of, typed_field, typed_said, name_ended, extent, typed_within, typed_values, typed_name, typed_specifiers, words_said, word_said, fields_of, fields_declared, fields_with, enumerators_of, enumerator_of, steps_of, direct_steps, parameters_of, parameter_of, typed}
use Rattle.dm_outcome.proofs.Renumbered.{Renumbers, moved_struct, table_at, at_one, at_other}
use Rattle.dm_outcome.proofs.TableLemmas.{fields-laid-out, struct-added, content-added}
use Rattle.dm_outcome.proofs.RuleLemmas.{complete-same, target-same, length-same, result-same, constant-of-same, indexed-same, member-same, modifiable-same, counted-same, cast-same, operated-same, arms-same, assignable-same, called-same, updated-same, begun-same}

-- two answers, the second with the other numbers
pub data Both (one other : List Shape) (number : ℕ → ℕ) {A : Type 0} : Outcome A → Outcome A → Type 0 where
  gives : (known : Known) (it : A) → Both one other number (given (at_one one known) it) (given (at_other other number known) it)
  breaks : (rule at : ℕ) → Both one other number (broken rule at) (broken rule at)

module _ (one other : List Shape) (number : ℕ → ℕ) where
  abbrev a : Known → Known
  a known = at_one one known

  abbrev b : Known → Known
  b known = at_other other number known

  abbrev Alike : {A : Type 0} → Outcome A → Outcome A → Type 0
  Alike x y = Both one other number x y

  -- ---- what follows

  pub after-both : {A B : Type 0} (x y : Outcome A) (next more : Known → A → Outcome B) → Alike x y
      → ((known : Known) (it : A) → Alike (next (a known) it) (more (b known) it)) → Alike (after x next) (after y more)
  after-both x y next more (gives known it) h = h known it
  after-both x y next more (breaks rule at) h = breaks rule at

  pub with-both : {A B : Type 0} (x y : Outcome A) (next more : Known → A → B) → Alike x y
      → ((known : Known) (it : A) → more (b known) it ≡ next (a known) it) → Alike (with_it x next) (with_it y more)
  with-both x y next more (gives known it) h = subst (λ made. Alike (given (a known) (next (a known) it)) (given (b known) made)) (sym (h known it)) (gives known (next (a known) it))
  with-both x y next more (breaks rule at) h = breaks rule at

  pub there : {A : Type 0} (known : Known) (x y : A) → y ≡ x → Alike (given (a known) x) (given (b known) y)
  there known x y e = subst (λ it. Alike (given (a known) x) (given (b known) it)) (sym e) (gives known x)

  pub behind-there : {A : Type 0} (known seen : Known) (it : A) → seen ≡ b known → Alike (given (a known) it) (given seen it)
  behind-there known seen it e = subst (λ behind. Alike (given (a known) it) (given behind it)) (sym e) (gives known it)

  pub obeys-both : {A : Type 0} (first second : Bool) (rule at : ℕ) (x y : Outcome A) → second ≡ first → Alike x y → Alike (obeys first rule at x) (obeys second rule at y)
  obeys-both first second rule at x y e h = subst (λ test. Alike (obeys first rule at x) (obeys test rule at y)) (sym e) (go first)
    where
      go : (test : Bool) → Alike (obeys test rule at x) (obeys test rule at y)
      go true = h
      go false = breaks rule at

  pub if-both : {A B : Type 0} (first second : Option A) (rule at : ℕ) (next more : A → Outcome B) → second ≡ first
      → ((it : A) → Alike (next it) (more it)) → Alike (if_given first rule at next) (if_given second rule at more)
  if-both first second rule at next more e h = subst (λ found. Alike (if_given first rule at next) (if_given found rule at more)) (sym e) (go first)
    where
      go : (found : Option _) → Alike (if_given found rule at next) (if_given found rule at more)
      go (Some it) = h it
      go None = breaks rule at

module _ (one other : List Shape) (number : ℕ → ℕ) (re : Renumbers one other number) (setting : Setting) where
  abbrev by_one : Known → Known
  by_one known = at_one one known

  abbrev by_other : Known → Known
  by_other known = at_other other number known

  -- ---- nodes

  module _ (known : Known) (span : Extent) where
    abbrev front : ℕ
    front = span.inner.first

    abbrev plain : {A : Type 0} (it : A) → Both one other number (given (by_one known) it) (given (by_other known) it)
    plain it = gives known it

    named-both : (used : Bool) (name : List ℕ) (found : Option Declaration) → Both one other number (named setting used (by_one known) span name found) (named setting used (by_other known) span name found)
    named-both used name None = breaks 1 front
    named-both used name (Some entry) =
        if-both one other number (named_by_sort entry.sort (unwrap_or (number_of known.scopes name) 0) entry.kind) _ 1 front _ _ refl
        (λ it. obeys-both one other number (may_be_used setting used name entry) _ 37 front _ _ refl (plain _))

    index-both : (x y : Tree) → Both one other number (typed_index setting (by_one known) span x y) (typed_index setting (by_other known) span x y)
    index-both x y =
        if-both one other number _ _ 11 front _ _ (indexed-same one other number re known (kind_of x) (kind_of y))
        (λ type. there one other number known _ _ (ap (index_tree setting span x y type) (target-same one other number re known type)))

    member-both : (name : ℕ) (whole : Tree) → Both one other number (typed_member setting (by_one known) span name whole) (typed_member setting (by_other known) span name whole)
    member-both name whole =
        if-both one other number _ _ 12 front _ _ (member-same one other number re known (spelling_at setting.source name) whole) (λ it. plain _)

    arrow-both : (name : ℕ) (operand : Tree) → Both one other number (typed_arrow setting (by_one known) span name operand) (typed_arrow setting (by_other known) span name operand)
    arrow-both name operand =
        if-both one other number _ _ 12 front _ _ (target-same one other number re known (kind_of operand)) (λ to. member-both name (made setting.source span label.follow to (operand ∷ [])))

    count-both : (operator : ℕ) (before : Bool) (operand : Tree) → Both one other number (typed_count setting (by_one known) span operator before operand) (typed_count setting (by_other known) span operator before operand)
    count-both operator before operand = obeys-both one other number _ _ 13 front _ _ (counted-same one other number re known operand) (plain _)

    sign-both : (operator : ℕ) (operand : Tree) → Both one other number (typed_sign setting (by_one known) span operator operand) (typed_sign setting (by_other known) span operator operand)
    sign-both operator operand =
        if-both one other number (option_and_then sign_of_row (row_at setting.source operator)) _ 16 front _ _ refl
        (λ sign. if-both one other number (signed sign operand) _ 16 front _ _ refl (λ it. plain _))

    prefix-both : (operator : ℕ) (operand : Tree) (it : Symbol) → Both one other number (typed_prefix setting (by_one known) span operator operand it) (typed_prefix setting (by_other known) span operator operand it)
    prefix-both operator operand symbol.Increment = count-both operator true operand
    prefix-both operator operand symbol.Ampersand = obeys-both one other number (is_lvalue operand) _ 14 front _ _ refl (plain _)
    prefix-both operator operand symbol.Star = if-both one other number _ _ 15 front _ _ (target-same one other number re known (kind_of (as_value operand))) (λ to. plain _)
    prefix-both operator operand _ = sign-both operator (as_value operand)

    sizeof-both : (operand : Tree) → Both one other number (typed_sizeof setting (by_one known) span operand) (typed_sizeof setting (by_other known) span operand)
    sizeof-both operand = obeys-both one other number _ _ 17 front _ _ (complete-same one other number re known (kind_of operand)) (plain _)

    sizeof-name-both : (type : CType) (lengths : List Tree) → Both one other number (typed_sizeof_name setting (by_one known) span type lengths) (typed_sizeof_name setting (by_other known) span type lengths)
    sizeof-name-both type lengths = obeys-both one other number _ _ 17 front _ _ (complete-same one other number re known type) (plain _)

    cast-both : (type : CType) (lengths : List Tree) (operand : Tree) → Both one other number (typed_cast setting (by_one known) span type lengths operand) (typed_cast setting (by_other known) span type lengths operand)
    cast-both type lengths operand = obeys-both one other number _ _ 18 front _ _ (cast-same one other number re known operand type) (plain _)

    operation-both : (x y : Tree) (op : Option Op) → Both one other number (typed_operation setting (by_one known) span x y op) (typed_operation setting (by_other known) span x y op)
    operation-both x y None = breaks 19 front
    operation-both x y (Some op) = if-both one other number _ _ (rule_of op) front _ _ (operated-same one other number re known op x y) (λ pair. plain _)

    binary-both : (operator : ℕ) (x y : Tree) (it : Symbol) → Both one other number (typed_binary setting (by_one known) span operator x y it) (typed_binary setting (by_other known) span operator x y it)
    binary-both operator x y symbol.And = obeys-both one other number (is_scalar (kind_of x) && is_scalar (kind_of y)) _ 26 front _ _ refl (plain _)
    binary-both operator x y symbol.Or = obeys-both one other number (is_scalar (kind_of x) && is_scalar (kind_of y)) _ 26 front _ _ refl (plain _)
    binary-both operator x y _ = operation-both x y (option_and_then operator_of_row (row_at setting.source operator))

    choice-both : (condition x y : Tree) → Both one other number (typed_choice setting (by_one known) span condition x y) (typed_choice setting (by_other known) span condition x y)
    choice-both condition x y =
        obeys-both one other number (is_scalar (kind_of condition)) _ 27 front _ _ refl (if-both one other number _ _ 27 front _ _ (arms-same one other number re known x y) (λ pair. plain _))

    update-both : (object value : Tree) (op : Option Op) → Both one other number (typed_update setting (by_one known) span object value op) (typed_update setting (by_other known) span object value op)
    update-both object value None = breaks 29 front
    update-both object value (Some op) = if-both one other number _ _ 29 front _ _ (updated-same one other number re known op object value) (λ it. plain _)

    assignment-both : (operator : ℕ) (object value : Tree) (it : Symbol) → Both one other number (typed_assignment setting (by_one known) span operator object value it) (typed_assignment setting (by_other known) span operator object value it)
    assignment-both operator object value symbol.Equals =
        obeys-both one other number _ _ 28 front _ _
        (ap₂ (λ p q. p && q) (modifiable-same one other number re known object) (assignable-same one other number re known value (kind_of object))) (plain _)
    assignment-both operator object value _ = update-both object value (option_and_then operator_of_assignment (row_at setting.source operator))

    call-both : (callee : Expr) (tree : Tree) (values : List Tree) → Both one other number (typed_call setting (by_one known) span callee tree values) (typed_call setting (by_other known) span callee tree values)
    call-both callee tree values =
        obeys-both one other number (is_name callee && is_function_label (label_of tree)) _ 10 front _ _ refl
        (if-both one other number _ _ 10 front _ _ (called-same one other number re known (kind_of tree) values) (λ it. plain _))

    comma-both : (rule_at : ℕ) (values : List Tree)
        → Both one other number (if_given (comma_of setting span values) 1 rule_at (λ made. given (by_one known) made)) (if_given (comma_of setting span values) 1 rule_at (λ made. given (by_other known) made))
    comma-both rule_at values = if-both one other number (comma_of setting span values) _ 1 rule_at _ _ refl (λ made. plain _)

  -- ---- tags and enumerators

  module _ (known : Known) where
    abbrev count_same : length (by_other known).types.structs ≡ length (by_one known).types.structs
    count_same = length-map known.types.structs (moved_struct number)

    new-one : (tag : Option ℕ) → new_struct setting (by_one known) tag ≡ at_one one (new_struct setting known tag)
    new-one None = refl
    new-one (Some at) = refl

    -- a struct more
    declared-as : (tag : Option ℕ) → Table → ℕ → Known
    declared-as tag types n = tag_declared setting (record known { types = types }) tag (struct n)

    new-other : (tag : Option ℕ) → new_struct setting (by_other known) tag ≡ at_other other number (new_struct setting known tag)
    unfolding declared-as
    new-other None = ap₂ (declared-as None) (struct-added one other number re known.types.structs None) count_same
    new-other (Some at) = ap₂ (declared-as (Some at)) (struct-added one other number re known.types.structs (Some (spelling_at setting.source at))) count_same

    struct-both : (span : Span) (tag : Option ℕ) (found : Option Declaration) → Both one other number (struct_named setting (by_one known) span tag found) (struct_named setting (by_other known) span tag found)
    struct-both span tag None =
        subst (λ behind. Both one other number (given behind (struct (length known.types.structs))) (struct_named setting (by_other known) span tag None)) (sym (new-one tag))
        (subst (λ n. Both one other number (given (at_one one (new_struct setting known tag)) (struct (length known.types.structs))) (given (new_struct setting (by_other known) tag) (struct n))) (sym count_same)
        (behind-there one other number (new_struct setting known tag) (new_struct setting (by_other known) tag) (struct (length known.types.structs)) (new-other tag)))
    struct-both span tag (Some entry) = obeys-both one other number (is_some (number_if_struct entry.kind)) _ 4 span.first _ _ refl (gives known _)

    enum-both : (span : Span) (found : Option Declaration) → Both one other number (enum_named (by_one known) span found) (enum_named (by_other known) span found)
    enum-both span None = breaks 1 span.first
    enum-both span (Some entry) = obeys-both one other number (is_integer entry.kind) _ 4 span.first _ _ refl (gives known _)

    -- where members begin
    with-new-one : (tag : Option ℕ) (found : Option Declaration) → with_new_struct setting (by_one known) tag found ≡ at_one one (with_new_struct setting known tag found)
    with-new-one tag None = new-one tag
    with-new-one tag (Some entry) = refl

    with-new-other : (tag : Option ℕ) (found : Option Declaration) → with_new_struct setting (by_other known) tag found ≡ at_other other number (with_new_struct setting known tag found)
    with-new-other tag None = new-other tag
    with-new-other tag (Some entry) = refl

    beginning-one : (n : Option ℕ) → beginning (by_one known) n ≡ at_one one (beginning known n)
    beginning-one None = refl
    beginning-one (Some n) = refl

    beginning-other : (n : Option ℕ) → beginning (by_other known) n ≡ at_other other number (beginning known n)
    beginning-other None = refl
    beginning-other (Some n) = refl

    enumerator-declared-both : (at : ℕ) (value : ℤ) → Both one other number (enumerator_declared setting (by_one known) at value) (enumerator_declared setting (by_other known) at value)
    enumerator-declared-both at value =
        obeys-both one other number (not (is_declared known.scopes (spelling_at setting.source at))) _ 2 at _ _ refl
        (obeys-both one other number (is_int value) _ 7 at _ _ refl
        (obeys-both one other number (not (is_file_scope known.scopes && bytes_eq (spelling_at setting.source at) (codes "main"))) _ 36 at _ _ refl
        (gives (declaring known (spelling_at setting.source at) (enumerator_entry setting at value)) value)))

  valued-both : (known : Known) (at front : ℕ) (tree : Tree)
      → Both one other number (enumerator_valued setting (at_one one known) at front tree) (enumerator_valued setting (at_other other number known) at front tree)
  valued-both known at front tree =
      if-both one other number _ _ 7 front _ _ (constant-of-same one other number re known tree)
      (λ value. obeys-both one other number (is_int value) _ 7 front _ _ refl (enumerator-declared-both (with_constant known tree) at value))

  -- ---- specifiers and declarators

  module _ (known : Known) where
    pub said-both : (stands : Where) (at : ℕ) (said : Said) → Both one other number (typed_said (by_one known) stands at said) (typed_said (by_other known) stands at said)
    said-both stands at said =
        if-both one other number (type_said said) _ 3 at _ _ refl (λ type. obeys-both one other number (are_allowed stands said) _ 3 at _ _ refl (gives known _))

    stepped-both : (type : CType) (step : Step) → Both one other number (stepped (by_one known) type step) (stepped (by_other known) type step)
    stepped-both type (pointing at const) = obeys-both one other number (not (is_function type)) _ 5 at _ _ refl (gives known _)
    stepped-both type (arraying at n) =
        obeys-both one other number _ _ 5 at _ _ (ap₂ (λ p q. p && q) (complete-same one other number re known type) (length-same one other number re known type n)) (gives known _)
    stepped-both type (calling at parameters) = obeys-both one other number _ _ 5 at _ _ (result-same one other number re known type) (gives known _)

    length-both : (at : ℕ) (tree : Tree) → Both one other number (length_of (by_one known) at tree) (length_of (by_other known) at tree)
    length-both at tree =
        if-both one other number _ _ 5 at _ _ (ap (option_and_then natural) (constant-of-same one other number re known tree)) (λ n. gives (with_constant known tree) n)

    parameter-declared-both : (type : CType) (name : Option ℕ) → Both one other number (parameter_declared setting (by_one known) type name) (parameter_declared setting (by_other known) type name)
    parameter-declared-both type None = gives known _
    parameter-declared-both type (Some at) = gives (declaring known (spelling_at setting.source at) (parameter_entry setting at type)) _

    new-parameter-same : (name : Option ℕ) → is_new_parameter setting (by_other known) name ≡ is_new_parameter setting (by_one known) name
    new-parameter-same None = refl
    new-parameter-same (Some at) = refl

    typed-parameter-both : (at : ℕ) (type : CType) (name : Option ℕ) → Both one other number (typed_parameter setting (by_one known) at type name) (typed_parameter setting (by_other known) at type name)
    typed-parameter-both at type name =
        obeys-both one other number _ _ 2 (unwrap_or name at) _ _ (new-parameter-same name)
        (obeys-both one other number (not (is_function type)) _ 5 at _ _ refl (parameter-declared-both (adjusted type) name))

    field-both : (at : ℕ) (name : Option ℕ) (before : List TypedMember) (type : CType) → Both one other number (typed_field setting (by_one known) at name before type) (typed_field setting (by_other known) at name before type)
    field-both at name before type =
        obeys-both one other number _ _ 5 at _ _ (complete-same one other number re known type)
        (obeys-both one other number (not (is_named (name_of setting name) before)) _ 6 (unwrap_or name at) _ _ refl (gives known _))

  pub derived-both : (known : Known) (type : CType) (steps : List Step)
      → Both one other number (derived (at_one one known) type steps) (derived (at_other other number known) type steps)
  derived-both known type [] = gives known type
  derived-both known type (step ∷ steps) = after-both one other number (stepped (at_one one known) type step) _ _ _ (stepped-both known type step) (λ behind made. derived-both behind made steps)

  left-both : {A : Type 0} (known : Known) (x y : Outcome A) → Both one other number x y → Both one other number (left known.scopes x) (left known.scopes y)
  left-both known x y (gives behind it) = gives (record behind { scopes = known.scopes }) it
  left-both known x y (breaks rule at) = breaks rule at

  ended-name-both : (known : Known) (x y : Outcome CType) → Both one other number x y → Both one other number (name_ended known.constants x) (name_ended known.constants y)
  ended-name-both known x y (gives behind kind) = gives (record behind { constants = known.constants }) _
  ended-name-both known x y (breaks rule at) = breaks rule at

  struct-ended-both : (known : Known) (span : Span) (n : Option ℕ) (begun : List ℕ) (members : List TypedMember)
      → Both one other number (struct_ended (at_one one known) span n begun members) (struct_ended (at_other other number known) span n begun members)
  struct-ended-both known span None begun members = breaks 4 span.first
  struct-ended-both known span (Some n) begun [] = breaks 5 span.first
  struct-ended-both known span (Some n) begun (first ∷ others) =
      let table = table_at one known.types.structs in
      let done : Known = record known { types = with_content table n (contained table (fields table (first ∷ others))); begun = begun } in
      obeys-both one other number _ _ 5 span.first _ _ (ap is_some (fields-laid-out one other number re known.types.structs (first ∷ others)))
      (behind-there one other number done _ (struct n) (ap (λ types. record known { types = types; begun = begun }) (content-added one other number re known.types.structs n (first ∷ others))))

  -- ---- tags among specifiers

  struct-named-both : (known : Known) (alone : Bool) (span : Span) (tag : Option ℕ)
      → Both one other number (struct_named setting (by_one known) span tag (if alone then tag_inside setting (by_one known) tag else tag_seen setting (by_one known) tag))
      (struct_named setting (by_other known) span tag (if alone then tag_inside setting (by_other known) tag else tag_seen setting (by_other known) tag))
  struct-named-both known true span None = struct-both known span None None
  struct-named-both known false span None = struct-both known span None None
  struct-named-both known true span (Some at) = struct-both known span (Some at) (tag_inside setting known (Some at))
  struct-named-both known false span (Some at) = struct-both known span (Some at) (tag_seen setting known (Some at))

  enum-named-both : (known : Known) (span : Span) (tag : Option ℕ)
      → Both one other number (enum_named (by_one known) span (tag_seen setting (by_one known) tag)) (enum_named (by_other known) span (tag_seen setting (by_other known) tag))
  enum-named-both known span None = enum-both known span None
  enum-named-both known span (Some at) = enum-both known span (tag_seen setting known (Some at))

  module _ (used : Bool) (known : Known) (span : Span) (members : Members)
      (fields-alike : (behind : Known) → Both one other number (fields_of setting used (by_one behind) [] members) (fields_of setting used (by_other behind) [] members)) where
    -- a struct with its members, from what is known where they begin
    abbrev ended : Known → Option ℕ → Outcome CType
    ended begun n = after (fields_of setting used begun [] members) (λ behind typed_members. struct_ended behind span n known.begun typed_members)

    ended-both : (begun : Known) (n : Option ℕ) → Both one other number (ended (beginning (by_one begun) n) n) (ended (beginning (by_other begun) n) n)
    ended-both begun n =
        subst (λ it. Both one other number (ended it n) (ended (beginning (by_other begun) n) n)) (sym (beginning-one begun n))
        (subst (λ it. Both one other number (ended (by_one (beginning begun n)) n) (ended it n)) (sym (beginning-other begun n))
        (after-both one other number (fields_of setting used (by_one (beginning begun n)) [] members) _ _ _ (fields-alike (beginning begun n))
        (λ behind typed_members. struct-ended-both behind span n known.begun typed_members)))

    struct-with-both : (tag : Option ℕ) (found : Option Declaration)
        → Both one other number (ended (beginning (with_new_struct setting (by_one known) tag found) (struct_begun (by_one known) found)) (struct_begun (by_one known) found))
        (ended (beginning (with_new_struct setting (by_other known) tag found) (struct_begun (by_other known) found)) (struct_begun (by_other known) found))
    struct-with-both tag found =
        let begun = with_new_struct setting known tag found in
        let n = struct_begun (by_one known) found in
        let last = ended (beginning (with_new_struct setting (by_other known) tag found) (struct_begun (by_other known) found)) (struct_begun (by_other known) found) in
        subst (λ it. Both one other number (ended (beginning it n) n) last) (sym (with-new-one known tag found))
        (subst (λ m. Both one other number (ended (beginning (by_one begun) n) n) (ended (beginning (with_new_struct setting (by_other known) tag found) m) m)) (sym (begun-same one other number re known found))
        (subst (λ it. Both one other number (ended (beginning (by_one begun) n) n) (ended (beginning it n) n)) (sym (with-new-other known tag found)) (ended-both begun n)))

    struct-tag-both : (tag : Option ℕ)
        → Both one other number (ended (beginning (with_new_struct setting (by_one known) tag (tag_inside setting (by_one known) tag)) (struct_begun (by_one known) (tag_inside setting (by_one known) tag))) (struct_begun (by_one known) (tag_inside setting (by_one known) tag)))
        (ended (beginning (with_new_struct setting (by_other known) tag (tag_inside setting (by_other known) tag)) (struct_begun (by_other known) (tag_inside setting (by_other known) tag))) (struct_begun (by_other known) (tag_inside setting (by_other known) tag)))
    struct-tag-both None = struct-with-both None None
    struct-tag-both (Some at) = struct-with-both (Some at) (tag_inside setting known (Some at))

  module _ (used : Bool) (known : Known) (span : Span) (enumerators : Enumerators)
      (enumerators-alike : (behind : Known) → Both one other number (enumerators_of setting used (by_one behind) (negsuc 0) enumerators) (enumerators_of setting used (by_other behind) (negsuc 0) enumerators)) where
    -- an enum with its enumerators
    abbrev listed : Known → Bool → Outcome CType
    listed begun declared_before = after (enumerators_of setting used begun (negsuc 0) enumerators) (λ behind last. obeys (not declared_before) 4 span.first (given behind (integer k.Int)))

    listed-both : (begun : Known) (declared_before : Bool) → Both one other number (listed (by_one begun) declared_before) (listed (by_other begun) declared_before)
    listed-both begun declared_before =
        after-both one other number (enumerators_of setting used (by_one begun) (negsuc 0) enumerators) _ _ _ (enumerators-alike begun)
        (λ behind last. obeys-both one other number (not declared_before) _ 4 span.first _ _ refl (gives behind _))

    enum-with-both : (tag : Option ℕ) (declared_before : Bool)
        → Both one other number (listed (if declared_before then by_one known else tag_declared setting (by_one known) tag (integer k.Int)) declared_before)
        (listed (if declared_before then by_other known else tag_declared setting (by_other known) tag (integer k.Int)) declared_before)
    enum-with-both tag true = listed-both known true
    enum-with-both None false = listed-both known false
    enum-with-both (Some at) false = listed-both (tag_declared setting known (Some at) (integer k.Int)) false

    enum-tag-both : (tag : Option ℕ)
        → Both one other number (listed (if is_some (tag_inside setting (by_one known) tag) then by_one known else tag_declared setting (by_one known) tag (integer k.Int)) (is_some (tag_inside setting (by_one known) tag)))
        (listed (if is_some (tag_inside setting (by_other known) tag) then by_other known else tag_declared setting (by_other known) tag (integer k.Int)) (is_some (tag_inside setting (by_other known) tag)))
    enum-tag-both None = enum-with-both None false
    enum-tag-both (Some at) = enum-with-both (Some at) (is_some (tag_inside setting known (Some at)))

  -- ---- the syntax

  mutual
    unfolding typed_within typed_values typed_name typed_specifiers words_said word_said fields_of fields_declared fields_with enumerators_of enumerator_of steps_of direct_steps parameters_of parameter_of

    pub expr-both : (used : Bool) (known : Known) (outer : Span) (expr : Expr) → Both one other number (typed_within setting used (by_one known) outer expr) (typed_within setting used (by_other known) outer expr)
    expr-both used known outer (tree.name span) = named-both known (extent span outer) used (spelling_at setting.source span.first) (meaning_of known (spelling_at setting.source span.first))
    expr-both used known outer (tree.constant span) = gives known _
    expr-both used known outer (tree.literal span) = gives known _
    expr-both used known outer (tree.paren span inner) = expr-both used known outer inner
    expr-both used known outer (tree.index span x y) =
        after-both one other number (typed setting used (by_one known) x) _ _ _ (expr-both used known _ x) (λ then_known first.
        after-both one other number (typed setting used (by_one then_known) y) _ _ _ (expr-both used then_known _ y) (λ behind second. index-both behind (extent span outer) (as_value first) (as_value second)))
    expr-both used known outer (tree.call span callee arguments) =
        after-both one other number (typed setting used (by_one known) callee) _ _ _ (expr-both used known _ callee) (λ then_known first.
        after-both one other number (typed_values setting used (by_one then_known) arguments) _ _ _ (values-both used then_known arguments) (λ behind values. call-both behind (extent span outer) callee first values))
    expr-both used known outer (tree.member span whole name) =
        after-both one other number (typed setting used (by_one known) whole) _ _ _ (expr-both used known _ whole) (λ behind made. member-both behind (extent span outer) name made)
    expr-both used known outer (tree.arrow span operand name) =
        after-both one other number (typed setting used (by_one known) operand) _ _ _ (expr-both used known _ operand) (λ behind made. arrow-both behind (extent span outer) name (as_value made))
    expr-both used known outer (tree.postfix span operand operator) =
        after-both one other number (typed setting used (by_one known) operand) _ _ _ (expr-both used known _ operand) (λ behind made. count-both behind (extent span outer) operator false made)
    expr-both used known outer (tree.prefix span operator operand) =
        after-both one other number (typed setting used (by_one known) operand) _ _ _ (expr-both used known _ operand) (λ behind made. prefix-both behind (extent span outer) operator made (symbol_at setting.source operator))
    expr-both used known outer (tree.sizeof_expr span operand) =
        after-both one other number (typed setting false (by_one known) operand) _ _ _ (expr-both false known _ operand) (λ behind made. sizeof-both behind (extent span outer) made)
    expr-both used known outer (tree.sizeof_name span name) =
        after-both one other number (typed_name setting false (by_one known) name) _ _ _ (name-both false known name) (λ behind named. sizeof-name-both behind (extent span outer) named.kind named.constants)
    expr-both used known outer (tree.cast span name operand) =
        after-both one other number (typed_name setting used (by_one known) name) _ _ _ (name-both used known name) (λ then_known named.
        after-both one other number (typed setting used (by_one then_known) operand) _ _ _ (expr-both used then_known _ operand) (λ behind made. cast-both behind (extent span outer) (bare named.kind) named.constants (as_value made)))
    expr-both used known outer (tree.binary span x operator y) =
        after-both one other number (typed setting used (by_one known) x) _ _ _ (expr-both used known _ x) (λ then_known first.
        after-both one other number (typed setting used (by_one then_known) y) _ _ _ (expr-both used then_known _ y)
        (λ behind second. binary-both behind (extent span outer) operator (as_value first) (as_value second) (symbol_at setting.source operator)))
    expr-both used known outer (tree.conditional span x y z) =
        after-both one other number (typed setting used (by_one known) x) _ _ _ (expr-both used known _ x) (λ then_known first.
        after-both one other number (typed setting used (by_one then_known) y) _ _ _ (expr-both used then_known _ y) (λ then_more second.
        after-both one other number (typed setting used (by_one then_more) z) _ _ _ (expr-both used then_more _ z)
        (λ behind third. choice-both behind (extent span outer) (as_value first) (as_value second) (as_value third))))
    expr-both used known outer (tree.assign span object operator value) =
        after-both one other number (typed setting used (by_one known) object) _ _ _ (expr-both used known _ object) (λ then_known first.
        after-both one other number (typed setting used (by_one then_known) value) _ _ _ (expr-both used then_known _ value)
        (λ behind second. assignment-both behind (extent span outer) operator first (as_value second) (symbol_at setting.source operator)))
    expr-both used known outer (tree.comma span parts) =
        after-both one other number (typed_values setting used (by_one known) parts) _ _ _ (values-both used known parts) (λ behind values. comma-both behind (extent span outer) span.first values)

    values-both : (used : Bool) (known : Known) (exprs : Exprs) → Both one other number (typed_values setting used (by_one known) exprs) (typed_values setting used (by_other known) exprs)
    values-both used known tree.no_exprs = gives known _
    values-both used known (tree.more_exprs first others) =
        after-both one other number (typed setting used (by_one known) first) _ _ _ (expr-both used known _ first) (λ then_known made.
        after-both one other number (typed_values setting used (by_one then_known) others) _ _ _ (values-both used then_known others) (λ behind values. gives behind _))

    name-both : (used : Bool) (known : Known) (name : TypeName) → Both one other number (typed_name setting used (by_one known) name) (typed_name setting used (by_other known) name)
    name-both used known (tree.type_name span specifiers declarator) =
        ended-name-both known _ _
        (after-both one other number (typed_specifiers setting used elsewhere false (by_one (record known { constants = [] })) specifiers) _ _ _
        (specifiers-both used elsewhere false (record known { constants = [] }) specifiers) (λ then_known base.
        after-both one other number (steps_of setting used (by_one then_known) declarator) _ _ _ (steps-both used then_known declarator) (λ behind steps. derived-both behind base steps)))

    specifiers-both : (used : Bool) (stands : Where) (alone : Bool) (known : Known) (specifiers : Specifiers)
        → Both one other number (typed_specifiers setting used stands alone (by_one known) specifiers) (typed_specifiers setting used stands alone (by_other known) specifiers)
    specifiers-both used stands alone known (tree.listed span words) =
        after-both one other number (words_said setting used alone (by_one known) nothing_said words) _ _ _ (words-both used alone known nothing_said words) (λ behind said. said-both behind stands span.first said)

    pub words-both : (used alone : Bool) (known : Known) (said : Said) (words : Words) → Both one other number (words_said setting used alone (by_one known) said words) (words_said setting used alone (by_other known) said words)
    words-both used alone known said tree.no_words = gives known _
    words-both used alone known said (tree.more_words first others) =
        after-both one other number (word_said setting used alone (by_one known) said first) _ _ _ (word-both used alone known said first) (λ behind so_far. words-both used alone behind so_far others)

    word-both : (used alone : Bool) (known : Known) (said : Said) (word : Specifier) → Both one other number (word_said setting used alone (by_one known) said word) (word_said setting used alone (by_other known) said word)
    word-both used alone known said (tree.keyword at) = gives known _
    word-both used alone known said (tree.typedef_name at) = if-both one other number (meaning_of known (spelling_at setting.source at)) _ 1 at _ _ refl (λ (entry : Declaration). gives known _)
    word-both used alone known said (tree.struct_only span tag) = with-both one other number _ _ _ _ (struct-named-both known alone span tag) (λ behind type. refl)
    word-both used alone known said (tree.struct_with span tag members) =
        with-both one other number _ _ _ _ (struct-tag-both used known span members (λ behind. fields-both used behind [] members) tag) (λ behind type. refl)
    word-both used alone known said (tree.enum_only span tag trailing) = with-both one other number _ _ _ _ (enum-named-both known span tag) (λ behind type. refl)
    word-both used alone known said (tree.enum_with span tag enumerators trailing) =
        with-both one other number _ _ _ _ (enum-tag-both used known span enumerators (λ behind. enumerators-both used behind (negsuc 0) enumerators) tag) (λ behind type. refl)

    fields-both : (used : Bool) (known : Known) (before : List TypedMember) (members : Members) → Both one other number (fields_of setting used (by_one known) before members) (fields_of setting used (by_other known) before members)
    fields-both used known before tree.no_members = gives known _
    fields-both used known before (tree.more_members first others) =
        after-both one other number (fields_declared setting used (by_one known) before first) _ _ _ (declared-fields-both used known before first) (λ behind so_far. fields-both used behind so_far others)

    declared-fields-both : (used : Bool) (known : Known) (before : List TypedMember) (member : Member)
        → Both one other number (fields_declared setting used (by_one known) before member) (fields_declared setting used (by_other known) before member)
    declared-fields-both used known before (tree.members span specifiers declarators) =
        after-both one other number (typed_specifiers setting used elsewhere false (by_one known) specifiers) _ _ _ (specifiers-both used elsewhere false known specifiers)
        (λ behind base. fields-with-both used behind base before declarators)

    fields-with-both : (used : Bool) (known : Known) (base : CType) (before : List TypedMember) (declarators : Declarators)
        → Both one other number (fields_with setting used (by_one known) base before declarators) (fields_with setting used (by_other known) base before declarators)
    fields-with-both used known base before tree.no_declarators = gives known _
    fields-with-both used known base before (tree.more_declarators first others) =
        after-both one other number (steps_of setting used (by_one known) first) _ _ _ (steps-both used known first) (λ then_known steps.
        after-both one other number (derived (by_one then_known) base steps) _ _ _ (derived-both then_known base steps) (λ then_more type.
        after-both one other number (typed_field setting (by_one then_more) (declarator_span first).first (declarator_name first) before type) _ _ _
        (field-both then_more (declarator_span first).first (declarator_name first) before type) (λ behind so_far. fields-with-both used behind base so_far others)))

    enumerators-both : (used : Bool) (known : Known) (last : ℤ) (enumerators : Enumerators) → Both one other number (enumerators_of setting used (by_one known) last enumerators) (enumerators_of setting used (by_other known) last enumerators)
    enumerators-both used known last tree.no_enumerators = gives known _
    enumerators-both used known last (tree.more_enumerators first others) =
        after-both one other number (enumerator_of setting used (by_one known) last first) _ _ _ (enumerator-both used known last first) (λ behind value. enumerators-both used behind value others)

    enumerator-both : (used : Bool) (known : Known) (last : ℤ) (enumerator : Enumerator) → Both one other number (enumerator_of setting used (by_one known) last enumerator) (enumerator_of setting used (by_other known) last enumerator)
    enumerator-both used known last (tree.bare span at) = enumerator-declared-both known at (last +ℤ pos 1)
    enumerator-both used known last (tree.valued span at value) =
        after-both one other number (typed setting used (by_one known) value) _ _ _ (expr-both used known _ value) (λ behind made. valued-both behind at (expr_span value).first (as_value made))

    pub steps-both : (used : Bool) (known : Known) (declarator : Declarator) → Both one other number (steps_of setting used (by_one known) declarator) (steps_of setting used (by_other known) declarator)
    steps-both used known (tree.shaped span consts direct) =
        with-both one other number _ _ _ _ (direct-both used known (direct_at span.first consts) direct) (λ behind steps. refl)

    direct-both : (used : Bool) (known : Known) (here : ℕ) (direct : Direct) → Both one other number (direct_steps setting used (by_one known) here direct) (direct_steps setting used (by_other known) here direct)
    direct-both used known here tree.absent = gives known _
    direct-both used known here (tree.declared at) = gives known _
    direct-both used known here (tree.enclosed declarator) = steps-both used known declarator
    direct-both used known here (tree.array direct) = with-both one other number _ _ _ _ (direct-both used known here direct) (λ behind steps. refl)
    direct-both used known here (tree.sized direct value) =
        after-both one other number (direct_steps setting used (by_one known) here direct) _ _ _ (direct-both used known here direct) (λ then_known steps.
        after-both one other number (typed setting used (by_one then_known) value) _ _ _ (expr-both used then_known _ value) (λ then_more made.
        with-both one other number _ _ _ _ (length-both then_more (expr_span value).first (as_value made)) (λ behind n. refl)))
    direct-both used known here (tree.function direct parameters) =
        after-both one other number (direct_steps setting used (by_one known) here direct) _ _ _ (direct-both used known here direct) (λ then_known steps.
        with-both one other number _ _ _ _
        (left-both then_known (parameters_of setting used (entered (by_one then_known)) parameters) (parameters_of setting used (entered (by_other then_known)) parameters) (parameters-both used (entered then_known) parameters))
        (λ behind ones. refl))

    parameters-both : (used : Bool) (known : Known) (parameters : Parameters) → Both one other number (parameters_of setting used (by_one known) parameters) (parameters_of setting used (by_other known) parameters)
    parameters-both used known tree.no_parameters = gives known _
    parameters-both used known (tree.more_parameters first others) =
        after-both one other number (parameter_of setting used (by_one known) first) _ _ _ (parameter-both used known first) (λ then_known made.
        with-both one other number _ _ _ _ (parameters-both used then_known others) (λ behind rest. refl))

    pub parameter-both : (used : Bool) (known : Known) (parameter : Parameter) → Both one other number (parameter_of setting used (by_one known) parameter) (parameter_of setting used (by_other known) parameter)
    parameter-both used known (tree.parameter span specifiers declarator) =
        after-both one other number (typed_specifiers setting used elsewhere false (by_one known) specifiers) _ _ _ (specifiers-both used elsewhere false known specifiers) (λ then_known base.
        after-both one other number (steps_of setting used (by_one then_known) declarator) _ _ _ (steps-both used then_known declarator) (λ then_more steps.
        after-both one other number (derived (by_one then_more) base steps) _ _ _ (derived-both then_more base steps)
        (λ behind type. typed-parameter-both behind (parameter_at span declarator) type (declarator_name declarator))))

-- Two settings that say the same of each name that stands in the tokens give the same typing of declarations, statements and units.
use Rattle.std.specs.Prelude.{◌≡◌, ℕ, ◌+◌, Bool, true, false, ◌&&◌, not, if◌then◌else◌, List, [], ◌∷◌, ◌++◌, Option, Some, None, refl}
use Rattle.std.proofs.Common.{ap, ◌∙◌}
use Rattle.dm_token.specs.declared.place.Span.{Span}
use Rattle.dm_int.specs.declared.Kind.{Kind}
use Rattle.dm_type.specs.CTypes.{CType, array as array_type}
use Rattle.dm_name_map.specs.Numbers.{Numbers}
use Rattle.dm_syn.specs.Sources.{Source, spelling_at}
use Rattle.dm_syn.specs.Spans.{expr_span, declarator_span}
use Rattle.dm_syn.specs.Statements.{own_parameters}
use Rattle.dm_syn.specs.Trees.{Expr, Initialiser, Initialisers, Specifiers, Declarator, Parameters, Parameter, Item, ForStart, Stmt, BlockItems, BlockItem, SwitchItems, SwitchItem, External}
use Rattle.dm_syn.specs.Trees as tree
use Rattle.dm_tree.specs.Initialisers.{is_fixed}
use Rattle.dm_tree.specs.Scenes.{is_scalar, part_type}
use Rattle.dm_tree.specs.Trees.{Tree}
use Rattle.dm_tree.specs.Trees as label
use Rattle.dm_tree.specs.Units as unit
use Rattle.dm_typing.specs.Known.{Known, Setting, Outcome, given, broken, after, with_it, obeys}
use Rattle.dm_typing.specs.Conversions.{as_value}
use Rattle.dm_typing.specs.Specifiers.{Where, of_declaration, of_definition, nothing_said}
use Rattle.dm_typing.specs.Typing.{entered, typed, words_said, steps_of, parameter_of}
use Rattle.dm_edecl.specs.Standing.{Standing, Progress, goes_on, stops, further, typing, collecting, keeps, closed, opened, in_scope}
use Rattle.dm_edecl.specs.Linkages.{entry_of, function_here, number_here, is_defined, declared_here, kind_seen}
use Rattle.dm_edecl.specs.Initialising.{is_string_for, initialised_by, scalar_initialised, is_zero_token, completed, expressions_alone, all_expressions_alone, misplaced, scalar_in_braces, is_zero_list, all_zero, if_part, typed_initialiser, typed_initialisers}
use Rattle.dm_edecl.specs.Declaring.{Specified, specified, is_alone, typed_declarator, name_at, may_be_initialised, object_defined, initialised, declarable, item_with, typed_item, typed_items, typed_declaration, fits_main}
use Rattle.dm_edecl.specs.Statements.{statement, for_statement, Within, in_loop, in_switch, typed_value, typed_optional, typed_condition, typed_optional_condition, typed_subject, typed_case, full_statement, returned, typed_return, declared_in, typed_start, typed_stmt, typed_items_in, typed_item_in, typed_switch_items, typed_switch_item, is_label_among}
use Rattle.dm_edecl.specs.Units.{is_only, defined_parameter, defined_parameters, own_defined, Heading, typed_heading, typed_body, body_within, function_defined, typed_external, typed_externals}
use Rattle.dm_eunit.proofs.SettingLemmas.{expr-both, words-both, steps-both, parameter-both}

-- ---- what follows

after-same : {A B : Type 0} (one other : Outcome A) (next more : Known → A → Outcome B) → one ≡ other → ((known : Known) (it : A) → next known it ≡ more known it) → after one next ≡ after other more
after-same one other next more same onward = ap (λ outcome. after outcome next) same ∙ go other
  where
    go : (outcome : Outcome _) → after outcome next ≡ after outcome more
    go (given known it) = onward known it
    go (broken rule at) = refl

with-same : {A B : Type 0} (one other : Outcome A) (made : Known → A → B) → one ≡ other → with_it one made ≡ with_it other made
with-same one other made same = ap (λ outcome. with_it outcome made) same

further-same : {A B : Type 0} (one other : Progress A) (next more : Standing → A → Progress B) → one ≡ other → ((standing : Standing) (it : A) → next standing it ≡ more standing it)
    → further one next ≡ further other more
further-same one other next more same onward = ap (λ progress. further progress next) same ∙ go other
  where
    go : (progress : Progress _) → further progress next ≡ further progress more
    go (goes_on standing it) = onward standing it
    go (stops rule at) = refl

typing-same : {A B : Type 0} (standing : Standing) (one other : Outcome A) (next more : Standing → A → Progress B) → one ≡ other → ((behind : Standing) (it : A) → next behind it ≡ more behind it)
    → typing standing one next ≡ typing standing other more
typing-same standing one other next more same onward = ap (λ outcome. typing standing outcome next) same ∙ go other
  where
    go : (outcome : Outcome _) → typing standing outcome next ≡ typing standing outcome more
    go (given known it) = onward _ it
    go (broken rule at) = refl

collecting-same : {A B : Type 0} (standing : Standing) (one other : Outcome A) (next more : Standing → List Tree → A → Progress B) → one ≡ other
    → ((behind : Standing) (constants : List Tree) (it : A) → next behind constants it ≡ more behind constants it) → collecting standing one next ≡ collecting standing other more
collecting-same standing one other next more same onward = ap (λ outcome. collecting standing outcome next) same ∙ go other
  where
    go : (outcome : Outcome _) → collecting standing outcome next ≡ collecting standing outcome more
    go (given known it) = onward _ known.constants it
    go (broken rule at) = refl

keeps-same : {A : Type 0} (test : Bool) (rule at : ℕ) (one other : Progress A) → one ≡ other → keeps test rule at one ≡ keeps test rule at other
keeps-same test rule at one other same = ap (keeps test rule at) same

module _ (source : Source) (la lb : List ℕ → Bool) (alike : (at : ℕ) → la (spelling_at source at) ≡ lb (spelling_at source at)) where
  abbrev a : Setting
  a = record { source = source; lacks = la }

  abbrev b : Setting
  b = record { source = source; lacks = lb }

  typed-same : (known : Known) (expr : Expr) → typed a true known expr ≡ typed b true known expr
  typed-same known expr = (expr-both source la lb alike true known (expr_span expr) expr).same

  -- ---- initialisers

  string-same : (expr : Expr) (type : CType) → is_string_for a expr type ≡ is_string_for b expr type
  string-same (tree.literal span) (array_type type (Some n)) = refl
  string-same (tree.literal span) _ = refl
  string-same _ type = refl

  by-same : (known : Known) (fixed : Bool) (type : CType) (here : ℕ) (expr : Expr) (made : Tree) → initialised_by a known fixed type here expr made ≡ initialised_by b known fixed type here expr made
  by-same known fixed type here expr made = ap (λ test. if is_scalar type then scalar_initialised known fixed type here (as_value made) else obeys test 8 here (given known (record { form = label.one_expression; expressions = made ∷ [] }))) (string-same expr type)

  zero-token-same : (expr : Expr) → is_zero_token a expr ≡ is_zero_token b expr
  zero-token-same (tree.constant span) = refl
  zero-token-same _ = refl

  zero-list-same : (items : Initialisers) (trailing : Bool) → is_zero_list a items trailing ≡ is_zero_list b items trailing
  zero-list-same (tree.more_initialisers (tree.value at expr) tree.no_initialisers) false = zero-token-same expr
  zero-list-same (tree.more_initialisers (tree.value at expr) tree.no_initialisers) true = refl
  zero-list-same (tree.more_initialisers (tree.value at expr) (tree.more_initialisers first others)) trailing = refl
  zero-list-same (tree.more_initialisers (tree.braces span items inner) others) trailing = refl
  zero-list-same tree.no_initialisers trailing = refl

  pub completed-same : (type : CType) (one : Initialiser) → completed a type one ≡ completed b type one
  completed-same (array_type type None) (tree.value span (tree.literal at)) = refl
  completed-same (array_type type None) (tree.value span _) = refl
  completed-same (array_type type None) (tree.braces span (tree.more_initialisers first others) trailing) = refl
  completed-same (array_type type None) (tree.braces span tree.no_initialisers trailing) = refl
  completed-same (array_type type (Some n)) one = refl
  completed-same _ one = refl

  mutual
    unfolding expressions_alone all_expressions_alone

    pub alone-same : (known : Known) (one : Initialiser) → expressions_alone a known one ≡ expressions_alone b known one
    alone-same known (tree.value span expr) = after-same (typed a true known expr) (typed b true known expr) _ _ (typed-same known expr) (λ behind made. refl)
    alone-same known (tree.braces span items trailing) = all-alone-same known items

    all-alone-same : (known : Known) (items : Initialisers) → all_expressions_alone a known items ≡ all_expressions_alone b known items
    all-alone-same known tree.no_initialisers = refl
    all-alone-same known (tree.more_initialisers first others) =
        after-same (expressions_alone a known first) (expressions_alone b known first) _ _ (alone-same known first) (λ then_known made.
        after-same (all_expressions_alone a then_known others) (all_expressions_alone b then_known others) _ _ (all-alone-same then_known others) (λ behind more. refl))

  misplaced-same : (known : Known) (span : Span) (items : Initialisers) → misplaced a known span items ≡ misplaced b known span items
  misplaced-same known span items = after-same (all_expressions_alone a known items) (all_expressions_alone b known items) _ _ (all-alone-same known items) (λ behind trees. refl)

  scalar-same : (fixed : Bool) (known : Known) (type : CType) (span : Span) (items : Initialisers) → scalar_in_braces a fixed known type span items ≡ scalar_in_braces b fixed known type span items
  scalar-same fixed known type span (tree.more_initialisers (tree.value at expr) tree.no_initialisers) =
      after-same (typed a true known expr) (typed b true known expr) _ _ (typed-same known expr) (λ behind made. refl)
  scalar-same fixed known type span (tree.more_initialisers (tree.value at expr) (tree.more_initialisers first others)) = misplaced-same known span _
  scalar-same fixed known type span (tree.more_initialisers (tree.braces at items inner) others) = misplaced-same known span _
  scalar-same fixed known type span tree.no_initialisers = misplaced-same known span _

  zero-same : (fixed : Bool) (known : Known) (type : CType) (span : Span) (items : Initialisers) → all_zero a fixed known type span items ≡ all_zero b fixed known type span items
  zero-same fixed known type span (tree.more_initialisers (tree.value at expr) tree.no_initialisers) =
      after-same (typed a true known expr) (typed b true known expr) _ _ (typed-same known expr) (λ behind made. refl)
  zero-same fixed known type span (tree.more_initialisers (tree.value at expr) (tree.more_initialisers first others)) = misplaced-same known span _
  zero-same fixed known type span (tree.more_initialisers (tree.braces at items inner) others) = misplaced-same known span _
  zero-same fixed known type span tree.no_initialisers = misplaced-same known span _

  chosen : {A : Type 0} (test : Bool) (x y z w : A) → x ≡ y → z ≡ w → (if test then x else z) ≡ (if test then y else w)
  chosen true x y z w e f = e
  chosen false x y z w e f = f

  part-same : {A : Type 0} (part : Option CType) (surplus other : Outcome A) (next more : CType → Outcome A) → surplus ≡ other → ((type : CType) → next type ≡ more type)
      → if_part part surplus next ≡ if_part part other more
  part-same None surplus other next more e f = e
  part-same (Some type) surplus other next more e f = f type

  mutual
    unfolding typed_initialiser typed_initialisers

    pub initialiser-same : (fixed : Bool) (known : Known) (type : CType) (one : Initialiser) → typed_initialiser a fixed known type one ≡ typed_initialiser b fixed known type one
    initialiser-same fixed known type (tree.value span expr) =
        after-same (typed a true known expr) (typed b true known expr) _ _ (typed-same known expr) (λ behind made. by-same behind fixed type span.first expr made)
    initialiser-same fixed known type (tree.braces span items trailing) =
        let more = after (typed_initialisers a fixed known type span 0 items) (λ behind made. given behind (record { form = label.in_braces made.forms; expressions = made.expressions })) in
        chosen (is_scalar type) _ _ _ _ (scalar-same fixed known type span items)
        (ap (λ test. if test then all_zero a fixed known type span items else more) (zero-list-same items trailing)
        ∙ chosen (is_zero_list b items trailing) _ _ _ _ (zero-same fixed known type span items)
        (after-same (typed_initialisers a fixed known type span 0 items) (typed_initialisers b fixed known type span 0 items) _ _ (initialisers-same fixed known type span 0 items) (λ behind made. refl)))

    initialisers-same : (fixed : Bool) (known : Known) (type : CType) (span : Span) (n : ℕ) (items : Initialisers)
        → typed_initialisers a fixed known type span n items ≡ typed_initialisers b fixed known type span n items
    initialisers-same fixed known type span n tree.no_initialisers = refl
    initialisers-same fixed known type span n (tree.more_initialisers first others) =
        after-same _ _ _ _
        (part-same (part_type known.types type n) (misplaced a known span (tree.more_initialisers first others)) (misplaced b known span (tree.more_initialisers first others)) _ _
        (misplaced-same known span (tree.more_initialisers first others)) (λ part. initialiser-same fixed known part first))
        (λ then_known made. after-same (typed_initialisers a fixed then_known type span (n + 1) others) (typed_initialisers b fixed then_known type span (n + 1) others) _ _
        (initialisers-same fixed then_known type span (n + 1) others) (λ behind more. refl))

  -- ---- declarations

  specified-same : (stands : Where) (alone : Bool) (known : Known) (specifiers : Specifiers) → specified a stands alone known specifiers ≡ specified b stands alone known specifiers
  specified-same stands alone known (tree.listed span words) =
      after-same (words_said a true alone known nothing_said words) (words_said b true alone known nothing_said words) _ _ (words-both source la lb alike true alone known nothing_said words).same
      (λ behind said. refl)

  declarator-same : (known : Known) (base : CType) (declarator : Declarator) → typed_declarator a known base declarator ≡ typed_declarator b known base declarator
  declarator-same known base declarator =
      after-same (steps_of a true known declarator) (steps_of b true known declarator) _ _ (steps-both source la lb alike true known declarator).same (λ behind steps. refl)

  initialised-same : (standing : Standing) (entry : unit.Declaration) (number : ℕ) (span : Span) (here name : ℕ) (kind : CType) (one : Initialiser)
      → initialised a standing entry number span here name kind one ≡ initialised b standing entry number span here name kind one
  initialised-same standing entry number span here name kind one =
      chosen (may_be_initialised standing.known entry) _ _ _ _
      (ap (λ type. typing standing (typed_initialiser a (is_fixed entry.sort) standing.known type one) (λ behind initial. object_defined behind entry number here name type initial)) (completed-same kind one)
      ∙ typing-same standing (typed_initialiser a (is_fixed entry.sort) standing.known (completed b kind one) one) (typed_initialiser b (is_fixed entry.sort) standing.known (completed b kind one) one) _ _
      (initialiser-same (is_fixed entry.sort) standing.known (completed b kind one) one) (λ behind initial. refl))
      (typing-same standing (expressions_alone a standing.known one) (expressions_alone b standing.known one) _ _ (alone-same standing.known one) (λ behind trees. refl))

  declarable-same : {A : Type 0} (said : Specified) (standing : Standing) (initialised : Bool) (here name : ℕ) (entry : unit.Declaration) (one other : Progress A) → one ≡ other
      → declarable said standing initialised here name entry one ≡ declarable said standing initialised here name entry other
  declarable-same said standing initialised here name entry one other same = ap (declarable said standing initialised here name entry) same

  item-same : (said : Specified) (standing : Standing) (item : Item) → typed_item a said standing item ≡ typed_item b said standing item
  item-same said standing (tree.plain span declarator) =
      collecting-same standing (typed_declarator a standing.known said.kind declarator) (typed_declarator b standing.known said.kind declarator) _ _ (declarator-same standing.known said.kind declarator)
      (λ behind constants kind. refl)
  item-same said standing (tree.initialised span declarator one) =
      collecting-same standing (typed_declarator a standing.known said.kind declarator) (typed_declarator b standing.known said.kind declarator) _ _ (declarator-same standing.known said.kind declarator)
      (λ behind constants kind.
      let entry = entry_of a behind.known said.storage (name_at declarator) kind in
      ap (item_with constants) (declarable-same said behind true (declarator_span declarator).first (name_at declarator) entry _ _
      (initialised-same (declared_here behind entry) entry (number_here behind entry) span (declarator_span declarator).first (name_at declarator) (kind_seen behind entry) one)))

  items-same : (said : Specified) (standing : Standing) (items : List Item) → typed_items a said standing items ≡ typed_items b said standing items
  items-same said standing [] = refl
  items-same said standing (first ∷ others) =
      further-same (typed_item a said standing first) (typed_item b said standing first) _ _ (item-same said standing first) (λ then_standing made.
      further-same (typed_items a said then_standing others) (typed_items b said then_standing others) _ _ (items-same said then_standing others) (λ behind more. refl))

  declaration-same : (standing : Standing) (one : tree.Declaration) → typed_declaration a standing one ≡ typed_declaration b standing one
  declaration-same standing (tree.declaring span specifiers items) =
      collecting-same standing (specified a of_declaration (is_alone specifiers items) standing.known specifiers) (specified b of_declaration (is_alone specifiers items) standing.known specifiers) _ _
      (specified-same of_declaration (is_alone specifiers items) standing.known specifiers) (λ then_standing constants said.
      further-same (typed_items a said then_standing items) (typed_items b said then_standing items) _ _ (items-same said then_standing items) (λ behind locals. refl))

  -- ---- expressions in statements

  value-same : (known : Known) (expr : Expr) → typed_value a known expr ≡ typed_value b known expr
  value-same known expr = with-same (typed a true known expr) (typed b true known expr) _ (typed-same known expr)

  optional-same : (known : Known) (expr : Option Expr) → typed_optional a known expr ≡ typed_optional b known expr
  optional-same known None = refl
  optional-same known (Some expr) = with-same (typed_value a known expr) (typed_value b known expr) _ (value-same known expr)

  condition-same : (known : Known) (expr : Expr) → typed_condition a known expr ≡ typed_condition b known expr
  condition-same known expr = after-same (typed_value a known expr) (typed_value b known expr) _ _ (value-same known expr) (λ behind value. refl)

  optional-condition-same : (known : Known) (expr : Option Expr) → typed_optional_condition a known expr ≡ typed_optional_condition b known expr
  optional-condition-same known None = refl
  optional-condition-same known (Some expr) = with-same (typed_condition a known expr) (typed_condition b known expr) _ (condition-same known expr)

  subject-same : (known : Known) (expr : Expr) → typed_subject a known expr ≡ typed_subject b known expr
  subject-same known expr = after-same (typed_value a known expr) (typed_value b known expr) _ _ (value-same known expr) (λ behind value. refl)

  case-same : (known : Known) (kind : Kind) (labels : List (Option _)) (expr : Expr) → typed_case a known kind labels expr ≡ typed_case b known kind labels expr
  case-same known kind labels expr = after-same (typed_value a known expr) (typed_value b known expr) _ _ (value-same known expr) (λ behind value. refl)

  full-same : (span : Span) (values : List Tree) → full_statement a span values ≡ full_statement b span values
  full-same span [] = refl
  full-same span (value ∷ values) = refl

  returned-same : (known : Known) (result : CType) (span : Span) (values : List Tree) → returned a known result span values ≡ returned b known result span values
  returned-same known result span [] = refl
  returned-same known result span (value ∷ values) = refl

  return-same : (known : Known) (result : CType) (span : Span) (expr : Option Expr) → typed_return a known result span expr ≡ typed_return b known result span expr
  return-same known result span expr =
      after-same (typed_optional a known expr) (typed_optional b known expr) _ _ (optional-same known expr) (λ behind values. returned-same behind result span values)

  declared-same : (standing : Standing) (one : tree.Declaration) → declared_in a standing one ≡ declared_in b standing one
  declared-same standing one = further-same (typed_declaration a standing one) (typed_declaration b standing one) _ _ (declaration-same standing one) (λ behind made. refl)

  start-same : (standing : Standing) (start : ForStart) → typed_start a standing start ≡ typed_start b standing start
  start-same standing (tree.declares one) = further-same (declared_in a standing one) (declared_in b standing one) _ _ (declared-same standing one) (λ behind made. refl)
  start-same standing (tree.evaluates expr) = typing-same standing (typed_optional a standing.known expr) (typed_optional b standing.known expr) _ _ (optional-same standing.known expr) (λ behind values. refl)

  scope-same : {A : Type 0} (standing : Standing) (next more : Standing → Progress A) → ((inside : Standing) → next inside ≡ more inside) → in_scope standing next ≡ in_scope standing more
  scope-same standing next more same = ap (closed standing) (same _)

  -- ---- statements

  mutual
    unfolding typed_stmt typed_items_in typed_item_in typed_switch_items typed_switch_item

    pub stmt-same : (within : Within) (standing : Standing) (stmt : Stmt) → typed_stmt a within standing stmt ≡ typed_stmt b within standing stmt
    stmt-same within standing (tree.block span items) =
        scope-same standing _ _ (λ inside. further-same (typed_items_in a within inside items) (typed_items_in b within inside items) (λ behind trees. goes_on behind (statement a span label.block trees)) _ (items-in-same within inside items) (λ behind trees. refl))
    stmt-same within standing (tree.expression span expr) =
        typing-same standing (typed_optional a standing.known expr) (typed_optional b standing.known expr) _ _ (optional-same standing.known expr) (λ behind values. ap (goes_on behind) (full-same span values))
    stmt-same within standing (tree.if_only span condition body) =
        scope-same standing _ _ (λ inside. typing-same inside (typed_condition a inside.known condition) (typed_condition b inside.known condition) _ _ (condition-same inside.known condition) (λ then_inside value.
        further-same _ _ (λ behind made. goes_on behind (statement a span label.if_statement (value ∷ made ∷ []))) _ (scope-same then_inside _ _ (λ part. stmt-same within part body)) (λ behind made. refl)))
    stmt-same within standing (tree.if_else span condition body other) =
        scope-same standing _ _ (λ inside. typing-same inside (typed_condition a inside.known condition) (typed_condition b inside.known condition) _ _ (condition-same inside.known condition) (λ then_inside value.
        further-same _ _ _ _ (scope-same then_inside _ _ (λ part. stmt-same within part body)) (λ then_more first.
        further-same _ _ (λ behind second. goes_on behind (statement a span label.if_statement (value ∷ first ∷ second ∷ []))) _ (scope-same then_more _ _ (λ part. stmt-same within part other)) (λ behind second. refl))))
    stmt-same within standing (tree.switch span operand items) =
        scope-same standing _ _ (λ inside. typing-same inside (typed_subject a inside.known operand) (typed_subject b inside.known operand) _ _ (subject-same inside.known operand) (λ then_inside one.
        further-same _ _ (λ behind made. goes_on behind (statement a span label.switch (one.tree ∷ made.trees))) _ (scope-same then_inside _ _ (λ part. switch-items-same (in_switch within) one.kind part [] items)) (λ behind made. refl)))
    stmt-same within standing (tree.while span condition body) =
        scope-same standing _ _ (λ inside. typing-same inside (typed_condition a inside.known condition) (typed_condition b inside.known condition) _ _ (condition-same inside.known condition) (λ then_inside value.
        further-same _ _ (λ behind made. goes_on behind (statement a span label.while_loop (value ∷ made ∷ []))) _ (scope-same then_inside _ _ (λ part. stmt-same (in_loop within) part body)) (λ behind made. refl)))
    stmt-same within standing (tree.do_while span body condition) =
        scope-same standing _ _ (λ inside. further-same _ _ _ _ (scope-same inside _ _ (λ part. stmt-same (in_loop within) part body)) (λ then_inside made.
        typing-same then_inside (typed_condition a then_inside.known condition) (typed_condition b then_inside.known condition) (λ behind value. goes_on behind (statement a span label.do_loop (made ∷ value ∷ []))) _ (condition-same then_inside.known condition) (λ behind value. refl)))
    stmt-same within standing (tree.for_loop span start condition step body) =
        scope-same standing _ _ (λ inside. further-same (typed_start a inside start) (typed_start b inside start) _ _ (start-same inside start) (λ then_inside first.
        typing-same then_inside (typed_optional_condition a then_inside.known condition) (typed_optional_condition b then_inside.known condition) _ _ (optional-condition-same then_inside.known condition) (λ then_more second.
        typing-same then_more (typed_optional a then_more.known step) (typed_optional b then_more.known step) _ _ (optional-same then_more.known step) (λ then_all third.
        further-same _ _ (λ behind made. goes_on behind (for_statement a span first second third made)) _ (scope-same then_all _ _ (λ part. stmt-same (in_loop within) part body)) (λ behind made. refl)))))
    stmt-same within standing (tree.break span) = refl
    stmt-same within standing (tree.continue span) = refl
    stmt-same within standing (tree.return span expr) =
        typing-same standing (typed_return a standing.known within.result span expr) (typed_return b standing.known within.result span expr) _ _ (return-same standing.known within.result span expr) (λ behind made. refl)

    pub items-in-same : (within : Within) (standing : Standing) (items : BlockItems) → typed_items_in a within standing items ≡ typed_items_in b within standing items
    items-in-same within standing tree.no_items = refl
    items-in-same within standing (tree.more_items first others) =
        further-same (typed_item_in a within standing first) (typed_item_in b within standing first) _ _ (item-in-same within standing first) (λ then_standing made.
        further-same (typed_items_in a within then_standing others) (typed_items_in b within then_standing others) _ _ (items-in-same within then_standing others) (λ behind more. refl))

    item-in-same : (within : Within) (standing : Standing) (item : BlockItem) → typed_item_in a within standing item ≡ typed_item_in b within standing item
    item-in-same within standing (tree.declared_item one) = declared-same standing one
    item-in-same within standing (tree.stated_item stmt) = stmt-same within standing stmt

    switch-items-same : (within : Within) (kind : Kind) (standing : Standing) (labels : List (Option _)) (items : SwitchItems)
        → typed_switch_items a within kind standing labels items ≡ typed_switch_items b within kind standing labels items
    switch-items-same within kind standing labels tree.no_switch_items = refl
    switch-items-same within kind standing labels (tree.more_switch_items first others) =
        further-same (typed_switch_item a within kind standing labels first) (typed_switch_item b within kind standing labels first) _ _ (switch-item-same within kind standing labels first) (λ then_standing made.
        further-same (typed_switch_items a within kind then_standing made.labels others) (typed_switch_items b within kind then_standing made.labels others) _ _
        (switch-items-same within kind then_standing made.labels others) (λ behind more. refl))

    switch-item-same : (within : Within) (kind : Kind) (standing : Standing) (labels : List (Option _)) (item : SwitchItem)
        → typed_switch_item a within kind standing labels item ≡ typed_switch_item b within kind standing labels item
    switch-item-same within kind standing labels (tree.case span expr item) =
        typing-same standing (typed_case a standing.known kind labels expr) (typed_case b standing.known kind labels expr) _ _ (case-same standing.known kind labels expr) (λ then_standing one.
        further-same (typed_switch_item a within kind then_standing (Some one.value ∷ labels) item) (typed_switch_item b within kind then_standing (Some one.value ∷ labels) item) _ _
        (switch-item-same within kind then_standing (Some one.value ∷ labels) item) (λ behind made. refl))
    switch-item-same within kind standing labels (tree.default span item) =
        keeps-same (not (is_label_among None labels)) 31 span.first _ _
        (further-same (typed_switch_item a within kind standing (None ∷ labels) item) (typed_switch_item b within kind standing (None ∷ labels) item) _ _
        (switch-item-same within kind standing (None ∷ labels) item) (λ behind made. refl))
    switch-item-same within kind standing labels (tree.unlabelled span stmt) =
        further-same (typed_stmt a within standing stmt) (typed_stmt b within standing stmt) _ _ (stmt-same within standing stmt) (λ behind made. refl)

  -- ---- function definitions

  parameter-same : (alone : Bool) (known : Known) (one : Parameter) → defined_parameter a alone known one ≡ defined_parameter b alone known one
  parameter-same alone known (tree.parameter span specifiers declarator) =
      after-same (parameter_of a true known (tree.parameter span specifiers declarator)) (parameter_of b true known (tree.parameter span specifiers declarator)) _ _
      (parameter-both source la lb alike true known (tree.parameter span specifiers declarator)).same (λ behind one. refl)

  parameters-same : (alone : Bool) (known : Known) (parameters : Parameters) → defined_parameters a alone known parameters ≡ defined_parameters b alone known parameters
  parameters-same alone known tree.no_parameters = refl
  parameters-same alone known (tree.more_parameters first others) =
      after-same (defined_parameter a (alone && is_only others) known first) (defined_parameter b (alone && is_only others) known first) _ _ (parameter-same (alone && is_only others) known first)
      (λ then_known made. with-same (defined_parameters a false then_known others) (defined_parameters b false then_known others) _ (parameters-same false then_known others))

  own-same : (known : Known) (parameters : Option Parameters) → own_defined a known parameters ≡ own_defined b known parameters
  own-same known None = refl
  own-same known (Some parameters) = parameters-same true (entered known) parameters

  heading-same : (known : Known) (base : CType) (declarator : Declarator) → typed_heading a known base declarator ≡ typed_heading b known base declarator
  heading-same known base declarator =
      after-same (own_defined a known (own_parameters None declarator)) (own_defined b known (own_parameters None declarator)) _ _ (own-same known (own_parameters None declarator))
      (λ inside parameters. with-same (typed_declarator a known base declarator) (typed_declarator b known base declarator) _ (declarator-same known base declarator))

  body-same : (within : Within) (standing : Standing) (scope : Numbers) (stmt : Stmt) → typed_body a within standing scope stmt ≡ typed_body b within standing scope stmt
  body-same within standing scope (tree.block span items) =
      ap (closed standing) (further-same (typed_items_in a within (opened scope standing) items) (typed_items_in b within (opened scope standing) items) _ _
      (items-in-same within (opened scope standing) items) (λ behind trees. refl))
  body-same within standing scope stmt = stmt-same within standing stmt

  function-same : (said : Specified) (standing : Standing) (span : Span) (declarator : Declarator) (body : Stmt) (constants : List Tree) (heading : Heading) (entry : unit.Declaration)
      → function_defined a said standing span declarator body constants heading entry ≡ function_defined b said standing span declarator body constants heading entry
  function-same said standing span declarator body constants heading entry =
      keeps-same (not (is_defined (number_here standing entry) standing.linked)) 2 (name_at declarator) _ _
      (declarable-same said standing false (declarator_span declarator).first (name_at declarator) entry _ _
      (keeps-same (fits_main entry) 36 (name_at declarator) _ _
      (further-same (typed_body a (body_within heading.kind) (function_here standing entry) heading.scope body) (typed_body b (body_within heading.kind) (function_here standing entry) heading.scope body) _ _
      (body-same (body_within heading.kind) (function_here standing entry) heading.scope body) (λ behind made. refl))))

  -- ---- external declarations

  external-same : (standing : Standing) (one : External) → typed_external a standing one ≡ typed_external b standing one
  external-same standing (tree.external span declaration) =
      further-same (typed_declaration a standing declaration) (typed_declaration b standing declaration) _ _ (declaration-same standing declaration) (λ behind one. refl)
  external-same standing (tree.definition span specifiers declarator body) =
      collecting-same standing (specified a of_definition false standing.known specifiers) (specified b of_definition false standing.known specifiers) _ _
      (specified-same of_definition false standing.known specifiers) (λ then_standing constants said.
      collecting-same then_standing (typed_heading a then_standing.known said.kind declarator) (typed_heading b then_standing.known said.kind declarator) _ _
      (heading-same then_standing.known said.kind declarator) (λ behind more heading.
      function-same said behind span declarator body (constants ++ more) heading (entry_of a behind.known said.storage (name_at declarator) heading.kind)))

  pub externals-same : (standing : Standing) (externals : List External) → typed_externals a standing externals ≡ typed_externals b standing externals
  externals-same standing [] = refl
  externals-same standing (first ∷ others) =
      further-same (typed_external a standing first) (typed_external b standing first) _ _ (external-same standing first) (λ then_standing made.
      further-same (typed_externals a then_standing others) (typed_externals b then_standing others) _ _ (externals-same then_standing others) (λ behind more. refl))

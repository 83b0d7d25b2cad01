-- The typing of declarations and statements gives the same where types have other numbers, and what is known behind it is the same by the
-- other numbers.
use Rattle.std.specs.Prelude.{◌≡◌, ℕ, ℤ, Bool, true, false, ◌&&◌, ◌||◌, not, if◌then◌else◌, List, [], ◌∷◌, Option, Some, None, slice_get, refl}
use Rattle.std.specs.FinMap as finite
use Rattle.std.proofs.Common.{sym, ap, ◌∙◌, subst}
use Rattle.dm_token.specs.declared.place.Span.{Span}
use Rattle.dm_int.specs.declared.Kind.{Kind}
use Rattle.dm_type.specs.declared.shape.Shape.{Shape}
use Rattle.dm_type.specs.CTypes.{CType}
use Rattle.dm_type.specs.Tables.{Table}
use Rattle.dm_syn.specs.Spans.{expr_span, declarator_span}
use Rattle.dm_syn.specs.Trees.{Expr, Initialiser, Specifiers, Declarator, Item, ForStart, Stmt, BlockItems, BlockItem, SwitchItems, SwitchItem}
use Rattle.dm_syn.specs.Trees as tree
use Rattle.dm_tree.specs.Constants.{integer_kind}
use Rattle.dm_tree.specs.Initialisers.{is_fixed, is_object}
use Rattle.dm_tree.specs.declared.unit.Sort.{Sort}
use Rattle.dm_tree.specs.Scenes.{is_scalar, is_void, is_array}
use Rattle.dm_tree.specs.Trees.{Tree, kind_of}
use Rattle.dm_tree.specs.Trees as label
use Rattle.dm_tree.specs.Typing.{has_linkage}
use Rattle.dm_tree.specs.Units as unit
use Rattle.dm_typing.specs.Known.{Known, Setting, Outcome}
use Rattle.dm_typing.specs.Conversions.{as_kind}
use Rattle.dm_typing.specs.Specifiers.{Where, of_declaration, nothing_said}
use Rattle.dm_typing.specs.Typing.{typed, words_said, typed_said, steps_of}
use Rattle.dm_edecl.specs.Standing.{Standing, Progress, goes_on, stops, further, typing, collecting, keeps, opened, closed, in_scope, knowing, known_behind}
use Rattle.dm_edecl.specs.Linkages.{Storage, is_extern, kind_from_here, kind_seen, agrees_if_there, meaning_here, is_linked_if_there, is_same_typedef, may_be_declared, number_shared, number_before, number_here, naming, named_here, declared_here, function_here, object_here, with_link, with_link_if, entry_of}
use Rattle.dm_edecl.specs.Initialising.{Initial, completed, expressions_alone, typed_initialiser}
use Rattle.dm_edecl.specs.Declaring.{Specified, specified, is_alone, typed_declarator, name_at, is_misplaced_static, may_be_object, may_be_main, declarable, Local, local_plain, local_initialised, with_lengths, may_be_initialised, may_define, object_defined, initialised, defines_object, item_plain, item_initialised, item_with, typed_item, typed_items, is_function_entry, are_functions, is_there, may_be_inline, typed_declaration}
use Rattle.dm_edecl.specs.Statements.{Within, in_loop, in_switch, statement, typed_value, typed_optional, typed_condition, typed_optional_condition, typed_subject, is_label_among, case_value, typed_case, returned, typed_return, declared_in, typed_start, for_statement, typed_stmt, typed_items_in, typed_item_in, typed_switch_items, typed_switch_item}
use Rattle.dm_outcome.proofs.Renumbered.{Renumbers, moved, table_at, at_one, at_other}
use Rattle.dm_outcome.proofs.RuleLemmas.{complete-same, constant-of-same, assignable-same}
use Rattle.dm_outcome.proofs.ExpressionLemmas.{Both, gives, breaks, after-both, with-both, obeys-both, if-both, words-both, said-both, steps-both, derived-both}
use Rattle.dm_outcome.proofs.InitialLemmas.{typed-both, alone-both, initialiser-both}

-- ---- what doesn't look at types

-- what stands over another table
abbrev over : Table → Known → Known
over table known = record known { types = table }

abbrev stand_over : Table → Standing → Standing
stand_over table standing = record standing { known = over table standing.known }

module _ (table : Table) (standing : Standing) where
  abbrev there : Standing
  there = stand_over table standing

  from-here-over : (entry : unit.Declaration) (found : Option ℕ) → kind_from_here there.known entry found ≡ kind_from_here standing.known entry found
  from-here-over entry None = refl
  from-here-over entry (Some number) = refl

  seen-over : (entry : unit.Declaration) → kind_seen there entry ≡ kind_seen standing entry
  seen-over entry = ap (λ kind. if has_linkage entry.linkage then kind else entry.kind) (from-here-over entry (number_shared standing entry.name))

  agrees-over : (entry : unit.Declaration) (found : Option ℕ) → agrees_if_there there entry found ≡ agrees_if_there standing entry found
  agrees-over entry None = refl
  agrees-over entry (Some number) = refl

  declared-over : (entry : unit.Declaration) → may_be_declared there entry ≡ may_be_declared standing entry
  declared-over entry =
      ap (λ agrees. if has_linkage entry.linkage then is_linked_if_there (meaning_here standing.known entry.name) && agrees else is_same_typedef (meaning_here standing.known entry.name) entry)
      (agrees-over entry (number_shared standing entry.name))

  naming-over : (kind : CType) (entry : unit.Declaration) (found : Option ℕ) → naming there.known kind entry found ≡ over table (naming standing.known kind entry found)
  naming-over kind entry None = refl
  naming-over kind entry (Some number) = refl

  named-over : (entry : unit.Declaration) → named_here there entry ≡ over table (named_here standing entry)
  named-over entry = ap (λ kind. naming there.known kind entry (number_before standing entry)) (seen-over entry) ∙ naming-over (kind_seen standing entry) entry (number_before standing entry)

  declared-here-over : (entry : unit.Declaration) → declared_here there entry ≡ stand_over table (declared_here standing entry)
  declared-here-over entry =
      ap (λ known. record standing { known = known; linked = with_link_if (has_linkage entry.linkage) (number_here standing entry) entry.kind false standing.linked }) (named-over entry)

  function-here-over : (entry : unit.Declaration) → function_here there entry ≡ stand_over table (function_here standing entry)
  function-here-over entry = ap (λ known. record standing { known = known; linked = with_link (number_here standing entry) entry.kind true standing.linked }) (named-over entry)

  functions-over : (locals : List Local) → are_functions there.known locals ≡ are_functions standing.known locals
  functions-over [] = refl
  functions-over (first ∷ others) = ap (λ test. is_function_entry (slice_get standing.known.declared first.declarator.declared) && test) (functions-over others)

-- ---- two answers

abbrev pub stand_one : List Shape → Standing → Standing
stand_one one standing = record standing { known = at_one one standing.known }

abbrev pub stand_other : List Shape → (ℕ → ℕ) → Standing → Standing
stand_other other number standing = record standing { known = at_other other number standing.known }

-- the second with the other numbers
pub data Beside (one other : List Shape) (number : ℕ → ℕ) {A : Type 0} : Progress A → Progress A → Type 0 where
  goes : (standing : Standing) (it : A) → Beside one other number (goes_on (stand_one one standing) it) (goes_on (stand_other other number standing) it)
  halts : (rule at : ℕ) → Beside one other number (stops rule at) (stops rule at)

module _ (one other : List Shape) (number : ℕ → ℕ) where
  abbrev first_table : Standing → Table
  first_table standing = table_at one standing.known.types.structs

  abbrev second_table : Standing → Table
  second_table standing = table_at other (moved number standing.known.types.structs)

  abbrev by_one : Standing → Standing
  by_one standing = stand_one one standing

  abbrev by_other : Standing → Standing
  by_other standing = stand_other other number standing

  pub further-both : {A B : Type 0} (x y : Progress A) (next more : Standing → A → Progress B) → Beside one other number x y
      → ((standing : Standing) (it : A) → Beside one other number (next (by_one standing) it) (more (by_other standing) it)) → Beside one other number (further x next) (further y more)
  further-both x y next more (goes standing it) h = h standing it
  further-both x y next more (halts rule at) h = halts rule at

  pub typing-both : {A B : Type 0} (standing : Standing) (x y : Outcome A) (next more : Standing → A → Progress B) → Both one other number x y
      → ((behind : Standing) (it : A) → Beside one other number (next (by_one behind) it) (more (by_other behind) it))
      → Beside one other number (typing (by_one standing) x next) (typing (by_other standing) y more)
  typing-both standing x y next more (gives known it) h = h (knowing standing known) it
  typing-both standing x y next more (breaks rule at) h = halts rule at

  pub collecting-both : {A B : Type 0} (standing : Standing) (x y : Outcome A) (next more : Standing → List Tree → A → Progress B) → Both one other number x y
      → ((behind : Standing) (constants : List Tree) (it : A) → Beside one other number (next (by_one behind) constants it) (more (by_other behind) constants it))
      → Beside one other number (collecting (by_one standing) x next) (collecting (by_other standing) y more)
  collecting-both standing x y next more (gives known it) h = h (knowing standing known) known.constants it
  collecting-both standing x y next more (breaks rule at) h = halts rule at

  pub keeps-both : {A : Type 0} (first second : Bool) (rule at : ℕ) (x y : Progress A) → second ≡ first → Beside one other number x y
      → Beside one other number (keeps first rule at x) (keeps second rule at y)
  keeps-both first second rule at x y e h = subst (λ test. Beside one other number (keeps first rule at x) (keeps test rule at y)) (sym e) (go first)
    where
      go : (test : Bool) → Beside one other number (keeps test rule at x) (keeps test rule at y)
      go true = h
      go false = halts rule at

  pub closed-both : {A : Type 0} (outside : Standing) (x y : Progress A) → Beside one other number x y → Beside one other number (closed (by_one outside) x) (closed (by_other outside) y)
  closed-both outside x y (goes inside it) = goes (record inside { known = known_behind outside.known inside.known }) it
  closed-both outside x y (halts rule at) = halts rule at

  -- a scope of its own
  pub scope-both : {A : Type 0} (standing : Standing) (next : Standing → Progress A) → ((inside : Standing) → Beside one other number (next (by_one inside)) (next (by_other inside)))
      → Beside one other number (in_scope (by_one standing) next) (in_scope (by_other standing) next)
  scope-both standing next h = closed-both standing _ _ (h (opened finite.empty standing))

module _ (one other : List Shape) (number : ℕ → ℕ) (re : Renumbers one other number) where
  -- ---- what a declarator declares

  object-same : (standing : Standing) (storage : Storage) (test : Bool) (sort : Sort) (kind : CType)
      → may_be_object (by_other one other number standing).known storage test sort kind ≡ may_be_object (by_one one other number standing).known storage test sort kind
  object-same standing storage test sort kind =
      ap (λ whole. not (is_object sort) || is_extern storage && not test || (whole || test && is_array kind)) (complete-same one other number re standing.known kind)

  -- the same entry, with the type that its name has
  pub declarable-both : {A : Type 0} (said : Specified) (standing : Standing) (test : Bool) (at name : ℕ) (entry : unit.Declaration) (x y : Progress A) → Beside one other number x y
      → Beside one other number (declarable said (by_one one other number standing) test at name entry x) (declarable said (by_other one other number standing) test at name entry y)
  declarable-both said standing test at name entry x y h =
      keeps-both one other number _ _ 2 name _ _ (declared-over (second_table one other number standing) standing entry ∙ sym (declared-over (first_table one other number standing) standing entry))
      (keeps-both one other number (not (is_misplaced_static standing.known said.storage entry.sort)) _ 3 said.first _ _ refl
      (keeps-both one other number _ _ 5 at _ _
      (ap (may_be_object (by_other one other number standing).known said.storage test entry.sort)
      (seen-over (second_table one other number standing) standing entry ∙ sym (seen-over (first_table one other number standing) standing entry))
      ∙ object-same standing said.storage test entry.sort (kind_seen (by_one one other number standing) entry))
      (keeps-both one other number (may_be_main standing.known entry) _ 36 name _ _ refl h)))

  -- ---- initialisers

  defined-both : (standing : Standing) (entry : unit.Declaration) (n at name : ℕ) (kind : CType) (initial : Initial)
      → Beside one other number (object_defined (by_one one other number standing) entry n at name kind initial) (object_defined (by_other one other number standing) entry n at name kind initial)
  defined-both standing entry n at name kind initial =
      keeps-both one other number (may_define standing n kind) _ 2 name _ _ refl
      (keeps-both one other number _ _ 5 at _ _ (complete-same one other number re standing.known kind) (goes (object_here standing entry n kind) (local_initialised n initial)))

  module _ (setting : Setting) where
    -- what has an initialiser, where it may have one or not
    abbrev either : Standing → unit.Declaration → ℕ → Span → ℕ → ℕ → CType → Initialiser → Bool → Progress Local
    either standing entry n span at name kind it test =
        if test
        then typing standing (typed_initialiser setting (is_fixed entry.sort) standing.known kind it) (λ behind initial. object_defined behind entry n at name kind initial)
        else typing standing (expressions_alone setting standing.known it) (λ behind trees. stops 9 span.first)

    either-both : (standing : Standing) (entry : unit.Declaration) (n : ℕ) (span : Span) (at name : ℕ) (kind : CType) (it : Initialiser) (test : Bool)
        → Beside one other number (either (by_one one other number standing) entry n span at name kind it test) (either (by_other one other number standing) entry n span at name kind it test)
    either-both standing entry n span at name kind it true =
        typing-both one other number standing _ _ _ _ (initialiser-both one other number re setting (is_fixed entry.sort) standing.known kind it)
        (λ behind initial. defined-both behind entry n at name kind initial)
    either-both standing entry n span at name kind it false =
        typing-both one other number standing _ _ _ _ (alone-both one other number re setting standing.known it) (λ behind trees. halts 9 span.first)

    initialised-both : (standing : Standing) (entry : unit.Declaration) (n : ℕ) (span : Span) (at name : ℕ) (kind : CType) (it : Initialiser)
        → Beside one other number (initialised setting (by_one one other number standing) entry n span at name kind it) (initialised setting (by_other one other number standing) entry n span at name kind it)
    initialised-both standing entry n span at name kind it = either-both standing entry n span at name (completed setting kind it) it (may_be_initialised standing.known entry)

    -- ---- declarators with their initialisers

    specified-both : (stands : Where) (alone : Bool) (known : Known) (specifiers : Specifiers)
        → Both one other number (specified setting stands alone (at_one one known) specifiers) (specified setting stands alone (at_other other number known) specifiers)
    specified-both stands alone known (tree.listed span words) =
        after-both one other number (words_said setting true alone (at_one one known) nothing_said words) _ _ _ (words-both one other number re setting true alone known nothing_said words)
        (λ behind said. with-both one other number (typed_said (at_one one behind) stands span.first said) _ _ _ (said-both one other number re setting behind stands span.first said) (λ last kind. refl))

    pub declarator-both : (known : Known) (base : CType) (declarator : Declarator)
        → Both one other number (typed_declarator setting (at_one one known) base declarator) (typed_declarator setting (at_other other number known) base declarator)
    declarator-both known base declarator =
        after-both one other number (steps_of setting true (at_one one known) declarator) _ _ _ (steps-both one other number re setting true known declarator)
        (λ behind steps. derived-both one other number re setting behind base steps)

    with-lengths-both : (constants : List Tree) (x y : Progress Local) → Beside one other number x y → Beside one other number (item_with constants x) (item_with constants y)
    with-lengths-both constants x y (goes standing local) = goes standing (with_lengths constants local)
    with-lengths-both constants x y (halts rule at) = halts rule at

    -- where a declarator is declared
    declared-both : {A : Type 0} (standing : Standing) (entry : unit.Declaration) (next : Standing → Progress A)
        → ((behind : Standing) → Beside one other number (next (by_one one other number behind)) (next (by_other one other number behind)))
        → Beside one other number (next (declared_here (by_one one other number standing) entry)) (next (declared_here (by_other one other number standing) entry))
    declared-both standing entry next h =
        subst (λ behind. Beside one other number (next behind) (next (declared_here (by_other one other number standing) entry))) (sym (declared-here-over (first_table one other number standing) standing entry))
        (subst (λ behind. Beside one other number (next (stand_over (first_table one other number standing) (declared_here standing entry))) (next behind))
        (sym (declared-here-over (second_table one other number standing) standing entry)) (h (stand_over standing.known.types (declared_here standing entry))))

    pub function-declared-both : {A : Type 0} (standing : Standing) (entry : unit.Declaration) (next : Standing → Progress A)
        → ((behind : Standing) → Beside one other number (next (by_one one other number behind)) (next (by_other one other number behind)))
        → Beside one other number (next (function_here (by_one one other number standing) entry)) (next (function_here (by_other one other number standing) entry))
    function-declared-both standing entry next h =
        subst (λ behind. Beside one other number (next behind) (next (function_here (by_other one other number standing) entry))) (sym (function-here-over (first_table one other number standing) standing entry))
        (subst (λ behind. Beside one other number (next (stand_over (first_table one other number standing) (function_here standing entry))) (next behind))
        (sym (function-here-over (second_table one other number standing) standing entry)) (h (stand_over standing.known.types (function_here standing entry))))

    plain-both : (said : Specified) (standing : Standing) (declarator : Declarator) (entry : unit.Declaration)
        → Beside one other number (item_plain setting said (by_one one other number standing) declarator entry) (item_plain setting said (by_other one other number standing) declarator entry)
    plain-both said standing declarator entry =
        declarable-both said standing false (declarator_span declarator).first (name_at declarator) entry _ _
        (declared-both standing entry (λ behind. goes_on behind (local_plain (number_here standing entry) (defines_object said.storage entry.sort))) (λ behind. goes behind _))

    item-initialised-both : (said : Specified) (standing : Standing) (span : Span) (declarator : Declarator) (it : Initialiser) (entry : unit.Declaration)
        → Beside one other number (item_initialised setting said (by_one one other number standing) span declarator it entry) (item_initialised setting said (by_other one other number standing) span declarator it entry)
    item-initialised-both said standing span declarator it entry =
        let at = (declarator_span declarator).first in
        let n = number_here standing entry in
        declarable-both said standing true at (name_at declarator) entry _ _
        (subst (λ kind. Beside one other number (initialised setting (declared_here (by_one one other number standing) entry) entry n span at (name_at declarator) kind it)
        (initialised setting (declared_here (by_other one other number standing) entry) entry n span at (name_at declarator) (kind_seen (by_other one other number standing) entry) it))
        (sym (seen-over (first_table one other number standing) standing entry))
        (subst (λ kind. Beside one other number (initialised setting (declared_here (by_one one other number standing) entry) entry n span at (name_at declarator) (kind_seen standing entry) it)
        (initialised setting (declared_here (by_other one other number standing) entry) entry n span at (name_at declarator) kind it))
        (sym (seen-over (second_table one other number standing) standing entry))
        (declared-both standing entry (λ behind. initialised setting behind entry n span at (name_at declarator) (kind_seen standing entry) it)
        (λ behind. initialised-both behind entry n span at (name_at declarator) (kind_seen standing entry) it))))

    item-both : (said : Specified) (standing : Standing) (item : Item)
        → Beside one other number (typed_item setting said (by_one one other number standing) item) (typed_item setting said (by_other one other number standing) item)
    item-both said standing (tree.plain span declarator) =
        collecting-both one other number standing _ _ _ _ (declarator-both standing.known said.kind declarator)
        (λ behind constants kind. with-lengths-both constants _ _ (plain-both said behind declarator (entry_of setting behind.known said.storage (name_at declarator) kind)))
    item-both said standing (tree.initialised span declarator it) =
        collecting-both one other number standing _ _ _ _ (declarator-both standing.known said.kind declarator)
        (λ behind constants kind. with-lengths-both constants _ _ (item-initialised-both said behind span declarator it (entry_of setting behind.known said.storage (name_at declarator) kind)))

    items-both : (said : Specified) (standing : Standing) (items : List Item)
        → Beside one other number (typed_items setting said (by_one one other number standing) items) (typed_items setting said (by_other one other number standing) items)
    items-both said standing [] = goes standing _
    items-both said standing (first ∷ others) =
        further-both one other number (typed_item setting said (by_one one other number standing) first) _ _ _ (item-both said standing first) (λ then_standing made.
        further-both one other number (typed_items setting said (by_one one other number then_standing) others) _ _ _ (items-both said then_standing others) (λ behind more. goes behind _))

    -- ---- declarations

    inline-same : (standing : Standing) (locals : List Local) → may_be_inline (by_other one other number standing).known locals ≡ may_be_inline (by_one one other number standing).known locals
    inline-same standing locals =
        ap (λ test. is_there locals && test) (functions-over (second_table one other number standing) standing locals ∙ sym (functions-over (first_table one other number standing) standing locals))

    pub declaration-both : (standing : Standing) (it : tree.Declaration)
        → Beside one other number (typed_declaration setting (by_one one other number standing) it) (typed_declaration setting (by_other one other number standing) it)
    declaration-both standing (tree.declaring span specifiers items) =
        collecting-both one other number standing _ _ _ _ (specified-both of_declaration (is_alone specifiers items) standing.known specifiers) (λ then_standing constants said.
        further-both one other number (typed_items setting said (by_one one other number then_standing) items) _ _ _ (items-both said then_standing items)
        (λ behind locals. keeps-both one other number _ _ 3 said.first _ _ (ap (λ test. not said.inline || test) (inline-same behind locals)) (goes behind _)))

    pub definition-both : (known : Known) (specifiers : Specifiers) (stands : Where)
        → Both one other number (specified setting stands false (at_one one known) specifiers) (specified setting stands false (at_other other number known) specifiers)
    definition-both known specifiers stands = specified-both stands false known specifiers

    -- ---- expressions in statements

    value-both : (known : Known) (expr : Expr) → Both one other number (typed_value setting (at_one one known) expr) (typed_value setting (at_other other number known) expr)
    value-both known expr =
        with-both one other number (typed setting true (at_one one known) expr) (typed setting true (at_other other number known) expr) _ _ (typed-both one other number re setting known expr) (λ behind made. refl)

    optional-both : (known : Known) (expr : Option Expr) → Both one other number (typed_optional setting (at_one one known) expr) (typed_optional setting (at_other other number known) expr)
    optional-both known None = gives known _
    optional-both known (Some expr) =
        with-both one other number (typed_value setting (at_one one known) expr) (typed_value setting (at_other other number known) expr) _ _ (value-both known expr) (λ behind value. refl)

    condition-both : (known : Known) (expr : Expr) → Both one other number (typed_condition setting (at_one one known) expr) (typed_condition setting (at_other other number known) expr)
    condition-both known expr =
        after-both one other number (typed_value setting (at_one one known) expr) _ _ _ (value-both known expr)
        (λ behind value. obeys-both one other number (is_scalar (kind_of value)) _ 32 (expr_span expr).first _ _ refl (gives behind _))

    optional-condition-both : (known : Known) (expr : Option Expr)
        → Both one other number (typed_optional_condition setting (at_one one known) expr) (typed_optional_condition setting (at_other other number known) expr)
    optional-condition-both known None = gives known _
    optional-condition-both known (Some expr) =
        with-both one other number (typed_condition setting (at_one one known) expr) (typed_condition setting (at_other other number known) expr) _ _ (condition-both known expr) (λ behind value. refl)

    subject-both : (known : Known) (expr : Expr) → Both one other number (typed_subject setting (at_one one known) expr) (typed_subject setting (at_other other number known) expr)
    subject-both known expr =
        after-both one other number (typed_value setting (at_one one known) expr) _ _ _ (value-both known expr)
        (λ behind value. if-both one other number (integer_kind (kind_of value)) _ 32 (expr_span expr).first _ _ refl (λ kind. gives behind _))

    case-value-both : (known : Known) (labels : List (Option ℤ)) (at : ℕ) (value : Tree)
        → Both one other number (case_value (at_one one known) labels at value) (case_value (at_other other number known) labels at value)
    case-value-both known labels at value =
        if-both one other number _ _ 30 at _ _ (constant-of-same one other number re known value)
        (λ n. obeys-both one other number (not (is_label_among (Some n) labels)) _ 31 at _ _ refl (gives known _))

    case-both : (known : Known) (kind : Kind) (labels : List (Option ℤ)) (expr : Expr)
        → Both one other number (typed_case setting (at_one one known) kind labels expr) (typed_case setting (at_other other number known) kind labels expr)
    case-both known kind labels expr =
        after-both one other number (typed_value setting (at_one one known) expr) _ _ _ (value-both known expr)
        (λ behind value. case-value-both behind labels (expr_span expr).first (as_kind kind value))

    returned-both : (known : Known) (result : CType) (span : Span) (values : List Tree)
        → Both one other number (returned setting (at_one one known) result span values) (returned setting (at_other other number known) result span values)
    returned-both known result span [] = obeys-both one other number (is_void result) _ 34 span.first _ _ refl (gives known _)
    returned-both known result span (value ∷ values) = obeys-both one other number _ _ 34 span.first _ _ (assignable-same one other number re known value result) (gives known _)

    return-both : (known : Known) (result : CType) (span : Span) (expr : Option Expr)
        → Both one other number (typed_return setting (at_one one known) result span expr) (typed_return setting (at_other other number known) result span expr)
    return-both known result span expr =
        after-both one other number (typed_optional setting (at_one one known) expr) _ _ _ (optional-both known expr) (λ behind values. returned-both behind result span values)

    declared-in-both : (standing : Standing) (it : tree.Declaration)
        → Beside one other number (declared_in setting (by_one one other number standing) it) (declared_in setting (by_other one other number standing) it)
    declared-in-both standing it =
        further-both one other number (typed_declaration setting (by_one one other number standing) it) _ _ _ (declaration-both standing it) (λ behind made. goes behind _)

    start-both : (standing : Standing) (start : ForStart)
        → Beside one other number (typed_start setting (by_one one other number standing) start) (typed_start setting (by_other one other number standing) start)
    start-both standing (tree.declares it) =
        further-both one other number (declared_in setting (by_one one other number standing) it) _ _ _ (declared-in-both standing it) (λ behind made. goes behind _)
    start-both standing (tree.evaluates expr) =
        typing-both one other number standing (typed_optional setting (at_one one standing.known) expr) _ _ _ (optional-both standing.known expr) (λ behind values. goes behind _)

    -- ---- statements

    mutual
      unfolding typed_stmt typed_items_in typed_item_in typed_switch_items typed_switch_item

      pub stmt-both : (within : Within) (standing : Standing) (stmt : Stmt)
          → Beside one other number (typed_stmt setting within (by_one one other number standing) stmt) (typed_stmt setting within (by_other one other number standing) stmt)
      stmt-both within standing (tree.block span items) =
          scope-both one other number standing
          (λ inside. further (typed_items_in setting within inside items) (λ behind trees. goes_on behind (statement setting span label.block trees)))
          (λ inside.
          further-both one other number (typed_items_in setting within (by_one one other number inside) items) _ _ _ (items-in-both within inside items) (λ behind trees. goes behind _))
      stmt-both within standing (tree.expression span expr) =
          typing-both one other number standing (typed_optional setting (at_one one standing.known) expr) _ _ _ (optional-both standing.known expr) (λ behind values. goes behind _)
      stmt-both within standing (tree.if_only span condition body) =
          scope-both one other number standing
          (λ inside. typing inside (typed_condition setting inside.known condition) (λ then_inside value. further (in_scope then_inside (λ part. typed_stmt setting within part body)) (λ behind made. goes_on behind (statement setting span label.if_statement (value ∷ made ∷ [])))))
          (λ inside.
          typing-both one other number inside (typed_condition setting (at_one one inside.known) condition) _ _ _ (condition-both inside.known condition) (λ then_inside value.
          further-both one other number (in_scope (by_one one other number then_inside) (λ part. typed_stmt setting within part body)) _ _ _
          (scope-both one other number then_inside (λ part. typed_stmt setting within part body) (λ part. stmt-both within part body)) (λ behind made. goes behind _)))
      stmt-both within standing (tree.if_else span condition body more) =
          scope-both one other number standing
          (λ inside. typing inside (typed_condition setting inside.known condition) (λ then_inside value. further (in_scope then_inside (λ part. typed_stmt setting within part body)) (λ then_more first. further (in_scope then_more (λ part. typed_stmt setting within part more)) (λ behind second. goes_on behind (statement setting span label.if_statement (value ∷ first ∷ second ∷ []))))))
          (λ inside.
          typing-both one other number inside (typed_condition setting (at_one one inside.known) condition) _ _ _ (condition-both inside.known condition) (λ then_inside value.
          further-both one other number (in_scope (by_one one other number then_inside) (λ part. typed_stmt setting within part body)) _ _ _
          (scope-both one other number then_inside (λ part. typed_stmt setting within part body) (λ part. stmt-both within part body)) (λ then_more first.
          further-both one other number (in_scope (by_one one other number then_more) (λ part. typed_stmt setting within part more)) _ _ _
          (scope-both one other number then_more (λ part. typed_stmt setting within part more) (λ part. stmt-both within part more)) (λ behind second. goes behind _))))
      stmt-both within standing (tree.switch span operand items) =
          scope-both one other number standing
          (λ inside. typing inside (typed_subject setting inside.known operand) (λ then_inside one. further (in_scope then_inside (λ part. typed_switch_items setting (in_switch within) one.kind part [] items)) (λ behind made. goes_on behind (statement setting span label.switch (one.tree ∷ made.trees)))))
          (λ inside.
          typing-both one other number inside (typed_subject setting (at_one one inside.known) operand) _ _ _ (subject-both inside.known operand) (λ then_inside it.
          further-both one other number (in_scope (by_one one other number then_inside) (λ part. typed_switch_items setting (in_switch within) it.kind part [] items)) _ _ _
          (scope-both one other number then_inside (λ part. typed_switch_items setting (in_switch within) it.kind part [] items) (λ part. switch-items-both (in_switch within) it.kind part [] items)) (λ behind made. goes behind _)))
      stmt-both within standing (tree.while span condition body) =
          scope-both one other number standing
          (λ inside. typing inside (typed_condition setting inside.known condition) (λ then_inside value. further (in_scope then_inside (λ part. typed_stmt setting (in_loop within) part body)) (λ behind made. goes_on behind (statement setting span label.while_loop (value ∷ made ∷ [])))))
          (λ inside.
          typing-both one other number inside (typed_condition setting (at_one one inside.known) condition) _ _ _ (condition-both inside.known condition) (λ then_inside value.
          further-both one other number (in_scope (by_one one other number then_inside) (λ part. typed_stmt setting (in_loop within) part body)) _ _ _
          (scope-both one other number then_inside (λ part. typed_stmt setting (in_loop within) part body) (λ part. stmt-both (in_loop within) part body)) (λ behind made. goes behind _)))
      stmt-both within standing (tree.do_while span body condition) =
          scope-both one other number standing
          (λ inside. further (in_scope inside (λ part. typed_stmt setting (in_loop within) part body)) (λ then_inside made. typing then_inside (typed_condition setting then_inside.known condition) (λ behind value. goes_on behind (statement setting span label.do_loop (made ∷ value ∷ [])))))
          (λ inside.
          further-both one other number (in_scope (by_one one other number inside) (λ part. typed_stmt setting (in_loop within) part body)) _ _ _
          (scope-both one other number inside (λ part. typed_stmt setting (in_loop within) part body) (λ part. stmt-both (in_loop within) part body)) (λ then_inside made.
          typing-both one other number then_inside (typed_condition setting (at_one one then_inside.known) condition) _ _ _ (condition-both then_inside.known condition) (λ behind value. goes behind _)))
      stmt-both within standing (tree.for_loop span start condition step body) =
          scope-both one other number standing
          (λ inside. further (typed_start setting inside start) (λ then_inside first. typing then_inside (typed_optional_condition setting then_inside.known condition) (λ then_more second. typing then_more (typed_optional setting then_more.known step) (λ then_all third. further (in_scope then_all (λ part. typed_stmt setting (in_loop within) part body)) (λ behind made. goes_on behind (for_statement setting span first second third made))))))
          (λ inside.
          further-both one other number (typed_start setting (by_one one other number inside) start) _ _ _ (start-both inside start) (λ then_inside first.
          typing-both one other number then_inside (typed_optional_condition setting (at_one one then_inside.known) condition) _ _ _ (optional-condition-both then_inside.known condition) (λ then_more second.
          typing-both one other number then_more (typed_optional setting (at_one one then_more.known) step) _ _ _ (optional-both then_more.known step) (λ then_all third.
          further-both one other number (in_scope (by_one one other number then_all) (λ part. typed_stmt setting (in_loop within) part body)) _ _ _
          (scope-both one other number then_all (λ part. typed_stmt setting (in_loop within) part body) (λ part. stmt-both (in_loop within) part body)) (λ behind made. goes behind _)))))
      stmt-both within standing (tree.break span) = keeps-both one other number within.breaks _ 33 span.first _ _ refl (goes standing _)
      stmt-both within standing (tree.continue span) = keeps-both one other number within.continues _ 33 span.first _ _ refl (goes standing _)
      stmt-both within standing (tree.return span expr) =
          typing-both one other number standing (typed_return setting (at_one one standing.known) within.result span expr) _ _ _ (return-both standing.known within.result span expr) (λ behind made. goes behind _)

      pub items-in-both : (within : Within) (standing : Standing) (items : BlockItems)
          → Beside one other number (typed_items_in setting within (by_one one other number standing) items) (typed_items_in setting within (by_other one other number standing) items)
      items-in-both within standing tree.no_items = goes standing _
      items-in-both within standing (tree.more_items first others) =
          further-both one other number (typed_item_in setting within (by_one one other number standing) first) _ _ _ (item-in-both within standing first) (λ then_standing made.
          further-both one other number (typed_items_in setting within (by_one one other number then_standing) others) _ _ _ (items-in-both within then_standing others) (λ behind more. goes behind _))

      item-in-both : (within : Within) (standing : Standing) (item : BlockItem)
          → Beside one other number (typed_item_in setting within (by_one one other number standing) item) (typed_item_in setting within (by_other one other number standing) item)
      item-in-both within standing (tree.declared_item it) = declared-in-both standing it
      item-in-both within standing (tree.stated_item stmt) = stmt-both within standing stmt

      switch-items-both : (within : Within) (kind : Kind) (standing : Standing) (labels : List (Option ℤ)) (items : SwitchItems)
          → Beside one other number (typed_switch_items setting within kind (by_one one other number standing) labels items) (typed_switch_items setting within kind (by_other one other number standing) labels items)
      switch-items-both within kind standing labels tree.no_switch_items = goes standing _
      switch-items-both within kind standing labels (tree.more_switch_items first others) =
          further-both one other number (typed_switch_item setting within kind (by_one one other number standing) labels first) _ _ _ (switch-item-both within kind standing labels first) (λ then_standing made.
          further-both one other number (typed_switch_items setting within kind (by_one one other number then_standing) made.labels others) _ _ _
          (switch-items-both within kind then_standing made.labels others) (λ behind more. goes behind _))

      switch-item-both : (within : Within) (kind : Kind) (standing : Standing) (labels : List (Option ℤ)) (item : SwitchItem)
          → Beside one other number (typed_switch_item setting within kind (by_one one other number standing) labels item) (typed_switch_item setting within kind (by_other one other number standing) labels item)
      switch-item-both within kind standing labels (tree.case span expr item) =
          typing-both one other number standing (typed_case setting (at_one one standing.known) kind labels expr) _ _ _ (case-both standing.known kind labels expr) (λ then_standing it.
          further-both one other number (typed_switch_item setting within kind (by_one one other number then_standing) (Some it.value ∷ labels) item) _ _ _
          (switch-item-both within kind then_standing (Some it.value ∷ labels) item) (λ behind made. goes behind _))
      switch-item-both within kind standing labels (tree.default span item) =
          keeps-both one other number (not (is_label_among None labels)) _ 31 span.first _ _ refl
          (further-both one other number (typed_switch_item setting within kind (by_one one other number standing) (None ∷ labels) item) _ _ _
          (switch-item-both within kind standing (None ∷ labels) item) (λ behind made. goes behind _))
      switch-item-both within kind standing labels (tree.unlabelled span stmt) =
          further-both one other number (typed_stmt setting within (by_one one other number standing) stmt) _ _ _ (stmt-both within standing stmt) (λ behind made. goes behind _)

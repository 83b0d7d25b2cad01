-- The nodes of declarations and statements stand where their syntax stands: by induction over the syntax.
use Rattle.std.specs.Prelude.{◌≡◌, ℕ, ◌+◌, ◌<◌, ◌≤◌, ℤ, Bool, true, false, ◌||◌, not, if◌then◌else◌, List, [], ◌∷◌, ◌++◌, length, take, drop, Option, Some, None, refl}
use Rattle.std.specs.FinMap as map
use Rattle.std.proofs.Common.{sym, ap, ◌∙◌, subst, arith}
use Rattle.dm_token.specs.declared.place.Span.{Span}
use Rattle.dm_int.specs.declared.Kind.{Kind}
use Rattle.dm_int.specs.Kinds.{promote}
use Rattle.dm_type.specs.CTypes.{CType, void, integer}
use Rattle.dm_syn.specs.declared.declared.Declared.{Declared as Seen}
use Rattle.dm_syn.specs.Grammar.{no_type, IsExpr, IsSpecifiers, IsDeclarator}
use Rattle.dm_syn.specs.Spans.{expr_span, specifiers_span, declarator_span, initialiser_span, initialisers_after, item_span, items_after, words_after, declaration_span, stmt_span, block_item_span, block_items_after, switch_item_span, switch_items_after}
use Rattle.dm_syn.specs.Scopes.{item_declares}
use Rattle.dm_syn.specs.Statements.{IsInitialiser, AreMoreInitialisers, IsItem, AreItems, AreMoreItems, IsDeclaration, IsOptional, optional_after, IsStart, start_after, IsStmt, AreBlockItems, IsBlockItem, AreSwitchItems, IsSwitchItem}
use Rattle.dm_syn.specs.Trees.{Expr, Specifiers, Declarator, Initialiser, Initialisers, Item, ForStart, Stmt, BlockItems, BlockItem, SwitchItems, SwitchItem}
use Rattle.dm_syn.specs.Trees as tree
use Rattle.dm_tree.specs.Constants.{integer_kind}
use Rattle.dm_tree.specs.Initialisers.{is_fixed}
use Rattle.dm_tree.specs.Scenes.{is_scalar, is_void, part_type}
use Rattle.dm_tree.specs.Trees.{Label, Tree, trees, listed, kind_of, spans_of}
use Rattle.dm_tree.specs.Trees as label
use Rattle.dm_tree.specs.Units.{Declaration}
use Rattle.dm_scoped.specs.Spans.{AreInside, IsLaidOut, StandBetween, AreApart}
use Rattle.dm_typing.specs.Known.{Known, Setting, Outcome, given, broken, after, obeys}
use Rattle.dm_typing.specs.Conversions.{spans_at, as_value, as_type, as_kind, constant_of, is_complete}
use Rattle.dm_typing.specs.Rules.{is_assignable}
use Rattle.dm_typing.specs.Specifiers.{Where, of_declaration, nothing_said}
use Rattle.dm_typing.specs.Typing.{extent, typed, words_said, typed_said, steps_of}
use Rattle.dm_edecl.specs.Standing.{Standing, Progress, goes_on, stops, further, knowing, typing, collecting, keeps, opened, closed, in_scope}
use Rattle.dm_edecl.specs.Linkages.{entry_of, naming, number_here, number_before, kind_seen, declared_here, object_here}
use Rattle.dm_edecl.specs.Initialising.{Initial, Initials, no_initials, with_first, enclosed, single, is_static_value, has_value, scalar_initialised, is_string_for, initialised_by, First, braced, zero_initialised, first_scalar, completed, expressions_alone, all_expressions_alone, misplaced, scalar_in_braces, is_zero_list, all_zero, if_part, typed_initialiser, typed_initialisers}
use Rattle.dm_edecl.specs.Declaring.{Specified, specified, is_alone, typed_declarator, name_at, defines_object, declarable, Local, local_plain, local_initialised, with_lengths, may_be_initialised, may_define, object_defined, initialised, item_with, typed_item, typed_items, Declared, declarators_of, expressions_of, constants_of, typed_declaration}
use Rattle.dm_edecl.specs.Statements.{Within, in_loop, in_switch, statement, Subject, subject, Labelled, AllLabelled, is_label_among, CaseValue, typed_value, typed_optional, typed_condition, typed_optional_condition, typed_subject, typed_case, full_statement, returned, typed_return, declaration_tree, declared_in, typed_start, is_there, for_statement, typed_stmt, typed_items_in, typed_item_in, typed_switch_items, typed_switch_item}
use Rattle.dm_scoped.specs.Bare.{bare_span}
use Rattle.dm_scoped.proofs.SpanLemmas.{listed-trees, outer-of, is_straight, all-laid, laid-trees, straight-made, row-wider, row-append, row-length, row-laid, row-inside, row-apart, row-apart-behind, apart-append, append-apart}
use Rattle.dm_scoped.proofs.CollectLemmas.{Yields, Collects, more-none, yields-so, yields-after, yields-with, yields-obeys, yields-if, collects-after, collects-with, collects-wider, said-collects, derived-collects}
use Rattle.dm_scoped.proofs.SpanFormLemmas.{type-made}
use Rattle.dm_scoped.proofs.SpanExpressionLemmas.{trailing-on, IsOf, Laid, laid-some, laid-typed, of-value, of-row, expr-laid, specifiers-laid, words-laid, declarator-laid}

-- ---- trees where their syntax stands

-- a tree stands at these tokens, with all its parentheses
abbrev pub Stands : Span → Tree → Type 0
Stands span tree = IsLaidOut tree × ((spans_of tree).outer.first ≡ span.first) × ((spans_of tree).outer.after ≡ span.after)

pub of-stands : (setting : Setting) (expr : Expr) (tree : Tree) → IsOf setting expr tree → Stands (expr_span expr) tree
of-stands setting expr tree h =
    let is = outer-of setting.source (bare_span expr) (expr_span expr) tree h in (h.1, ap (λ (it : Span). it.first) is, ap (λ (it : Span). it.after) is)

pub row-next : (span : Span) (at behind : ℕ) (tree : Tree) (rest : List Tree) → Stands span tree → at ≤ span.first → StandBetween span.after behind rest → StandBetween at behind (tree ∷ rest)
row-next span at behind tree rest h low row =
    let first = h.1 in (omega (arith, low, first), h.0, subst (λ k. StandBetween k behind rest) (sym h.2) row)

-- a statement with parts in a row
pub stated : (setting : Setting) (span : Span) (form : Label) (at behind : ℕ) (parts : List Tree) → is_straight form ≡ true → span.first ≤ at → behind ≤ span.after
    → span.first < span.after → behind + span.first < span.after + at → StandBetween at behind parts → Stands span (statement setting span form parts)
stated setting span form at behind parts straight low high some short row =
    let here = spans_at setting.source (extent span span) in
    let inside = row-inside form here span.first at behind parts [] low (omega arith) high short row high in
    let made = straight-made setting.source span span (omega arith, some, omega arith) form void parts straight
    (subst (λ list. AreInside form here span.first list) (more-none parts) inside) (laid-trees parts (row-laid at behind parts row)) in
    (made.1, refl, refl)

-- ---- progress

-- no lengths and enumerator values are collected
abbrev pub IsClear : Standing → Type 0
IsClear s = s.known.constants ≡ []

unfoldable pub Ends : {A : Type 0} → (A → Type 0) → Progress A → Type 0
Ends P (goes_on t it) = IsClear t × P it
Ends P (stops rule at) = Unit {0}

pub ends-so : {A : Type 0} (P : A → Type 0) (t : Standing) (it : A) → IsClear t → P it → Ends P (goes_on t it)
unfolding Ends
ends-so P t it clear h = (clear, h)

pub further-ends : {A B : Type 0} (P : A → Type 0) (Q : B → Type 0) (progress : Progress A) (next : Standing → A → Progress B) → Ends P progress
    → ((t : Standing) (it : A) → IsClear t → P it → Ends Q (next t it)) → Ends Q (further progress next)
unfolding Ends
further-ends P Q (goes_on t it) next h step = step t it h.0 h.1
further-ends P Q (stops rule at) next h step = tt

pub keeps-ends : {A : Type 0} (P : A → Type 0) (test : Bool) (rule at : ℕ) (next : Progress A) → Ends P next → Ends P (keeps test rule at next)
unfolding Ends
keeps-ends P true rule at next h = h
keeps-ends P false rule at next h = tt

pub typing-ends : {A B : Type 0} (P : A → Type 0) (Q : B → Type 0) (s : Standing) (outcome : Outcome A) (next : Standing → A → Progress B) → IsClear s → Yields P s.known outcome
    → ((t : Standing) (it : A) → IsClear t → P it → Ends Q (next t it)) → Ends Q (typing s outcome next)
unfolding Ends Yields
typing-ends P Q s (given known it) next clear h step = step (knowing s known) it clear h.1
typing-ends P Q s (broken rule at) next clear h step = tt

pub collecting-ends : {A B : Type 0} (at behind : ℕ) (Q : B → Type 0) (s : Standing) (outcome : Outcome A) (next : Standing → List Tree → A → Progress B) → IsClear s
    → Collects at behind s.known outcome → ((t : Standing) (constants : List Tree) (it : A) → IsClear t → StandBetween at behind constants → Ends Q (next t constants it))
    → Ends Q (collecting s outcome next)
unfolding Ends Collects
collecting-ends at behind Q s (given known it) next clear h step =
    step (knowing s known) known.constants it clear
    (subst (λ list. StandBetween at behind list) (sym (h.1 ∙ ap (λ list. list ++ h.0) clear)) h.2)
collecting-ends at behind Q s (broken rule place) next clear h step = tt

pub closed-ends : {A : Type 0} (P : A → Type 0) (s : Standing) (progress : Progress A) → Ends P progress → Ends P (closed s progress)
unfolding Ends
closed-ends P s (goes_on t it) h = h
closed-ends P s (stops rule at) h = tt

-- what is typed next is a scope of its own
pub scope-ends : {A : Type 0} (P : A → Type 0) (s : Standing) (next : Standing → Progress A) → IsClear s → ((t : Standing) → IsClear t → Ends P (next t)) → Ends P (in_scope s next)
scope-ends P s next clear step = closed-ends P s (next (opened map.empty s)) (step (opened map.empty s) clear)

-- ---- initialisers

-- its expressions stand between these tokens
abbrev pub InitialBetween : ℕ → ℕ → Initial → Type 0
InitialBetween at behind initial = StandBetween at behind initial.expressions

abbrev InitialsBetween : ℕ → ℕ → Initials → Type 0
InitialsBetween at behind initials = StandBetween at behind initials.expressions

after-broken : {A B : Type 0} (P : B → Type 0) (known : Known) (one : Outcome A) (rule at : ℕ) → Yields P known (after one (λ behind it. broken rule at))
unfolding Yields
after-broken P known (given then_known it) rule at = tt
after-broken P known (broken place here) rule at = tt

initials-wider : (at behind low high : ℕ) (known : Known) (outcome : Outcome Initial) → low ≤ at → behind ≤ high → Yields (InitialBetween at behind) known outcome
    → Yields (InitialBetween low high) known outcome
unfolding Yields
initials-wider at behind low high known (given then_known it) below above h = (h.0, row-wider at behind low high it.expressions below above h.1)
initials-wider at behind low high known (broken rule place) below above h = tt

module _ (setting : Setting) (fixed : Bool) (expr : Expr) where
  abbrev first : ℕ
  first = (expr_span expr).first

  abbrev last : ℕ
  last = (expr_span expr).after

  -- one expression
  one-row : (tree : Tree) → IsOf setting expr tree → StandBetween first last (tree ∷ [])
  one-row tree h = of-row setting expr tree first last h (omega arith) (omega arith)

  scalar-yields : (known : Known) (type : CType) (here : ℕ) (value : Tree) → IsOf setting expr value → Yields (InitialBetween first last) known (scalar_initialised known fixed type here value)
  scalar-yields known type here value h =
      yields-obeys (InitialBetween first last) known (not fixed || is_static_value known value) 8 here _
      (yields-obeys (InitialBetween first last) known (is_assignable known value type) 28 here _
      (yields-obeys (InitialBetween first last) known (not fixed || has_value known value) 30 here _
      (yields-so (InitialBetween first last) known (single (as_type type value))
      (one-row (as_type type value) (type-made setting.source (bare_span expr) (expr_span expr) type value h)))))

  by-one : (known : Known) (type : CType) (here : ℕ) (tree : Tree) → IsOf setting expr tree → Yields (InitialBetween first last) known (initialised_by setting known fixed type here expr tree)
  by-one known type here tree h = by-test (is_scalar type)
    where
      by-test : (test : Bool) → Yields (InitialBetween first last) known
          (if test then scalar_initialised known fixed type here (as_value tree) else obeys (is_string_for setting expr type) 8 here (given known (single tree)))
      by-test true = scalar-yields known type here (as_value tree) (of-value setting expr tree h)
      by-test false = yields-obeys (InitialBetween first last) known (is_string_for setting expr type) 8 here _ (yields-so (InitialBetween first last) known (single tree) (one-row tree h))

  zero-yields : (known : Known) (it : First) (here : ℕ) (value : Tree) → IsOf setting expr value → Yields (InitialBetween first last) known (zero_initialised known fixed it here value)
  zero-yields known it here value h =
      yields-after (InitialBetween first last) (InitialBetween first last) known (scalar_initialised known fixed it.kind here value) _ (scalar-yields known it.kind here value h)
      (λ behind initial row. yields-so (InitialBetween first last) behind (braced it.depth initial) row)

module _ (setting : Setting) where
  -- one expression in braces, or a list that initialises nothing
  braces-yield : (names : List Seen) (at behind : ℕ) (fixed : Bool) (known : Known) (type : CType) (span : Span) (place : Span) (expr : Expr) (others : Initialisers)
      → IsExpr setting.source names expr → at ≤ (expr_span expr).first → (expr_span expr).after ≤ behind
      → Yields (InitialBetween at behind) known (scalar_in_braces setting fixed known type span (tree.more_initialisers (tree.value place expr) others))
      × Yields (InitialBetween at behind) known (all_zero setting fixed known type span (tree.more_initialisers (tree.value place expr) others))
  braces-yield names at behind fixed known type span place expr tree.no_initialisers is low high =
      let one = expr-laid setting names expr is in (
        yields-after (IsOf setting expr) (InitialBetween at behind) known (typed setting true known expr) _ (laid-typed setting expr one true known)
            (λ then_known made h. initials-wider (expr_span expr).first (expr_span expr).after at behind then_known _ low high
            (scalar-yields setting fixed expr then_known type place.first (as_value made) (of-value setting expr made h))),
        yields-after (IsOf setting expr) (InitialBetween at behind) known (typed setting true known expr) _ (laid-typed setting expr one true known)
            (λ then_known made h. yields-if (InitialBetween at behind) then_known (first_scalar known.types type) 8 span.first _
            (λ it e. initials-wider (expr_span expr).first (expr_span expr).after at behind then_known _ low high
            (zero-yields setting fixed expr then_known it place.first (as_value made) (of-value setting expr made h)))),
      )
  braces-yield names at behind fixed known type span place expr (tree.more_initialisers second others) is low high =
      (after-broken (InitialBetween at behind) known _ 8 span.first, after-broken (InitialBetween at behind) known _ 8 span.first)

  part-yields : (at behind : ℕ) (known : Known) (found : Option CType) (span : Span) (items : Initialisers) (typed_part : CType → Outcome Initial)
      → ((type : CType) → Yields (InitialBetween at behind) known (typed_part type)) → Yields (InitialBetween at behind) known (if_part found (misplaced setting known span items) typed_part)
  part-yields at behind known None span items typed_part h = after-broken (InitialBetween at behind) known _ 8 span.first
  part-yields at behind known (Some type) span items typed_part h = h type

  -- one item, and those behind it
  items-yield : (at first after_first behind : ℕ) (known : Known) (one : Outcome Initial) (rest : Known → Outcome Initials) → at ≤ first → Yields (InitialBetween first after_first) known one
      → ((then_known : Known) → Yields (InitialsBetween after_first behind) then_known (rest then_known))
      → Yields (InitialsBetween at behind) known (after one (λ then_known made. after (rest then_known) (λ last more. given last (with_first made more))))
  items-yield at first after_first behind known one rest low h others =
      yields-after (InitialBetween first after_first) (InitialsBetween at behind) known one _ h (λ then_known made row.
      yields-after (InitialsBetween after_first behind) (InitialsBetween at behind) then_known (rest then_known) _ (others then_known) (λ last more g.
      yields-so (InitialsBetween at behind) last (with_first made more)
      (row-append at after_first behind made.expressions more.expressions (row-wider first after_first at after_first made.expressions low (omega arith) row) g)))

  initials-more : (at mid behind : ℕ) (known : Known) (outcome : Outcome Initials) → mid ≤ behind → Yields (InitialsBetween at mid) known outcome → Yields (InitialsBetween at behind) known outcome
  unfolding Yields
  initials-more at mid behind known (given then_known it) on h = (h.0, row-wider at mid at behind it.expressions (omega arith) on h.1)
  initials-more at mid behind known (broken rule place) on h = tt

  -- a scalar in braces, `{0}`, or a list
  by-tests : (names : List Seen) (first : Initialiser) (others : Initialisers) (fixed : Bool) (known : Known) (type : CType) (span : Span) (trailing : Bool)
      → IsInitialiser setting.source names first → span.first ≤ (initialiser_span first).first → (initialiser_span first).after ≤ span.after
      → Yields (InitialBetween span.first span.after) known
      (after (typed_initialisers setting fixed known type span 0 (tree.more_initialisers first others)) (λ behind made. given behind (enclosed made)))
      → Yields (InitialBetween span.first span.after) known (typed_initialiser setting fixed known type (tree.braces span (tree.more_initialisers first others) trailing))
  unfolding typed_initialiser IsInitialiser
  by-tests names (tree.value place expr) others fixed known type span trailing is low high list =
      let both = braces-yield names span.first span.after fixed known type span place expr others is.1 (let begins = is.0 in omega (arith, low, begins)) (let ends = is.3 in omega (arith, high, ends)) in
      tests (is_scalar type) (is_zero_list setting (tree.more_initialisers (tree.value place expr) others) trailing) _ _ _ both.0 both.1 list
    where
      tests : (one other : Bool) (a b c : Outcome Initial) → Yields (InitialBetween span.first span.after) known a → Yields (InitialBetween span.first span.after) known b
          → Yields (InitialBetween span.first span.after) known c → Yields (InitialBetween span.first span.after) known (if one then a else if other then b else c)
      tests true other a b c h g f = h
      tests false true a b c h g f = g
      tests false false a b c h g f = f
  by-tests names (tree.braces place items comma) others fixed known type span trailing is low high list =
      tests (is_scalar type) (is_zero_list setting (tree.more_initialisers (tree.braces place items comma) others) trailing) _ _ _
      (broken-list (tree.more_initialisers (tree.braces place items comma) others)) (broken-list (tree.more_initialisers (tree.braces place items comma) others)) list
    where
      broken-list : (all : Initialisers) → Yields (InitialBetween span.first span.after) known (misplaced setting known span all)
      broken-list all = after-broken (InitialBetween span.first span.after) known (all_expressions_alone setting known all) 8 span.first

      tests : (one other : Bool) (a b c : Outcome Initial) → Yields (InitialBetween span.first span.after) known a → Yields (InitialBetween span.first span.after) known b
          → Yields (InitialBetween span.first span.after) known c → Yields (InitialBetween span.first span.after) known (if one then a else if other then b else c)
      tests true other a b c h g f = h
      tests false true a b c h g f = g
      tests false false a b c h g f = f

  mutual
    unfolding typed_initialiser typed_initialisers IsInitialiser AreMoreInitialisers

    pub initialiser-laid : (names : List Seen) (one : Initialiser) → IsInitialiser setting.source names one
        → ((initialiser_span one).first < (initialiser_span one).after)
        × ((fixed : Bool) (known : Known) (type : CType) → Yields (InitialBetween (initialiser_span one).first (initialiser_span one).after) known (typed_initialiser setting fixed known type one))
    initialiser-laid names (tree.value span expr) h =
        let one = expr-laid setting _ expr h.1 in
        let some = laid-some setting expr one in (
          omega (arith, h.0, h.3, some),
          λ fixed known type. yields-after (IsOf setting expr) (InitialBetween span.first span.after) known (typed setting true known expr) _ (laid-typed setting expr one true known)
              (λ behind made x. initials-wider (expr_span expr).first (expr_span expr).after span.first span.after behind _ (omega (arith, h.0)) (omega (arith, h.3))
              (by-one setting fixed expr behind type span.first made x)),
        )
    initialiser-laid names (tree.braces span tree.no_initialisers trailing) h = absurd h
    initialiser-laid names (tree.braces span (tree.more_initialisers first others) trailing) h =
        let one = initialiser-laid _ first h.2 in
        let rest = initialisers-laid _ _ others h.3 in
        let some = one.0 in
        let on = rest.0 in
        let ends = trailing-on (initialisers_after (initialiser_span first).after others) trailing in (
          omega (arith, h.1, h.6, some, on, ends),
          λ fixed known type. by-tests _ first others fixed known type span trailing h.2 (omega (arith, h.1)) (omega (arith, h.6, on, ends))
              (yields-after (InitialsBetween span.first span.after) (InitialBetween span.first span.after) known
              (typed_initialisers setting fixed known type span 0 (tree.more_initialisers first others)) _
              (items-yield span.first (initialiser_span first).first (initialiser_span first).after span.after known _ (λ then_known. typed_initialisers setting fixed then_known type span 1 others)
              (omega (arith, h.1))
              (part-yields (initialiser_span first).first (initialiser_span first).after known (part_type known.types type 0) span (tree.more_initialisers first others) _ (λ part. one.1 fixed known part))
              (λ then_known. initials-more (initialiser_span first).after (initialisers_after (initialiser_span first).after others) span.after then_known _ (omega (arith, h.6, ends))
              (rest.1 fixed then_known type span 1)))
              (λ behind made row. yields-so (InitialBetween span.first span.after) behind (enclosed made) row)),
        )

    initialisers-laid : (names : List Seen) (at : ℕ) (all : Initialisers) → AreMoreInitialisers setting.source names at all
        → (at ≤ initialisers_after at all)
        × ((fixed : Bool) (known : Known) (type : CType) (span : Span) (n : ℕ) → Yields (InitialsBetween at (initialisers_after at all)) known (typed_initialisers setting fixed known type span n all))
    initialisers-laid names at tree.no_initialisers h = (omega arith, λ fixed known type span n. yields-so (InitialsBetween at at) known no_initials (omega arith))
    initialisers-laid names at (tree.more_initialisers first others) h =
        let one = initialiser-laid _ first h.2 in
        let rest = initialisers-laid _ _ others h.3 in
        let some = one.0 in
        let on = rest.0 in (
          omega (arith, h.1, some, on),
          λ fixed known type span n. items-yield at (initialiser_span first).first (initialiser_span first).after (initialisers_after (initialiser_span first).after others) known _
              (λ then_known. typed_initialisers setting fixed then_known type span (n + 1) others) (omega (arith, h.1))
              (part-yields (initialiser_span first).first (initialiser_span first).after known (part_type known.types type n) span (tree.more_initialisers first others) _ (λ part. one.1 fixed known part))
              (λ then_known. rest.1 fixed then_known type span (n + 1)),
        )

-- ---- declarators with their initialisers

abbrev pub LocalBetween : ℕ → ℕ → Local → Type 0
LocalBetween at behind local = StandBetween at behind local.constants × StandBetween at behind local.expressions × AreApart local.constants local.expressions

abbrev pub LocalsBetween : ℕ → ℕ → List Local → Type 0
LocalsBetween at behind locals =
    StandBetween at behind (constants_of locals) × StandBetween at behind (expressions_of locals) × AreApart (constants_of locals) (expressions_of locals)

pub named-clear : (known : Known) (kind : CType) (entry : Declaration) (found : Option ℕ) → (naming known kind entry found).constants ≡ known.constants
named-clear known kind entry None = refl
named-clear known kind entry (Some number) = refl

declared-clear : (s : Standing) (entry : Declaration) → IsClear s → IsClear (declared_here s entry)
declared-clear s entry clear = named-clear s.known (kind_seen s entry) entry (number_before s entry) ∙ clear

-- nothing before its initialiser has expressions
abbrev ExpressionsBetween : ℕ → ℕ → Local → Type 0
ExpressionsBetween at behind local = StandBetween at behind local.expressions

declarable-ends : (P : Local → Type 0) (said : Specified) (s : Standing) (test : Bool) (here name : ℕ) (entry : Declaration) (next : Progress Local) → Ends P next
    → Ends P (declarable said s test here name entry next)
declarable-ends P said s test here name entry next h =
    keeps-ends P _ 2 name _ (keeps-ends P _ 3 said.first _ (keeps-ends P _ 5 here _ (keeps-ends P _ 36 name next h)))

with-ends : (at mid behind : ℕ) (constants : List Tree) (item : Progress Local) → mid ≤ behind → StandBetween at mid constants → Ends (ExpressionsBetween mid behind) item
    → Ends (LocalBetween at behind) (item_with constants item)
with-ends at mid behind constants item on row h =
    further-ends (ExpressionsBetween mid behind) (LocalBetween at behind) item _ h
    (λ t local clear g.
    ends-so (LocalBetween at behind) t (with_lengths constants local) clear (
      row-wider at mid at behind constants (omega arith) on row,
      row-wider mid behind at behind local.expressions (row-length at mid constants row) (omega arith) g,
      row-apart at mid behind constants local.expressions row g,
    ))

module _ (setting : Setting) where
  pub typed-declarator-collects : (names : List Seen) (of_parameter : Bool) (known : Known) (base : CType) (declarator : Declarator) → IsDeclarator setting.source names of_parameter declarator
      → Collects (declarator_span declarator).first (declarator_span declarator).after known (typed_declarator setting known base declarator)
  typed-declarator-collects names of_parameter known base declarator is =
      let one = declarator-laid setting names of_parameter declarator is in
      let on = (declarator_span declarator).after in
      collects-after (declarator_span declarator).first on on known (steps_of setting true known declarator) _ (one.1 true known)
      (λ behind steps. derived-collects on on behind base steps (omega arith))

  pub specified-collects : (names : List Seen) (stands : Where) (alone : Bool) (known : Known) (specifiers : Specifiers) → IsSpecifiers setting.source names specifiers
      → Collects (specifiers_span specifiers).first (specifiers_span specifiers).after known (specified setting stands alone known specifiers)
  unfolding IsSpecifiers
  specified-collects names stands alone known (tree.listed span tree.no_words) h = absurd h
  specified-collects names stands alone known (tree.listed span (tree.more_words first others)) h =
      let all = words-laid setting _ span.first no_type alone (tree.more_words first others) h.0 in
      let ends = words_after span.first (tree.more_words first others) in
      collects-after span.first ends span.after known (words_said setting true alone known nothing_said (tree.more_words first others)) _ (all.1 true known nothing_said)
      (λ then_known said. collects-with ends span.after then_known (typed_said then_known stands span.first said) _
      (said-collects setting ends span.after (let e = h.1 in omega (arith, e)) then_known stands span.first said))

  typing-stops : {A : Type 0} (P : Local → Type 0) (s : Standing) (outcome : Outcome A) (rule place : ℕ) → Ends P (typing s outcome (λ t it. stops rule place))
  unfolding Ends
  typing-stops P s (given known it) rule place = tt
  typing-stops P s (broken other at) rule place = tt

  -- an object with its initialiser
  initialised-ends : (at first after_first behind : ℕ) (s : Standing) (entry : Declaration) (number : ℕ) (span : Span) (here name : ℕ) (kind : CType) (one : Initialiser) → IsClear s
      → at ≤ first → after_first ≤ behind
      → ((fixed : Bool) (known : Known) (type : CType) → Yields (InitialBetween first after_first) known (typed_initialiser setting fixed known type one))
      → Ends (ExpressionsBetween at behind) (initialised setting s entry number span here name kind one)
  initialised-ends at first after_first behind s entry number span here name kind one clear low high h = by-test (may_be_initialised s.known entry)
    where
      by-test : (test : Bool) → Ends (ExpressionsBetween at behind)
          (if test
          then typing s (typed_initialiser setting (is_fixed entry.sort) s.known (completed setting kind one) one)
          (λ t initial. object_defined t entry number here name (completed setting kind one) initial)
          else typing s (expressions_alone setting s.known one) (λ t trees. stops 9 span.first))
      by-test true =
          typing-ends (InitialBetween first after_first) (ExpressionsBetween at behind) s _ _ clear (h (is_fixed entry.sort) s.known (completed setting kind one)) (λ t initial still row.
          keeps-ends (ExpressionsBetween at behind) (may_define t number (completed setting kind one)) 2 name _
          (keeps-ends (ExpressionsBetween at behind) (is_complete t.known (completed setting kind one)) 5 here _
          (ends-so (ExpressionsBetween at behind) (object_here t entry number (completed setting kind one)) (local_initialised number initial) still
          (row-wider first after_first at behind initial.expressions low high row))))
      by-test false = typing-stops (ExpressionsBetween at behind) s (expressions_alone setting s.known one) 9 span.first

  pub item-laid : (names : List Seen) (is_type : Bool) (item : Item) → IsItem setting.source names is_type item
      → ((item_span item).first ≤ (item_span item).after)
      × ((said : Specified) (s : Standing) → IsClear s → Ends (LocalBetween (item_span item).first (item_span item).after) (typed_item setting said s item))
  unfolding IsItem
  item-laid names is_type (tree.plain span declarator) h =
      let shape = declarator-laid setting _ false declarator h.1 in
      let on = shape.0 in
      let begins = h.0 in
      let ends = h.3 in (
        omega (arith, begins, ends, on),
        λ said s clear. collecting-ends span.first span.after (LocalBetween span.first span.after) s _ _ clear
            (collects-wider (declarator_span declarator).first (declarator_span declarator).after span.first span.after s.known (typed_declarator setting s.known said.kind declarator)
            (omega (arith, begins)) (omega (arith, ends)) (typed-declarator-collects _ false s.known said.kind declarator h.1)) (λ t constants kind still row.
            let entry = entry_of setting t.known said.storage (name_at declarator) kind in
            with-ends span.first span.after span.after constants _ (omega arith) row
            (declarable-ends (ExpressionsBetween span.after span.after) said t false (declarator_span declarator).first (name_at declarator) entry _
            (ends-so (ExpressionsBetween span.after span.after) (declared_here t entry) (local_plain (number_here t entry) (defines_object said.storage entry.sort)) (declared-clear t entry still)
            (omega arith)))),
      )
  item-laid names is_type (tree.initialised span declarator one) h =
      let shape = declarator-laid setting _ false declarator h.1 in
      let value = initialiser-laid setting _ one h.5 in
      let on = shape.0 in
      let begins = h.0 in
      let some = value.0 in
      let mid = h.4 in
      let ends = h.6 in (
        omega (arith, begins, ends, on, some, mid),
        λ said s clear. collecting-ends span.first (declarator_span declarator).after (LocalBetween span.first span.after) s _ _ clear
            (collects-wider (declarator_span declarator).first (declarator_span declarator).after span.first (declarator_span declarator).after s.known (typed_declarator setting s.known said.kind declarator)
            (omega (arith, begins)) (omega arith) (typed-declarator-collects _ false s.known said.kind declarator h.1)) (λ t constants kind still row.
            let entry = entry_of setting t.known said.storage (name_at declarator) kind in
            with-ends span.first (declarator_span declarator).after span.after constants _ (omega (arith, ends, some, mid)) row
            (declarable-ends (ExpressionsBetween (declarator_span declarator).after span.after) said t true (declarator_span declarator).first (name_at declarator) entry _
            (initialised-ends (declarator_span declarator).after (initialiser_span one).first (initialiser_span one).after span.after (declared_here t entry) entry (number_here t entry) span
            (declarator_span declarator).first (name_at declarator) (kind_seen t entry) one (declared-clear t entry still) (omega (arith, mid)) (omega (arith, ends)) value.1))),
      )

  -- one before others
  first-ends : (at first after_first behind : ℕ) (said : Specified) (s : Standing) (item : Item) (items : List Item) → at ≤ first → IsClear s
      → ((s : Standing) → IsClear s → Ends (LocalBetween first after_first) (typed_item setting said s item))
      → ((s : Standing) → IsClear s → Ends (LocalsBetween after_first behind) (typed_items setting said s items))
      → Ends (LocalsBetween at behind) (typed_items setting said s (item ∷ items))
  first-ends at first after_first behind said s item items low clear h rest =
      further-ends (LocalBetween first after_first) (LocalsBetween at behind) (typed_item setting said s item) _ (h s clear) (λ t one still row.
      further-ends (LocalsBetween after_first behind) (LocalsBetween at behind) (typed_items setting said t items) _ (rest t still) (λ u others last more.
      ends-so (LocalsBetween at behind) u (one ∷ others) last (
        row-append at after_first behind one.constants (constants_of others) (row-wider first after_first at after_first one.constants low (omega arith) row.0) more.0,
        row-append at after_first behind one.expressions (expressions_of others) (row-wider first after_first at after_first one.expressions low (omega arith) row.1) more.1,
        append-apart one.constants (constants_of others) (one.expressions ++ expressions_of others)
            (apart-append one.constants one.expressions (expressions_of others) row.2 (row-apart first after_first behind one.constants (expressions_of others) row.0 more.1))
            (apart-append (constants_of others) one.expressions (expressions_of others) (row-apart-behind first after_first behind (constants_of others) one.expressions more.0 row.1) more.2),
      )))

  more-items-laid : (names : List Seen) (is_type : Bool) (at : ℕ) (items : List Item) → AreMoreItems setting.source names is_type at items
      → (at ≤ items_after at items) × ((said : Specified) (s : Standing) → IsClear s → Ends (LocalsBetween at (items_after at items)) (typed_items setting said s items))
  unfolding AreMoreItems
  more-items-laid names is_type at [] h = (omega arith, λ said s clear. ends-so (LocalsBetween at at) s [] clear (omega arith, omega arith, tt))
  more-items-laid names is_type at (item ∷ items) h =
      let one = item-laid _ is_type item h.2 in
      let rest = more-items-laid (item_declares setting.source is_type item ++ names) is_type (item_span item).after items h.3 in
      let on = one.0 in
      let goes = rest.0 in
      let begins = h.1 in (
        omega (arith, on, goes, begins),
        λ said s clear. first-ends at (item_span item).first (item_span item).after (items_after (item_span item).after items) said s item items (omega (arith, begins)) clear (one.1 said) (rest.1 said),
      )

  items-laid : (names : List Seen) (is_type : Bool) (at : ℕ) (items : List Item) → AreItems setting.source names is_type at items
      → (at ≤ items_after at items) × ((said : Specified) (s : Standing) → IsClear s → Ends (LocalsBetween at (items_after at items)) (typed_items setting said s items))
  unfolding AreItems
  items-laid names is_type at [] h = (omega arith, λ said s clear. ends-so (LocalsBetween at at) s [] clear (omega arith, omega arith, tt))
  items-laid names is_type at (item ∷ items) h =
      let one = item-laid _ is_type item h.1 in
      let rest = more-items-laid (item_declares setting.source is_type item ++ names) is_type (item_span item).after items h.2 in
      let on = one.0 in
      let goes = rest.0 in
      let begins = h.0 in (
        omega (arith, on, goes, begins),
        λ said s clear. first-ends at (item_span item).first (item_span item).after (items_after (item_span item).after items) said s item items (omega (arith, begins)) clear (one.1 said) (rest.1 said),
      )

-- ---- declarations

-- the two lists of trees stand in the tokens before the last one
abbrev pub DeclaredIn : Span → Declared → Type 0
DeclaredIn span one =
    (behind : ℕ) × (behind < span.after) × StandBetween span.first behind one.constants × StandBetween span.first behind (expressions_of one.locals)
    × AreApart one.constants (expressions_of one.locals)

take-front : (some more : List Tree) → take (length some) (some ++ more) ≡ some
take-front [] [] = refl
take-front [] (tree ∷ more) = refl
take-front (tree ∷ some) more = ap (λ list. tree ∷ list) (take-front some more)

drop-front : (some more : List Tree) → drop (length some) (some ++ more) ≡ more
drop-front [] [] = refl
drop-front [] (tree ∷ more) = refl
drop-front (tree ∷ some) more = drop-front some more

laid-append : (some more : List Tree) → all-laid some → all-laid more → all-laid (some ++ more)
laid-append [] more h g = g
laid-append (tree ∷ some) more h g = (h.0, laid-append some more h.1 g)

declaration-stands : (setting : Setting) (span : Span) (one : Declared) → span.first < span.after → DeclaredIn span one → Stands span (declaration_tree setting span one)
declaration-stands setting span one some row =
    let here = spans_at setting.source (extent span span) in
    let form = label.declare (length one.constants) (declarators_of one.locals) in
    let parts = one.constants ++ expressions_of one.locals in
    let ends = row.1 in
    let inside : (list : List Tree) → StandBetween span.first row.0 list → AreInside form here span.first list =
    λ list stands. subst (λ it. AreInside form here span.first it) (more-none list)
    (row-inside form here span.first span.first row.0 list [] (omega arith) (omega arith) (omega (arith, ends)) (omega (arith, ends)) stands (omega (arith, ends))) in
    let listed-parts = listed-trees parts in
    let front : take (length one.constants) (listed (trees parts)) ≡ one.constants = ap (λ list. take (length one.constants) list) listed-parts ∙ take-front one.constants (expressions_of one.locals) in
    let back : drop (length one.constants) (listed (trees parts)) ≡ expressions_of one.locals = ap (λ list. drop (length one.constants) list) listed-parts ∙ drop-front one.constants (expressions_of one.locals) in (
      (
        omega arith,
        some,
        omega arith,
        (
          subst (λ list. AreInside form here span.first list) (sym front) (inside one.constants row.2),
          (subst (λ list. AreInside form here span.first list) (sym back) (inside (expressions_of one.locals) row.3), tt),
        ),
        laid-trees parts (laid-append one.constants (expressions_of one.locals) (row-laid span.first row.0 one.constants row.2) (row-laid span.first row.0 (expressions_of one.locals) row.3)),
        subst (λ list. AreApart list (drop (length one.constants) (listed (trees parts)))) (sym front) (subst (λ list. AreApart one.constants list) (sym back) row.4),
      ),
      refl,
      refl,
    )

module _ (setting : Setting) where
  pub declaration-laid : (names : List Seen) (declaration : tree.Declaration) → IsDeclaration setting.source names declaration
      → ((declaration_span declaration).first < (declaration_span declaration).after)
      × ((s : Standing) → IsClear s → Ends (DeclaredIn (declaration_span declaration)) (typed_declaration setting s declaration))
  unfolding IsDeclaration
  declaration-laid names (tree.declaring span specifiers items) h =
      let words = specifiers-laid setting _ of_declaration false specifiers h.1 in
      let all = items-laid setting _ _ _ items h.2 in
      let some = words.0 in
      let on = all.0 in
      let begins = h.0 in
      let ends = h.4 in
      let mid = (specifiers_span specifiers).after in
      let last = items_after mid items in (
        omega (arith, begins, ends, some, on),
        λ s clear. collecting-ends (specifiers_span specifiers).first mid (DeclaredIn span) s _ _ clear
            (specified-collects setting _ of_declaration (is_alone specifiers items) s.known specifiers h.1) (λ t constants said still row.
            further-ends (LocalsBetween mid last) (DeclaredIn span) (typed_items setting said t items) _ (all.1 said t still) (λ u locals clear_again rows.
            keeps-ends (DeclaredIn span) _ 3 said.first _
            (ends-so (DeclaredIn span) u (record { constants = constants ++ constants_of locals; locals = locals }) clear_again (
              last,
              omega (arith, ends),
              row-append span.first mid last constants (constants_of locals) (row-wider (specifiers_span specifiers).first mid span.first mid constants (omega (arith, begins)) (omega arith) row) rows.0,
              row-wider mid last span.first last (expressions_of locals) (omega (arith, begins, some)) (omega arith) rows.1,
              append-apart constants (constants_of locals) (expressions_of locals) (row-apart (specifiers_span specifiers).first mid last constants (expressions_of locals) row rows.1) rows.2,
            )))),
      )

  pub declared-laid : (names : List Seen) (declaration : tree.Declaration) → IsDeclaration setting.source names declaration
      → ((declaration_span declaration).first < (declaration_span declaration).after)
      × ((s : Standing) → IsClear s → Ends (Stands (declaration_span declaration)) (declared_in setting s declaration))
  declared-laid names declaration is =
      let one = declaration-laid names declaration is in
      let some = one.0 in (
        some,
        λ s clear. further-ends (DeclaredIn (declaration_span declaration)) (Stands (declaration_span declaration)) (typed_declaration setting s declaration) _ (one.1 s clear)
            (λ t it still rows. ends-so (Stands (declaration_span declaration)) t _ still (declaration-stands setting (declaration_span declaration) it some rows)),
      )

-- ---- expressions in statements

abbrev pub RowIn : ℕ → ℕ → List Tree → Type 0
RowIn at behind list = StandBetween at behind list

module _ (setting : Setting) where
  value-yields : (expr : Expr) → Laid setting expr → (known : Known) → Yields (IsOf setting expr) known (typed_value setting known expr)
  value-yields expr one known =
      yields-with (IsOf setting expr) (IsOf setting expr) known (typed setting true known expr) _ (laid-typed setting expr one true known) (λ behind made h. of-value setting expr made h)

  condition-yields : (expr : Expr) → Laid setting expr → (known : Known) → Yields (Stands (expr_span expr)) known (typed_condition setting known expr)
  condition-yields expr one known =
      yields-after (IsOf setting expr) (Stands (expr_span expr)) known (typed_value setting known expr) _ (value-yields expr one known)
      (λ behind value h. yields-obeys (Stands (expr_span expr)) behind (is_scalar (kind_of value)) 32 (expr_span expr).first _
      (yields-so (Stands (expr_span expr)) behind value (of-stands setting expr value h)))

  optional-laid : (names : List Seen) (at : ℕ) (expr : Option Expr) → IsOptional setting.source names at expr
      → (at ≤ optional_after at expr) × ((known : Known) → Yields (RowIn at (optional_after at expr)) known (typed_optional setting known expr))
      × ((known : Known) → Yields (RowIn at (optional_after at expr)) known (typed_optional_condition setting known expr))
  optional-laid names at None h = (omega arith, λ known. yields-so (RowIn at at) known [] (omega arith), λ known. yields-so (RowIn at at) known [] (omega arith))
  optional-laid names at (Some expr) h =
      let one = expr-laid setting names expr h.1 in
      let some = laid-some setting expr one in
      let begins = h.0 in (
        omega (arith, some, begins),
        λ known. yields-with (IsOf setting expr) (RowIn at (expr_span expr).after) known (typed_value setting known expr) _ (value-yields expr one known)
            (λ behind value h. of-row setting expr value at (expr_span expr).after h (omega (arith, begins)) (omega arith)),
        λ known. yields-with (Stands (expr_span expr)) (RowIn at (expr_span expr).after) known (typed_condition setting known expr) _ (condition-yields expr one known)
            (λ behind value h. row-next (expr_span expr) at (expr_span expr).after value [] h (omega (arith, begins)) (omega arith)),
      )

  abbrev SubjectStands : Expr → Subject → Type 0
  SubjectStands expr one = Stands (expr_span expr) one.tree

  subject-yields : (expr : Expr) → Laid setting expr → (known : Known) → Yields (SubjectStands expr) known (typed_subject setting known expr)
  subject-yields expr one known =
      yields-after (IsOf setting expr) (SubjectStands expr) known (typed_value setting known expr) _ (value-yields expr one known)
      (λ behind value h. yields-if (SubjectStands expr) behind (integer_kind (kind_of value)) 32 (expr_span expr).first _
      (λ kind e. yields-so (SubjectStands expr) behind (subject value kind)
      (of-stands setting expr (as_kind (promote kind) value) (type-made setting.source (bare_span expr) (expr_span expr) (integer (promote kind)) value h))))

  abbrev CaseStands : Expr → CaseValue → Type 0
  CaseStands expr one = Stands (expr_span expr) one.tree

  case-yields : (expr : Expr) → Laid setting expr → (kind : Kind) (labels : List (Option ℤ)) (known : Known) → Yields (CaseStands expr) known (typed_case setting known kind labels expr)
  case-yields expr one kind labels known =
      yields-after (IsOf setting expr) (CaseStands expr) known (typed_value setting known expr) _ (value-yields expr one known)
      (λ behind value h. yields-if (CaseStands expr) behind (constant_of behind (as_kind kind value)) 30 (expr_span expr).first _
      (λ n e. yields-obeys (CaseStands expr) behind (not (is_label_among (Some n) labels)) 31 (expr_span expr).first _
      (yields-so (CaseStands expr) behind (record { tree = as_kind kind value; value = n })
      (of-stands setting expr (as_kind kind value) (type-made setting.source (bare_span expr) (expr_span expr) (integer kind) value h)))))

  full-stands : (span : Span) (behind : ℕ) (values : List Tree) → span.first < span.after → behind < span.after → StandBetween span.first behind values → Stands span (full_statement setting span values)
  full-stands span behind [] some ends row = stated setting span label.empty span.first behind [] refl (omega arith) (omega (arith, ends)) some (omega (arith, ends)) row
  full-stands span behind (value ∷ others) some ends row =
      stated setting span label.full span.first behind (value ∷ others) refl (omega arith) (omega (arith, ends)) some (omega (arith, ends)) row

  -- a value that is returned is converted
  returned-yields : (known : Known) (result : CType) (span : Span) → span.first < span.after → Yields (Stands span) known (returned setting known result span [])
  returned-yields known result span some =
      yields-obeys (Stands span) known (is_void result) 34 span.first _
      (yields-so (Stands span) known _ (stated setting span label.return span.after span.after [] refl (omega (arith, some)) (omega arith) some (omega (arith, some)) (omega arith)))

  return-yields : (names : List Seen) (known : Known) (result : CType) (span : Span) (expr : Option Expr) → IsOptional setting.source names (span.first + 1) expr
      → span.after ≡ optional_after (span.first + 1) expr + 1 → Yields (Stands span) known (typed_return setting known result span expr)
  return-yields names known result span None is ends = returned-yields known result span (omega (arith, ends))
  return-yields names known result span (Some expr) is ends =
      let one = expr-laid setting names expr is.1 in
      let some = laid-some setting expr one in
      let begins = is.0 in
      yields-after (λ (values : List Tree). (value : Tree) × (values ≡ value ∷ []) × IsOf setting expr value) (Stands span) known (typed_optional setting known (Some expr)) _
      (yields-with (IsOf setting expr) (λ (values : List Tree). (value : Tree) × (values ≡ value ∷ []) × IsOf setting expr value) known (typed_value setting known expr) _ (value-yields expr one known)
      (λ behind value h. (value, refl, h)))
      (λ behind values h. subst (λ list. Yields (Stands span) behind (returned setting behind result span list)) (sym h.1)
      (yields-obeys (Stands span) behind (is_assignable behind h.0 result) 34 span.first _
      (yields-so (Stands span) behind _
      (stated setting span label.return (span.first + 1) (expr_span expr).after (as_type result h.0 ∷ []) refl (omega arith) (omega (arith, ends)) (omega (arith, ends, some, begins)) (omega (arith, ends))
      (of-row setting expr (as_type result h.0) (span.first + 1) (expr_span expr).after (type-made setting.source (bare_span expr) (expr_span expr) result h.0 h.2) (omega (arith, begins)) (omega arith))))))

-- ---- the syntax

abbrev RowOf : ℕ → ℕ → AllLabelled → Type 0
RowOf at behind all = StandBetween at behind all.trees

abbrev LabelledStands : Span → Labelled → Type 0
LabelledStands span one = Stands span one.tree

module _ (setting : Setting) where
  start-laid : (names : List Seen) (at : ℕ) (start : ForStart) → IsStart setting.source names at start
      → (at < start_after at start) × ((s : Standing) → IsClear s → Ends (RowIn at (start_after at start)) (typed_start setting s start))
  unfolding IsStart
  start-laid names at (tree.declares declaration) h =
      let one = declared-laid setting _ declaration h.1 in
      let some = one.0 in
      let begins = h.0 in
      let behind = (declaration_span declaration).after in (
        omega (arith, some, begins),
        λ s clear. further-ends (Stands (declaration_span declaration)) (RowIn at behind) (declared_in setting s declaration) _ (one.1 s clear)
            (λ t made still g. ends-so (RowIn at behind) t (made ∷ []) still (row-next (declaration_span declaration) at behind made [] g (omega (arith, begins)) (omega arith))),
      )
  start-laid names at (tree.evaluates expr) h =
      let one = optional-laid setting names at expr h.0 in
      let on = one.0 in
      let behind = optional_after at expr + 1 in (
        omega (arith, on),
        λ s clear. typing-ends (RowIn at (optional_after at expr)) (RowIn at behind) s (typed_optional setting s.known expr) _ clear (one.1 s.known)
            (λ t values still row. ends-so (RowIn at behind) t values still (row-wider at (optional_after at expr) at behind values (omega arith) (omega arith) row)),
      )

  mutual
    unfolding typed_stmt typed_items_in typed_item_in typed_switch_items typed_switch_item IsStmt AreBlockItems IsBlockItem AreSwitchItems IsSwitchItem

    pub stmt-laid : (names : List Seen) (stmt : Stmt) → IsStmt setting.source names stmt
        → ((stmt_span stmt).first < (stmt_span stmt).after)
        × ((within : Within) (s : Standing) → IsClear s → Ends (Stands (stmt_span stmt)) (typed_stmt setting within s stmt))
    -- 6.8.2
    stmt-laid names (tree.block span items) h =
        let all = block-laid _ _ items _ h.1.1 in
        let on = all.0 in
        let ends = h.2 in
        let last = block_items_after (span.first + 1) items in
        let some : span.first < span.after = omega (arith, ends, on) in (
          some,
          λ within s clear. scope-ends (Stands span) s (λ inside. further (typed_items_in setting within inside items) (λ behind trees. goes_on behind (statement setting span label.block trees))) clear (λ inside still.
              further-ends (RowIn (span.first + 1) last) (Stands span) (typed_items_in setting within inside items) _ (all.1 within inside still) (λ t trees clear_again row.
              ends-so (Stands span) t (statement setting span label.block trees) clear_again (stated setting span label.block (span.first + 1) last trees refl (omega arith) (omega (arith, ends)) some (omega (arith, ends)) row))),
        )
    -- 6.8.3
    stmt-laid names (tree.expression span expr) h =
        let one = optional-laid setting names span.first expr h.0 in
        let on = one.0 in
        let ends = h.2 in
        let some : span.first < span.after = omega (arith, ends, on) in (
          some,
          λ within s clear. typing-ends (RowIn span.first (optional_after span.first expr)) (Stands span) s (typed_optional setting s.known expr) _ clear (one.1 s.known)
              (λ t values still row. ends-so (Stands span) t _ still (full-stands setting span (optional_after span.first expr) values some (omega (arith, ends)) row)),
        )
    -- 6.8.4
    stmt-laid names (tree.if_only span condition body) h =
        let value = expr-laid setting _ condition h.1.2 in
        let part = stmt-laid _ body h.3 in
        let more = laid-some setting condition value in
        let most = part.0 in
        let begins = h.1.1 in
        let mid = h.2 in
        let ends = h.5 in
        let some : span.first < span.after = omega (arith, begins, mid, ends, more, most) in (
          some,
          λ within s clear. scope-ends (Stands span) s (λ inside. typing inside (typed_condition setting inside.known condition) (λ then_inside value.
              further (in_scope then_inside (λ part. typed_stmt setting within part body)) (λ behind made. goes_on behind (statement setting span label.if_statement (value ∷ made ∷ []))))) clear (λ inside still.
              typing-ends (Stands (expr_span condition)) (Stands span) inside (typed_condition setting inside.known condition) _ still (condition-yields setting condition value inside.known) (λ t one clear_one x.
              further-ends (Stands (stmt_span body)) (Stands span) _ _ (scope-ends (Stands (stmt_span body)) t (λ u. typed_stmt setting within u body) clear_one (λ u here. part.1 within u here)) (λ u made clear_two y.
              ends-so (Stands span) u (statement setting span label.if_statement (one ∷ made ∷ [])) clear_two
              (stated setting span label.if_statement (span.first + 1) span.after (one ∷ made ∷ []) refl (omega arith) (omega arith) some (omega arith)
              (row-next (expr_span condition) (span.first + 1) span.after one (made ∷ []) x (omega (arith, begins))
              (row-next (stmt_span body) (expr_span condition).after span.after made [] y (omega (arith, mid)) (omega (arith, ends)))))))),
        )
    stmt-laid names (tree.if_else span condition body other) h =
        let value = expr-laid setting _ condition h.1.2 in
        let part = stmt-laid _ body h.3 in
        let another = stmt-laid _ other h.6 in
        let more = laid-some setting condition value in
        let most = part.0 in
        let last = another.0 in
        let begins = h.1.1 in
        let mid = h.2 in
        let then_mid = h.5 in
        let ends = h.7 in
        let some : span.first < span.after = omega (arith, begins, mid, then_mid, ends, more, most, last) in (
          some,
          λ within s clear. scope-ends (Stands span) s (λ inside. typing inside (typed_condition setting inside.known condition) (λ then_inside value.
              further (in_scope then_inside (λ part. typed_stmt setting within part body)) (λ then_more first. further (in_scope then_more (λ part. typed_stmt setting within part other))
              (λ behind second. goes_on behind (statement setting span label.if_statement (value ∷ first ∷ second ∷ [])))))) clear (λ inside still.
              typing-ends (Stands (expr_span condition)) (Stands span) inside (typed_condition setting inside.known condition) _ still (condition-yields setting condition value inside.known) (λ t one clear_one x.
              further-ends (Stands (stmt_span body)) (Stands span) _ _ (scope-ends (Stands (stmt_span body)) t (λ u. typed_stmt setting within u body) clear_one (λ u here. part.1 within u here)) (λ u made clear_two y.
              further-ends (Stands (stmt_span other)) (Stands span) _ _ (scope-ends (Stands (stmt_span other)) u (λ v. typed_stmt setting within v other) clear_two (λ v here. another.1 within v here)) (λ v second clear_three z.
              ends-so (Stands span) v (statement setting span label.if_statement (one ∷ made ∷ second ∷ [])) clear_three
              (stated setting span label.if_statement (span.first + 1) span.after (one ∷ made ∷ second ∷ []) refl (omega arith) (omega arith) some (omega arith)
              (row-next (expr_span condition) (span.first + 1) span.after one (made ∷ second ∷ []) x (omega (arith, begins))
              (row-next (stmt_span body) (expr_span condition).after span.after made (second ∷ []) y (omega (arith, mid))
              (row-next (stmt_span other) (stmt_span body).after span.after second [] z (omega (arith, then_mid)) (omega (arith, ends)))))))))),
        )
    stmt-laid names (tree.switch span operand items) h =
        let value = expr-laid setting _ operand h.1.2 in
        let all = switch-laid _ _ items _ h.3.1 in
        let more = laid-some setting operand value in
        let on = all.0 in
        let begins = h.1.1 in
        let ends = h.4 in
        let last = switch_items_after ((expr_span operand).after + 2) items in
        let some : span.first < span.after = omega (arith, begins, ends, more, on) in (
          some,
          λ within s clear. scope-ends (Stands span) s (λ inside. typing inside (typed_subject setting inside.known operand) (λ then_inside one.
              further (in_scope then_inside (λ part. typed_switch_items setting (in_switch within) one.kind part [] items))
              (λ behind made. goes_on behind (statement setting span label.switch (one.tree ∷ made.trees))))) clear (λ inside still.
              typing-ends (SubjectStands setting operand) (Stands span) inside (typed_subject setting inside.known operand) _ still (subject-yields setting operand value inside.known) (λ t one clear_one x.
              further-ends (RowOf ((expr_span operand).after + 2) last) (Stands span) _ _
              (scope-ends (RowOf ((expr_span operand).after + 2) last) t (λ u. typed_switch_items setting (in_switch within) one.kind u [] items) clear_one (λ u here. all.1 (in_switch within) one.kind u [] here)) (λ u made clear_two row.
              ends-so (Stands span) u (statement setting span label.switch (one.tree ∷ made.trees)) clear_two
              (stated setting span label.switch (span.first + 1) span.after (one.tree ∷ made.trees) refl (omega arith) (omega arith) some (omega arith)
              (row-next (expr_span operand) (span.first + 1) span.after one.tree made.trees x (omega (arith, begins))
              (row-wider ((expr_span operand).after + 2) last (expr_span operand).after span.after made.trees (omega arith) (omega (arith, ends)) row)))))),
        )
    -- 6.8.5
    stmt-laid names (tree.while span condition body) h =
        let value = expr-laid setting _ condition h.1.2 in
        let part = stmt-laid _ body h.3 in
        let more = laid-some setting condition value in
        let most = part.0 in
        let begins = h.1.1 in
        let mid = h.2 in
        let ends = h.4 in
        let some : span.first < span.after = omega (arith, begins, mid, ends, more, most) in (
          some,
          λ within s clear. scope-ends (Stands span) s (λ inside. typing inside (typed_condition setting inside.known condition) (λ then_inside value.
              further (in_scope then_inside (λ part. typed_stmt setting (in_loop within) part body)) (λ behind made. goes_on behind (statement setting span label.while_loop (value ∷ made ∷ []))))) clear (λ inside still.
              typing-ends (Stands (expr_span condition)) (Stands span) inside (typed_condition setting inside.known condition) _ still (condition-yields setting condition value inside.known) (λ t one clear_one x.
              further-ends (Stands (stmt_span body)) (Stands span) _ _ (scope-ends (Stands (stmt_span body)) t (λ u. typed_stmt setting (in_loop within) u body) clear_one (λ u here. part.1 (in_loop within) u here)) (λ u made clear_two y.
              ends-so (Stands span) u (statement setting span label.while_loop (one ∷ made ∷ [])) clear_two
              (stated setting span label.while_loop (span.first + 1) span.after (one ∷ made ∷ []) refl (omega arith) (omega arith) some (omega arith)
              (row-next (expr_span condition) (span.first + 1) span.after one (made ∷ []) x (omega (arith, begins))
              (row-next (stmt_span body) (expr_span condition).after span.after made [] y (omega (arith, mid)) (omega (arith, ends)))))))),
        )
    stmt-laid names (tree.do_while span body condition) h =
        let part = stmt-laid _ body h.2 in
        let value = expr-laid setting _ condition h.4.2 in
        let more = laid-some setting condition value in
        let most = part.0 in
        let begins = h.1 in
        let mid = h.4.1 in
        let ends = h.6 in
        let some : span.first < span.after = omega (arith, begins, mid, ends, more, most) in (
          some,
          λ within s clear. scope-ends (Stands span) s (λ inside. further (in_scope inside (λ part. typed_stmt setting (in_loop within) part body)) (λ then_inside made.
              typing then_inside (typed_condition setting then_inside.known condition) (λ behind value. goes_on behind (statement setting span label.do_loop (made ∷ value ∷ []))))) clear (λ inside still.
              further-ends (Stands (stmt_span body)) (Stands span) _ _ (scope-ends (Stands (stmt_span body)) inside (λ u. typed_stmt setting (in_loop within) u body) still (λ u here. part.1 (in_loop within) u here)) (λ t made clear_one y.
              typing-ends (Stands (expr_span condition)) (Stands span) t (typed_condition setting t.known condition) _ clear_one (condition-yields setting condition value t.known) (λ u one clear_two x.
              ends-so (Stands span) u (statement setting span label.do_loop (made ∷ one ∷ [])) clear_two
              (stated setting span label.do_loop (span.first + 1) span.after (made ∷ one ∷ []) refl (omega arith) (omega arith) some (omega arith)
              (row-next (stmt_span body) (span.first + 1) span.after made (one ∷ []) y (omega (arith, begins))
              (row-next (expr_span condition) (stmt_span body).after span.after one [] x (omega (arith, mid)) (omega (arith, ends)))))))),
        )
    stmt-laid names (tree.for_loop span start condition step body) h =
        let first = start-laid _ (span.first + 2) start h.2 in
        let one = start_after (span.first + 2) start in
        let second = optional-laid setting _ one condition h.3 in
        let two = optional_after one condition in
        let third = optional-laid setting _ (two + 1) step h.5 in
        let three = optional_after (two + 1) step in
        let part = stmt-laid _ body h.8 in
        let a = first.0 in
        let b = second.0 in
        let c = third.0 in
        let d = part.0 in
        let mid = h.7 in
        let ends = h.9 in
        let some : span.first < span.after = omega (arith, a, b, c, d, mid, ends) in (
          some,
          λ within s clear. scope-ends (Stands span) s (λ inside. further (typed_start setting inside start) (λ then_inside first. typing then_inside (typed_optional_condition setting then_inside.known condition) (λ then_more second.
              typing then_more (typed_optional setting then_more.known step) (λ then_all third. further (in_scope then_all (λ part. typed_stmt setting (in_loop within) part body))
              (λ behind made. goes_on behind (for_statement setting span first second third made)))))) clear (λ inside still.
              further-ends (RowIn (span.first + 2) one) (Stands span) (typed_start setting inside start) _ (first.1 inside still) (λ t x clear_one row_one.
              typing-ends (RowIn one two) (Stands span) t (typed_optional_condition setting t.known condition) _ clear_one (second.2 t.known) (λ u y clear_two row_two.
              typing-ends (RowIn (two + 1) three) (Stands span) u (typed_optional setting u.known step) _ clear_two (third.1 u.known) (λ v z clear_three row_three.
              further-ends (Stands (stmt_span body)) (Stands span) _ _ (scope-ends (Stands (stmt_span body)) v (λ w. typed_stmt setting (in_loop within) w body) clear_three (λ w here. part.1 (in_loop within) w here)) (λ w made clear_four stands.
              ends-so (Stands span) w (statement setting span (label.for_loop (is_there x) (is_there y) (is_there z)) (x ++ (y ++ (z ++ made ∷ [])))) clear_four
              (stated setting span (label.for_loop (is_there x) (is_there y) (is_there z)) (span.first + 2) span.after (x ++ (y ++ (z ++ made ∷ []))) refl (omega arith) (omega arith) some (omega arith)
              (row-append (span.first + 2) one span.after x (y ++ (z ++ made ∷ [])) row_one
              (row-append one two span.after y (z ++ made ∷ []) row_two
              (row-append two three span.after z (made ∷ []) (row-wider (two + 1) three two three z (omega arith) (omega arith) row_three)
              (row-next (stmt_span body) three span.after made [] stands (omega (arith, mid)) (omega (arith, ends)))))))))))),
        )
    -- 6.8.6
    stmt-laid names (tree.break span) h =
        let ends = h.2 in
        let some : span.first < span.after = omega (arith, ends) in (
          some,
          λ within s clear. keeps-ends (Stands span) within.breaks 33 span.first _
              (ends-so (Stands span) s _ clear (stated setting span label.break span.after span.after [] refl (omega (arith, some)) (omega arith) some (omega (arith, some)) (omega arith))),
        )
    stmt-laid names (tree.continue span) h =
        let ends = h.2 in
        let some : span.first < span.after = omega (arith, ends) in (
          some,
          λ within s clear. keeps-ends (Stands span) within.continues 33 span.first _
              (ends-so (Stands span) s _ clear (stated setting span label.continue span.after span.after [] refl (omega (arith, some)) (omega arith) some (omega (arith, some)) (omega arith))),
        )
    stmt-laid names (tree.return span expr) h =
        let one = optional-laid setting names (span.first + 1) expr h.1 in
        let on = one.0 in
        let ends = h.3 in (
          omega (arith, ends, on),
          λ within s clear. typing-ends (Stands span) (Stands span) s (typed_return setting s.known within.result span expr) _ clear
              (return-yields setting names s.known within.result span expr h.1 h.3) (λ t made still g. ends-so (Stands span) t made still g),
        )

    pub block-laid : (names : List Seen) (at : ℕ) (items : BlockItems) (behind : List Seen) → AreBlockItems setting.source names at items behind
        → (at ≤ block_items_after at items) × ((within : Within) (s : Standing) → IsClear s → Ends (RowIn at (block_items_after at items)) (typed_items_in setting within s items))
    block-laid names at tree.no_items behind h = (omega arith, λ within s clear. ends-so (RowIn at at) s [] clear (omega arith))
    block-laid names at (tree.more_items first others) behind h =
        let one = item-in-laid _ first h.1 in
        let rest = block-laid _ _ others behind h.2 in
        let some = one.0 in
        let on = rest.0 in
        let begins = h.0 in
        let last = block_items_after (block_item_span first).after others in (
          omega (arith, begins, some, on),
          λ within s clear. further-ends (Stands (block_item_span first)) (RowIn at last) (typed_item_in setting within s first) _ (one.1 within s clear) (λ t made still x.
              further-ends (RowIn (block_item_span first).after last) (RowIn at last) (typed_items_in setting within t others) _ (rest.1 within t still) (λ u more clear_again row.
              ends-so (RowIn at last) u (made ∷ more) clear_again (row-next (block_item_span first) at last made more x (omega (arith, begins)) row))),
        )

    item-in-laid : (names : List Seen) (item : BlockItem) → IsBlockItem setting.source names item
        → ((block_item_span item).first < (block_item_span item).after)
        × ((within : Within) (s : Standing) → IsClear s → Ends (Stands (block_item_span item)) (typed_item_in setting within s item))
    item-in-laid names (tree.declared_item declaration) h = let one = declared-laid setting names declaration h in (one.0, λ within s clear. one.1 s clear)
    item-in-laid names (tree.stated_item stmt) h = stmt-laid names stmt h

    -- 6.8.4.2
    switch-laid : (names : List Seen) (at : ℕ) (items : SwitchItems) (behind : List Seen) → AreSwitchItems setting.source names at items behind
        → (at ≤ switch_items_after at items)
        × ((within : Within) (kind : Kind) (s : Standing) (labels : List (Option ℤ)) → IsClear s
        → Ends (RowOf at (switch_items_after at items)) (typed_switch_items setting within kind s labels items))
    switch-laid names at tree.no_switch_items behind h =
        (omega arith, λ within kind s labels clear. ends-so (RowOf at at) s (record { trees = []; labels = labels }) clear (omega arith))
    switch-laid names at (tree.more_switch_items first others) behind h =
        let one = switched-laid _ first h.1 in
        let rest = switch-laid _ _ others behind h.2 in
        let some = one.0 in
        let on = rest.0 in
        let begins = h.0 in
        let last = switch_items_after (switch_item_span first).after others in (
          omega (arith, begins, some, on),
          λ within kind s labels clear.
              further-ends (LabelledStands (switch_item_span first)) (RowOf at last) (typed_switch_item setting within kind s labels first) _ (one.1 within kind s labels clear) (λ t made still x.
              further-ends (RowOf (switch_item_span first).after last) (RowOf at last) (typed_switch_items setting within kind t made.labels others) _ (rest.1 within kind t made.labels still)
              (λ u more clear_again row. ends-so (RowOf at last) u (record { trees = made.tree ∷ more.trees; labels = more.labels }) clear_again
              (row-next (switch_item_span first) at last made.tree more.trees x (omega (arith, begins)) row))),
        )

    -- 6.8.1
    switched-laid : (names : List Seen) (item : SwitchItem) → IsSwitchItem setting.source names item
        → ((switch_item_span item).first < (switch_item_span item).after)
        × ((within : Within) (kind : Kind) (s : Standing) (labels : List (Option ℤ)) → IsClear s
        → Ends (LabelledStands (switch_item_span item)) (typed_switch_item setting within kind s labels item))
    switched-laid names (tree.case span expr item) h =
        let value = expr-laid setting _ expr h.2 in
        let part = switched-laid _ item h.6 in
        let more = laid-some setting expr value in
        let most = part.0 in
        let begins = h.1 in
        let mid = h.5 in
        let ends = h.7 in
        let some : span.first < span.after = omega (arith, begins, mid, ends, more, most) in (
          some,
          λ within kind s labels clear.
              typing-ends (CaseStands setting expr) (LabelledStands span) s (typed_case setting s.known kind labels expr) _ clear (case-yields setting expr value kind labels s.known) (λ t one still x.
              further-ends (LabelledStands (switch_item_span item)) (LabelledStands span) (typed_switch_item setting within kind t (Some one.value ∷ labels) item) _
              (part.1 within kind t (Some one.value ∷ labels) still) (λ u made clear_again y.
              ends-so (LabelledStands span) u _ clear_again
              (stated setting span label.case (span.first + 1) span.after (one.tree ∷ made.tree ∷ []) refl (omega arith) (omega arith) some (omega arith)
              (row-next (expr_span expr) (span.first + 1) span.after one.tree (made.tree ∷ []) x (omega (arith, begins))
              (row-next (switch_item_span item) (expr_span expr).after span.after made.tree [] y (omega (arith, mid)) (omega (arith, ends))))))),
        )
    switched-laid names (tree.default span item) h =
        let part = switched-laid _ item h.3 in
        let most = part.0 in
        let begins = h.2 in
        let ends = h.4 in
        let some : span.first < span.after = omega (arith, begins, ends, most) in (
          some,
          λ within kind s labels clear. keeps-ends (LabelledStands span) (not (is_label_among None labels)) 31 span.first _
              (further-ends (LabelledStands (switch_item_span item)) (LabelledStands span) (typed_switch_item setting within kind s (None ∷ labels) item) _ (part.1 within kind s (None ∷ labels) clear)
              (λ u made clear_again y. ends-so (LabelledStands span) u _ clear_again
              (stated setting span label.default (span.first + 1) span.after (made.tree ∷ []) refl (omega arith) (omega arith) some (omega arith)
              (row-next (switch_item_span item) (span.first + 1) span.after made.tree [] y (omega (arith, begins)) (omega (arith, ends)))))),
        )
    switched-laid names (tree.unlabelled span stmt) h =
        let part = stmt-laid _ stmt h.1 in
        let most = part.0 in
        let begins = h.0 in
        let ends = h.2 in (
          omega (arith, begins, ends, most),
          λ within kind s labels clear. further-ends (Stands (stmt_span stmt)) (LabelledStands span) (typed_stmt setting within s stmt) _ (part.1 within s clear)
              (λ u made clear_again y. ends-so (LabelledStands span) u (record { tree = made; labels = labels }) clear_again (y.0, y.1 ∙ begins, y.2 ∙ sym ends)),
        )

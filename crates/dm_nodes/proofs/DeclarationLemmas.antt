-- The nodes of initialisers and of declarations stand where those of the syntax do.
use Rattle.std.specs.Prelude.{◌≡◌, ℕ, ◌+◌, Bool, true, false, ◌||◌, not, if◌then◌else◌, List, [], ◌∷◌, Option, Some, None}
use Rattle.std.proofs.Common.{sym, subst}
use Rattle.dm_token.specs.declared.place.Span.{Span}
use Rattle.dm_type.specs.CTypes.{CType}
use Rattle.dm_syn.specs.Spans.{expr_span, declarator_span}
use Rattle.dm_syn.specs.Trees.{Expr, Specifiers, Declarator, Initialiser, Initialisers, Item}
use Rattle.dm_syn.specs.Trees as tree
use Rattle.dm_tree.specs.Initialisers.{is_fixed}
use Rattle.dm_tree.specs.Scenes.{is_scalar, part_type}
use Rattle.dm_tree.specs.Trees.{Spans, Tree}
use Rattle.dm_tree.specs.Units.{Declaration}
use Rattle.dm_typing.specs.Known.{Known, Setting, Outcome, given, broken, obeys}
use Rattle.dm_typing.specs.Conversions.{as_value, is_complete}
use Rattle.dm_typing.specs.Rules.{is_assignable}
use Rattle.dm_typing.specs.Specifiers.{nothing_said, Where, of_declaration}
use Rattle.dm_typing.specs.Typing.{typed, words_said, typed_said, steps_of}
use Rattle.dm_edecl.specs.Standing.{Standing, Progress, goes_on, stops, knowing, further, typing, collecting, keeps}
use Rattle.dm_edecl.specs.Linkages.{entry_of, may_be_declared, naming, number_before, declared_here, function_here, number_here, kind_seen}
use Rattle.dm_edecl.specs.Initialising.{Initial, Initials, single, is_static_value, has_value, scalar_initialised, is_string_for, initialised_by, First, zero_initialised, first_scalar, completed, expressions_alone, all_expressions_alone, misplaced, scalar_in_braces, is_zero_list, all_zero, if_part, typed_initialiser, typed_initialisers}
use Rattle.dm_edecl.specs.Declaring.{Specified, specified, is_alone, typed_declarator, name_at, is_misplaced_static, may_be_object, may_be_main, declarable, Local, may_be_initialised, may_define, object_defined, initialised, item_plain, item_initialised, item_with, typed_item, typed_items, Declared, constants_of, expressions_of, may_be_inline, typed_declaration}
use Rattle.dm_nodes.specs.Syntax.{in_specifiers, in_declarator, in_initialiser, in_initialisers, in_item, in_items, in_declaration}
use Rattle.dm_nodes.proofs.FormLemmas.{Each, EachOf, Good, Yields, Any, after-yields, with-yields, obeys-yields, if-yields, value-each, type-each}
use Rattle.dm_nodes.proofs.ExpressionLemmas.{At, at-front, at-back, each-append, Keeps, expr-yields, words-keep, said-keeps, declarator-keeps, derived-keeps}

module _ (P : Spans → Type 0) (setting : Setting) where
  -- ---- what is known behind a declaration

  -- no trees of lengths or enumerator values are collected there
  abbrev pub Bare : Standing → Type 0
  Bare standing = standing.known.constants ≡ []

  pub bare-good : (standing : Standing) → Bare standing → Good P standing.known
  bare-good standing bare = subst (EachOf P) (sym bare) tt

  -- something typed is so, and none are collected behind it
  abbrev pub Comes : {A : Type 0} → (A → Type 0) → Progress A → Type 0
  Comes Q (goes_on behind it) = Bare behind × Q it
  Comes Q (stops rule at) = Unit {0}

  pub further-comes : {A B : Type 0} (Q : A → Type 0) (R : B → Type 0) (one : Progress A) (next : Standing → A → Progress B) → Comes Q one
      → ((behind : Standing) (it : A) → Bare behind → Q it → Comes R (next behind it)) → Comes R (further one next)
  further-comes Q R (goes_on behind it) next h step = step behind it h.0 h.1
  further-comes Q R (stops rule at) next h step = tt

  pub typing-comes : {A B : Type 0} (Q : A → Type 0) (R : B → Type 0) (standing : Standing) (one : Outcome A) (next : Standing → A → Progress B) → Bare standing → Yields P Q one
      → ((behind : Standing) (it : A) → Bare behind → Q it → Comes R (next behind it)) → Comes R (typing standing one next)
  typing-comes Q R standing (given known it) next good h step = step (knowing standing known) it good h.1
  typing-comes Q R standing (broken rule at) next good h step = tt

  pub collecting-comes : {A B : Type 0} (Q : A → Type 0) (R : B → Type 0) (standing : Standing) (one : Outcome A) (next : Standing → List Tree → A → Progress B) → Bare standing → Yields P Q one
      → ((behind : Standing) (constants : List Tree) (it : A) → Bare behind → EachOf P constants → Q it → Comes R (next behind constants it)) → Comes R (collecting standing one next)
  collecting-comes Q R standing (given known it) next good h step = step (knowing standing known) known.constants it good h.0 h.1
  collecting-comes Q R standing (broken rule at) next good h step = tt

  pub keeps-comes : {A : Type 0} (Q : A → Type 0) (test : Bool) (rule at : ℕ) (next : Progress A) → Comes Q next → Comes Q (keeps test rule at next)
  keeps-comes Q true rule at next h = h
  keeps-comes Q false rule at next h = tt

  naming-bare : (known : Known) (kind : CType) (entry : Declaration) (number : Option ℕ) → known.constants ≡ [] → (naming known kind entry number).constants ≡ []
  naming-bare known kind entry None good = good
  naming-bare known kind entry (Some number) good = good

  pub here-bare : (standing : Standing) (entry : Declaration) → Bare standing → Bare (declared_here standing entry)
  here-bare standing entry good = naming-bare standing.known (kind_seen standing entry) entry (number_before standing entry) good

  pub function-bare : (standing : Standing) (entry : Declaration) → Bare standing → Bare (function_here standing entry)
  function-bare standing entry good = naming-bare standing.known (kind_seen standing entry) entry (number_before standing entry) good

  -- ---- initialisers (6.7.9)

  abbrev EachInitial : Initial → Type 0
  EachInitial it = EachOf P it.expressions

  abbrev EachInitials : Initials → Type 0
  EachInitials it = EachOf P it.expressions

  scalar-yields : (known : Known) (fixed : Bool) (type : CType) (here : ℕ) (value : Tree) → Good P known → Each P value → Yields P EachInitial (scalar_initialised known fixed type here value)
  scalar-yields known fixed type here value good h =
      obeys-yields P EachInitial (not fixed || is_static_value known value) 8 here _
      (obeys-yields P EachInitial (is_assignable known value type) 28 here _
      (obeys-yields P EachInitial (not fixed || has_value known value) 30 here _ (good, (type-each P type value h, tt))))

  by-yields : (known : Known) (fixed : Bool) (type : CType) (here : ℕ) (expr : Expr) (value : Tree) → Good P known → Each P value → Yields P EachInitial (initialised_by setting known fixed type here expr value)
  by-yields known fixed type here expr value good h = by (is_scalar type)
    where
      by : (b : Bool) → Yields P EachInitial (if b then scalar_initialised known fixed type here (as_value value)
          else obeys (is_string_for setting expr type) 8 here (given known (single value)))
      by true = scalar-yields known fixed type here (as_value value) good (value-each P value h)
      by false = obeys-yields P EachInitial (is_string_for setting expr type) 8 here _ (good, (h, tt))

  zero-yields : (known : Known) (fixed : Bool) (first : First) (here : ℕ) (value : Tree) → Good P known → Each P value → Yields P EachInitial (zero_initialised known fixed first here value)
  zero-yields known fixed first here value good h =
      after-yields P EachInitial EachInitial (scalar_initialised known fixed first.kind here value) _ (scalar-yields known fixed first.kind here value good h) (λ behind initial still each. (still, each))

  mutual
    unfolding expressions_alone all_expressions_alone

    alone-yields : (known : Known) (initialiser : Initialiser) → At P setting (in_initialiser initialiser) → Good P known → Yields P (EachOf P) (expressions_alone setting known initialiser)
    alone-yields known (tree.value span expr) at good =
        after-yields P (Each P) (EachOf P) (typed setting true known expr) _ (expr-yields P setting true known (expr_span expr) expr at good)
        (λ behind made still one. (still, (value-each P made one, tt)))
    alone-yields known (tree.braces span items trailing) at good = all-alone-yields known items at good

    all-alone-yields : (known : Known) (items : Initialisers) → At P setting (in_initialisers items) → Good P known → Yields P (EachOf P) (all_expressions_alone setting known items)
    all-alone-yields known tree.no_initialisers at good = (good, tt)
    all-alone-yields known (tree.more_initialisers first others) at good =
        after-yields P (EachOf P) (EachOf P) (expressions_alone setting known first) _ (alone-yields known first (at-front P setting (in_initialiser first) (in_initialisers others) at) good)
        (λ then_known made now one. after-yields P (EachOf P) (EachOf P) (all_expressions_alone setting then_known others) _
        (all-alone-yields then_known others (at-back P setting (in_initialiser first) (in_initialisers others) at) now)
        (λ behind more still each. (still, each-append P setting made more one each)))

  misplaced-yields : (known : Known) (span : Span) (items : Initialisers) → At P setting (in_initialisers items) → Good P known → Yields P EachInitial (misplaced setting known span items)
  misplaced-yields known span items at good =
      after-yields P (EachOf P) EachInitial (all_expressions_alone setting known items) _ (all-alone-yields known items at good) (λ behind trees still each. tt)

  braced-yields : (fixed : Bool) (known : Known) (type : CType) (span : Span) (items : Initialisers) → At P setting (in_initialisers items) → Good P known → Yields P EachInitial (scalar_in_braces setting fixed known type span items)
  braced-yields fixed known type span (tree.more_initialisers (tree.value here expr) tree.no_initialisers) at good =
      after-yields P (Each P) EachInitial (typed setting true known expr) _ (expr-yields P setting true known (expr_span expr) expr (at-front P setting (in_initialiser (tree.value here expr)) [] at) good)
      (λ behind made still one. scalar-yields behind fixed type here.first (as_value made) still (value-each P made one))
  braced-yields fixed known type span tree.no_initialisers at good = misplaced-yields known span tree.no_initialisers at good
  braced-yields fixed known type span (tree.more_initialisers (tree.braces here items trailing) others) at good =
      misplaced-yields known span (tree.more_initialisers (tree.braces here items trailing) others) at good
  braced-yields fixed known type span (tree.more_initialisers (tree.value here expr) (tree.more_initialisers second others)) at good =
      misplaced-yields known span (tree.more_initialisers (tree.value here expr) (tree.more_initialisers second others)) at good

  zero-list-yields : (fixed : Bool) (known : Known) (type : CType) (span : Span) (items : Initialisers) → At P setting (in_initialisers items) → Good P known → Yields P EachInitial (all_zero setting fixed known type span items)
  zero-list-yields fixed known type span (tree.more_initialisers (tree.value here expr) tree.no_initialisers) at good =
      after-yields P (Each P) EachInitial (typed setting true known expr) _ (expr-yields P setting true known (expr_span expr) expr (at-front P setting (in_initialiser (tree.value here expr)) [] at) good)
      (λ behind made still one. if-yields P EachInitial (first_scalar known.types type) 8 span.first _ (λ first e. zero-yields behind fixed first here.first (as_value made) still (value-each P made one)))
  zero-list-yields fixed known type span tree.no_initialisers at good = misplaced-yields known span tree.no_initialisers at good
  zero-list-yields fixed known type span (tree.more_initialisers (tree.braces here items trailing) others) at good =
      misplaced-yields known span (tree.more_initialisers (tree.braces here items trailing) others) at good
  zero-list-yields fixed known type span (tree.more_initialisers (tree.value here expr) (tree.more_initialisers second others)) at good =
      misplaced-yields known span (tree.more_initialisers (tree.value here expr) (tree.more_initialisers second others)) at good

  part-yields : (part : Option CType) (surplus : Outcome Initial) (typed_part : CType → Outcome Initial) → Yields P EachInitial surplus → ((type : CType) → Yields P EachInitial (typed_part type))
      → Yields P EachInitial (if_part part surplus typed_part)
  part-yields None surplus typed_part h k = h
  part-yields (Some type) surplus typed_part h k = k type

  mutual
    unfolding typed_initialiser typed_initialisers

    pub initialiser-yields : (fixed : Bool) (known : Known) (type : CType) (initialiser : Initialiser) → At P setting (in_initialiser initialiser) → Good P known
        → Yields P EachInitial (typed_initialiser setting fixed known type initialiser)
    initialiser-yields fixed known type (tree.value span expr) at good =
        after-yields P (Each P) EachInitial (typed setting true known expr) _ (expr-yields P setting true known (expr_span expr) expr at good)
        (λ behind made still one. by-yields behind fixed type span.first expr made still one)
    initialiser-yields fixed known type (tree.braces span items trailing) at good =
        either (is_scalar type) _ _ (braced-yields fixed known type span items at good)
        (either (is_zero_list setting items trailing) _ _ (zero-list-yields fixed known type span items at good)
        (after-yields P EachInitials EachInitial (typed_initialisers setting fixed known type span 0 items) _ (initialisers-yield fixed known type span 0 items at good) (λ behind made still each. (still, each))))
      where
        either : (b : Bool) (one other : Outcome Initial) → Yields P EachInitial one → Yields P EachInitial other → Yields P EachInitial (if b then one else other)
        either true one other h k = h
        either false one other h k = k

    initialisers-yield : (fixed : Bool) (known : Known) (type : CType) (span : Span) (n : ℕ) (items : Initialisers) → At P setting (in_initialisers items) → Good P known
        → Yields P EachInitials (typed_initialisers setting fixed known type span n items)
    initialisers-yield fixed known type span n tree.no_initialisers at good = (good, tt)
    initialisers-yield fixed known type span n (tree.more_initialisers first others) at good =
        let here = at-front P setting (in_initialiser first) (in_initialisers others) at in
        after-yields P EachInitial EachInitials _ _
        (part-yields (part_type known.types type n) (misplaced setting known span (tree.more_initialisers first others)) (λ part. typed_initialiser setting fixed known part first)
        (misplaced-yields known span (tree.more_initialisers first others) at good) (λ part. initialiser-yields fixed known part first here good))
        (λ then_known made now one. after-yields P EachInitials EachInitials (typed_initialisers setting fixed then_known type span (n + 1) others) _
        (initialisers-yield fixed then_known type span (n + 1) others (at-back P setting (in_initialiser first) (in_initialisers others) at) now)
        (λ behind more still each. (still, each-append P setting made.expressions more.expressions one each)))

  -- ---- declarations (6.7)

  pub specified-keeps : (stands : Where) (alone : Bool) (known : Known) (specifiers : Specifiers) → At P setting (in_specifiers specifiers) → Good P known → Keeps P setting (specified setting stands alone known specifiers)
  specified-keeps stands alone known (tree.listed span words) at good =
      after-yields P (Any P) (Any P) (words_said setting true alone known nothing_said words) _ (words-keep P setting true alone known nothing_said words at good)
      (λ then_known said now any. with-yields P (Any P) (Any P) (typed_said then_known stands span.first said) _ (said-keeps P setting then_known stands span.first said now) (λ behind kind any. tt))

  pub typed-declarator-keeps : (known : Known) (base : CType) (declarator : Declarator) → At P setting (in_declarator declarator) → Good P known → Keeps P setting (typed_declarator setting known base declarator)
  typed-declarator-keeps known base declarator at good =
      after-yields P (Any P) (Any P) (steps_of setting true known declarator) _ (declarator-keeps P setting true known declarator at good) (λ behind steps still any. derived-keeps P setting behind base steps still)

  pub declarable-comes : {A : Type 0} (Q : A → Type 0) (said : Specified) (standing : Standing) (with_value : Bool) (here name : ℕ) (entry : Declaration) (next : Progress A) → Comes Q next
      → Comes Q (declarable said standing with_value here name entry next)
  declarable-comes Q said standing with_value here name entry next h =
      keeps-comes Q (may_be_declared standing entry) 2 name _
      (keeps-comes Q (not (is_misplaced_static standing.known said.storage entry.sort)) 3 said.first _
      (keeps-comes Q (may_be_object standing.known said.storage with_value entry.sort (kind_seen standing entry)) 5 here _ (keeps-comes Q (may_be_main standing.known entry) 36 name _ h)))

  abbrev EachLocal : Local → Type 0
  EachLocal it = EachOf P it.constants × EachOf P it.expressions

  object-comes : (standing : Standing) (entry : Declaration) (number here name : ℕ) (kind : CType) (initial : Initial) → Bare standing → EachInitial initial → Comes EachLocal (object_defined standing entry number here name kind initial)
  object-comes standing entry number here name kind initial good h =
      keeps-comes EachLocal (may_define standing number kind) 2 name _ (keeps-comes EachLocal (is_complete standing.known kind) 5 here _ (good, (tt, h)))

  initialised-comes : (standing : Standing) (entry : Declaration) (number : ℕ) (span : Span) (here name : ℕ) (kind : CType) (initialiser : Initialiser) → At P setting (in_initialiser initialiser) → Bare standing
      → Comes EachLocal (initialised setting standing entry number span here name kind initialiser)
  initialised-comes standing entry number span here name kind initialiser at good = by (may_be_initialised standing.known entry)
    where
      by : (b : Bool) → Comes EachLocal (if b
          then typing standing (typed_initialiser setting (is_fixed entry.sort) standing.known (completed setting kind initialiser) initialiser)
          (λ behind initial. object_defined behind entry number here name (completed setting kind initialiser) initial)
          else typing standing (expressions_alone setting standing.known initialiser) (λ behind trees. stops 9 span.first))
      by true =
          typing-comes EachInitial EachLocal standing _ _ good (initialiser-yields (is_fixed entry.sort) standing.known (completed setting kind initialiser) initialiser at (bare-good standing good))
          (λ behind initial still each. object-comes behind entry number here name (completed setting kind initialiser) initial still each)
      by false = typing-comes (EachOf P) EachLocal standing _ _ good (alone-yields standing.known initialiser at (bare-good standing good)) (λ behind trees still each. tt)

  with-lengths-comes : (constants : List Tree) (item : Progress Local) → EachOf P constants → Comes EachLocal item → Comes EachLocal (item_with constants item)
  with-lengths-comes constants item each h = further-comes EachLocal EachLocal item _ h (λ behind local still one. (still, (each, one.1)))

  item-comes : (said : Specified) (standing : Standing) (item : Item) → At P setting (in_item item) → Bare standing → Comes EachLocal (typed_item setting said standing item)
  item-comes said standing (tree.plain span declarator) at good =
      collecting-comes (Any P) EachLocal standing (typed_declarator setting standing.known said.kind declarator) _ good (typed-declarator-keeps standing.known said.kind declarator at (bare-good standing good))
      (λ behind constants kind still each any. let entry = entry_of setting behind.known said.storage (name_at declarator) kind in
      with-lengths-comes constants (item_plain setting said behind declarator entry) each
      (declarable-comes EachLocal said behind false (declarator_span declarator).first (name_at declarator) entry _ (here-bare behind entry still, (tt, tt))))
  item-comes said standing (tree.initialised span declarator initialiser) at good =
      collecting-comes (Any P) EachLocal standing (typed_declarator setting standing.known said.kind declarator) _ good
      (typed-declarator-keeps standing.known said.kind declarator (at-front P setting (in_declarator declarator) (in_initialiser initialiser) at) (bare-good standing good))
      (λ behind constants kind still each any. let entry = entry_of setting behind.known said.storage (name_at declarator) kind in
      with-lengths-comes constants (item_initialised setting said behind span declarator initialiser entry) each
      (declarable-comes EachLocal said behind true (declarator_span declarator).first (name_at declarator) entry _
      (initialised-comes (declared_here behind entry) entry (number_here behind entry) span (declarator_span declarator).first (name_at declarator) (kind_seen behind entry) initialiser
      (at-back P setting (in_declarator declarator) (in_initialiser initialiser) at) (here-bare behind entry still))))

  abbrev EachLocals : List Local → Type 0
  EachLocals locals = EachOf P (constants_of locals) × EachOf P (expressions_of locals)

  items-come : (said : Specified) (standing : Standing) (items : List Item) → At P setting (in_items items) → Bare standing → Comes EachLocals (typed_items setting said standing items)
  items-come said standing [] at good = (good, (tt, tt))
  items-come said standing (first ∷ others) at good =
      further-comes EachLocal EachLocals (typed_item setting said standing first) _ (item-comes said standing first (at-front P setting (in_item first) (in_items others) at) good)
      (λ then_standing made now one. further-comes EachLocals EachLocals (typed_items setting said then_standing others) _
      (items-come said then_standing others (at-back P setting (in_item first) (in_items others) at) now)
      (λ behind more still each. (still, (each-append P setting made.constants (constants_of more) one.0 each.0, each-append P setting made.expressions (expressions_of more) one.1 each.1))))

  abbrev pub EachDeclared : Declared → Type 0
  EachDeclared it = EachOf P it.constants × EachOf P (expressions_of it.locals)

  pub declaration-comes : (standing : Standing) (declaration : tree.Declaration) → At P setting (in_declaration declaration) → Bare standing → Comes EachDeclared (typed_declaration setting standing declaration)
  declaration-comes standing (tree.declaring span specifiers items) at good =
      collecting-comes (Any P) EachDeclared standing _ _ good
      (specified-keeps of_declaration (is_alone specifiers items) standing.known specifiers (at-front P setting (in_specifiers specifiers) (in_items items) at) (bare-good standing good))
      (λ then_standing constants said now lengths any. further-comes EachLocals EachDeclared (typed_items setting said then_standing items) _
      (items-come said then_standing items (at-back P setting (in_specifiers specifiers) (in_items items) at) now)
      (λ behind locals still each. keeps-comes EachDeclared (not said.inline || may_be_inline behind.known locals) 3 said.first _
      (still, (each-append P setting constants (constants_of locals) lengths each.0, each.1))))

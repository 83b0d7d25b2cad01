-- The definition of statements by the steps that the code takes.
use Rattle.std.specs.Prelude.{◌≡◌, ℤ, true, false, not, List, [], ◌∷◌, ◌++◌, Option, Some, None, length, map as list_map, refl}
use Rattle.std.proofs.Common.{sym, ap, append_assoc, append-nil}
use Rattle.std.specs.FinMap as map
use Rattle.dm_token.specs.declared.place.Span.{Span}
use Rattle.dm_int.specs.declared.Kind.{Kind}
use Rattle.dm_type.specs.CTypes.{CType}
use Rattle.dm_syn.specs.Spans.{declaration_span}
use Rattle.dm_syn.specs.Trees.{Expr, ForStart, Stmt, BlockItems, BlockItem, SwitchItems, SwitchItem, Declaration}
use Rattle.dm_syn.specs.Trees as tree
use Rattle.dm_syn.specs.Views.{if_view}
use Rattle.dm_tree.specs.Trees.{Tree}
use Rattle.dm_tree.specs.Trees as label
use Rattle.dm_tree.specs.Views.{if_there}
use Rattle.dm_typing.specs.Known.{Known, Setting, Outcome, given, broken, obeys}
use Rattle.dm_typing.specs.Conversions.{as_type}
use Rattle.dm_edecl.specs.Declaring.{Declared, typed_declaration}
use Rattle.dm_edecl.specs.Standing.{Standing, Progress, goes_on, stops, further, typing, keeps, in_scope, opened, closed}
use Rattle.dm_edecl.specs.Statements.{Within, in_loop, statement, typed_condition, typed_optional_condition, typed_optional, CaseValue, typed_case, Labelled, AllLabelled, is_label_among, declaration_tree, declared_in, returned, typed_start, for_statement, typed_stmt, typed_items_in, typed_item_in, typed_switch_items, typed_switch_item}
use Rattle.dm_edeclaration.specs.Steps.{summed}
use Rattle.dm_estanding.proofs.ProceedingLemmas.{further-further, typing-further}
use Rattle.dm_estatement.specs.Parts.{may_be_returned, scoped_stmt, choice_inside, typed_label, labelled_value, joined, item_behind, Clauses, clauses, typed_clauses, stmt_inside, opens_scope}

-- ---- parts of statements

-- a declaration by what it declares
pub declared-is : (setting : Setting) (standing : Standing) (declaration : Declaration) → declared_in setting standing declaration
    ≡ further (summed (typed_declaration setting standing declaration)) (λ behind all. goes_on behind
    (statement setting (declaration_span declaration) (label.declare (length all.constants) all.declarators) (all.constants ++ all.expressions)))
declared-is setting standing declaration = go (typed_declaration setting standing declaration)
  where
    go : (progress : Progress Declared) → further progress (λ behind one. goes_on behind (declaration_tree setting (declaration_span declaration) one))
        ≡ further (summed progress) (λ behind all. goes_on behind
        (statement setting (declaration_span declaration) (label.declare (length all.constants) all.declarators) (all.constants ++ all.expressions)))
    go (goes_on behind one) = refl
    go (stops rule at) = refl

-- the clauses of a `for`
pub clauses-is : (setting : Setting) (inside : Standing) (start : ForStart) (condition step : Option Expr) → typed_clauses setting inside start condition step
    ≡ further (typed_start setting inside start) (λ then_inside first.
    further (typing then_inside (typed_optional_condition setting then_inside.known condition) (λ behind it. goes_on behind it)) (λ then_more second.
    further (typing then_more (typed_optional setting then_more.known step) (λ behind it. goes_on behind it))
    (λ behind third. goes_on behind (clauses first second third))))
clauses-is setting inside start condition step = go (typed_start setting inside start)
  where
    third-is : (standing : Standing) (first second : List Tree) (outcome : Outcome (List Tree)) →
        typing standing outcome (λ behind third. goes_on behind (clauses first second third))
        ≡ further (typing standing outcome (λ behind it. goes_on behind it)) (λ behind third. goes_on behind (clauses first second third))
    third-is standing first second (given known third) = refl
    third-is standing first second (broken rule at) = refl

    second-is : (standing : Standing) (first : List Tree) (outcome : Outcome (List Tree)) →
        typing standing outcome (λ then_more second. typing then_more (typed_optional setting then_more.known step) (λ behind third. goes_on behind (clauses first second third)))
        ≡ further (typing standing outcome (λ behind it. goes_on behind it)) (λ then_more second.
        further (typing then_more (typed_optional setting then_more.known step) (λ behind it. goes_on behind it)) (λ behind third. goes_on behind (clauses first second third)))
    second-is standing first (given known second) =
        let then_more = record standing { known = record known { constants = standing.known.constants } } in
        third-is then_more first second (typed_optional setting then_more.known step)
    second-is standing first (broken rule at) = refl

    go : (progress : Progress (List Tree)) →
        further progress (λ then_inside first. typing then_inside (typed_optional_condition setting then_inside.known condition) (λ then_more second.
        typing then_more (typed_optional setting then_more.known step) (λ behind third. goes_on behind (clauses first second third))))
        ≡ further progress (λ then_inside first. further (typing then_inside (typed_optional_condition setting then_inside.known condition) (λ behind it. goes_on behind it)) (λ then_more second.
        further (typing then_more (typed_optional setting then_more.known step) (λ behind it. goes_on behind it)) (λ behind third. goes_on behind (clauses first second third))))
    go (goes_on then_inside first) = second-is then_inside first (typed_optional_condition setting then_inside.known condition)
    go (stops rule at) = refl

-- what is returned, where it may be
pub returned-is : (setting : Setting) (known : Known) (result : CType) (span : Span) (value : Option Tree) → returned setting known result span (if_there value)
    ≡ obeys (may_be_returned known result (if_there value)) 34 span.first (given known (statement setting span label.return (list_map (as_type result) (if_there value))))
returned-is setting known result span None = refl
returned-is setting known result span (Some value) = refl

-- ---- statements and their scopes

module _ (setting : Setting) (within : Within) where
  -- `if` with `else`
  choice-is : (standing : Standing) (span : Span) (condition : Expr) (first : Standing → Progress Tree) (second : Standing → Progress Tree) →
      typing standing (typed_condition setting standing.known condition) (λ then_standing value. further (first then_standing) (λ then_more made. further (second then_more)
      (λ behind other. goes_on behind (statement setting span label.if_statement (value ∷ made ∷ other ∷ [])))))
      ≡ typing standing (typed_condition setting standing.known condition) (λ then_standing value. further (first then_standing) (λ then_more made. further (further (second then_more) (λ behind it. goes_on behind (it ∷ [])))
      (λ behind others. goes_on behind (statement setting span label.if_statement (value ∷ made ∷ others)))))
  choice-is standing span condition first second = go (typed_condition setting standing.known condition)
    where
      go : (outcome : Outcome Tree) →
          typing standing outcome (λ then_standing value. further (first then_standing) (λ then_more made. further (second then_more)
          (λ behind other. goes_on behind (statement setting span label.if_statement (value ∷ made ∷ other ∷ [])))))
          ≡ typing standing outcome (λ then_standing value. further (first then_standing) (λ then_more made. further (further (second then_more) (λ behind it. goes_on behind (it ∷ [])))
          (λ behind others. goes_on behind (statement setting span label.if_statement (value ∷ made ∷ others)))))
      go (broken rule at) = refl
      go (given known value) = then_first (first (record standing { known = record known { constants = standing.known.constants } }))
        where
          then_first : (progress : Progress Tree) →
              further progress (λ then_more made. further (second then_more) (λ behind other. goes_on behind (statement setting span label.if_statement (value ∷ made ∷ other ∷ []))))
              ≡ further progress (λ then_more made. further (further (second then_more) (λ behind it. goes_on behind (it ∷ []))) (λ behind others. goes_on behind (statement setting span label.if_statement (value ∷ made ∷ others))))
          then_first (stops rule at) = refl
          then_first (goes_on then_more made) =
              further-further (second then_more) (λ behind it. goes_on behind (it ∷ [])) (λ behind others. goes_on behind (statement setting span label.if_statement (value ∷ made ∷ others)))

  -- `for`
  for-is : (inside : Standing) (span : Span) (start : ForStart) (condition step : Option Expr) (body : Standing → Progress Tree) →
      further (typed_start setting inside start) (λ then_inside first. typing then_inside (typed_optional_condition setting then_inside.known condition) (λ then_more second.
      typing then_more (typed_optional setting then_more.known step) (λ then_all third. further (body then_all) (λ behind made. goes_on behind (for_statement setting span first second third made)))))
      ≡ further (typed_clauses setting inside start condition step) (λ then_all clauses. further (body then_all) (λ behind made. goes_on behind (for_statement setting span clauses.first clauses.condition clauses.step made)))
  for-is inside span start condition step body = go (typed_start setting inside start)
    where
      last : Standing → List Tree → List Tree → List Tree → Progress Tree
      last then_all first second third = further (body then_all) (λ behind made. goes_on behind (for_statement setting span first second third made))

      all : Standing → Clauses → Progress Tree
      all then_all clauses = further (body then_all) (λ behind made. goes_on behind (for_statement setting span clauses.first clauses.condition clauses.step made))

      third-is : (standing : Standing) (first second : List Tree) (outcome : Outcome (List Tree)) →
          typing standing outcome (λ then_all third. last then_all first second third)
          ≡ further (typing standing outcome (λ behind third. goes_on behind (clauses first second third))) all
      third-is standing first second (given known third) = refl
      third-is standing first second (broken rule at) = refl

      second-is : (standing : Standing) (first : List Tree) (outcome : Outcome (List Tree)) →
          typing standing outcome (λ then_more second. typing then_more (typed_optional setting then_more.known step) (λ then_all third. last then_all first second third))
          ≡ further (typing standing outcome (λ then_more second. typing then_more (typed_optional setting then_more.known step) (λ behind third. goes_on behind (clauses first second third)))) all
      second-is standing first (given known second) =
          let then_more = record standing { known = record known { constants = standing.known.constants } } in
          third-is then_more first second (typed_optional setting then_more.known step)
      second-is standing first (broken rule at) = refl

      go : (progress : Progress (List Tree)) →
          further progress (λ then_inside first. typing then_inside (typed_optional_condition setting then_inside.known condition) (λ then_more second.
          typing then_more (typed_optional setting then_more.known step) (λ then_all third. last then_all first second third)))
          ≡ further (further progress (λ then_inside first. typing then_inside (typed_optional_condition setting then_inside.known condition) (λ then_more second.
          typing then_more (typed_optional setting then_more.known step) (λ behind third. goes_on behind (clauses first second third))))) all
      go (goes_on then_inside first) = second-is then_inside first (typed_optional_condition setting then_inside.known condition)
      go (stops rule at) = refl

  module _ (standing : Standing) where
    pub scope-is : (stmt : Stmt) → opens_scope stmt ≡ true → typed_stmt setting within standing stmt ≡ in_scope standing (λ inside. stmt_inside setting within inside stmt)
    unfolding typed_stmt
    scope-is (tree.block span items) is = refl
    scope-is (tree.if_only span condition body) is = refl
    scope-is (tree.if_else span condition body other) is =
        ap (closed standing) (choice-is (opened map.empty standing) span condition (λ then_standing. scoped_stmt setting within then_standing body) (λ then_more. scoped_stmt setting within then_more other))
    scope-is (tree.switch span operand items) is = refl
    scope-is (tree.while span condition body) is = refl
    scope-is (tree.do_while span body condition) is = refl
    scope-is (tree.for_loop span start condition step body) is =
        ap (closed standing) (for-is (opened map.empty standing) span start condition step (λ then_all. scoped_stmt setting (in_loop within) then_all body))
    scope-is (tree.expression span expr) is = absurd (cc)
    scope-is (tree.break span) is = absurd (cc)
    scope-is (tree.continue span) is = absurd (cc)
    scope-is (tree.return span expr) is = absurd (cc)

    pub plain-is : (stmt : Stmt) → opens_scope stmt ≡ false → typed_stmt setting within standing stmt ≡ stmt_inside setting within standing stmt
    unfolding typed_stmt
    plain-is (tree.expression span expr) is = refl
    plain-is (tree.break span) is = refl
    plain-is (tree.continue span) is = refl
    plain-is (tree.return span expr) is = refl
    plain-is (tree.block span items) is = absurd (cc)
    plain-is (tree.if_only span condition body) is = absurd (cc)
    plain-is (tree.if_else span condition body other) is = absurd (cc)
    plain-is (tree.switch span operand items) is = absurd (cc)
    plain-is (tree.while span condition body) is = absurd (cc)
    plain-is (tree.do_while span body condition) is = absurd (cc)
    plain-is (tree.for_loop span start condition step body) is = absurd (cc)

-- the form of an `if`, with `else` or without
pub inside-if : (setting : Setting) (within : Within) (inside : Standing) (span : Span) (condition : Expr) (body : Stmt) (other : Option Stmt)
    → stmt_inside setting within inside (if_view span condition body other) ≡ choice_inside setting within inside span condition body other
inside-if setting within inside span condition body None = refl
inside-if setting within inside span condition body (Some other) = refl

-- the body of a `do` comes first
pub do-is : (setting : Setting) (within : Within) (inside : Standing) (span : Span) (body : Stmt) (condition : Expr)
    → stmt_inside setting within inside (tree.do_while span body condition)
    ≡ further (scoped_stmt setting (in_loop within) inside body) (λ then_inside made.
    further (typing then_inside (typed_condition setting then_inside.known condition) (λ behind it. goes_on behind it))
    (λ behind value. goes_on behind (statement setting span label.do_loop (made ∷ value ∷ []))))
do-is setting within inside span body condition = go (scoped_stmt setting (in_loop within) inside body)
  where
    go : (progress : Progress Tree) →
        further progress (λ then_inside made. typing then_inside (typed_condition setting then_inside.known condition) (λ behind value. goes_on behind (statement setting span label.do_loop (made ∷ value ∷ []))))
        ≡ further progress (λ then_inside made. further (typing then_inside (typed_condition setting then_inside.known condition) (λ behind it. goes_on behind it))
        (λ behind value. goes_on behind (statement setting span label.do_loop (made ∷ value ∷ []))))
    go (goes_on then_inside made) =
        typing-further then_inside (typed_condition setting then_inside.known condition) (λ behind it. goes_on behind it) (λ behind value. goes_on behind (statement setting span label.do_loop (made ∷ value ∷ [])))
    go (stops rule at) = refl

-- ---- the items of a block

-- trees behind others
abbrev pub behind_these : List Tree → Progress (List Tree) → Progress (List Tree)
behind_these before progress = further progress (λ behind rest. goes_on behind (before ++ rest))

pub behind-none : (progress : Progress (List Tree)) → progress ≡ behind_these [] progress
behind-none (goes_on standing it) = refl
behind-none (stops rule at) = refl

behind-more : (before : List Tree) (one : Progress Tree) (rest : Standing → Progress (List Tree))
    → behind_these before (further one (λ then_standing made. further (rest then_standing) (λ behind more. goes_on behind (made ∷ more))))
    ≡ further one (λ then_standing made. behind_these (before ++ made ∷ []) (rest then_standing))
behind-more before (stops rule at) rest = refl
behind-more before (goes_on then_standing made) rest = go (rest then_standing)
  where
    go : (progress : Progress (List Tree)) → behind_these before (further progress (λ behind more. goes_on behind (made ∷ more))) ≡ behind_these (before ++ made ∷ []) progress
    go (goes_on behind more) = ap (goes_on behind) (sym (append_assoc before (made ∷ []) more))
    go (stops rule at) = refl

module _ (setting : Setting) (within : Within) (standing : Standing) where
  pub items-end : (before : List Tree) → behind_these before (typed_items_in setting within standing tree.no_items) ≡ goes_on standing before
  unfolding typed_items_in
  items-end before = ap (goes_on standing) (append-nil before)

  pub items-next : (before : List Tree) (first : BlockItem) (others : BlockItems) → behind_these before (typed_items_in setting within standing (tree.more_items first others))
      ≡ further (typed_item_in setting within standing first) (λ then_standing made. behind_these (before ++ made ∷ []) (typed_items_in setting within then_standing others))
  unfolding typed_items_in
  items-next before first others = behind-more before (typed_item_in setting within standing first) (λ then_standing. typed_items_in setting within then_standing others)

  pub declared-item : (declaration : Declaration) → typed_item_in setting within standing (tree.declared_item declaration) ≡ declared_in setting standing declaration
  unfolding typed_item_in
  declared-item declaration = refl

  pub stated-item : (stmt : Stmt) → typed_item_in setting within standing (tree.stated_item stmt) ≡ typed_stmt setting within standing stmt
  unfolding typed_item_in
  stated-item stmt = refl

-- ---- the items of a switch

-- a statement and the labels so far
abbrev pub unlabelled : Tree → List (Option ℤ) → Labelled
unlabelled made labels = record { tree = made; labels = labels }

abbrev pub cased : Setting → Span → Labelled → Labelled → Labelled
cased setting span one made = unlabelled (statement setting span label.case (one.tree ∷ made.tree ∷ [])) made.labels

abbrev pub defaulted : Setting → Span → Labelled → Labelled
defaulted setting span made = unlabelled (statement setting span label.default (made.tree ∷ [])) made.labels

-- items behind others
abbrev pub behind_all : AllLabelled → Progress AllLabelled → Progress AllLabelled
behind_all all progress = further progress (λ behind rest. goes_on behind (record { trees = all.trees ++ rest.trees; labels = rest.labels }))

pub all-none : (labels : List (Option ℤ)) (progress : Progress AllLabelled) → progress ≡ behind_all (record { trees = []; labels = labels }) progress
all-none labels (goes_on standing it) = refl
all-none labels (stops rule at) = refl

all-more : (all : AllLabelled) (one : Progress Labelled) (rest : Standing → List (Option ℤ) → Progress AllLabelled)
    → behind_all all (further one (λ then_standing made. further (rest then_standing made.labels) (λ behind more. goes_on behind (record { trees = made.tree ∷ more.trees; labels = more.labels }))))
    ≡ further (further one (λ behind made. goes_on behind (joined all made))) (λ then_standing more. behind_all more (rest then_standing more.labels))
all-more all (stops rule at) rest = refl
all-more all (goes_on then_standing made) rest = go (rest then_standing made.labels)
  where
    go : (progress : Progress AllLabelled) → behind_all all (further progress (λ behind more. goes_on behind (record { trees = made.tree ∷ more.trees; labels = more.labels }))) ≡ behind_all (joined all made) progress
    go (goes_on behind more) = ap (λ trees. goes_on behind (record { trees = trees; labels = more.labels })) (sym (append_assoc all.trees (made.tree ∷ []) more.trees))
    go (stops rule at) = refl

module _ (setting : Setting) (within : Within) (kind : Kind) (standing : Standing) where
  pub switch-end : (all : AllLabelled) → behind_all all (typed_switch_items setting within kind standing all.labels tree.no_switch_items) ≡ goes_on standing all
  unfolding typed_switch_items
  switch-end all = ap (λ trees. goes_on standing (record { trees = trees; labels = all.labels })) (append-nil all.trees)

  pub switch-next : (all : AllLabelled) (first : SwitchItem) (others : SwitchItems) → behind_all all (typed_switch_items setting within kind standing all.labels (tree.more_switch_items first others))
      ≡ further (item_behind setting within kind all standing first) (λ then_standing more. behind_all more (typed_switch_items setting within kind then_standing more.labels others))
  unfolding typed_switch_items
  switch-next all first others =
      all-more all (typed_switch_item setting within kind standing all.labels first) (λ then_standing labels. typed_switch_items setting within kind then_standing labels others)

  module _ (labels : List (Option ℤ)) where
    abbrev cased-behind : Span → SwitchItem → Standing → Labelled → Progress Labelled
    cased-behind span item then_standing one =
        further (typed_switch_item setting within kind then_standing one.labels item)
        (λ behind made. goes_on behind (record { tree = statement setting span label.case (one.tree ∷ made.tree ∷ []); labels = made.labels }))

    pub case-is : (span : Span) (expr : Expr) (item : SwitchItem) → typed_switch_item setting within kind standing labels (tree.case span expr item)
        ≡ further (typed_label setting kind labels standing expr) (λ then_standing one. further (typed_switch_item setting within kind then_standing one.labels item)
        (λ behind made. goes_on behind (record { tree = statement setting span label.case (one.tree ∷ made.tree ∷ []); labels = made.labels })))
    unfolding typed_switch_item
    case-is span expr item = go (typed_case setting standing.known kind labels expr)
      where
        go : (outcome : Outcome CaseValue) →
            typing standing outcome (λ then_standing one. further (typed_switch_item setting within kind then_standing (Some one.value ∷ labels) item)
            (λ behind made. goes_on behind (record { tree = statement setting span label.case (one.tree ∷ made.tree ∷ []); labels = made.labels })))
            ≡ further (typing standing outcome (λ behind one. goes_on behind (labelled_value one labels))) (cased-behind span item)
        go (given known one) = refl
        go (broken rule at) = refl

    pub default-is : (span : Span) (item : SwitchItem) → is_label_among None labels ≡ false → typed_switch_item setting within kind standing labels (tree.default span item)
        ≡ further (typed_switch_item setting within kind standing (None ∷ labels) item) (λ behind made. goes_on behind (record { tree = statement setting span label.default (made.tree ∷ []); labels = made.labels }))
    unfolding typed_switch_item
    default-is span item fresh =
        ap (λ found. keeps (not found) 31 span.first (further (typed_switch_item setting within kind standing (None ∷ labels) item) (λ behind made. goes_on behind (record { tree = statement setting span label.default (made.tree ∷ []); labels = made.labels })))) fresh

    pub default-again : (span : Span) (item : SwitchItem) → is_label_among None labels ≡ true → typed_switch_item setting within kind standing labels (tree.default span item) ≡ stops 31 span.first
    unfolding typed_switch_item
    default-again span item found =
        ap (λ found. keeps (not found) 31 span.first (further (typed_switch_item setting within kind standing (None ∷ labels) item) (λ behind made. goes_on behind (record { tree = statement setting span label.default (made.tree ∷ []); labels = made.labels })))) found

    pub unlabelled-is : (span : Span) (stmt : Stmt) → typed_switch_item setting within kind standing labels (tree.unlabelled span stmt)
        ≡ further (typed_stmt setting within standing stmt) (λ behind made. goes_on behind (record { tree = made; labels = labels }))
    unfolding typed_switch_item
    unlabelled-is span stmt = refl

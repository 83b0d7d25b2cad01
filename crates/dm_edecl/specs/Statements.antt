-- The typing of statements (6.8), a clause a form of the syntax.
--     Within      what a statement stands within
--     typed_stmt setting within standing stmt      the typed tree of a statement
use Rattle.std.specs.Prelude.{ℕ, ℤ, Bool, true, false, ◌||◌, not, List, [], ◌∷◌, ◌++◌, length, Option, Some, None}
use Rattle.dm_token.specs.declared.place.Span.{Span}
use Rattle.dm_int.specs.declared.Kind.{Kind}
use Rattle.dm_int.specs.Kinds.{promote}
use Rattle.dm_type.specs.CTypes.{CType, void}
use Rattle.dm_syn.specs.Spans.{expr_span, declaration_span}
use Rattle.dm_syn.specs.Trees.{Expr, ForStart, Stmt, BlockItems, BlockItem, SwitchItems, SwitchItem}
use Rattle.dm_syn.specs.Trees as tree
use Rattle.dm_tree.specs.Constants.{integer_kind}
use Rattle.dm_tree.specs.Trees.{Label, Tree, kind_of}
use Rattle.dm_tree.specs.Trees as label
use Rattle.dm_tree.specs.Scenes.{is_scalar, is_void}
use Rattle.dm_tree.specs.Typing.{is_same_label}
use Rattle.dm_typing.specs.Known.{Known, Setting, Outcome, given, after, with_it, obeys, if_given}
use Rattle.dm_typing.specs.Conversions.{made, as_value, as_type, as_kind, promoted, constant_of}
use Rattle.dm_typing.specs.Rules.{is_assignable}
use Rattle.dm_typing.specs.Typing.{extent, typed}
use Rattle.dm_edecl.specs.Standing.{Standing, Progress, goes_on, further, typing, keeps, in_scope}
use Rattle.dm_edecl.specs.Declaring.{Declared, declarators_of, expressions_of, typed_declaration}

-- what a statement stands within: a function with this result, and whether a loop or a switch is round it, and whether a loop is
pub record Within : Type 0 where
  pub result : CType
  pub breaks : Bool
  pub continues : Bool

abbrev pub in_loop : Within → Within
in_loop within = record within { breaks = true; continues = true }

abbrev pub in_switch : Within → Within
in_switch within = record within { breaks = true }

-- the node of a statement
abbrev pub statement : Setting → Span → Label → List Tree → Tree
statement setting span form parts = made setting.source (extent span span) form void parts

-- ---- expressions in statements

abbrev pub typed_value : Setting → Known → Expr → Outcome Tree
typed_value setting known expr = with_it (typed setting true known expr) (λ behind made. as_value made)

-- one that may be absent
abbrev pub typed_optional : Setting → Known → Option Expr → Outcome (List Tree)
typed_optional setting known None = given known []
typed_optional setting known (Some expr) = with_it (typed_value setting known expr) (λ behind value. value ∷ [])

-- C32: a condition is a scalar (6.8.4.1p1, 6.8.5p2)
abbrev pub typed_condition : Setting → Known → Expr → Outcome Tree
typed_condition setting known expr =
    after (typed_value setting known expr) (λ behind value. obeys (is_scalar (kind_of value)) 32 (expr_span expr).first (given behind value))

abbrev pub typed_optional_condition : Setting → Known → Option Expr → Outcome (List Tree)
typed_optional_condition setting known None = given known []
typed_optional_condition setting known (Some expr) = with_it (typed_condition setting known expr) (λ behind value. value ∷ [])

-- C32: the operand of a switch is an integer, which is promoted (6.8.4.2p1, p5)
pub record Subject : Type 0 where
  pub tree : Tree
  pub kind : Kind

abbrev pub subject : Tree → Kind → Subject
subject value kind = record { tree = promoted kind value; kind = promote kind }

abbrev pub typed_subject : Setting → Known → Expr → Outcome Subject
typed_subject setting known expr =
    after (typed_value setting known expr) (λ behind value.
    if_given (integer_kind (kind_of value)) 32 (expr_span expr).first (λ kind. given behind (subject value kind)))

-- ---- labels (6.8.1, 6.8.4.2)

-- a statement with labels, and the labels of its switch so far: the value of each `case`, and None for `default`
pub record Labelled : Type 0 where
  pub tree : Tree
  pub labels : List (Option ℤ)

pub record AllLabelled : Type 0 where
  pub trees : List Tree
  pub labels : List (Option ℤ)

abbrev pub is_label_among : Option ℤ → List (Option ℤ) → Bool
is_label_among one [] = false
is_label_among one (first ∷ others) = is_same_label one first || is_label_among one others

-- the value of a `case`, converted to the type of the switch's operand
pub record CaseValue : Type 0 where
  pub tree : Tree
  pub value : ℤ

-- C30: it is an integer constant expression with a value; C31: no other label has it (6.8.4.2p3)
abbrev pub case_value : Known → List (Option ℤ) → ℕ → Tree → Outcome CaseValue
case_value known labels here value =
    if_given (constant_of known value) 30 here
    (λ n. obeys (not (is_label_among (Some n) labels)) 31 here (given known (record { tree = value; value = n })))

abbrev pub typed_case : Setting → Known → Kind → List (Option ℤ) → Expr → Outcome CaseValue
typed_case setting known kind labels expr =
    after (typed_value setting known expr) (λ behind value. case_value behind labels (expr_span expr).first (as_kind kind value))

-- ---- single statements

-- an expression statement, and the empty one (6.8.3)
abbrev pub full_statement : Setting → Span → List Tree → Tree
full_statement setting span [] = statement setting span label.empty []
full_statement setting span values = statement setting span label.full values

-- C34: a value is returned that is assignable to the result, exactly where that isn't void (6.8.6.4p1, p3)
abbrev pub returned : Setting → Known → CType → Span → List Tree → Outcome Tree
returned setting known result span [] = obeys (is_void result) 34 span.first (given known (statement setting span label.return []))
returned setting known result span (value ∷ others) =
    obeys (is_assignable known value result) 34 span.first (given known (statement setting span label.return (as_type result value ∷ [])))

abbrev pub typed_return : Setting → Known → CType → Span → Option Expr → Outcome Tree
typed_return setting known result span expr =
    after (typed_optional setting known expr) (λ behind values. returned setting behind result span values)

-- a declaration (6.7)
abbrev pub declaration_tree : Setting → Span → Declared → Tree
declaration_tree setting span one =
    statement setting span (label.declare (length one.constants) (declarators_of one.locals)) (one.constants ++ expressions_of one.locals)

abbrev pub declared_in : Setting → Standing → tree.Declaration → Progress Tree
declared_in setting standing declaration =
    further (typed_declaration setting standing declaration)
    (λ behind one. goes_on behind (declaration_tree setting (declaration_span declaration) one))

-- the first part of a `for`: a declaration, or an expression or none (6.8.5.3)
abbrev pub typed_start : Setting → Standing → ForStart → Progress (List Tree)
typed_start setting standing (tree.declares declaration) =
    further (declared_in setting standing declaration) (λ behind made. goes_on behind (made ∷ []))
typed_start setting standing (tree.evaluates expr) =
    typing standing (typed_optional setting standing.known expr) (λ behind values. goes_on behind values)

abbrev pub is_there : List Tree → Bool
is_there [] = false
is_there (first ∷ others) = true

abbrev pub for_statement : Setting → Span → List Tree → List Tree → List Tree → Tree → Tree
for_statement setting span first second third body =
    statement setting span (label.for_loop (is_there first) (is_there second) (is_there third)) (first ++ (second ++ (third ++ body ∷ [])))

-- ---- the syntax

unfoldable mutual
  pub typed_stmt : Setting → Within → Standing → Stmt → Progress Tree
  -- 6.8.2
  typed_stmt setting within standing (tree.block span items) =
      in_scope standing (λ inside. further (typed_items_in setting within inside items)
      (λ behind trees. goes_on behind (statement setting span label.block trees)))
  -- 6.8.3
  typed_stmt setting within standing (tree.expression span expr) =
      typing standing (typed_optional setting standing.known expr) (λ behind values. goes_on behind (full_statement setting span values))
  -- 6.8.4: the statement is a scope, and so is each statement that is part of it (6.8.4p3)
  typed_stmt setting within standing (tree.if_only span condition body) =
      in_scope standing (λ inside. typing inside (typed_condition setting inside.known condition) (λ then_inside value.
      further (in_scope then_inside (λ part. typed_stmt setting within part body))
      (λ behind made. goes_on behind (statement setting span label.if_statement (value ∷ made ∷ [])))))
  typed_stmt setting within standing (tree.if_else span condition body other) =
      in_scope standing (λ inside. typing inside (typed_condition setting inside.known condition) (λ then_inside value.
      further (in_scope then_inside (λ part. typed_stmt setting within part body)) (λ then_more first.
      further (in_scope then_more (λ part. typed_stmt setting within part other))
      (λ behind second. goes_on behind (statement setting span label.if_statement (value ∷ first ∷ second ∷ []))))))
  typed_stmt setting within standing (tree.switch span operand items) =
      in_scope standing (λ inside. typing inside (typed_subject setting inside.known operand) (λ then_inside one.
      further (in_scope then_inside (λ part. typed_switch_items setting (in_switch within) one.kind part [] items))
      (λ behind made. goes_on behind (statement setting span label.switch (one.tree ∷ made.trees)))))
  -- 6.8.5: likewise (6.8.5p5)
  typed_stmt setting within standing (tree.while span condition body) =
      in_scope standing (λ inside. typing inside (typed_condition setting inside.known condition) (λ then_inside value.
      further (in_scope then_inside (λ part. typed_stmt setting (in_loop within) part body))
      (λ behind made. goes_on behind (statement setting span label.while_loop (value ∷ made ∷ [])))))
  typed_stmt setting within standing (tree.do_while span body condition) =
      in_scope standing (λ inside. further (in_scope inside (λ part. typed_stmt setting (in_loop within) part body)) (λ then_inside made.
      typing then_inside (typed_condition setting then_inside.known condition)
      (λ behind value. goes_on behind (statement setting span label.do_loop (made ∷ value ∷ [])))))
  typed_stmt setting within standing (tree.for_loop span start condition step body) =
      in_scope standing (λ inside. further (typed_start setting inside start) (λ then_inside first.
      typing then_inside (typed_optional_condition setting then_inside.known condition) (λ then_more second.
      typing then_more (typed_optional setting then_more.known step) (λ then_all third.
      further (in_scope then_all (λ part. typed_stmt setting (in_loop within) part body))
      (λ behind made. goes_on behind (for_statement setting span first second third made))))))
  -- 6.8.6; C33
  typed_stmt setting within standing (tree.break span) =
      keeps within.breaks 33 span.first (goes_on standing (statement setting span label.break []))
  typed_stmt setting within standing (tree.continue span) =
      keeps within.continues 33 span.first (goes_on standing (statement setting span label.continue []))
  typed_stmt setting within standing (tree.return span expr) =
      typing standing (typed_return setting standing.known within.result span expr) (λ behind made. goes_on behind made)

  pub typed_items_in : Setting → Within → Standing → BlockItems → Progress (List Tree)
  typed_items_in setting within standing tree.no_items = goes_on standing []
  typed_items_in setting within standing (tree.more_items first others) =
      further (typed_item_in setting within standing first) (λ then_standing made. further (typed_items_in setting within then_standing others)
      (λ behind more. goes_on behind (made ∷ more)))

  pub typed_item_in : Setting → Within → Standing → BlockItem → Progress Tree
  typed_item_in setting within standing (tree.declared_item declaration) = declared_in setting standing declaration
  typed_item_in setting within standing (tree.stated_item stmt) = typed_stmt setting within standing stmt

  -- 6.8.4.2: the items of a switch whose operand has this kind, behind these labels
  pub typed_switch_items : Setting → Within → Kind → Standing → List (Option ℤ) → SwitchItems → Progress AllLabelled
  typed_switch_items setting within kind standing labels tree.no_switch_items = goes_on standing (record { trees = []; labels = labels })
  typed_switch_items setting within kind standing labels (tree.more_switch_items first others) =
      further (typed_switch_item setting within kind standing labels first) (λ then_standing made.
      further (typed_switch_items setting within kind then_standing made.labels others)
      (λ behind more. goes_on behind (record { trees = made.tree ∷ more.trees; labels = more.labels })))

  -- 6.8.1; C31: there is one `default` at most
  pub typed_switch_item : Setting → Within → Kind → Standing → List (Option ℤ) → SwitchItem → Progress Labelled
  typed_switch_item setting within kind standing labels (tree.case span expr item) =
      typing standing (typed_case setting standing.known kind labels expr) (λ then_standing one.
      further (typed_switch_item setting within kind then_standing (Some one.value ∷ labels) item)
      (λ behind made. goes_on behind (record { tree = statement setting span label.case (one.tree ∷ made.tree ∷ []); labels = made.labels })))
  typed_switch_item setting within kind standing labels (tree.default span item) =
      keeps (not (is_label_among None labels)) 31 span.first
      (further (typed_switch_item setting within kind standing (None ∷ labels) item)
      (λ behind made. goes_on behind (record { tree = statement setting span label.default (made.tree ∷ []); labels = made.labels })))
  typed_switch_item setting within kind standing labels (tree.unlabelled span stmt) =
      further (typed_stmt setting within standing stmt) (λ behind made. goes_on behind (record { tree = made; labels = labels }))

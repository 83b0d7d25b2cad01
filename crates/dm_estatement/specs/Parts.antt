-- What the code has on the way through statements, as the definition has it, and parts of the definition by names of their own.
--     within_over later within      what a statement stands within
--     optional_over, subject_over, case_over, clauses_over      expressions in statements
--     labels_of labels      the labels of a switch so far
--     stmt_inside setting within inside stmt      a statement in its own scope, if it is one
use Rattle.std.specs.Prelude.{◌≡◌, ℕ, ℤ, Bool, true, false, List, [], ◌∷◌, ◌++◌, map, reverse, option_map, Option, Some, None, IfSome, Result, Ok, Err}
use Rattle.dm_token.specs.declared.place.Span.{Span}
use Rattle.dm_token.specs.declared.stop.Stop.{Stop}
use Rattle.dm_token.specs.declared.stop.Stop.TheVariants as stop
use Rattle.dm_int.specs.declared.Kind.{Kind}
use Rattle.dm_type.specs.declared.shape.Shape.{Shape}
use Rattle.dm_type.specs.declared.shape.Shape.TheVariants.{Void}
use Rattle.dm_type.specs.CTypes.{CType}
use Rattle.dm_type.specs.Tables.{Table, IsId}
use Rattle.dm_syn.specs.Sources.{Source}
use Rattle.dm_syn.specs.Trees.{Expr, ForStart, Stmt, BlockItems, SwitchItems, SwitchItem}
use Rattle.dm_syn.specs.Trees as tree
use Rattle.dm_tree.specs.declared.tree.Core.{Core}
use Rattle.dm_tree.specs.Scenes.{is_void}
use Rattle.dm_tree.specs.Trees.{Label, Tree}
use Rattle.dm_tree.specs.Trees as label
use Rattle.dm_tree.specs.Views.{if_there}
use Rattle.dm_typing.specs.Known.{Known, Setting}
use Rattle.dm_typing.specs.Fitting.{IsNumbered, AreNumbered}
use Rattle.dm_typing.specs.Rules.{is_assignable}
use Rattle.dm_typing.specs.Views.{type_over, view_over, IsNumberOf, refusal_at}
use Rattle.dm_edecl.specs.Standing.{Standing, Progress, goes_on, further, typing, keeps, in_scope}
use Rattle.dm_edecl.specs.Statements.{Within, in_loop, in_switch, statement, typed_optional, typed_condition, typed_optional_condition, Subject, typed_subject, CaseValue, typed_case, Labelled, AllLabelled, is_label_among, full_statement, typed_return, typed_start, for_statement, typed_stmt, typed_items_in, typed_switch_items, typed_switch_item}
use Rattle.dm_estatement.specs.declared.within.Within.{Within as WithinHeld}
use Rattle.dm_estatement.specs.declared.conditions.Subject.{Subject as SubjectHeld}
use Rattle.dm_estatement.specs.declared.labels.CaseValue.{CaseValue as CaseHeld}
use Rattle.dm_estatement.specs.declared.labels.Labels.{Labels}
use Rattle.dm_estatement.specs.declared.nodes.Clauses.{Clauses as ClausesHeld}
use Rattle.dm_estatement.specs.declared.switches.Labelled.{Labelled as LabelledHeld}
use Rattle.dm_estatement.specs.declared.switches.AllLabelled.{AllLabelled as AllHeld}

-- ---- what a statement stands within

abbrev pub within_over : List Shape → WithinHeld → Within
within_over later within = record { result = type_over later within.result; breaks = within.breaks; continues = within.continues }

-- its types are numbered
pub record WithinFits (types : Table) (within : WithinHeld) : Type 0 where
  pub result : IsId types within.result
  pub statement : IsNumberOf types.shapes within.statement Void

-- ---- expressions in statements

-- one that may be absent
abbrev pub optional_over : List Shape → Option Core → List Tree
optional_over later value = if_there (option_map (view_over later) value)

abbrev pub OptionalFits : Table → Option Core → Type 0
OptionalFits types value = IfSome value (IsNumbered types)

-- several
abbrev pub trees_over : List Shape → List Core → List Tree
trees_over later trees = map (view_over later) trees

-- the operand of a switch
abbrev pub subject_over : List Shape → SubjectHeld → Subject
subject_over later one = record { tree = view_over later one.tree; kind = one.kind }

abbrev pub SubjectFits : Table → SubjectHeld → Type 0
SubjectFits types one = IsNumbered types one.tree

-- the value of a `case`
abbrev pub case_over : List Shape → CaseHeld → CaseValue
case_over later one = record { tree = view_over later one.tree; value = one.value }

abbrev pub CaseFits : Table → CaseHeld → Type 0
CaseFits types one = IsNumbered types one.tree

-- a value that is returned, or none, obeys C34
abbrev pub may_be_returned : Known → CType → List Tree → Bool
may_be_returned known result [] = is_void result
may_be_returned known result (value ∷ others) = is_assignable known value result

-- the label of an expression statement, and of the empty one
abbrev pub full_label : {A : Type 0} → Option A → Label
full_label None = label.empty
full_label (Some value) = label.full

-- ---- labels

-- the labels of a switch so far: the last of them stands first
abbrev pub labels_of : Labels → List (Option ℤ)
labels_of labels = reverse labels.found.keys

-- `default` is a label more, or stood there before (C31)
abbrev pub AddsDefault : Source → List (Option ℤ) → ℕ → Result Labels Stop → Type 0
AddsDefault source labels at (Ok made) = (is_label_among None labels ≡ false) × (labels_of made ≡ None ∷ labels)
AddsDefault source labels at (Err stop.Memory) = Unit {0}
AddsDefault source labels at (Err (stop.Refused refusal)) = (is_label_among None labels ≡ true) × (refusal ≡ refusal_at source 31 at)
AddsDefault source labels at (Err other) = ⊥

-- a statement with its labels, and those of its switch so far
abbrev pub labelled_over : List Shape → LabelledHeld → Labelled
labelled_over later one = record { tree = view_over later one.tree; labels = labels_of one.labels }

abbrev pub LabelledFits : Table → LabelledHeld → Type 0
LabelledFits types one = IsNumbered types one.tree

abbrev pub all_over : List Shape → AllHeld → AllLabelled
all_over later all = record { trees = trees_over later all.trees; labels = labels_of all.labels }

abbrev pub AllFit : Table → AllHeld → Type 0
AllFit types all = AreNumbered types all.trees

-- a `case`, whose value is a label from there on
abbrev pub labelled_value : CaseValue → List (Option ℤ) → Labelled
labelled_value one labels = record { tree = one.tree; labels = Some one.value ∷ labels }

abbrev pub typed_label : Setting → Kind → List (Option ℤ) → Standing → Expr → Progress Labelled
typed_label setting kind labels standing expr =
    typing standing (typed_case setting standing.known kind labels expr) (λ behind one. goes_on behind (labelled_value one labels))

-- one item of a switch more
abbrev pub joined : AllLabelled → Labelled → AllLabelled
joined all one = record { trees = all.trees ++ one.tree ∷ []; labels = one.labels }

abbrev pub item_behind : Setting → Within → Kind → AllLabelled → Standing → SwitchItem → Progress AllLabelled
item_behind setting within kind all standing item =
    further (typed_switch_item setting within kind standing all.labels item) (λ behind one. goes_on behind (joined all one))

-- ---- the clauses of a `for`

pub record Clauses : Type 0 where
  pub first : List Tree
  pub condition : List Tree
  pub step : List Tree

abbrev pub clauses : List Tree → List Tree → List Tree → Clauses
clauses first condition step = record { first = first; condition = condition; step = step }

abbrev pub clauses_over : List Shape → ClausesHeld → Clauses
clauses_over later clauses = record {
  first = optional_over later clauses.first;
  condition = optional_over later clauses.condition;
  step = optional_over later clauses.step;
}

pub record ClausesFit (types : Table) (clauses : ClausesHeld) : Type 0 where
  pub first : OptionalFits types clauses.first
  pub condition : OptionalFits types clauses.condition
  pub step : OptionalFits types clauses.step

abbrev pub typed_clauses : Setting → Standing → ForStart → Option Expr → Option Expr → Progress Clauses
typed_clauses setting inside start condition step =
    further (typed_start setting inside start) (λ then_inside first.
    typing then_inside (typed_optional_condition setting then_inside.known condition) (λ then_more second.
    typing then_more (typed_optional setting then_more.known step)
    (λ behind third. goes_on behind (clauses first second third))))

-- ---- statements

-- a statement that is a scope of its own, as a part of another is (6.8.4p3, 6.8.5p5)
abbrev pub scoped_stmt : Setting → Within → Standing → Stmt → Progress Tree
scoped_stmt setting within standing stmt = in_scope standing (λ part. typed_stmt setting within part stmt)

-- what stands behind `else`, if that does
abbrev pub other_part : Setting → Within → Standing → Option Stmt → Progress (List Tree)
other_part setting within standing None = goes_on standing []
other_part setting within standing (Some other) =
    further (scoped_stmt setting within standing other) (λ behind made. goes_on behind (made ∷ []))

abbrev pub choice_inside : Setting → Within → Standing → Span → Expr → Stmt → Option Stmt → Progress Tree
choice_inside setting within inside span condition body other =
    typing inside (typed_condition setting inside.known condition) (λ then_inside value.
    further (scoped_stmt setting within then_inside body) (λ then_more first.
    further (other_part setting within then_more other)
    (λ behind second. goes_on behind (statement setting span label.if_statement (value ∷ first ∷ second)))))

-- the items of a switch are a scope of their own
abbrev pub switch_part : Setting → Within → Kind → Standing → SwitchItems → Progress AllLabelled
switch_part setting within kind standing items = in_scope standing (λ part. typed_switch_items setting (in_switch within) kind part [] items)

-- a statement without its own scope
abbrev pub stmt_inside : Setting → Within → Standing → Stmt → Progress Tree
stmt_inside setting within inside (tree.block span items) =
    further (typed_items_in setting within inside items) (λ behind trees. goes_on behind (statement setting span label.block trees))
stmt_inside setting within inside (tree.if_only span condition body) = choice_inside setting within inside span condition body None
stmt_inside setting within inside (tree.if_else span condition body other) = choice_inside setting within inside span condition body (Some other)
stmt_inside setting within inside (tree.switch span operand items) =
    typing inside (typed_subject setting inside.known operand) (λ then_inside one.
    further (switch_part setting within one.kind then_inside items)
    (λ behind made. goes_on behind (statement setting span label.switch (one.tree ∷ made.trees))))
stmt_inside setting within inside (tree.while span condition body) =
    typing inside (typed_condition setting inside.known condition) (λ then_inside value.
    further (scoped_stmt setting (in_loop within) then_inside body)
    (λ behind made. goes_on behind (statement setting span label.while_loop (value ∷ made ∷ []))))
stmt_inside setting within inside (tree.do_while span body condition) =
    further (scoped_stmt setting (in_loop within) inside body) (λ then_inside made.
    typing then_inside (typed_condition setting then_inside.known condition)
    (λ behind value. goes_on behind (statement setting span label.do_loop (made ∷ value ∷ []))))
stmt_inside setting within inside (tree.for_loop span start condition step body) =
    further (typed_clauses setting inside start condition step) (λ then_all clauses.
    further (scoped_stmt setting (in_loop within) then_all body)
    (λ behind made. goes_on behind (for_statement setting span clauses.first clauses.condition clauses.step made)))
stmt_inside setting within inside (tree.expression span expr) =
    typing inside (typed_optional setting inside.known expr) (λ behind values. goes_on behind (full_statement setting span values))
stmt_inside setting within inside (tree.break span) = keeps within.breaks 33 span.first (goes_on inside (statement setting span label.break []))
stmt_inside setting within inside (tree.continue span) = keeps within.continues 33 span.first (goes_on inside (statement setting span label.continue []))
stmt_inside setting within inside (tree.return span expr) =
    typing inside (typed_return setting inside.known within.result span expr) (λ behind made. goes_on behind made)

-- these are scopes of their own (6.8.2, 6.8.4p3, 6.8.5p5)
abbrev pub opens_scope : Stmt → Bool
opens_scope (tree.expression span expr) = false
opens_scope (tree.break span) = false
opens_scope (tree.continue span) = false
opens_scope (tree.return span expr) = false
opens_scope stmt = true

-- Statements in two programs of which one reads an added const object: they agree as trees do. No full expression of the new program is larger
-- than the bodies of all its functions.
use Rattle.std.specs.Prelude.{◌≡◌, refl, ◌⊎◌, ℕ, ◌+◌, ◌≤◌, Bool, true, false, List, [], ◌∷◌, Option, Some, None}
use Rattle.std.proofs.Common.{true≢false, sym, arith, inl, inr}
use Rattle.dm_type.specs.CTypes.{CType}
use Rattle.dm_tree.specs.Trees.{Label, number as numeral, enumerator, sizeof_tree, sizeof_kind, convert, unary, binary, both, either, choose, comma, Spans, Tree, Trees, node, no_trees, more_trees, trees_of, parts_of}
use Rattle.dm_meaning.specs.Programs.{Definition}
use Rattle.dm_meaning.specs.Running.{Run, begun, all_begun}
use Rattle.dm_meaning.specs.States.{Use, evaluates, Task}
use Rattle.dm_meaning.specs.Statements.{Turned}
use Rattle.dm_meaning.specs.Replaced.{Zipped}
use Rattle.dm_meaning.proofs.RunLemmas.{OptionAgrees}
use Rattle.dm_meaning.proofs.ShrinkLemmas.{left_in, all_left_in}
use Rattle.dm_tree.specs.Constants.{constant_forms, has_constant_form, is_constant_operand, is_constant_operator}
use Rattle.dm_meaning.proofs.PassStatementLemmas.{body_left, bodies_left, IsSmall}
use Rattle.dm_meaning.proofs.ConstantLemmas.{no_form, constant_parts}
use Rattle.dm_meaning.proofs.YieldLemmas.{may_give}
use Rattle.dm_rewrite.specs.NamedConstants.{Named, Agrees, AllAgree, DefinitionAgrees, IsNaming, RunAgrees}
use Rattle.dm_rewrite.proofs.NamedConstantLemmas.{begun_agrees}
use Rattle.dm_rewrite.proofs.NamedStatementLemmas as alike
use Rattle.dm_rewrite.proofs.NamedStatementLemmas.{AllAlike, SameNode, ReadNode, Likeness, listed_agrees}

-- no expression of the new program has more to do
abbrev pub limit : Named → ℕ
limit change = bodies_left change.functions

-- ---- how trees agree that aren't larger

abbrev pub TreeFits : Named → Tree → Tree → Type 0
TreeFits change tree other = Agrees change tree other × (left_in (begun tree) ≤ limit change)

abbrev pub RunFits : Named → ℕ → Run → Run → Type 0
RunFits change number run other = RunAgrees change number run other × (left_in run ≤ limit change)

abbrev pub DefinitionFits : Named → Definition → Definition → Type 0
DefinitionFits change definition other = DefinitionAgrees change definition other × (body_left definition ≤ limit change)

abbrev pub UseAgrees : Named → Use → Use → Type 0
UseAgrees change use_of other = alike.UseAgrees (TreeFits change) use_of other

abbrev pub TasksAgree : Named → ℕ → List Task → List Task → Type 0
TasksAgree change number tasks others = alike.TasksAgree change (TreeFits change) (RunFits change number) tasks others

abbrev pub TurnedAgrees : Named → ℕ → Turned → Turned → Type 0
TurnedAgrees change number turned other = alike.TurnedAgrees change (TreeFits change) (RunFits change number) turned other

pub option_fits : (change : Named) (one other : Option Definition) → OptionAgrees (DefinitionAgrees change) one other → IsSmall (limit change) one → OptionAgrees (DefinitionFits change) one other
option_fits change None None h k = tt
option_fits change None (Some other) h k = absurd h
option_fits change (Some one) None h k = absurd h
option_fits change (Some one) (Some other) h k = (h, k)

part_small : (n m k : ℕ) → n + m ≤ k → m ≤ k
part_small n m k h = omega (arith, h)

whole_small : (n m k : ℕ) → n + m ≤ k → n ≤ k
whole_small n m k h = omega (arith, h)

-- lists of trees agree where their trees do
alike_agreeing : (change : Named) (trees others : Trees) → AllAgree change trees others → all_left_in (all_begun trees) ≤ limit change → AllAlike (TreeFits change) trees others
alike_agreeing change no_trees no_trees h small = tt
alike_agreeing change no_trees (more_trees other others) h small = absurd h
alike_agreeing change (more_trees first rest) no_trees h small = absurd h
alike_agreeing change (more_trees first rest) (more_trees other others) h small = (
  (h.0, whole_small (left_in (begun first)) (all_left_in (all_begun rest)) (limit change) small),
  alike_agreeing change rest others h.1 (part_small (left_in (begun first)) (all_left_in (all_begun rest)) (limit change) small),
)

-- the statements of a body
pub body_fits : (change : Named) (definition other : Definition) → DefinitionFits change definition other → Zipped (TreeFits change) (parts_of definition.body) (parts_of other.body)
body_fits change definition other h =
    listed_agrees (TreeFits change) (trees_of definition.body) (trees_of other.body) (alike_agreeing change (trees_of definition.body) (trees_of other.body) h.0.2 h.1)

operand_gives : (label : Label) → is_constant_operand label ≡ true → may_give label ≡ true
operand_gives (numeral z) e = refl
operand_gives (enumerator d) e = refl
operand_gives sizeof_tree e = refl
operand_gives (sizeof_kind type) e = refl
operand_gives label e = absurd (true≢false (sym e))

operator_gives : (label : Label) → is_constant_operator label ≡ true → may_give label ≡ true
operator_gives convert e = refl
operator_gives (unary sign) e = refl
operator_gives (binary op) e = refl
operator_gives both e = refl
operator_gives either e = refl
operator_gives choose e = refl
operator_gives comma e = refl
operator_gives label e = absurd (true≢false (sym e))

-- a constant expression gives a value
pub constant_gives : (label : Label) (kind : CType) (passes : List Bool) → has_constant_form label kind passes ≡ true → may_give label ≡ true
constant_gives label kind passes h = by_operand (is_constant_operand label) refl
  where
    by_operand : (b : Bool) → is_constant_operand label ≡ b → may_give label ≡ true
    by_operand true e = operand_gives label e
    by_operand false e = by_operator (is_constant_operator label) refl
      where
        by_operator : (b : Bool) → is_constant_operator label ≡ b → may_give label ≡ true
        by_operator true f = operator_gives label f
        by_operator false f = absurd (no_form label kind passes e f h)

opened : (change : Named) → IsNaming change → (label : Label) (kind : CType) (spans : Spans) (parts : Trees) (other : Label) (other_kind : CType) (other_spans : Spans) (others : Trees)
    → TreeFits change (node label kind spans parts) (node other other_kind other_spans others) → SameNode change (TreeFits change) label kind parts other other_kind others ⊎ ReadNode label other
opened change naming label kind spans parts other other_kind other_spans others (inl h, small) =
    inl (h.0, h.1, h.2, alike_agreeing change parts others h.3 (part_small 2 (all_left_in (all_begun parts)) (limit change) small))
opened change naming label kind spans parts other other_kind other_spans others (inr h, small) =
    inr (h.is, constant_gives other other_kind (constant_forms others) (constant_parts change.old (node other other_kind other_spans others) change.value h.constant.value).0)

-- Statements that agree begin, decide and end alike.
pub likeness : (change : Named) (number : ℕ) → IsNaming change → Likeness change (TreeFits change) (RunFits change number)
likeness change number naming = record {
  injective = naming.injective;
  told = naming.told;
  opened = opened change naming;
  begun = λ tree other h. (begun_agrees change number tree other h.0, h.1);
}

-- ---- how long the old program may wait

-- what the full expression has left to do
abbrev pub task_left : Task → ℕ
task_left (evaluates place run use_of) = left_in run
task_left task = 0

abbrev pub tasks_left : List Task → ℕ
tasks_left [] = 0
tasks_left (task ∷ tasks) = task_left task

few_left : (change : Named) (number : ℕ) (task other : Task) → alike.TaskAgrees change (TreeFits change) (RunFits change number) task other → task_left task ≤ limit change
few_left change number (evaluates place run use_of) (evaluates at other_run other_use) h = h.0.1
few_left change number (evaluates place run use_of) other h = absurd h
few_left change number task other h = omega arith

pub tasks_few : (change : Named) (number : ℕ) (tasks others : List Task) → TasksAgree change number tasks others → tasks_left tasks ≤ limit change
tasks_few change number [] others h = omega arith
tasks_few change number (task ∷ tasks) [] h = absurd h
tasks_few change number (task ∷ tasks) (other ∷ others) h = few_left change number task other h.0

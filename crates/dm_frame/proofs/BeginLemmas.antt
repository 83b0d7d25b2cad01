-- What is left of a frame where statements begin, form by form.
use Rattle.std.proofs.Common.{◌≡◌, ℕ, List, [], ◌∷◌, ◌++◌, map, length, Option, Some, None, Bor, refl, ap, sym, subst, arith, ◌∙◌}
use Rattle.dm_type.specs.CTypes.{CType}
use Rattle.dm_type.specs.Tables.{Table, no_type, type_of}
use Rattle.dm_tree.proofs.ListLemmas.{listed-trees}
use Rattle.dm_tree.proofs.ViewLemmas.{view-core}
use Rattle.dm_tree.specs.declared.tree.Core.{Core, out-Core}
use Rattle.dm_tree.specs.declared.tree.Form.{Form}
use Rattle.dm_tree.specs.declared.tree.Form.TheVariants as form
use Rattle.dm_tree.specs.declared.tree.Local.{Local}
use Rattle.dm_tree.specs.Trees as label
use Rattle.dm_tree.specs.Trees.{Tree, Trees, Spans, listed, node, trees}
use Rattle.dm_tree.specs.Views.{Opened, opened_form, node_of, if_there, view, view_of_local}
use Rattle.dm_meaning.specs.Memory.{Memory}
use Rattle.dm_meaning.specs.Operations.{Objects}
use Rattle.dm_meaning.specs.Programs.{Program}
use Rattle.dm_meaning.specs.States as states
use Rattle.dm_meaning.specs.Statements.{onward, begin_form, evaluation, item_tasks, returning, start_tasks, unlabelled}
use Rattle.dm_frame.specs.declared.frame.Frame.{Frame}
use Rattle.dm_frame.specs.declared.task.Begun.{Begun}
use Rattle.dm_frame.specs.declared.task.Loop.{Loop}
use Rattle.dm_frame.specs.declared.task.Task.{Task}
use Rattle.dm_frame.specs.declared.task.Task.TheVariants as task
use Rattle.dm_frame.specs.declared.task.Use.{Use}
use Rattle.dm_frame.specs.Forms.{IsBegunForm, IsPlain}
use Rattle.dm_frame.specs.Frames.{tasks_of, FrameFits}
use Rattle.dm_frame.specs.Tasks.{declares_local, view_of_begun, view_of_loop, view_of_tasks, view_of_use, LoopFits, TasksFit}
use Rattle.dm_program.proofs.FormLemmas.{opened-Block, opened-Break, opened-Case, opened-Continue, opened-Declare, opened-Default, opened-Do, opened-For, opened-Full, opened-If, opened-Return, opened-Switch, opened-While}
use Rattle.dm_program.proofs.InitialLemmas.{item-Declare}
use Rattle.dm_program.proofs.SortLemmas.{Sorted, is-Block, is-Declare, is-Full, is-If, is-Switch, is-Case, is-Default, is-While, is-Do, is-For, is-Break, is-Continue, is-Return, is-inert, sorted}
use Rattle.dm_frame.proofs.KeptLemmas.{kept-whole}

-- ---- a task in front of those that are left

module _ (table : Table) (before after : Frame) (same : after.objects ≡ before.objects) where
  led : (first : Task) → after.tasks ≡ first ∷ before.tasks → tasks_of table after ≡ view_of_tasks table before.objects (first ∷ before.tasks)
  led first is = ap (λ objects. view_of_tasks table objects after.tasks) same ∙ ap (view_of_tasks table before.objects) is

  pub ends-led : after.tasks ≡ task.Ends (length before.objects) ∷ before.tasks → tasks_of table after ≡ states.ends before.objects ∷ tasks_of table before
  ends-led is = led (task.Ends (length before.objects)) is ∙ ap (λ objects. states.ends objects ∷ tasks_of table before) (kept-whole before.objects)

  pub switch-led : after.tasks ≡ task.EndsSwitch (length before.objects) ∷ before.tasks → tasks_of table after ≡ states.ends_switch before.objects ∷ tasks_of table before
  switch-led is = led (task.EndsSwitch (length before.objects)) is ∙ ap (λ objects. states.ends_switch objects ∷ tasks_of table before) (kept-whole before.objects)

  pub tests-led : (loop : Loop) → after.tasks ≡ task.Tests (length before.objects) loop ∷ before.tasks
      → tasks_of table after ≡ states.tests before.objects (view_of_loop table loop) ∷ tasks_of table before
  tests-led loop is = led (task.Tests (length before.objects) loop) is ∙ ap (λ objects. states.tests objects (view_of_loop table loop) ∷ tasks_of table before) (kept-whole before.objects)

-- where a statement is to end
pub ends-fit : (table : Table) (before after : Frame) → after.objects ≡ before.objects → after.tasks ≡ task.Ends (length before.objects) ∷ before.tasks → FrameFits table before → FrameFits table after
ends-fit table before after same is fits =
    subst (λ objects. TasksFit table (length objects) after.tasks) (sym same) (subst (TasksFit table (length before.objects)) (sym is) (omega arith, fits))

-- where a loop is to go on at its condition
pub tests-fit : (table : Table) (before after : Frame) (loop : Loop) → after.objects ≡ before.objects → after.tasks ≡ task.Tests (length before.objects) loop ∷ before.tasks
    → LoopFits table loop → FrameFits table before → FrameFits table after
tests-fit table before after loop same is known fits =
    subst (λ objects. TasksFit table (length objects) after.tasks) (sym same) (subst (TasksFit table (length before.objects)) (sym is) ((omega arith, known), fits))

-- what is left where a statement begins that makes no objects
pub form-begun : (table : Table) (before after : Frame) (one : Form) (opening : Opened) (begun : Option Begun) (first rest : List states.Task) → opened_form table one ≡ opening
    → after.objects ≡ before.objects → view_of_begun table begun ≡ first → tasks_of table after ≡ rest
    → ((program : Program) (names : ℕ → ℕ) (memory : Memory)
    → onward before.objects (first ++ rest) memory ≡ begin_form program names before.objects (tasks_of table before) memory opening.label (listed (trees opening.parts)))
    → IsBegunForm table (opened_form table one) before begun after
form-begun table before after one opening begun first rest opens same seen left meant = λ program names memory.
    ap (λ objects. onward objects (view_of_begun table begun ++ tasks_of table after) memory) same
    ∙ (ap (λ tasks. onward before.objects (view_of_begun table begun ++ tasks) memory) left
    ∙ (ap (λ tasks. onward before.objects (tasks ++ rest) memory) seen
    ∙ (meant program names memory
    ∙ sym (ap (λ (o : Opened). begin_form program names before.objects (tasks_of table before) memory o.label (listed (trees o.parts))) opens))))

-- a full expression that begins
pub begun-seen : (table : Table) (begun : Option Begun) (tree : Bor Core) (use_of : Use) (core : Core) → begun ≡ Some (record { tree = tree; use_of = use_of }) → tree.now ≡ core
    → view_of_begun table begun ≡ evaluation (view table core) (view_of_use table use_of) ∷ []
begun-seen table begun tree use_of core is same =
    ap (view_of_begun table) is ∙ ap (λ one. evaluation (view table one) (view_of_use table use_of) ∷ []) same

-- ---- labels

unlabelled-node : (table : Table) (core : Core) (opening : Opened) → opened_form table (out-Core core).form ≡ opening
    → unlabelled (view table core) ≡ unlabelled (node_of opening (type_of table (out-Core core).kind) (out-Core core).inner (out-Core core).outer (out-Core core).place)
unlabelled-node table core opening opens =
    ap unlabelled (view-core table core)
    ∙ ap (λ (o : Opened). unlabelled (node_of o (type_of table (out-Core core).kind) (out-Core core).inner (out-Core core).outer (out-Core core).place)) opens

pub unlabelled-Case : (table : Table) (core a b : Core) → (out-Core core).form ≡ form.Case a b → unlabelled (view table core) ≡ unlabelled (view table b)
unlabelled-Case table core a b is = unlabelled-node table core _ (ap (opened_form table) is ∙ opened-Case table a b)

pub unlabelled-Default : (table : Table) (core a : Core) → (out-Core core).form ≡ form.Default a → unlabelled (view table core) ≡ unlabelled (view table a)
unlabelled-Default table core a is = unlabelled-node table core _ (ap (opened_form table) is ∙ opened-Default table a)

-- a node by its label and parts
pub seen-as : (table : Table) (core : Core) (opening : Opened) → opened_form table (out-Core core).form ≡ opening
    → view table core ≡ node_of opening (type_of table (out-Core core).kind) (out-Core core).inner (out-Core core).outer (out-Core core).place
seen-as table core opening opens =
    view-core table core ∙ ap (λ (o : Opened). node_of o (type_of table (out-Core core).kind) (out-Core core).inner (out-Core core).outer (out-Core core).place) opens

-- a statement without a label is the one behind its labels
module _ (table : Table) (core : Core) (no-case : (a b : Core) → (out-Core core).form ≡ form.Case a b → ⊥) (no-default : (a : Core) → (out-Core core).form ≡ form.Default a → ⊥) where
  plainly : (opening : Opened) → opened_form table (out-Core core).form ≡ opening
      → ((kind : CType) (spans : Spans) (parts : Trees) → unlabelled (node opening.label kind spans parts) ≡ node opening.label kind spans parts) → unlabelled (view table core) ≡ view table core
  plainly opening opens stays =
      unlabelled-node table core opening opens
      ∙ (stays (type_of table (out-Core core).kind) (record { inner = (out-Core core).inner; outer = (out-Core core).outer; place = (out-Core core).place }) (trees opening.parts)
      ∙ sym (seen-as table core opening opens))

  by-sort : Sorted table (out-Core core).form → unlabelled (view table core) ≡ view table core
  by-sort (is-Block items is) = plainly _ (ap (opened_form table) is ∙ opened-Block table items) (λ kind spans parts. refl)
  by-sort (is-Declare lengths locals is) = plainly _ (ap (opened_form table) is ∙ opened-Declare table lengths locals) (λ kind spans parts. refl)
  by-sort (is-Full a is) = plainly _ (ap (opened_form table) is ∙ opened-Full table a) (λ kind spans parts. refl)
  by-sort (is-If a b c is) = plainly _ (ap (opened_form table) is ∙ opened-If table a b c) (λ kind spans parts. refl)
  by-sort (is-Switch a items is) = plainly _ (ap (opened_form table) is ∙ opened-Switch table a items) (λ kind spans parts. refl)
  by-sort (is-Case a b is) = absurd (no-case a b is)
  by-sort (is-Default a is) = absurd (no-default a is)
  by-sort (is-While a b is) = plainly _ (ap (opened_form table) is ∙ opened-While table a b) (λ kind spans parts. refl)
  by-sort (is-Do a b is) = plainly _ (ap (opened_form table) is ∙ opened-Do table a b) (λ kind spans parts. refl)
  by-sort (is-For a b c body is) = plainly _ (ap (opened_form table) is ∙ opened-For table a b c body) (λ kind spans parts. refl)
  by-sort (is-Break is) = plainly _ (ap (opened_form table) is ∙ opened-Break table) (λ kind spans parts. refl)
  by-sort (is-Continue is) = plainly _ (ap (opened_form table) is ∙ opened-Continue table) (λ kind spans parts. refl)
  by-sort (is-Return a is) = plainly _ (ap (opened_form table) is ∙ opened-Return table a) (λ kind spans parts. refl)
  by-sort (is-inert inert) = plainly _ refl inert.behind

  pub unlabelled-other : unlabelled (view table core) ≡ view table core
  unlabelled-other = by-sort (sorted table (out-Core core).form)

-- a declaration as the first part of a `for`
pub start-Declare : (table : Table) (core : Core) (lengths : List Core) (locals : List Local) → (out-Core core).form ≡ form.Declare lengths locals
    → start_tasks (Some (view table core)) ≡ map declares_local (map (view_of_local table) locals)
start-Declare table core lengths locals is =
    let seen = seen-as table core _ (ap (opened_form table) is ∙ opened-Declare table lengths locals) in
    ap (λ tree. start_tasks (Some tree)) seen ∙ (ap item_tasks (sym seen) ∙ item-Declare table core lengths locals is)

-- ---- each form

module _ (program : Program) (names : ℕ → ℕ) (objects : Objects) (rest : List states.Task) (memory : Memory) where
  pub if-meant : (condition first : Tree) (second : Option Tree)
      → onward objects (evaluation condition (states.chooses first second) ∷ states.ends objects ∷ rest) memory
      ≡ begin_form program names objects rest memory label.if_statement (listed (trees (condition ∷ first ∷ if_there second)))
  if-meant condition first None = refl
  if-meant condition first (Some second) = refl

  pub switch-meant : (operand : Tree) (items : List Tree)
      → onward objects (evaluation operand (states.selects items) ∷ states.ends_switch objects ∷ rest) memory
      ≡ begin_form program names objects rest memory label.switch (listed (trees (operand ∷ items)))
  switch-meant operand items = ap (λ all. onward objects (evaluation operand (states.selects all) ∷ states.ends_switch objects ∷ rest) memory) (sym (listed-trees items))

  pub return-meant : (value : Option Tree) → returning objects memory value ≡ begin_form program names objects rest memory label.return (listed (trees (if_there value)))
  return-meant None = refl
  return-meant (Some tree) = refl

-- what none of these forms has
module _ (table : Table) (one : Form) (program : Program) (names : ℕ → ℕ) (objects : Objects) (rest : List states.Task) (memory : Memory)
    (plain : IsPlain one) (no-full : (a : Core) → one ≡ form.Full a → ⊥) (no-if : (a b : Core) (c : Option Core) → one ≡ form.If a b c → ⊥)
    (no-switch : (a : Core) (items : List Core) → one ≡ form.Switch a items → ⊥) (no-while : (a b : Core) → one ≡ form.While a b → ⊥)
    (no-do : (a b : Core) → one ≡ form.Do a b → ⊥) (no-break : one ≡ form.Break → ⊥) (no-continue : one ≡ form.Continue → ⊥) (no-return : (a : Option Core) → one ≡ form.Return a → ⊥) where
  abbrev Ends : Opened → Type 0
  Ends opening = onward objects (states.ends objects ∷ rest) memory ≡ begin_form program names objects rest memory opening.label (listed (trees opening.parts))

  other-sort : Sorted table one → Ends (opened_form table one)
  other-sort (is-Block items is) = absurd (plain.no_block items is)
  other-sort (is-Declare lengths locals is) = subst Ends (sym (ap (opened_form table) is ∙ opened-Declare table lengths locals)) refl
  other-sort (is-Full a is) = absurd (no-full a is)
  other-sort (is-If a b c is) = absurd (no-if a b c is)
  other-sort (is-Switch a items is) = absurd (no-switch a items is)
  other-sort (is-Case a b is) = subst Ends (sym (ap (opened_form table) is ∙ opened-Case table a b)) refl
  other-sort (is-Default a is) = subst Ends (sym (ap (opened_form table) is ∙ opened-Default table a)) refl
  other-sort (is-While a b is) = absurd (no-while a b is)
  other-sort (is-Do a b is) = absurd (no-do a b is)
  other-sort (is-For a b c body is) = absurd (plain.no_for a b c body is)
  other-sort (is-Break is) = absurd (no-break is)
  other-sort (is-Continue is) = absurd (no-continue is)
  other-sort (is-Return a is) = absurd (no-return a is)
  other-sort (is-inert inert) = sym (inert.begun program names objects rest memory (listed (trees (opened_form table one).parts)))

  pub other-meant : onward objects (states.ends objects ∷ rest) memory ≡ begin_form program names objects rest memory (opened_form table one).label (listed (trees (opened_form table one).parts))
  other-meant = other-sort (sorted table one)

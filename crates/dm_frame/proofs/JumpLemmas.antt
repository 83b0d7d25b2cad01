-- Which tasks jumps pass by (6.8.6.2, 6.8.6.3).
use Rattle.std.proofs.Common.{◌≡◌, ℕ, suc, ◌≤◌, List, [], ◌∷◌, ◌++◌, map, length, append_assoc, refl, ap, sym, subst, ◌∙◌}
use Rattle.dm_type.specs.CTypes.{CType}
use Rattle.dm_type.specs.Tables.{Table, type_of}
use Rattle.dm_tree.specs.declared.tree.Core.{Core, out-Core}
use Rattle.dm_tree.specs.Trees.{Tree, Initialiser, Initialisers, no_items, more_items}
use Rattle.dm_tree.specs.Views.{Opened, OpenedLocal, opened_form, items_of, expressions_of_items, view, view_of_local}
use Rattle.dm_layout.specs.Kinds.{type_of_object}
use Rattle.dm_layout.specs.LaidOut.{laid_out}
use Rattle.dm_value.specs.Places.{view_of_at}
use Rattle.dm_memory.specs.declared.blocks.Block.{Block}
use Rattle.dm_memory.specs.Blocks.{view_of_blocks, AreKnown}
use Rattle.dm_meaning.specs.Memory.{Memory, killed}
use Rattle.dm_meaning.specs.Objects.{Layout}
use Rattle.dm_meaning.specs.Operations.{Objects}
use Rattle.dm_meaning.specs.States as states
use Rattle.dm_meaning.specs.Statements.{Turned, onward, after_break, after_continue, item_tasks, item_tasks_by, items_tasks, named_since, part_tasks}
use Rattle.dm_meaning.specs.Values.{At}
use Rattle.dm_program.proofs.FormLemmas.{opened-Block, opened-Break, opened-Case, opened-Continue, opened-Default, opened-Do, opened-For, opened-Full, opened-If, opened-Return, opened-Switch, opened-While}
use Rattle.dm_program.proofs.InitialLemmas.{item-Declare}
use Rattle.dm_program.proofs.SortLemmas.{Sorted, is-Block, is-Declare, is-Full, is-If, is-Switch, is-Case, is-Default, is-While, is-Do, is-For, is-Break, is-Continue, is-Return, is-inert, sorted}
use Rattle.dm_frame.specs.declared.task.Loop.{Loop}
use Rattle.dm_frame.specs.declared.task.Task.{Task}
use Rattle.dm_frame.specs.declared.task.Task.TheVariants as task
use Rattle.dm_frame.specs.Frames.{IsLeft}
use Rattle.dm_frame.specs.Tasks.{declares_local, initials_at, kept, view_of_loop, view_of_task, view_of_tasks, TasksFit}
use Rattle.dm_frame.proofs.BeginLemmas.{seen-as}
use Rattle.dm_frame.proofs.KeptLemmas.{length-kept}
use Rattle.dm_frame.proofs.TaskLemmas.{older-objects}

-- an item is a declaration or takes a step of its own
module _ (table : Table) (core : Core) (P : List states.Task → Type 0) (one : (tree : Tree) → P (states.begins tree ∷ [])) (several : (locals : List OpenedLocal) → P (map declares_local locals)) where
  plainly : (opening : Opened) → opened_form table (out-Core core).form ≡ opening
      → ((tree : Tree) (trees : List Tree) → item_tasks_by tree opening.label trees ≡ states.begins tree ∷ []) → P (item_tasks (view table core))
  plainly opening opens begins =
      let seen = seen-as table core opening opens in
      subst P (sym (ap item_tasks seen ∙ begins _ _)) (one _)

  by-sort : Sorted table (out-Core core).form → P (item_tasks (view table core))
  by-sort (is-Block items is) = plainly _ (ap (opened_form table) is ∙ opened-Block table items) (λ tree trees. refl)
  by-sort (is-Declare lengths locals is) = subst P (sym (item-Declare table core lengths locals is)) (several (map (view_of_local table) locals))
  by-sort (is-Full a is) = plainly _ (ap (opened_form table) is ∙ opened-Full table a) (λ tree trees. refl)
  by-sort (is-If a b c is) = plainly _ (ap (opened_form table) is ∙ opened-If table a b c) (λ tree trees. refl)
  by-sort (is-Switch a items is) = plainly _ (ap (opened_form table) is ∙ opened-Switch table a items) (λ tree trees. refl)
  by-sort (is-Case a b is) = plainly _ (ap (opened_form table) is ∙ opened-Case table a b) (λ tree trees. refl)
  by-sort (is-Default a is) = plainly _ (ap (opened_form table) is ∙ opened-Default table a) (λ tree trees. refl)
  by-sort (is-While a b is) = plainly _ (ap (opened_form table) is ∙ opened-While table a b) (λ tree trees. refl)
  by-sort (is-Do a b is) = plainly _ (ap (opened_form table) is ∙ opened-Do table a b) (λ tree trees. refl)
  by-sort (is-For a b c body is) = plainly _ (ap (opened_form table) is ∙ opened-For table a b c body) (λ tree trees. refl)
  by-sort (is-Break is) = plainly _ (ap (opened_form table) is ∙ opened-Break table) (λ tree trees. refl)
  by-sort (is-Continue is) = plainly _ (ap (opened_form table) is ∙ opened-Continue table) (λ tree trees. refl)
  by-sort (is-Return a is) = plainly _ (ap (opened_form table) is ∙ opened-Return table a) (λ tree trees. refl)
  by-sort (is-inert inert) = plainly _ refl inert.item

  pub item-cases : P (item_tasks (view table core))
  item-cases = by-sort (sorted table (out-Core core).form)

-- ---- a jump passes by what begins

module _ (table : Table) (J : List states.Task → Turned) (begins-pass : (tree : Tree) (rest : List states.Task) → J (states.begins tree ∷ rest) ≡ J rest)
    (declares-pass : (local : OpenedLocal) (rest : List states.Task) → J (declares_local local ∷ rest) ≡ J rest)
    (initials-pass : (at : At) (kind : CType) (initialiser : Initialiser) (expressions : List Tree) (rest : List states.Task) → J (states.initials at kind initialiser expressions ∷ rest) ≡ J rest) where
  pub locals-pass : (locals : List OpenedLocal) (rest : List states.Task) → J (map declares_local locals ++ rest) ≡ J rest
  locals-pass [] rest = refl
  locals-pass (local ∷ locals) rest = declares-pass local (map declares_local locals ++ rest) ∙ locals-pass locals rest

  pub items-pass : (items : List Core) (rest : List states.Task) → J (items_tasks (map (view table) items) ++ rest) ≡ J rest
  items-pass [] rest = refl
  items-pass (item ∷ items) rest =
      ap J (append_assoc (item_tasks (view table item)) (items_tasks (map (view table) items)) rest)
      ∙ (item-cases table item (λ tasks. (more : List states.Task) → J (tasks ++ more) ≡ J more) (λ tree more. begins-pass tree more) (λ locals more. locals-pass locals more)
      (items_tasks (map (view table) items) ++ rest)
      ∙ items-pass items rest)

  pub parts-pass : (layout : Layout) (at : At) (kind : CType) (n : ℕ) (items : Initialisers) (expressions : List Tree) (rest : List states.Task)
      → J (part_tasks layout at kind n items expressions ++ rest) ≡ J rest
  parts-pass layout at kind n no_items expressions rest = refl
  parts-pass layout at kind n (more_items item items) expressions rest = initials-pass _ _ _ _ _ ∙ parts-pass layout at kind (suc n) items _ rest

-- ---- break

module _ (table : Table) (objects : Objects) (memory : Memory) where
  abbrev Broken : List states.Task → Turned
  Broken tasks = after_break objects memory tasks

  pub break-passes : (one : Task) (rest : List states.Task) → ((n : ℕ) (loop : Loop) → one ≡ task.Again n loop → ⊥) → ((n : ℕ) → one ≡ task.EndsSwitch n → ⊥)
      → after_break objects memory (view_of_task table objects one ++ rest) ≡ after_break objects memory rest
  break-passes (task.Items items) rest no-loop no-switch = items-pass table Broken (λ tree rest. refl) (λ local rest. refl) (λ at kind initialiser expressions rest. refl) items.now rest
  break-passes (task.Begins tree) rest no-loop no-switch = refl
  break-passes (task.Declares locals) rest no-loop no-switch = locals-pass table Broken (λ tree rest. refl) (λ local rest. refl) (λ at kind initialiser expressions rest. refl) (map (view_of_local table) locals.now) rest
  break-passes (task.Initials at kind initial) rest no-loop no-switch = refl
  break-passes (task.Parts at kind next items) rest no-loop no-switch =
      parts-pass table Broken (λ tree rest. refl) (λ local rest. refl) (λ at kind initialiser expressions rest. refl) (laid_out table) (view_of_at at) (type_of_object table kind) next (items_of (initials_at table items.now)) (expressions_of_items (initials_at table items.now)) rest
  break-passes (task.Again n loop) rest no-loop no-switch = absurd (no-loop n loop refl)
  break-passes (task.Tests n loop) rest no-loop no-switch = refl
  break-passes (task.Ends n) rest no-loop no-switch = refl
  break-passes (task.EndsSwitch n) rest no-loop no-switch = absurd (no-switch n refl)
  break-passes task.Leaves rest no-loop no-switch = refl
  break-passes task.Skips rest no-loop no-switch = refl
  break-passes (task.HandsBack value) rest no-loop no-switch = refl

  abbrev Skipped : List states.Task → Turned
  Skipped tasks = after_continue objects memory tasks

  pub continue-passes : (one : Task) (rest : List states.Task) → ((n : ℕ) (loop : Loop) → one ≡ task.Again n loop → ⊥)
      → after_continue objects memory (view_of_task table objects one ++ rest) ≡ after_continue objects memory rest
  continue-passes (task.Items items) rest no-loop = items-pass table Skipped (λ tree rest. refl) (λ local rest. refl) (λ at kind initialiser expressions rest. refl) items.now rest
  continue-passes (task.Begins tree) rest no-loop = refl
  continue-passes (task.Declares locals) rest no-loop = locals-pass table Skipped (λ tree rest. refl) (λ local rest. refl) (λ at kind initialiser expressions rest. refl) (map (view_of_local table) locals.now) rest
  continue-passes (task.Initials at kind initial) rest no-loop = refl
  continue-passes (task.Parts at kind next items) rest no-loop =
      parts-pass table Skipped (λ tree rest. refl) (λ local rest. refl) (λ at kind initialiser expressions rest. refl) (laid_out table) (view_of_at at) (type_of_object table kind) next (items_of (initials_at table items.now)) (expressions_of_items (initials_at table items.now)) rest
  continue-passes (task.Again n loop) rest no-loop = absurd (no-loop n loop refl)
  continue-passes (task.Tests n loop) rest no-loop = refl
  continue-passes (task.Ends n) rest no-loop = refl
  continue-passes (task.EndsSwitch n) rest no-loop = refl
  continue-passes task.Leaves rest no-loop = refl
  continue-passes task.Skips rest no-loop = refl
  continue-passes (task.HandsBack value) rest no-loop = refl

-- ---- what is left where objects end

-- only these objects stay alive, and the tasks behind stand for the same
pub left-kept : (table : Table) (n : ℕ) (objects named : Objects) (blocks made : List Block) (rest : List Task) → n ≤ length objects → TasksFit table n rest
    → named ≡ kept n objects → view_of_blocks table made ≡ killed (named_since (kept n objects) objects) (view_of_blocks table blocks)
    → onward named (view_of_tasks table named rest) (view_of_blocks table made)
    ≡ onward (kept n objects) (view_of_tasks table objects rest) (killed (named_since (kept n objects) objects) (view_of_blocks table blocks))
left-kept table n objects named blocks made rest within fits is ends =
    ap (λ all. onward all (view_of_tasks table all rest) (view_of_blocks table made)) is
    ∙ (ap (λ tasks. onward (kept n objects) tasks (view_of_blocks table made)) (older-objects table n objects rest within fits)
    ∙ ap (onward (kept n objects) (view_of_tasks table objects rest)) ends)

-- what a jump leaves, where the tasks behind it are these
pub jumped : (table : Table) (n : ℕ) (objects : Objects) (function : ℕ) (named : Objects) (blocks made : List Block) (rest : List Task) → n ≤ length objects → TasksFit table n rest
    → named ≡ kept n objects → view_of_blocks table made ≡ killed (named_since (kept n objects) objects) (view_of_blocks table blocks) → AreKnown table made → (turned : Turned)
    → onward (kept n objects) (view_of_tasks table objects rest) (killed (named_since (kept n objects) objects) (view_of_blocks table blocks)) ≡ turned
    → IsLeft table (record { function = function; objects = named; tasks = rest }) made turned
jumped table n objects function named blocks made rest within fits is ends known turned meant = record {
  same = left-kept table n objects named blocks made rest within fits is ends ∙ meant;
  fits = subst (λ count. TasksFit table count rest) (sym (ap length is ∙ length-kept n objects within)) fits;
  known = known;
}

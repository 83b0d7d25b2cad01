-- What is left of a frame where a block or a `for` begins (6.8.2, 6.8.5.3).
use Rattle.std.proofs.Common.{◌≡◌, ℕ, ◌+◌, ◌≤◌, List, [], ◌∷◌, ◌++◌, map, length, length-append, Bor, Option, Some, None, is_some, refl, ap, sym, subst, ◌∙◌, arith}
use Rattle.std.proofs.lemmas.List.{append-nil}
use Rattle.dm_type.specs.Tables.{Table}
use Rattle.dm_tree.specs.declared.tree.Core.{Core, out-Core}
use Rattle.dm_tree.specs.Trees as label
use Rattle.dm_tree.specs.Trees.{Tree, listed, trees}
use Rattle.dm_tree.specs.Views.{Opened, if_there, opened_form, view}
use Rattle.dm_memory.specs.declared.blocks.Block.{Block}
use Rattle.dm_memory.specs.Blocks.{view_of_blocks}
use Rattle.dm_meaning.specs.Choices.{in_order}
use Rattle.dm_meaning.specs.Memory.{Memory}
use Rattle.dm_meaning.specs.Operations.{Objects}
use Rattle.dm_meaning.specs.Programs.{Program}
use Rattle.dm_meaning.specs.States as states
use Rattle.dm_meaning.specs.Statements.{Turned, onward, begin_for, begin_form, begin_statement, begin_tree, declared_by, declared_in, entered, loop_with, made_from, memory_entered, named_from, items_tasks, start_tasks, unlabelled}
use Rattle.dm_frame.specs.declared.task.Loop.{Loop}
use Rattle.dm_frame.specs.declared.task.Task.{Task}
use Rattle.dm_frame.specs.declared.task.Task.TheVariants as task
use Rattle.dm_frame.specs.Entering.{IsEntered}
use Rattle.dm_frame.specs.Tasks.{kept, view_of_loop, view_of_tasks, TasksFit}
use Rattle.dm_frame.proofs.BeginLemmas.{seen-as}
use Rattle.dm_frame.proofs.EnterLemmas.{in-order, newer-front, newer_on}
use Rattle.dm_frame.proofs.KeptLemmas.{kept-append, kept-whole}
use Rattle.dm_frame.proofs.TaskLemmas.{newer-objects}

module _ (program : Program) (ds : List ℕ) (objects named : Objects) (blocks made : List Block) (entered-so : IsEntered program ds objects blocks named made) where
  front : named ≡ newer_on (length blocks) ds ++ objects
  front = entered-so.names ∙ newer-front (length blocks) ds objects

  -- no object is lost
  pub none-lost : length objects ≤ length named
  none-lost =
      let l : length (newer_on (length blocks) ds ++ objects) ≡ length (newer_on (length blocks) ds) + length objects = length-append (newer_on (length blocks) ds) objects in
      let same : length named ≡ length (newer_on (length blocks) ds ++ objects) = ap length front in
      omega (arith, l, same)

  -- the tasks behind stand for the same
  pub ends-behind : (tasks : List Task) → TasksFit program.table (length objects) tasks
      → view_of_tasks program.table named (task.Ends (length objects) ∷ tasks) ≡ states.ends objects ∷ view_of_tasks program.table objects tasks
  ends-behind tasks fits =
      ap (λ all. view_of_tasks program.table all (task.Ends (length objects) ∷ tasks)) front
      ∙ (ap (λ saved. states.ends saved ∷ view_of_tasks program.table (newer_on (length blocks) ds ++ objects) tasks) (kept-append (newer_on (length blocks) ds) objects (length objects) (omega arith) ∙ kept-whole objects)
      ∙ ap (λ rest. states.ends objects ∷ rest) (newer-objects program.table (newer_on (length blocks) ds) objects tasks fits))

-- a block
pub block-begun : (program : Program) (items : Bor (List Core)) (objects named : Objects) (blocks made : List Block) (tasks : List Task)
    → IsEntered program (declared_in program (map (view program.table) items.now)) objects blocks named made → TasksFit program.table (length objects) tasks
    → onward named (view_of_tasks program.table named (task.Items items ∷ task.Ends (length objects) ∷ tasks)) (view_of_blocks program.table made)
    ≡ begin_form program (in_order (view_of_blocks program.table blocks)) objects (view_of_tasks program.table objects tasks) (view_of_blocks program.table blocks) label.block (map (view program.table) items.now)
block-begun program items objects named blocks made tasks entered-so fits =
    let ds = declared_in program (map (view program.table) items.now) in
    let made-so = in-order program ds objects named blocks made entered-so in
    ap (λ rest. onward named (items_tasks (map (view program.table) items.now) ++ rest) (view_of_blocks program.table made)) (ends-behind program ds objects named blocks made entered-so tasks fits)
    ∙ (ap (λ all. onward all (items_tasks (map (view program.table) items.now) ++ states.ends objects ∷ view_of_tasks program.table objects tasks) (view_of_blocks program.table made)) (sym made-so.0)
    ∙ ap (λ memory. onward (entered program (in_order (view_of_blocks program.table blocks)) (map (view program.table) items.now) objects)
    (items_tasks (map (view program.table) items.now) ++ states.ends objects ∷ view_of_tasks program.table objects tasks) memory) (sym made-so.1))

-- a `for` with a first part
pub for-begun : (program : Program) (start : Tree) (loop : Loop) (objects named : Objects) (blocks made : List Block) (tasks : List Task) (left : List states.Task)
    → IsEntered program (declared_by program start) objects blocks named made → TasksFit program.table (length objects) tasks
    → left ≡ start_tasks (Some start) ++ view_of_tasks program.table named (task.Tests (length named) loop ∷ task.Ends (length objects) ∷ tasks)
    → onward named left (view_of_blocks program.table made)
    ≡ begin_for program (in_order (view_of_blocks program.table blocks)) objects (view_of_tasks program.table objects tasks) (view_of_blocks program.table blocks) (Some start) (view_of_loop program.table loop)
for-begun program start loop objects named blocks made tasks left entered-so fits is =
    let ds = declared_by program start in
    let made-so = in-order program ds objects named blocks made entered-so in
    let whole : declared_in program (start ∷ []) ≡ ds = append-nil ds in
    let rest = view_of_tasks program.table objects tasks in
    let seen = view_of_loop program.table loop in
    ap (λ all. onward named all (view_of_blocks program.table made)) is
    ∙ (ap (λ saved. onward named (start_tasks (Some start) ++ states.tests saved seen ∷ view_of_tasks program.table named (task.Ends (length objects) ∷ tasks)) (view_of_blocks program.table made)) (kept-whole named)
    ∙ (ap (λ behind. onward named (start_tasks (Some start) ++ states.tests named seen ∷ behind) (view_of_blocks program.table made)) (ends-behind program ds objects named blocks made entered-so tasks fits)
    ∙ (ap (λ all. onward all (start_tasks (Some start) ++ states.tests all seen ∷ states.ends objects ∷ rest) (view_of_blocks program.table made)) (sym made-so.0)
    ∙ (ap (λ memory. onward (named_from (in_order (view_of_blocks program.table blocks)) 0 ds objects)
    (start_tasks (Some start) ++ states.tests (named_from (in_order (view_of_blocks program.table blocks)) 0 ds objects) seen ∷ states.ends objects ∷ rest) memory) (sym made-so.1)
    ∙ ap (λ all. onward (named_from (in_order (view_of_blocks program.table blocks)) 0 all objects)
    (start_tasks (Some start) ++ states.tests (named_from (in_order (view_of_blocks program.table blocks)) 0 all objects) seen ∷ states.ends objects ∷ rest)
    (made_from program (in_order (view_of_blocks program.table blocks)) 0 all (view_of_blocks program.table blocks))) (sym whole)))))

-- a `for`, by its parts
pub for-parts : (program : Program) (names : ℕ → ℕ) (objects : Objects) (rest : List states.Task) (memory : Memory) (start condition after : Option Tree) (body : Tree)
    → begin_for program names objects rest memory start (loop_with condition after body)
    ≡ begin_form program names objects rest memory (label.for_loop (is_some start) (is_some condition) (is_some after)) (listed (trees (if_there start ++ (if_there condition ++ (if_there after ++ body ∷ [])))))
for-parts program names objects rest memory None None None body = refl
for-parts program names objects rest memory None None (Some after) body = refl
for-parts program names objects rest memory None (Some condition) None body = refl
for-parts program names objects rest memory None (Some condition) (Some after) body = refl
for-parts program names objects rest memory (Some start) None None body = refl
for-parts program names objects rest memory (Some start) None (Some after) body = refl
for-parts program names objects rest memory (Some start) (Some condition) None body = refl
for-parts program names objects rest memory (Some start) (Some condition) (Some after) body = refl

-- a statement behind its labels, by its form
pub statement-form : (program : Program) (names : ℕ → ℕ) (objects : Objects) (rest : List states.Task) (memory : Memory) (table : Table) (core : Core) (tree : Tree) (opening : Opened)
    → view table core ≡ unlabelled tree → opened_form table (out-Core core).form ≡ opening
    → begin_form program names objects rest memory opening.label (listed (trees opening.parts)) ≡ begin_statement program names objects rest memory tree
statement-form program names objects rest memory table core tree opening behind opens =
    sym (ap (begin_tree program names objects rest memory) (sym behind ∙ seen-as table core opening opens))

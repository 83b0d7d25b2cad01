-- What comes next, and the state in which it does.
use Rattle.std.proofs.Common.{◌≡◌, ℕ, ◌≤◌, List, [], ◌∷◌, length, Option, Some, None, IsSome, map, refl, ap, sym, ◌∙◌, subst, arith}
use Rattle.dm_type.specs.Tables.{Table}
use Rattle.dm_meaning.specs.Choices.{chosen, in_order}
use Rattle.dm_meaning.specs.Machines.{going}
use Rattle.dm_meaning.specs.Operations.{Objects}
use Rattle.dm_meaning.specs.Programs.{Program}
use Rattle.dm_meaning.specs.States.{Loop, State, Task, begins, declares, initials, evaluates, again, tests, ends, ends_switch, leaves, skips, hands_back}
use Rattle.dm_meaning.specs.Statements.{continued, tested, unfolded}
use Rattle.dm_meaning.specs.Steps.{closed, task_steps, steps_from}
use Rattle.dm_tree.specs.Trees.{Tree}
use Rattle.dm_memory.specs.declared.blocks.Block.{Block}
use Rattle.dm_memory.specs.Blocks.{AreKnown}
use Rattle.dm_frame.specs.declared.next.Next.{Next}
use Rattle.dm_frame.specs.declared.next.Next.TheVariants as one
use Rattle.dm_frame.specs.declared.task.Task.{Task as FrameTask}
use Rattle.dm_frame.specs.declared.frame.Frame.{Frame}
use Rattle.dm_frame.specs.Frames.{tasks_of, FrameFits}
use Rattle.dm_frame.specs.Nexts.{count_after, NextFits, OneFits}
use Rattle.dm_frame.specs.Tasks.{TasksFit}
use Rattle.dm_frame.proofs.TaskLemmas.{more-fit}
use Rattle.dm_primitive.specs.declared.streams.Streams.{Streams}
use Rattle.dm_state.specs.declared.full.Full.{Full}
use Rattle.dm_state.specs.declared.full.Full.TheVariants as variant
use Rattle.dm_state.specs.declared.full.Ongoing.{Ongoing}
use Rattle.dm_state.specs.declared.running.Caller.{Caller}
use Rattle.dm_state.specs.declared.running.Running.{Running}
use Rattle.dm_state.specs.Fits.{CallersFit, FullFits, OngoingFits, RunningFits}
use Rattle.dm_state.specs.Standing.{world_of}
use Rattle.dm_state.specs.Turns.{state_with}
use Rattle.dm_state.specs.Views.{tasks_with, view_of_caller, view_of_full, view_of_running}
use Rattle.dm_exec.specs.declared.due.Due.{Due}
use Rattle.dm_exec.specs.declared.due.Due.TheVariants as comes
use Rattle.dm_exec.specs.Due.{chosen_step, due_tasks, DueFits, IsDue, TakesStep}
use Rattle.dm_exec.specs.Runs.{next_state}

-- ---- loops go on

tested-takes : (objects : Objects) (loop : Loop) (rest : List Task) (condition : Option Tree) → TakesStep (tested objects loop rest condition)
tested-takes objects loop rest (Some condition) = tt
tested-takes objects loop rest None = tt

continued-takes : (objects : Objects) (loop : Loop) (rest : List Task) (after : Option Tree) → TakesStep (continued objects loop rest after)
continued-takes objects loop rest (Some after) = tt
continued-takes objects loop rest None = tested-takes objects loop rest loop.condition

pub unfolded-takes : (tasks : List Task) → TakesStep (unfolded tasks)
unfolded-takes [] = tt
unfolded-takes (begins tree ∷ rest) = tt
unfolded-takes (declares declarator expressions ∷ rest) = tt
unfolded-takes (initials at kind initialiser expressions ∷ rest) = tt
unfolded-takes (evaluates place run use_of ∷ rest) = tt
unfolded-takes (again objects loop ∷ rest) = continued-takes objects loop rest loop.after
unfolded-takes (tests objects loop ∷ rest) = tested-takes objects loop rest loop.condition
unfolded-takes (ends saved ∷ rest) = tt
unfolded-takes (ends_switch saved ∷ rest) = tt
unfolded-takes (leaves ∷ rest) = tt
unfolded-takes (skips ∷ rest) = tt
unfolded-takes (hands_back value ∷ rest) = tt

-- something is left to do
HasTask : List Task → Type 0
HasTask [] = ⊥
HasTask (first ∷ rest) = Unit {0}

none-left : (tasks : List Task) → tasks ≡ [] → HasTask tasks → ⊥
unfolding HasTask
none-left tasks is some = subst HasTask is some

tested-left : (objects : Objects) (loop : Loop) (rest : List Task) (condition : Option Tree) → HasTask (tested objects loop rest condition)
unfolding HasTask
tested-left objects loop rest (Some condition) = tt
tested-left objects loop rest None = tt

continued-left : (objects : Objects) (loop : Loop) (rest : List Task) (after : Option Tree) → HasTask (continued objects loop rest after)
unfolding HasTask
continued-left objects loop rest (Some after) = tt
continued-left objects loop rest None = tested-left objects loop rest loop.condition

unfolded-left : (first : Task) (rest : List Task) → HasTask (unfolded (first ∷ rest))
unfolding HasTask
unfolded-left (begins tree) rest = tt
unfolded-left (declares declarator expressions) rest = tt
unfolded-left (initials at kind initialiser expressions) rest = tt
unfolded-left (evaluates place run use_of) rest = tt
unfolded-left (again objects loop) rest = continued-left objects loop rest loop.after
unfolded-left (tests objects loop) rest = tested-left objects loop rest loop.condition
unfolded-left (ends saved) rest = tt
unfolded-left (ends_switch saved) rest = tt
unfolded-left leaves rest = tt
unfolded-left skips rest = tt
unfolded-left (hands_back value) rest = tt

-- where nothing is left once loops have gone on, nothing was left
pub unfolded-none : (tasks : List Task) → unfolded tasks ≡ [] → tasks ≡ []
unfolded-none [] is = refl
unfolded-none (first ∷ rest) is = absurd (none-left (unfolded (first ∷ rest)) is (unfolded-left first rest))

-- ---- what fits

after-less : (table : Table) (count : ℕ) (next : Next) → OneFits table count next → count_after count next ≤ count
after-less table count (one.Begins tree) fits = omega arith
after-less table count (one.Declares local) fits = omega arith
after-less table count (one.Initials at kind initial) fits = omega arith
after-less table count (one.Again n loop) fits = fits.0
after-less table count (one.Tests n loop) fits = fits.0
after-less table count (one.Ends n) fits = fits
after-less table count (one.EndsSwitch n) fits = fits
after-less table count one.Leaves fits = omega arith
after-less table count one.Skips fits = omega arith
after-less table count (one.HandsBack value) fits = omega arith

pub frame-fits : (table : Table) (count : ℕ) (next : Next) (tasks : List FrameTask) → NextFits table count (Some next) tasks → TasksFit table count tasks
frame-fits table count next tasks fits = more-fit table (count_after count next) count tasks (after-less table count next fits.0) fits.1

-- the tasks behind the end of a statement name no more objects than stay alive
pub behind-end : (table : Table) (count : ℕ) (next : Next) (alive : ℕ) (tasks : List FrameTask) → next ≡ one.Ends alive → NextFits table count (Some next) tasks → (alive ≤ count) × TasksFit table alive tasks
behind-end table count next alive tasks is fits = subst (λ (next : Next). NextFits table count (Some next) tasks) is fits

pub behind-switch : (table : Table) (count : ℕ) (next : Next) (alive : ℕ) (tasks : List FrameTask) → next ≡ one.EndsSwitch alive → NextFits table count (Some next) tasks → (alive ≤ count) × TasksFit table alive tasks
behind-switch table count next alive tasks is fits = subst (λ (next : Next). NextFits table count (Some next) tasks) is fits

-- ---- the state

abbrev built : Table → ℕ → Objects → List Task → List Caller → Objects → List Block → Streams → State
built table function objects tasks callers statics blocks streams = record {
  standing = going;
  frame = record { function = function; objects = objects; tasks = tasks };
  callers = map (view_of_caller table) callers;
  statics = statics;
  world = world_of table blocks streams;
}

-- it is the same, but for its tasks
pub same-state : (table : Table) (tasks : List Task) (due : Due) (before after : Running) → IsDue table tasks due before after
    → view_of_running table before ≡ state_with table (tasks_with table before.full before.frame) after
same-state table tasks due before after h =
    let all = tasks_with table before.full before.frame in
    let frame = before.frame in
    sym (ap (λ function. built table function after.frame.objects all after.callers after.statics after.blocks after.streams) h.function
    ∙ (ap (λ objects. built table frame.function objects all after.callers after.statics after.blocks after.streams) h.objects
    ∙ (ap (λ callers. built table frame.function frame.objects all callers after.statics after.blocks after.streams) h.callers
    ∙ (ap (λ statics. built table frame.function frame.objects all before.callers statics after.blocks after.streams) h.statics
    ∙ (ap (λ blocks. built table frame.function frame.objects all before.callers before.statics blocks after.streams) h.blocks
    ∙ ap (built table frame.function frame.objects all before.callers before.statics before.blocks) h.streams)))))

-- the step of a state that goes on, by what is left to do in it
stepped-due : (program : Program) (choice : ℕ) (state : State) (tasks : List Task) → state.standing ≡ going → unfolded state.frame.tasks ≡ tasks
    → next_state program choice state ≡ chosen_step program choice state tasks
unfolding next_state chosen_step
stepped-due program choice state tasks goes is =
    ap (λ standing. chosen state choice (steps_from standing (task_steps program (in_order state.world.memory) state (unfolded state.frame.tasks)))) goes
    ∙ ap (λ tasks. chosen state choice (task_steps program (in_order state.world.memory) state tasks)) is

-- the step of a run is that of what comes next
pub due-stepped : (table : Table) (program : Program) (choice : ℕ) (due : Due) (before after : Running) → IsDue table (tasks_with table before.full before.frame) due before after
    → next_state program choice (view_of_running table before)
    ≡ chosen_step program choice (state_with table (tasks_with table before.full before.frame) after) (due_tasks table due after)
due-stepped table program choice due before after h =
    ap (next_state program choice) (same-state table (tasks_with table before.full before.frame) due before after h)
    ∙ stepped-due program choice (state_with table (tasks_with table before.full before.frame) after) (due_tasks table due after) refl h.left

-- where nothing is left, the state is the one that shows
pub closed-state : (table : Table) (tasks : List Task) (after : Running) → after.full ≡ None → tasks_of table after.frame ≡ [] → tasks ≡ [] → state_with table tasks after ≡ view_of_running table after
closed-state table tasks after none done is =
    ap (λ tasks. state_with table tasks after) (is ∙ (sym done ∙ ap (λ (full : Option Full). tasks_with table full after.frame) (sym none)))

-- ---- how it was taken out

unfolded-full : (table : Table) (full : Full) (rest : List Task) → unfolded (view_of_full table full ∷ rest) ≡ view_of_full table full ∷ rest
unfolded-full table (variant.Begins begun) rest = refl
unfolded-full table (variant.Goes ongoing) rest = refl

-- an expression under evaluation comes next
pub some-unfolded : (table : Table) (full : Option Full) (frame : Frame) → IsSome full → unfolded (tasks_with table full frame) ≡ tasks_with table full frame
some-unfolded table None frame some = absurd (cc)
some-unfolded table (Some full) frame some = unfolded-full table full (tasks_of table frame)

-- a full expression that was under evaluation comes next
pub full-due : (table : Table) (full : Full) (one : Ongoing) (before after : Running) → before.full ≡ Some full → view_of_full table (variant.Goes one) ≡ view_of_full table full → OngoingFits table one
    → FrameFits table before.frame → after.frame ≡ before.frame → after.callers ≡ before.callers → after.statics ≡ before.statics → after.blocks ≡ before.blocks → after.streams ≡ before.streams
    → after.full ≡ None → IsDue table (tasks_with table before.full before.frame) (comes.Evaluates one) before after
full-due table full one before after is same fits frame_fits frame callers statics blocks streams none = record {
  function = ap (λ (frame : Frame). frame.function) frame;
  objects = ap (λ (frame : Frame). frame.objects) frame;
  callers = callers;
  statics = statics;
  blocks = blocks;
  streams = streams;
  none = none;
  left =
      ap (λ (full : Option Full). unfolded (tasks_with table full before.frame)) is
      ∙ (unfolded-full table full (tasks_of table before.frame)
      ∙ (ap (λ (first : Task). first ∷ tasks_of table before.frame) (sym same)
      ∙ ap (λ (frame : Frame). view_of_full table (variant.Goes one) ∷ tasks_of table frame) (sym frame)));
  fits = (fits, subst (FrameFits table) (sym frame) frame_fits);
}

-- where none was, what is left to do in the frame is all
pub task-due : (table : Table) (due : Due) (before after : Running) → before.full ≡ None → IsDue table (tasks_of table before.frame) due before after
    → IsDue table (tasks_with table before.full before.frame) due before after
task-due table due before after none h = subst (λ (full : Option Full). IsDue table (tasks_with table full before.frame) due before after) (sym none) h

-- in two parts
pub due-behind : (table : Table) (tasks others : List Task) (one : Due) (before middle after : Running) → middle.frame.function ≡ before.frame.function → middle.frame.objects ≡ before.frame.objects
    → middle.callers ≡ before.callers → middle.statics ≡ before.statics → middle.blocks ≡ before.blocks → middle.streams ≡ before.streams → unfolded others ≡ unfolded tasks
    → IsDue table tasks one middle after → IsDue table others one before after
due-behind table tasks others one before middle after function objects callers statics blocks streams same h = record {
  function = h.function ∙ function;
  objects = h.objects ∙ objects;
  callers = h.callers ∙ callers;
  statics = h.statics ∙ statics;
  blocks = h.blocks ∙ blocks;
  streams = h.streams ∙ streams;
  none = h.none;
  left = same ∙ h.left;
  fits = h.fits;
}

-- what is left fits
due-frame : (table : Table) (due : Due) (after : Running) → DueFits table due after → FrameFits table after.frame
due-frame table (comes.Evaluates ongoing) after fits = fits.1
due-frame table (comes.Takes next) after fits = frame-fits table (length after.frame.objects) next after.frame.tasks fits
due-frame table comes.Closes after fits = fits.1

pub due-fits : (table : Table) (tasks : List Task) (due : Due) (before after : Running) → IsDue table tasks due before after → RunningFits table before → RunningFits table after
due-fits table tasks due before after h fits = record {
  frame = due-frame table due after h.fits;
  full = subst (FullFits table) (sym h.none) tt;
  callers = subst (CallersFit table) (sym h.callers) fits.callers;
  blocks = subst (AreKnown table) (sym h.blocks) fits.blocks;
}

-- ---- single steps

pub closes : (table : Table) (program : Program) (choice : ℕ) (tasks : List Task) (after : Running) → after.full ≡ None → tasks_of table after.frame ≡ [] → tasks ≡ []
    → chosen_step program choice (state_with table tasks after) [] ≡ closed program (view_of_running table after)
unfolding chosen_step
closes table program choice tasks after none done is = ap (closed program) (closed-state table tasks after none done is)

-- What is left to do next.
use Rattle.std.specs.Prelude.{◌≡◌, ℕ, suc, ◌+◌, ◌≤◌, List, [], ◌∷◌, ◌++◌, length, Option, Some, None}
use Rattle.dm_type.specs.Tables.{Table}
use Rattle.dm_tree.specs.Views.{view, view_of_local}
use Rattle.dm_value.specs.Places.{view_of_at}
use Rattle.dm_value.specs.Views.{view_of_value}
use Rattle.dm_layout.specs.Kinds.{type_of_object, IsKnownType}
use Rattle.dm_meaning.specs.Operations.{Objects}
use Rattle.dm_meaning.specs.States as states
use Rattle.dm_program.specs.Initials.{view_of_initial}
use Rattle.dm_frame.specs.declared.next.Next.{Next}
use Rattle.dm_frame.specs.declared.next.Next.TheVariants as one
use Rattle.dm_frame.specs.declared.task.Task.{Task}
use Rattle.dm_frame.specs.declared.task.Task.TheVariants as task
use Rattle.dm_frame.specs.Tasks.{kept, view_of_loop, declares_local, TreeFits, LocalFits, InitialFits, LoopFits, TasksFit}

abbrev pub next_task : Table → Objects → Next → states.Task
next_task table objects (one.Begins tree) = states.begins (view table tree.now)
next_task table objects (one.Declares local) = declares_local (view_of_local table local.now)
next_task table objects (one.Initials at kind initial) =
    states.initials (view_of_at at) (type_of_object table kind) (view_of_initial table initial.now).initialiser (view_of_initial table initial.now).expressions
next_task table objects (one.Again n loop) = states.again (kept n objects) (view_of_loop table loop)
next_task table objects (one.Tests n loop) = states.tests (kept n objects) (view_of_loop table loop)
next_task table objects (one.Ends n) = states.ends (kept n objects)
next_task table objects (one.EndsSwitch n) = states.ends_switch (kept n objects)
next_task table objects one.Leaves = states.leaves
next_task table objects one.Skips = states.skips
next_task table objects (one.HandsBack value) = states.hands_back (view_of_value value)

abbrev pub view_of_next : Table → Objects → Option Next → List states.Task
view_of_next table objects None = []
view_of_next table objects (Some next) = next_task table objects next ∷ []

-- where nothing comes next, nothing is left
abbrev pub AreDone : Option Next → List states.Task → Type 0
AreDone None tasks = tasks ≡ []
AreDone (Some next) tasks = Unit {0}

-- ---- what fits a table and a number of objects

abbrev pub OneFits : Table → ℕ → Next → Type 0
OneFits table count (one.Begins tree) = TreeFits table tree.now
OneFits table count (one.Declares local) = LocalFits table local.now
OneFits table count (one.Initials at kind initial) = IsKnownType table kind × InitialFits table initial.now
OneFits table count (one.Again n loop) = (n ≤ count) × LoopFits table loop
OneFits table count (one.Tests n loop) = (n ≤ count) × LoopFits table loop
OneFits table count (one.Ends n) = n ≤ count
OneFits table count (one.EndsSwitch n) = n ≤ count
OneFits table count one.Leaves = Unit {0}
OneFits table count one.Skips = Unit {0}
OneFits table count (one.HandsBack value) = Unit {0}

-- how many objects the tasks behind it may name
abbrev pub count_after : ℕ → Next → ℕ
count_after count (one.Begins tree) = count
count_after count (one.Declares local) = count
count_after count (one.Initials at kind initial) = count
count_after count (one.Again n loop) = n
count_after count (one.Tests n loop) = n
count_after count (one.Ends n) = n
count_after count (one.EndsSwitch n) = n
count_after count one.Leaves = count
count_after count one.Skips = count
count_after count (one.HandsBack value) = count

-- it fits, and so do the tasks behind it
abbrev pub NextFits : Table → ℕ → Option Next → List Task → Type 0
NextFits table count None tasks = TasksFit table count tasks
NextFits table count (Some next) tasks = OneFits table count next × TasksFit table (count_after count next) tasks

-- ---- how many things may come

abbrev pub weight_of : Task → ℕ
weight_of (task.Items items) = suc (length items.now)
weight_of (task.Declares locals) = suc (length locals.now)
weight_of (task.Parts at kind number items) = suc (length items.now)
weight_of (task.Begins tree) = 1
weight_of (task.Initials at kind initial) = 1
weight_of (task.Again n loop) = 1
weight_of (task.Tests n loop) = 1
weight_of (task.Ends n) = 1
weight_of (task.EndsSwitch n) = 1
weight_of task.Leaves = 1
weight_of task.Skips = 1
weight_of (task.HandsBack value) = 1

abbrev pub weight : List Task → ℕ
weight [] = 0
weight (first ∷ rest) = weight_of first + weight rest

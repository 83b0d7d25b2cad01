-- What is left to do in a function that is running, and what it stands for.
--     view_of_tasks table objects tasks      the tasks, where these are the frame's objects
--     TreeFits table tree      the types in a statement are of the table, and no statement is in its full expressions
--     ExpressionFits table tree      the types in an expression are of the table, and no statement is in it
--     TasksFit table count tasks      their trees fit the table, and they name no more than so many objects
use Rattle.std.specs.Prelude.{ℕ, ◌-◌, ◌≤◌, List, [], ◌∷◌, ◌++◌, map, length, drop, Option, Some, None, IsTrue}
use Rattle.std.proofs.Common.{Bor}
use Rattle.std.specs.List.{AllByRecursion}
use Rattle.dm_type.specs.Tables.{Table}
use Rattle.dm_tree.specs.declared.tree.Core.{Core}
use Rattle.dm_tree.specs.declared.tree.Initial.{Initial}
use Rattle.dm_tree.specs.declared.tree.Local.{Local}
use Rattle.dm_tree.specs.Trees.{Tree}
use Rattle.dm_tree.specs.TypeNumbers.{are_known, are_known_in_local}
use Rattle.dm_tree.specs.Views.{OpenedInitial, OpenedLocal, items_of, expressions_of_items, view, view_of_local}
use Rattle.dm_value.specs.Places.{view_of_at}
use Rattle.dm_value.specs.Views.{view_of_value}
use Rattle.dm_layout.specs.Kinds.{type_of_object, IsKnownType}
use Rattle.dm_layout.specs.LaidOut.{laid_out}
use Rattle.dm_meaning.specs.Operations.{Objects}
use Rattle.dm_meaning.specs.States as states
use Rattle.dm_meaning.specs.Statements.{evaluation, items_tasks, part_tasks}
use Rattle.dm_meaning.specs.Wholes.{is_whole_start, IsExpression, IsWhole, IsWholeInitial, IsWholeLocal}
use Rattle.dm_program.specs.Initials.{view_of_initial, are_known_in_initial}
use Rattle.dm_frame.specs.declared.task.Begun.{Begun}
use Rattle.dm_frame.specs.declared.task.Loop.{Loop}
use Rattle.dm_frame.specs.declared.task.Task.{Task}
use Rattle.dm_frame.specs.declared.task.Task.TheVariants as task
use Rattle.dm_frame.specs.declared.task.Use.{Use}
use Rattle.dm_frame.specs.declared.task.Use.TheVariants as use_of

-- the oldest objects, so many of them
abbrev pub kept : ℕ → Objects → Objects
kept n objects = drop (length objects - n) objects

-- ---- trees

abbrev pub tree_or_none : Table → Option (Bor Core) → Option Tree
tree_or_none table None = None
tree_or_none table (Some tree) = Some (view table tree.now)

abbrev pub view_of_loop : Table → Loop → states.Loop
view_of_loop table loop = record { condition = tree_or_none table loop.condition; after = tree_or_none table loop.after; body = view table loop.body.now }

abbrev pub view_of_use : Table → Use → states.Use
view_of_use table use_of.Drops = states.drops
view_of_use table (use_of.Chooses first second) = states.chooses (view table first.now) (tree_or_none table second)
view_of_use table (use_of.Selects items) = states.selects (map (view table) items.now)
view_of_use table (use_of.Repeats loop) = states.repeats (view_of_loop table loop)
view_of_use table (use_of.Continues loop) = states.continues (view_of_loop table loop)
view_of_use table use_of.Returns = states.returns
view_of_use table (use_of.Initialises at kind) = states.initialises (view_of_at at) (type_of_object table kind)

-- a full expression that begins, if one does
abbrev pub view_of_begun : Table → Option Begun → List states.Task
view_of_begun table None = []
view_of_begun table (Some begun) = evaluation (view table begun.tree.now) (view_of_use table begun.use_of) ∷ []

-- ---- tasks

abbrev pub declares_local : OpenedLocal → states.Task
declares_local local = states.declares local.declarator local.expressions

abbrev pub initials_at : Table → List Initial → List OpenedInitial
initials_at table items = map (view_of_initial table) items

abbrev pub view_of_task : Table → Objects → Task → List states.Task
view_of_task table objects (task.Items items) = items_tasks (map (view table) items.now)
view_of_task table objects (task.Begins tree) = states.begins (view table tree.now) ∷ []
view_of_task table objects (task.Declares locals) = map declares_local (map (view_of_local table) locals.now)
view_of_task table objects (task.Initials at kind initial) =
    states.initials (view_of_at at) (type_of_object table kind) (view_of_initial table initial.now).initialiser (view_of_initial table initial.now).expressions ∷ []
view_of_task table objects (task.Parts at kind next items) =
    part_tasks (laid_out table) (view_of_at at) (type_of_object table kind) next (items_of (initials_at table items.now)) (expressions_of_items (initials_at table items.now))
view_of_task table objects (task.Again n loop) = states.again (kept n objects) (view_of_loop table loop) ∷ []
view_of_task table objects (task.Tests n loop) = states.tests (kept n objects) (view_of_loop table loop) ∷ []
view_of_task table objects (task.Ends n) = states.ends (kept n objects) ∷ []
view_of_task table objects (task.EndsSwitch n) = states.ends_switch (kept n objects) ∷ []
view_of_task table objects task.Leaves = states.leaves ∷ []
view_of_task table objects task.Skips = states.skips ∷ []
view_of_task table objects (task.HandsBack value) = states.hands_back (view_of_value value) ∷ []

abbrev pub view_of_tasks : Table → Objects → List Task → List states.Task
view_of_tasks table objects [] = []
view_of_tasks table objects (first ∷ rest) = view_of_task table objects first ++ view_of_tasks table objects rest

-- ---- what fits a table and a number of objects

-- the types in a statement have numbers of the table, and no statement is in its full expressions
abbrev pub TreeFits : Table → Core → Type 0
TreeFits table tree = IsTrue (are_known (length table.shapes) tree) × IsWhole tree

abbrev pub TreesFit : Table → List Core → Type 0
TreesFit table trees = AllByRecursion (TreeFits table) trees

-- the types in an expression have numbers of the table, and no statement is in it
abbrev pub ExpressionFits : Table → Core → Type 0
ExpressionFits table tree = IsTrue (are_known (length table.shapes) tree) × IsExpression tree

-- the first part of a `for`: a declaration or an expression
abbrev pub StartFits : Table → Core → Type 0
StartFits table tree = IsTrue (are_known (length table.shapes) tree) × ((types : Table) → IsTrue (is_whole_start (view types tree)))

abbrev pub LocalFits : Table → Local → Type 0
LocalFits table local = IsTrue (are_known_in_local (length table.shapes) local) × IsWholeLocal local

abbrev pub LocalsFit : Table → List Local → Type 0
LocalsFit table locals = AllByRecursion (LocalFits table) locals

abbrev pub InitialFits : Table → Initial → Type 0
InitialFits table initial = IsTrue (are_known_in_initial (length table.shapes) initial) × IsWholeInitial initial

abbrev pub InitialsFit : Table → List Initial → Type 0
InitialsFit table initials = AllByRecursion (InitialFits table) initials

-- what may be left out fits where it is there
abbrev pub FitsIfThere : (Core → Type 0) → Option (Bor Core) → Type 0
FitsIfThere fits None = Unit {0}
FitsIfThere fits (Some tree) = fits tree.now

abbrev pub LoopFits : Table → Loop → Type 0
LoopFits table loop = FitsIfThere (ExpressionFits table) loop.condition × FitsIfThere (ExpressionFits table) loop.after × TreeFits table loop.body.now

abbrev pub UseFits : Table → Use → Type 0
UseFits table use_of.Drops = Unit {0}
UseFits table (use_of.Chooses first second) = TreeFits table first.now × FitsIfThere (TreeFits table) second
UseFits table (use_of.Selects items) = TreesFit table items.now
UseFits table (use_of.Repeats loop) = LoopFits table loop
UseFits table (use_of.Continues loop) = LoopFits table loop
UseFits table use_of.Returns = Unit {0}
UseFits table (use_of.Initialises at kind) = IsKnownType table kind

abbrev pub BegunFits : Table → Option Begun → Type 0
BegunFits table None = Unit {0}
BegunFits table (Some begun) = ExpressionFits table begun.tree.now × UseFits table begun.use_of

abbrev pub TaskFits : Table → ℕ → Task → Type 0
TaskFits table count (task.Items items) = TreesFit table items.now
TaskFits table count (task.Begins tree) = TreeFits table tree.now
TaskFits table count (task.Declares locals) = LocalsFit table locals.now
TaskFits table count (task.Initials at kind initial) = IsKnownType table kind × InitialFits table initial.now
TaskFits table count (task.Parts at kind next items) = IsKnownType table kind × InitialsFit table items.now
TaskFits table count (task.Again n loop) = (n ≤ count) × LoopFits table loop
TaskFits table count (task.Tests n loop) = (n ≤ count) × LoopFits table loop
TaskFits table count (task.Ends n) = n ≤ count
TaskFits table count (task.EndsSwitch n) = n ≤ count
TaskFits table count task.Leaves = Unit {0}
TaskFits table count task.Skips = Unit {0}
TaskFits table count (task.HandsBack value) = Unit {0}

-- how many objects the tasks behind one may name
abbrev pub count_behind : ℕ → Task → ℕ
count_behind count (task.Items items) = count
count_behind count (task.Begins tree) = count
count_behind count (task.Declares locals) = count
count_behind count (task.Initials at kind initial) = count
count_behind count (task.Parts at kind next items) = count
count_behind count (task.Again n loop) = n
count_behind count (task.Tests n loop) = n
count_behind count (task.Ends n) = n
count_behind count (task.EndsSwitch n) = n
count_behind count task.Leaves = count
count_behind count task.Skips = count
count_behind count (task.HandsBack value) = count

abbrev pub TasksFit : Table → ℕ → List Task → Type 0
TasksFit table count [] = Unit {0}
TasksFit table count (first ∷ rest) = TaskFits table count first × TasksFit table (count_behind count first) rest

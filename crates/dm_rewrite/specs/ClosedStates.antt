-- States of a program in which an object is closed: its address is nowhere taken, so no pointer leads to it, and one declaration alone names it.
--     NamesOnly d tree      the tree names what the declaration of this number declares only where it is read or written
--     ProgramNamesOnly d program      so do all trees of its functions
--     IsUnreached n d state      no pointer to the object is in memory, results or frames, and only that declaration names it
--     IsClosedState n d state      so it is of an object that has been made
use Rattle.std.specs.Prelude.{◌≡◌, ℕ, List, [], ◌∷◌, ◌++◌, Option, Some, None}
use Rattle.dm_type.specs.CTypes.{CType}
use Rattle.dm_tree.specs.Trees.{Label, object, Spans, Tree, Trees, node, no_trees, more_trees, parts_of}
use Rattle.dm_meaning.specs.Among.{IsAmong}
use Rattle.dm_meaning.specs.MoreObjects.{IsMade}
use Rattle.dm_meaning.specs.Operations.{of_value, Objects}
use Rattle.dm_meaning.specs.Programs.{Program, Definition}
use Rattle.dm_meaning.specs.Running.{evaluates as evaluates_label, done, begun, filled_in}
use Rattle.dm_meaning.specs.States.{Loop, Use, drops, chooses, selects, repeats, continues, returns, initialises, Task, begins, declares, initials, evaluates, again, tests, ends, ends_switch, leaves, skips, hands_back, Frame, Caller, State}
use Rattle.dm_meaning.specs.Values.{Value}
use Rattle.dm_rewrite.specs.Closed.{Avoids, MemoryAvoids, May, only_closed, names_first, FirstIs, IsClosedIn}

-- ---- trees of which nothing is evaluated

abbrev pub IsOther : ℕ → Label → Type 0
IsOther d (object e) = e ≡ d → ⊥
IsOther d label = Unit {0}

abbrev pub IsName : ℕ → Tree → Type 0
IsName d tree = (kind : CType) × (spans : Spans) × (tree ≡ node (object d) kind spans no_trees)

abbrev mutual
  pub NamesOnly : ℕ → Tree → Type 0
  NamesOnly d (node label kind spans parts) = IsOther d label × AllNameOnly d (names_first (evaluates_label label)) parts

  pub AllNameOnly : ℕ → May → Trees → Type 0
  AllNameOnly d may no_trees = Unit {0}
  AllNameOnly d may (more_trees first rest) = FirstIs may (NamesOnly d first) (IsName d first) × AllNameOnly d only_closed rest

abbrev pub ListNamesOnly : ℕ → List Tree → Type 0
ListNamesOnly d [] = Unit {0}
ListNamesOnly d (first ∷ rest) = NamesOnly d first × ListNamesOnly d rest

abbrev pub OptionNamesOnly : ℕ → Option Tree → Type 0
OptionNamesOnly d None = Unit {0}
OptionNamesOnly d (Some tree) = NamesOnly d tree

abbrev pub ProgramNamesOnly : ℕ → Program → Type 0
ProgramNamesOnly d program = (definition : Definition) → IsAmong definition program.functions → ListNamesOnly d (parts_of definition.body)

-- ---- frames

-- no other declaration names the object
abbrev pub OnlyNames : ℕ → ℕ → Objects → Type 0
OnlyNames n d [] = Unit {0}
OnlyNames n d (entry ∷ entries) = (entry.1 ≡ n → entry.0 ≡ d) × OnlyNames n d entries

abbrev pub LoopNamesOnly : ℕ → Loop → Type 0
LoopNamesOnly d loop = OptionNamesOnly d loop.condition × OptionNamesOnly d loop.after × NamesOnly d loop.body

abbrev pub UseNamesOnly : ℕ → Use → Type 0
UseNamesOnly d (chooses first second) = NamesOnly d first × OptionNamesOnly d second
UseNamesOnly d (selects items) = ListNamesOnly d items
UseNamesOnly d (repeats loop) = LoopNamesOnly d loop
UseNamesOnly d (continues loop) = LoopNamesOnly d loop
UseNamesOnly d drops = Unit {0}
UseNamesOnly d returns = Unit {0}
UseNamesOnly d (initialises at kind) = Unit {0}

-- a task that hasn't begun
abbrev pub WaitsClosed : ℕ → ℕ → Task → Type 0
WaitsClosed n d (begins tree) = NamesOnly d tree
WaitsClosed n d (declares declarator expressions) = ListNamesOnly d expressions
WaitsClosed n d (initials at kind initialiser expressions) = ListNamesOnly d expressions
WaitsClosed n d (evaluates place run use_of) = ((tree : Tree) × (run ≡ begun tree) × NamesOnly d tree) × UseNamesOnly d use_of
WaitsClosed n d (again objects loop) = OnlyNames n d objects × LoopNamesOnly d loop
WaitsClosed n d (tests objects loop) = OnlyNames n d objects × LoopNamesOnly d loop
WaitsClosed n d (ends objects) = OnlyNames n d objects
WaitsClosed n d (ends_switch objects) = OnlyNames n d objects
WaitsClosed n d leaves = Unit {0}
WaitsClosed n d skips = Unit {0}
WaitsClosed n d (hands_back value) = Avoids n value

abbrev pub AllWaitClosed : ℕ → ℕ → List Task → Type 0
AllWaitClosed n d [] = Unit {0}
AllWaitClosed n d (task ∷ rest) = WaitsClosed n d task × AllWaitClosed n d rest

-- the first task, whose full expression may be under evaluation, where names stand for these objects
abbrev pub RunsClosed : ℕ → ℕ → Objects → Task → Type 0
RunsClosed n d objects (evaluates place run use_of) = IsClosedIn n objects run × UseNamesOnly d use_of
RunsClosed n d objects task = WaitsClosed n d task

abbrev pub AreTasksClosed : ℕ → ℕ → Objects → List Task → Type 0
AreTasksClosed n d objects [] = Unit {0}
AreTasksClosed n d objects (task ∷ rest) = RunsClosed n d objects task × AllWaitClosed n d rest

abbrev pub IsFrameClosed : ℕ → ℕ → Objects → Frame → Type 0
IsFrameClosed n d statics frame = OnlyNames n d frame.objects × AreTasksClosed n d (statics ++ frame.objects) frame.tasks

-- a frame that waits for the value of a call
pub record IsCallerClosed (n d : ℕ) (statics : Objects) (caller : Caller) : Type 0 where
  pub objects : OnlyNames n d caller.frame.objects
  pub tasks : AllWaitClosed n d caller.frame.tasks
  pub use_of : UseNamesOnly d caller.use_of
  pub resumes : (value : Value) → Avoids n value
      → IsClosedIn n (statics ++ caller.frame.objects) (filled_in caller.hole (done caller.kind (of_value value) []))

abbrev pub AreCallersClosed : ℕ → ℕ → Objects → List Caller → Type 0
AreCallersClosed n d statics [] = Unit {0}
AreCallersClosed n d statics (caller ∷ callers) = IsCallerClosed n d statics caller × AreCallersClosed n d statics callers

-- ---- states

-- no pointer to an object of this number is there, whether the object has been made or not
pub record IsUnreached (n d : ℕ) (state : State) : Type 0 where
  pub memory : MemoryAvoids n state.world.memory
  pub statics : OnlyNames n d state.statics
  pub frame : IsFrameClosed n d state.statics state.frame
  pub callers : AreCallersClosed n d state.statics state.callers

pub record IsClosedState (n d : ℕ) (state : State) : Type 0 where
  pub made : IsMade state.world.memory n
  pub unreached : IsUnreached n d state

-- States of typed programs: what is left to do in each function that is running is typed, and so are the objects that declarations name.
--     AreNamed program memory objects      each declaration names an object of its type
--     TaskFits program memory result task      a thing that is left to do in a function with this result
--     IsTypedState program state      a typed state
use Rattle.std.specs.Prelude.{◌≡◌, ℕ, suc, Bool, false, not, IsTrue, List, [], ◌∷◌, take, drop, Option, Some, None}
use Rattle.dm_type.specs.CTypes.{CType, bare}
use Rattle.dm_tree.specs.Composites.{covers}
use Rattle.dm_tree.specs.Scenes.{is_lvalue}
use Rattle.dm_tree.specs.Trees.{Tree, Initialiser, Initialisers, one_expression, in_braces, no_items, more_items, expressions_in, kind_of}
use Rattle.dm_tree.specs.Typing.{IsCondition}
use Rattle.dm_meaning.specs.Values.{At}
use Rattle.dm_meaning.specs.Objects.{Layout, object_of, element, inner_type}
use Rattle.dm_meaning.specs.Memory.{Memory, Block, look_up, reached}
use Rattle.dm_meaning.specs.Causes.{is_unset}
use Rattle.dm_meaning.specs.Programs.{Program, Definition, layout, definition_of}
use Rattle.dm_meaning.specs.Operations.{Result, Objects}
use Rattle.dm_meaning.specs.States.{Loop, Use, drops, chooses, selects, repeats, continues, returns, initialises, Task, begins, declares, initials, evaluates, again, tests, ends, ends_switch, leaves, skips, hands_back, Frame, Caller, State}
use Rattle.dm_meaning.specs.Statements.{type_declared, initial_value}
use Rattle.dm_meaning.specs.Wholes.{is_expression}
use Rattle.dm_sound.specs.TypedValues.{own_type, has_parts, HasType, IsGiven}
use Rattle.dm_sound.specs.TypedTrees.{IsTyped}
use Rattle.dm_sound.specs.TypedSteps.{IsResult}
use Rattle.dm_sound.specs.TypedRuns.{ComesFrom, HoleComesFrom, IsTypedWorld, result_of}

-- ---- objects and places

-- the object of this number is of this type
abbrev pub IsOfKind : Memory → ℕ → CType → Type 0
IsOfKind memory n kind = (block : Block) × (look_up memory n ≡ Some block) × (block.kind ≡ kind)

-- each declaration names an object of its type
abbrev pub AreNamed : Program → Memory → Objects → Type 0
AreNamed program memory [] = Unit {0}
AreNamed program memory (entry ∷ entries) = IsOfKind memory entry.1 (type_declared program entry.0) × AreNamed program memory entries

-- an object of this type, or a part of one, is at the place
abbrev pub IsPlace : Layout → Memory → At → CType → Type 0
IsPlace laid memory at kind = (fixed : Bool) × (reached laid memory at ≡ object_of (bare kind) fixed)

-- ---- initialisers (6.7.9)

-- what the value of the tree gives an object of this type is a value of the type, and was set
abbrev pub Gives : Program → CType → Tree → Type 0
Gives program kind tree =
    (given : Result) → IsResult (layout program) tree given → HasType (layout program) kind (initial_value kind given) × (is_unset (initial_value kind given) ≡ false)

abbrev mutual
  -- The initialiser gives an object of this type, or the parts of it that it names, values of their types; its expressions are those of a
  -- function with this result.
  pub Fills : Program → CType → CType → Initialiser → List Tree → Type 0
  Fills program result kind one_expression [] = Unit {0}
  Fills program result kind one_expression (tree ∷ []) = IsTyped program result tree × Gives program kind tree × IsTrue (is_expression tree)
  Fills program result kind one_expression (first ∷ second ∷ rest) = Unit {0}
  Fills program result kind (in_braces items) trees = IsTrue (has_parts (own_type kind)) × FillParts program result (bare kind) 0 items trees

  -- the items of a list in braces, from the n-th part on
  pub FillParts : Program → CType → CType → ℕ → Initialisers → List Tree → Type 0
  FillParts program result kind n no_items trees = Unit {0}
  FillParts program result kind n (more_items item items) trees =
      (element (layout program) kind n ≡ object_of (inner_type (layout program) kind n) false)
      × Fills program result (inner_type (layout program) kind n) item (take (expressions_in item) trees)
      × FillParts program result kind (suc n) items (drop (expressions_in item) trees)

abbrev pub FillsIfThere : Program → CType → CType → Option Initialiser → List Tree → Type 0
FillsIfThere program result kind None trees = Unit {0}
FillsIfThere program result kind (Some initialiser) trees = Fills program result kind initialiser trees

-- ---- what is left to do

abbrev pub AllAreTyped : Program → CType → List Tree → Type 0
AllAreTyped program result [] = Unit {0}
AllAreTyped program result (tree ∷ trees) = IsTyped program result tree × AllAreTyped program result trees

abbrev pub IsTypedIfThere : Program → CType → Option Tree → Type 0
IsTypedIfThere program result None = Unit {0}
IsTypedIfThere program result (Some tree) = IsTyped program result tree

-- no statement is in it
abbrev pub IsExpressionIfThere : Option Tree → Type 0
IsExpressionIfThere None = Unit {0}
IsExpressionIfThere (Some tree) = IsTrue (is_expression tree)

-- it is the value of a scalar (6.8.5p2)
abbrev pub IsConditionIfThere : Option Tree → Type 0
IsConditionIfThere None = Unit {0}
IsConditionIfThere (Some tree) = IsCondition tree

abbrev pub IsTypedLoop : Program → CType → Loop → Type 0
IsTypedLoop program result loop =
    IsTypedIfThere program result loop.condition × IsTypedIfThere program result loop.after × IsTyped program result loop.body
    × IsConditionIfThere loop.condition × IsExpressionIfThere loop.after

-- what the value of this tree is for
abbrev pub UseFits : Program → Memory → CType → Tree → Use → Type 0
UseFits program memory result tree drops = Unit {0}
UseFits program memory result tree (chooses first second) = IsTyped program result first × IsTypedIfThere program result second × IsCondition tree
UseFits program memory result tree (selects items) = AllAreTyped program result items
UseFits program memory result tree (repeats loop) = IsTypedLoop program result loop × IsCondition tree
UseFits program memory result tree (continues loop) = IsTypedLoop program result loop
UseFits program memory result tree returns = IsTrue (not (is_lvalue tree)) × IsTrue (covers result (kind_of tree))
UseFits program memory result tree (initialises at kind) = IsPlace (layout program) memory at kind × Gives program kind tree

abbrev pub TaskFits : Program → Memory → CType → Task → Type 0
TaskFits program memory result (begins tree) = IsTyped program result tree
TaskFits program memory result (declares declarator trees) = FillsIfThere program result (type_declared program declarator.declared) declarator.initialiser trees
TaskFits program memory result (initials at kind initialiser trees) = IsPlace (layout program) memory at kind × Fills program result kind initialiser trees
TaskFits program memory result (evaluates place run use_of) =
    (tree : Tree) × IsTyped program result tree × ComesFrom (layout program) tree run × UseFits program memory result tree use_of × IsTrue (is_expression tree)
TaskFits program memory result (again saved loop) = AreNamed program memory saved × IsTypedLoop program result loop
TaskFits program memory result (tests saved loop) = AreNamed program memory saved × IsTypedLoop program result loop
TaskFits program memory result (ends saved) = AreNamed program memory saved
TaskFits program memory result (ends_switch saved) = AreNamed program memory saved
TaskFits program memory result leaves = Unit {0}
TaskFits program memory result skips = Unit {0}
TaskFits program memory result (hands_back value) = IsGiven (layout program) result value

abbrev pub TasksFit : Program → Memory → CType → List Task → Type 0
TasksFit program memory result [] = Unit {0}
TasksFit program memory result (task ∷ tasks) = TaskFits program memory result task × TasksFit program memory result tasks

-- ---- frames and states

-- a function that the program defines is running: it gives values of its result's type, whose own const doesn't matter (6.9.1p3)
pub record IsTypedFrame (program : Program) (memory : Memory) (frame : Frame) : Type 0 where
  pub definition : Definition
  pub defined : definition_of program frame.function ≡ Some definition
  pub named : AreNamed program memory frame.objects
  pub tasks : TasksFit program memory (bare (result_of program frame.function)) frame.tasks

-- a function waits for the call of another
pub record IsTypedCaller (program : Program) (memory : Memory) (called : ℕ) (caller : Caller) : Type 0 where
  pub frame : IsTypedFrame program memory caller.frame
  pub tree : Tree
  pub typed : IsTyped program (bare (result_of program caller.frame.function)) tree
  pub comes : HoleComesFrom (layout program) tree caller.kind caller.hole
  pub use_of : UseFits program memory (bare (result_of program caller.frame.function)) tree caller.use_of
  pub whole : IsTrue (is_expression tree)
  -- the call has the type of the function's result, as that was known where the call stands (6.5.2.2p5)
  pub result : CType
  pub gives : caller.kind ≡ bare result
  pub covered : IsTrue (covers (result_of program called) result)

-- each waits for the one above it
abbrev pub AreTypedCallers : Program → Memory → ℕ → List Caller → Type 0
AreTypedCallers program memory called [] = Unit {0}
AreTypedCallers program memory called (caller ∷ callers) =
    IsTypedCaller program memory called caller × AreTypedCallers program memory caller.frame.function callers

pub record IsTypedState (program : Program) (state : State) : Type 0 where
  pub world : IsTypedWorld program state.world
  pub statics : AreNamed program state.world.memory state.statics
  pub frame : IsTypedFrame program state.world.memory state.frame
  pub callers : AreTypedCallers program state.world.memory state.frame.function state.callers

-- States in which objects are set where what is left to do names them.
--     AreSet needs memory objects scope      the objects of these declarations hold values that were set
--     TasksSet program needs memory result objects scope tasks      so when each of the tasks comes to be done
--     IsSetState program needs state      so in each function that is running, and in each object of static storage duration
--     NamesAreSet program needs state      what the full expression that is under evaluation names is set
use Rattle.std.specs.Prelude.{◌≡◌, ◌⊎◌, ℕ, Bool, true, IsTrue, List, [], ◌∷◌, Option, Some, None}
use Rattle.dm_token.specs.declared.place.Place.{Place}
use Rattle.dm_type.specs.CTypes.{CType, bare}
use Rattle.dm_tree.specs.Scenes.{is_scalar}
use Rattle.dm_tree.specs.Trees.{Tree, Declarator, Initialiser, one_expression, in_braces}
use Rattle.dm_meaning.specs.Among.{IsAmong}
use Rattle.dm_meaning.specs.Values.{numbered}
use Rattle.dm_meaning.specs.Memory.{Memory}
use Rattle.dm_meaning.specs.Programs.{Program, layout}
use Rattle.dm_meaning.specs.Operations.{Objects, object_named, whole}
use Rattle.dm_meaning.specs.Running.{Run}
use Rattle.dm_meaning.specs.States.{Loop, Use, chooses, selects, repeats, continues, initialises, Task, begins, declares, initials, evaluates, again, tests, ends, ends_switch, leaves, skips, hands_back, Frame, Caller, State}
use Rattle.dm_meaning.specs.Statements.{is_automatic, type_declared, unfolded}
use Rattle.dm_sound.specs.TypedValues.{IsSet}
use Rattle.dm_sound.specs.TypedTrees.{IsTyped}
use Rattle.dm_sound.specs.TypedRuns.{ComesFrom, HoleComesFrom, result_of}
use Rattle.dm_effect.specs.Scoped.{Scope, declared_by}
use Rattle.dm_initialised.specs.Settled.{AreOthers, IsSettled}

-- ---- objects

-- where objects of these declarations need to be set, they are there and hold values that were set
abbrev pub AreSet : (ℕ → Bool) → Memory → Objects → Scope → Type 0
AreSet needs memory objects scope =
    (d : ℕ) → needs d ≡ true → IsAmong d scope → (n : ℕ) × (object_named objects d ≡ Some n) × IsSet memory n

-- the declarations of one scope are in another, but for those of such an object
abbrev pub Within : (ℕ → Bool) → Objects → Scope → (ℕ → Type 0) → Scope → Type 0
Within needs objects scope Other inner =
    (d : ℕ) → needs d ≡ true → IsAmong d inner → IsAmong d scope ⊎ ((n : ℕ) × (object_named objects d ≡ Some n) × Other n)

abbrev pub NoObject : ℕ → Type 0
NoObject n = ⊥

-- ---- trees

abbrev pub AllSettled : (ℕ → Bool) → Scope → List Tree → Type 0
AllSettled needs scope [] = Unit {0}
AllSettled needs scope (tree ∷ trees) = IsSettled needs scope tree × AllSettled needs scope trees

-- the tree stands where the objects of its scope are set, but for such an object
pub record Stands (needs : ℕ → Bool) (objects : Objects) (scope : Scope) (Other : ℕ → Type 0) (trees : List Tree) : Type 0 where
  pub inner : Scope
  pub within : Within needs objects scope Other inner
  pub settled : AllSettled needs inner trees

abbrev pub StandsAlone : (ℕ → Bool) → Objects → Scope → Tree → Type 0
StandsAlone needs objects scope tree = Stands needs objects scope NoObject (tree ∷ [])

abbrev pub StandsIfThere : (ℕ → Bool) → Objects → Scope → Option Tree → Type 0
StandsIfThere needs objects scope None = Unit {0}
StandsIfThere needs objects scope (Some tree) = StandsAlone needs objects scope tree

abbrev pub LoopStands : (ℕ → Bool) → Objects → Scope → Loop → Type 0
LoopStands needs objects scope loop =
    StandsIfThere needs objects scope loop.condition × StandsIfThere needs objects scope loop.after × StandsAlone needs objects scope loop.body

-- ---- first values

-- the initialiser gives the whole object a value
abbrev pub GivesWhole : Initialiser → List Tree → Type 0
GivesWhole one_expression trees = (tree : Tree) × (trees ≡ tree ∷ [])
GivesWhole (in_braces items) trees = Unit {0}

-- the declarator gives this object one
abbrev pub GivesObject : Program → Objects → Declarator → List Tree → ℕ → Type 0
GivesObject program objects declarator trees n =
    (object_named objects declarator.declared ≡ Some n) × IsTrue (is_automatic program declarator)
    × (initialiser : Initialiser) × (declarator.initialiser ≡ Some initialiser) × GivesWhole initialiser trees

-- the object whose first value is evaluated, or that of a part of it; and the object that is set by that
abbrev pub IsUnderWay : Use → ℕ → Type 0
IsUnderWay (initialises at kind) n = at.name ≡ numbered n
IsUnderWay use_of n = ⊥

abbrev pub IsSetBy : Use → ℕ → Type 0
IsSetBy (initialises at kind) n = at ≡ whole (numbered n)
IsSetBy use_of n = ⊥

-- ---- what is left to do

-- items of a `switch`: they declare no object that needs to be set
abbrev pub AllItems : (ℕ → Bool) → Scope → List Tree → Type 0
AllItems needs scope [] = Unit {0}
AllItems needs scope (item ∷ items) = IsSettled needs scope item × AreOthers needs (declared_by item) × AllItems needs scope items

pub record ItemsStand (needs : ℕ → Bool) (objects : Objects) (scope : Scope) (items : List Tree) : Type 0 where
  pub inner : Scope
  pub within : Within needs objects scope NoObject inner
  pub settled : AllItems needs inner items

-- what the value of a full expression is for
abbrev pub UseStands : (ℕ → Bool) → Objects → Scope → Use → Type 0
UseStands needs objects scope (chooses first second) = StandsAlone needs objects scope first × StandsIfThere needs objects scope second
UseStands needs objects scope (selects items) = ItemsStand needs objects scope items
UseStands needs objects scope (repeats loop) = LoopStands needs objects scope loop
UseStands needs objects scope (continues loop) = LoopStands needs objects scope loop
UseStands needs objects scope use_of = Unit {0}

-- a full expression is under evaluation: it stands among objects that are set, but for one whose first value it is
pub record EvaluationStands (program : Program) (needs : ℕ → Bool) (result : CType) (objects : Objects) (scope : Scope) (run : Run) (use_of : Use) : Type 0 where
  pub tree : Tree
  pub typed : IsTyped program result tree
  pub comes : ComesFrom (layout program) tree run
  pub stands : Stands needs objects scope (IsUnderWay use_of) (tree ∷ [])
  pub used : UseStands needs objects scope use_of

-- When each of the tasks comes to be done, the objects of a scope are set; the first of these scopes is given. A jump goes to a task whose
-- scope was set when that task was left to do.
abbrev pub TasksSet : Program → (ℕ → Bool) → Memory → CType → Objects → Scope → List Task → Type 0
TasksSet program needs memory result objects scope [] = Unit {0}
TasksSet program needs memory result objects scope (begins tree ∷ rest) =
    StandsAlone needs objects scope tree × TasksSet program needs memory result objects scope rest
TasksSet program needs memory result objects scope (declares declarator trees ∷ rest) =
    ((n : ℕ) → object_named objects declarator.declared ≡ Some n → Stands needs objects scope (λ m. m ≡ n) trees)
    × (later : Scope) × Within needs objects scope (GivesObject program objects declarator trees) later × TasksSet program needs memory result objects later rest
TasksSet program needs memory result objects scope (initials at kind initialiser trees ∷ rest) =
    Stands needs objects scope (λ n. at.name ≡ numbered n) trees
    × (later : Scope) × Within needs objects scope (λ n. (at ≡ whole (numbered n)) × GivesWhole initialiser trees) later
    × TasksSet program needs memory result objects later rest
TasksSet program needs memory result objects scope (evaluates place run use_of ∷ rest) =
    EvaluationStands program needs result objects scope run use_of
    × (later : Scope) × Within needs objects scope (IsSetBy use_of) later × TasksSet program needs memory result objects later rest
TasksSet program needs memory result objects scope (again saved loop ∷ rest) =
    (objects ≡ saved) × (later : Scope) × AreSet needs memory saved later × LoopStands needs saved later loop × TasksSet program needs memory result saved later rest
TasksSet program needs memory result objects scope (tests saved loop ∷ rest) =
    (objects ≡ saved) × LoopStands needs saved scope loop × TasksSet program needs memory result saved scope rest
TasksSet program needs memory result objects scope (ends saved ∷ rest) =
    (later : Scope) × AreSet needs memory saved later × TasksSet program needs memory result saved later rest
TasksSet program needs memory result objects scope (ends_switch saved ∷ rest) =
    (later : Scope) × AreSet needs memory saved later × TasksSet program needs memory result saved later rest
TasksSet program needs memory result objects scope (leaves ∷ rest) = TasksSet program needs memory result objects scope rest
TasksSet program needs memory result objects scope (skips ∷ rest) = TasksSet program needs memory result objects scope rest
TasksSet program needs memory result objects scope (hands_back value ∷ rest) = TasksSet program needs memory result objects scope rest

-- ---- frames and states

abbrev pub result_for : Program → ℕ → CType
result_for program f = bare (result_of program f)

-- a function is running
pub record IsSetFrame (program : Program) (needs : ℕ → Bool) (memory : Memory) (frame : Frame) : Type 0 where
  pub scope : Scope
  pub set : AreSet needs memory frame.objects scope
  pub tasks : TasksSet program needs memory (result_for program frame.function) frame.objects scope frame.tasks

-- a function waits for the call of another: the expression in which that call stands does so among objects that are set
pub record IsSetCaller (program : Program) (needs : ℕ → Bool) (memory : Memory) (caller : Caller) : Type 0 where
  pub scope : Scope
  pub set : AreSet needs memory caller.frame.objects scope
  pub tree : Tree
  pub typed : IsTyped program (result_for program caller.frame.function) tree
  pub comes : HoleComesFrom (layout program) tree caller.kind caller.hole
  pub stands : Stands needs caller.frame.objects scope (IsUnderWay caller.use_of) (tree ∷ [])
  pub used : UseStands needs caller.frame.objects scope caller.use_of
  pub later : Scope
  pub within : Within needs caller.frame.objects scope (IsSetBy caller.use_of) later
  pub tasks : TasksSet program needs memory (result_for program caller.frame.function) caller.frame.objects later caller.frame.tasks

abbrev pub AreSetCallers : Program → (ℕ → Bool) → Memory → List Caller → Type 0
AreSetCallers program needs memory [] = Unit {0}
AreSetCallers program needs memory (caller ∷ callers) = IsSetCaller program needs memory caller × AreSetCallers program needs memory callers

-- each scalar object of static storage duration holds a value
abbrev pub AreSetStatics : Program → Memory → Objects → Type 0
AreSetStatics program memory [] = Unit {0}
AreSetStatics program memory (entry ∷ entries) =
    (IsTrue (is_scalar (type_declared program entry.0)) → IsSet memory entry.1) × AreSetStatics program memory entries

pub record IsSetState (program : Program) (needs : ℕ → Bool) (state : State) : Type 0 where
  pub frame : IsSetFrame program needs state.world.memory state.frame
  pub callers : AreSetCallers program needs state.world.memory state.callers
  pub statics : AreSetStatics program state.world.memory state.statics

-- ---- names

-- A full expression is under evaluation: the objects that it names, where they need to be set, are, but for one whose first value it is.
pub record IsSetEvaluation (program : Program) (needs : ℕ → Bool) (memory : Memory) (objects : Objects) (run : Run) (use_of : Use) : Type 0 where
  pub tree : Tree
  pub comes : ComesFrom (layout program) tree run
  pub scope : Scope
  pub settled : IsSettled needs scope tree
  pub set : (d : ℕ) → needs d ≡ true → IsAmong d scope
      → ((n : ℕ) × (object_named objects d ≡ Some n) × IsSet memory n) ⊎ ((n : ℕ) × (object_named objects d ≡ Some n) × IsUnderWay use_of n)

abbrev pub NamesAreSet : Program → (ℕ → Bool) → State → Type 0
NamesAreSet program needs state =
    (place : Place) (run : Run) (use_of : Use) (rest : List Task) → unfolded state.frame.tasks ≡ evaluates place run use_of ∷ rest
    → IsSetEvaluation program needs state.world.memory state.frame.objects run use_of

-- Initialisers in which no expression takes the object whose first value they give for set, while it has none (6.2.1p7, 6.7.9). A test tells
-- which objects an expression takes for set, and another one which of these objects are to be set by their declarators.
--     Spares needs sets d run      no expression in a tree under evaluation takes the object of the declaration for set
--     TreeSpares needs sets tree      so in the initialisers of each declaration in a tree
--     IsSparedState needs sets state      so where a first value is under evaluation, or is left to do
use Rattle.std.specs.Prelude.{◌≡◌, ℕ, Bool, true, List, [], ◌∷◌, drop, Option, Some, None}
use Rattle.dm_tree.specs.Trees.{Label, declare, Tree, Trees, node, no_trees, more_trees, listed}
use Rattle.dm_meaning.specs.Values.{numbered, At, Value}
use Rattle.dm_meaning.specs.Operations.{of_value, Objects, object_named}
use Rattle.dm_meaning.specs.Running.{Run, done, begun, filled_in}
use Rattle.dm_meaning.specs.States.{Loop, Use, drops, chooses, selects, repeats, continues, returns, initialises, Task, begins, declares, initials, evaluates, again, tests, ends, ends_switch, leaves, skips, hands_back, Caller, State}
use Rattle.dm_meaning.specs.Statements.{Local, with_expressions}
use Rattle.dm_central.specs.Standing.{StandsIn}

module _ (needs : ℕ → Bool) (sets : Tree → ℕ → Bool) where
  -- ---- trees

  abbrev pub Spares : ℕ → Run → Type 0
  Spares d run = needs d ≡ true → (tree : Tree) → sets tree d ≡ true → StandsIn (begun tree) run → ⊥

  abbrev pub AllSpare : ℕ → List Tree → Type 0
  AllSpare d [] = Unit {0}
  AllSpare d (tree ∷ trees) = Spares d (begun tree) × AllSpare d trees

  abbrev pub LocalsSpare : List Local → Type 0
  LocalsSpare [] = Unit {0}
  LocalsSpare (local ∷ locals) = AllSpare local.declarator.declared local.expressions × LocalsSpare locals

  abbrev pub LabelSpares : Label → List Tree → Type 0
  LabelSpares (declare lengths declarators) parts = LocalsSpare (with_expressions declarators (drop lengths parts))
  LabelSpares label parts = Unit {0}

  abbrev mutual
    pub TreeSpares : Tree → Type 0
    TreeSpares (node label kind spans parts) = LabelSpares label (listed parts) × TreesSpare parts

    pub TreesSpare : Trees → Type 0
    TreesSpare no_trees = Unit {0}
    TreesSpare (more_trees first rest) = TreeSpares first × TreesSpare rest

  abbrev pub ListSpares : List Tree → Type 0
  ListSpares [] = Unit {0}
  ListSpares (tree ∷ trees) = TreeSpares tree × ListSpares trees

  abbrev pub IfThereSpares : Option Tree → Type 0
  IfThereSpares None = Unit {0}
  IfThereSpares (Some tree) = TreeSpares tree

  abbrev pub LoopSpares : Loop → Type 0
  LoopSpares loop = IfThereSpares loop.condition × IfThereSpares loop.after × TreeSpares loop.body

  -- ---- what is left to do

  abbrev pub UseSpares : Use → Type 0
  UseSpares drops = Unit {0}
  UseSpares (chooses first second) = TreeSpares first × IfThereSpares second
  UseSpares (selects items) = ListSpares items
  UseSpares (repeats loop) = LoopSpares loop
  UseSpares (continues loop) = LoopSpares loop
  UseSpares returns = Unit {0}
  UseSpares (initialises at kind) = Unit {0}

  -- the object at this place, or at a part of which it is, is that of a declaration
  abbrev pub OwnSpares : Objects → At → (ℕ → Type 0) → Type 0
  OwnSpares objects at Spared = (d : ℕ) × (n : ℕ) × (object_named objects d ≡ Some n) × (at.name ≡ numbered n) × Spared d

  abbrev pub RunSpares : Objects → Run → Use → Type 0
  RunSpares objects run (initialises at kind) = OwnSpares objects at (λ d. Spares d run)
  RunSpares objects run use_of = Unit {0}

  abbrev pub TasksSpare : Objects → List Task → Type 0
  TasksSpare objects [] = Unit {0}
  TasksSpare objects (begins tree ∷ rest) = TreeSpares tree × TasksSpare objects rest
  TasksSpare objects (declares declarator trees ∷ rest) = AllSpare declarator.declared trees × TasksSpare objects rest
  TasksSpare objects (initials at kind initialiser trees ∷ rest) = OwnSpares objects at (λ d. AllSpare d trees) × TasksSpare objects rest
  TasksSpare objects (evaluates place run use_of ∷ rest) = RunSpares objects run use_of × UseSpares use_of × TasksSpare objects rest
  TasksSpare objects (again saved loop ∷ rest) = (objects ≡ saved) × LoopSpares loop × TasksSpare saved rest
  TasksSpare objects (tests saved loop ∷ rest) = (objects ≡ saved) × LoopSpares loop × TasksSpare saved rest
  TasksSpare objects (ends saved ∷ rest) = TasksSpare saved rest
  TasksSpare objects (ends_switch saved ∷ rest) = TasksSpare saved rest
  TasksSpare objects (leaves ∷ rest) = TasksSpare objects rest
  TasksSpare objects (skips ∷ rest) = TasksSpare objects rest
  TasksSpare objects (hands_back value ∷ rest) = TasksSpare objects rest

  -- a function waits: so it will be with a value in place of the call
  abbrev pub CallersSpare : List Caller → Type 0
  CallersSpare [] = Unit {0}
  CallersSpare (caller ∷ callers) =
      ((value : Value) → RunSpares caller.frame.objects (filled_in caller.hole (done caller.kind (of_value value) [])) caller.use_of)
      × UseSpares caller.use_of × TasksSpare caller.frame.objects caller.frame.tasks × CallersSpare callers

  abbrev pub IsSparedState : State → Type 0
  IsSparedState state = TasksSpare state.frame.objects state.frame.tasks × CallersSpare state.callers

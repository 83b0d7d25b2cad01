-- So are all steps of a state.
use Rattle.std.specs.Prelude.{◌≡◌, refl, ℕ, suc, List, [], ◌∷◌, ◌++◌, map, length, Option, Some, None}
use Rattle.dm_token.specs.declared.place.Place.{Place}
use Rattle.dm_type.specs.CTypes.{CType}
use Rattle.dm_type.specs.Tables.{Table}
use Rattle.dm_tree.specs.Trees.{Tree, parts_of}
use Rattle.dm_meaning.specs.Values.{Value}
use Rattle.dm_meaning.specs.Memory.{Memory, new_block}
use Rattle.dm_meaning.specs.Programs.{Program, Definition, layout, constant_of, definition_of}
use Rattle.dm_meaning.specs.Running.{Run, done, to_do, Hole, locks_in}
use Rattle.dm_meaning.specs.Expressions.{Move, goes, calls, fails, exits}
use Rattle.dm_meaning.specs.States.{Use, Task, begins, declares, initials, evaluates, again, tests, ends, ends_switch, leaves, skips, hands_back, State}
use Rattle.dm_meaning.specs.Statements.{type_declared, named_from, items_tasks, unfolded}
use Rattle.dm_meaning.specs.Steps.{given_from, opened_frame, opened_memory, opened, turned, moved, expression_steps, task_steps, steps_from, next}
use Rattle.dm_sound.specs.SameTables.{over}
use Rattle.dm_same.proofs.ExpressionLemmas.{moves_same}
use Rattle.dm_same.proofs.StatementLemmas.{declared_same, made_same, statement_same, initialiser_same, concluded_same}

module _ (program : Program) (old new : Table) (laid : layout (over program new) ≡ layout (over program old)) where
  -- ---- the frame of a call

  given_same : (names : ℕ → ℕ) (n : ℕ) (ds : List ℕ) (values : List Value) (memory : Memory)
      → given_from (over program new) names n ds values memory ≡ given_from (over program old) names n ds values memory
  given_same names n [] values memory = refl
  given_same names n (d ∷ ds) [] memory = λ i. given_same names (suc n) ds [] ((names n, new_block (laid i) (type_declared (over program old) d)) ∷ memory) i
  given_same names n (d ∷ ds) (value ∷ values) memory =
      λ i. given_same names (suc n) ds values ((names n, record (new_block (laid i) (type_declared (over program old) d)) { contents = value }) ∷ memory) i

  pub frame_same : (names : ℕ → ℕ) (definition : Definition) → opened_frame (over program new) names definition ≡ opened_frame (over program old) names definition
  frame_same names definition = λ i. record {
    function = definition.function;
    objects = named_from names (length definition.parameters) (declared_same program old new laid (parts_of definition.body) i) (named_from names 0 definition.parameters []);
    tasks = items_tasks (parts_of definition.body);
  }

  pub memory_same : (names : ℕ → ℕ) (definition : Definition) (arguments : List Value) (memory : Memory)
      → opened_memory (over program new) names definition arguments memory ≡ opened_memory (over program old) names definition arguments memory
  memory_same names definition arguments memory =
      λ i. made_same program old new laid names (length definition.parameters) (declared_same program old new laid (parts_of definition.body) i)
      (given_same names 0 definition.parameters arguments memory i) i

  opened_same : (names : ℕ → ℕ) (state : State) (rest : List Task) (place : Place) (use_of : Use) (kind : CType) (hole : Hole) (arguments : List Value) (found : Option Definition)
      → opened (over program new) names state rest place use_of kind hole arguments found ≡ opened (over program old) names state rest place use_of kind hole arguments found
  opened_same names state rest place use_of kind hole arguments None = refl
  opened_same names state rest place use_of kind hole arguments (Some definition) = λ i. record state {
    frame = frame_same names definition i;
    callers = record { frame = record state.frame { tasks = rest }; place = place; kind = kind; hole = hole; use_of = use_of } ∷ state.callers;
    world = record state.world { memory = memory_same names definition arguments state.world.memory i };
  }

  moved_same : (names : ℕ → ℕ) (state : State) (rest : List Task) (place : Place) (use_of : Use) (move : Move Run Hole)
      → moved (over program new) names state rest place use_of move ≡ moved (over program old) names state rest place use_of move
  moved_same names state rest place use_of (goes world run) = refl
  moved_same names state rest place use_of (calls f arguments kind hole) = opened_same names state rest place use_of kind hole arguments (definition_of program f)
  moved_same names state rest place use_of (fails cause at) = refl
  moved_same names state rest place use_of (exits status) = refl

  -- ---- all steps

  module _ (constants : (tree : Tree) → constant_of (over program new) tree ≡ constant_of (over program old) tree) where
    expression_same : (names : ℕ → ℕ) (state : State) (rest : List Task) (place : Place) (use_of : Use) (run : Run)
        → expression_steps (over program new) names state rest place use_of run ≡ expression_steps (over program old) names state rest place use_of run
    expression_same names state rest place use_of (done kind result locks) =
        λ i. turned state (concluded_same program old new laid constants state.frame.objects rest state.world.memory place use_of result i) ∷ []
    expression_same names state rest place use_of (to_do doing kind at parts) =
        λ i. map (λ move. moved_same names state rest place use_of move i)
        (moves_same program old new laid (state.statics ++ state.frame.objects) state.world (locks_in (to_do doing kind at parts)) (to_do doing kind at parts) i)

    task_same : (names : ℕ → ℕ) (state : State) (tasks : List Task) → task_steps (over program new) names state tasks ≡ task_steps (over program old) names state tasks
    task_same names state [] = refl
    task_same names state (begins tree ∷ rest) =
        λ i. turned state (statement_same program old new laid names state.frame.objects rest state.world.memory tree i) ∷ []
    task_same names state (declares declarator expressions ∷ rest) = refl
    task_same names state (initials at kind initialiser expressions ∷ rest) =
        λ i. turned state (initialiser_same program old new laid state.frame.objects rest state.world.memory at kind initialiser expressions i) ∷ []
    task_same names state (evaluates place run use_of ∷ rest) = expression_same names state rest place use_of run
    task_same names state (ends saved ∷ rest) = refl
    task_same names state (ends_switch saved ∷ rest) = refl
    task_same names state (leaves ∷ rest) = refl
    task_same names state (skips ∷ rest) = refl
    task_same names state (hands_back value ∷ rest) = refl
    task_same names state (again saved loop ∷ rest) = refl
    task_same names state (tests saved loop ∷ rest) = refl

    pub next_same : (names : ℕ → ℕ) (state : State) → next names (over program new) state ≡ next names (over program old) state
    next_same names state = λ i. steps_from state.standing (task_same names state (unfolded state.frame.tasks) i)

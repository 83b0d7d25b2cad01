-- The steps of a state: the one definition of what may happen next (5.1.2.3).
--     next names program state      the states that a step may lead to, where new objects get these names
--     Step program state other      a step may lead from one state to another
use Rattle.std.specs.Prelude.{ℕ, suc, Bool, false, not, ◌&&◌, List, [], ◌∷◌, ◌++◌, map, length, Option, Some, None, pos, bytes_eq, codes, if◌then◌else◌}
use Rattle.dm_token.specs.declared.place.Place.{Place}
use Rattle.dm_int.specs.declared.Kind.TheVariants.{Int}
use Rattle.dm_type.specs.CTypes.{CType, function as function_type, bare}
use Rattle.dm_tree.specs.Scenes.{is_void}
use Rattle.dm_tree.specs.Trees.{parts_of}
use Rattle.dm_tree.specs.Units.{Declaration}
use Rattle.dm_meaning.specs.declared.cause.Cause.TheVariants.{NoValue, External}
use Rattle.dm_meaning.specs.Among.{IsAmong}
use Rattle.dm_meaning.specs.Machines.{Standing, going, exited, undefined}
use Rattle.dm_meaning.specs.Values.{Value, integer_value, unset}
use Rattle.dm_meaning.specs.Memory.{Memory, new_block, killed, IsFresh}
use Rattle.dm_meaning.specs.Primitives.{byte_in}
use Rattle.dm_meaning.specs.Causes.{is_unset}
use Rattle.dm_meaning.specs.Programs.{Program, Definition, layout, declaration_of, definition_of}
use Rattle.dm_meaning.specs.Operations.{of_value, Scene}
use Rattle.dm_meaning.specs.Running.{Run, done, to_do, Hole, filled_in, locks_in}
use Rattle.dm_meaning.specs.Expressions.{Move, goes, calls, fails, exits, moves}
use Rattle.dm_meaning.specs.States.{Use, Task, begins, declares, initials, evaluates, again, tests, ends, ends_switch, leaves, skips, hands_back, Frame, Caller, State}
use Rattle.dm_meaning.specs.Statements.{Turned, onward, refused, place_of, declared_in, type_declared, named_from, made_from, items_tasks, begin_statement, begin_declarator, begin_initialiser, concluded, unfolded, ended, after_break, after_continue}

-- ---- the frame of a call (6.5.2.2, 6.9.1)

-- new objects for the parameters, with the values of the arguments; where there are fewer of these, as in no typed call, the others are unset
abbrev pub given_from : Program → (ℕ → ℕ) → ℕ → List ℕ → List Value → Memory → Memory
given_from program names i [] values memory = memory
given_from program names i (d ∷ ds) [] memory =
    given_from program names (suc i) ds [] ((names i, new_block (layout program) (type_declared program d)) ∷ memory)
given_from program names i (d ∷ ds) (value ∷ values) memory =
    given_from program names (suc i) ds values ((names i, record (new_block (layout program) (type_declared program d)) { contents = value }) ∷ memory)

-- the frame of a function: its parameters, and the objects of its body
abbrev pub opened_frame : Program → (ℕ → ℕ) → Definition → Frame
opened_frame program names definition =
    let items = parts_of definition.body in
    let parameters = named_from names 0 definition.parameters [] in
    record {
      function = definition.function;
      objects = named_from names (length definition.parameters) (declared_in program items) parameters;
      tasks = items_tasks items;
    }

abbrev pub opened_memory : Program → (ℕ → ℕ) → Definition → List Value → Memory → Memory
opened_memory program names definition arguments memory =
    made_from program names (length definition.parameters) (declared_in program (parts_of definition.body))
    (given_from program names 0 definition.parameters arguments memory)

-- a function is called; the one that calls waits with a hole in its expression
abbrev pub opened : Program → (ℕ → ℕ) → State → List Task → Place → Use → CType → Hole → List Value → Option Definition → State
opened program names state rest place use_of kind hole arguments None = record state { standing = undefined External place }
opened program names state rest place use_of kind hole arguments (Some definition) = record state {
  frame = opened_frame program names definition;
  callers = record { frame = record state.frame { tasks = rest }; place = place; kind = kind; hole = hole; use_of = use_of } ∷ state.callers;
  world = record state.world { memory = opened_memory program names definition arguments state.world.memory };
}

-- ---- the end of a frame

-- the value is that of the call, whose locks have gone
abbrev pub resumed : Caller → Value → Frame
resumed caller value = record caller.frame {
  tasks = evaluates caller.place (filled_in caller.hole (done caller.kind (of_value value) [])) caller.use_of ∷ caller.frame.tasks;
}

abbrev pub status_of : Value → ℕ
status_of (integer_value kind z) = byte_in z
status_of value = 0

-- a function gave no value to a call whose type isn't void (6.9.1p12); no typed function does, since its closing brace is undefined there
abbrev pub lacks_value : CType → Value → Bool
lacks_value kind value = not (is_void (bare kind)) && is_unset value

-- the one that called the function goes on, and the function's objects die (6.2.4p5)
abbrev pub gone_back : State → Value → Caller → List Caller → State
gone_back state value caller callers = record state {
  frame = resumed caller value;
  callers = callers;
  world = record state.world { memory = killed (map (λ entry. entry.1) state.frame.objects) state.world.memory };
}

-- a function returns a value to the one that called it, or the program ends (5.1.2.2.3)
abbrev pub handed_back : State → Value → List Caller → State
handed_back state value [] = record state { standing = exited (status_of value) }
handed_back state value (caller ∷ callers) =
    if lacks_value caller.kind value then record state { standing = undefined NoValue caller.place } else gone_back state value caller callers

-- ---- the closing brace of a body

abbrev pub is_main : Option Declaration → Bool
is_main None = false
is_main (Some declaration) = bytes_eq declaration.name (codes "main")

abbrev pub gives_nothing : CType → Bool
gives_nothing (function_type result parameters) = is_void (bare result)
gives_nothing type = false

abbrev pub body_place : Option Definition → Place → Place
body_place None otherwise = otherwise
body_place (Some definition) otherwise = place_of definition.body

abbrev pub no_place : Place
no_place = record { file = 0; byte = 0; line = 0; column = 0 }

-- The closing brace of `main` returns 0 (5.1.2.2.3). That of another function whose result isn't void has undefined behaviour, also where
-- the value isn't used, which is stricter than 6.9.1p12.
abbrev pub closed : Program → State → State
closed program state =
    if is_main (declaration_of program state.frame.function) then record state { frame = record state.frame { tasks = hands_back (integer_value Int (pos 0)) ∷ [] } }
    else if gives_nothing (type_declared program state.frame.function) then record state { frame = record state.frame { tasks = hands_back unset ∷ [] } }
    else record state { standing = undefined NoValue (body_place (definition_of program state.frame.function) no_place) }

-- ---- all steps

-- what a step leaves in the frame, in its state
abbrev pub turned : State → Turned → State
turned state (onward objects tasks memory) = record state {
  frame = record state.frame { objects = objects; tasks = tasks };
  world = record state.world { memory = memory };
}
turned state (refused cause place) = record state { standing = undefined cause place }

-- a step of an expression, in its state
abbrev pub moved : Program → (ℕ → ℕ) → State → List Task → Place → Use → Move Run Hole → State
moved program names state rest place use_of (goes world run) =
    record state { frame = record state.frame { tasks = evaluates place run use_of ∷ rest }; world = world }
moved program names state rest place use_of (calls f arguments kind hole) =
    opened program names state rest place use_of kind hole arguments (definition_of program f)
moved program names state rest place use_of (fails cause at) = record state { standing = undefined cause at }
moved program names state rest place use_of (exits status) = record state { standing = exited status }

-- the names in a frame: the objects of static storage duration, and its own; no declaration is one of both
abbrev pub scene_of : Program → State → Scene
scene_of program state = record { program = program; objects = state.statics ++ state.frame.objects }

-- a full expression: it ends where it is evaluated, and else one of its nodes is
abbrev pub expression_steps : Program → (ℕ → ℕ) → State → List Task → Place → Use → Run → List State
expression_steps program names state rest place use_of (done kind result locks) =
    turned state (concluded program state.frame.objects rest state.world.memory place use_of result) ∷ []
expression_steps program names state rest place use_of (to_do doing kind at parts) =
    map (moved program names state rest place use_of)
    (moves (scene_of program state) state.world (locks_in (to_do doing kind at parts)) (to_do doing kind at parts))

-- the steps of a frame, by what is left to do in it
abbrev pub task_steps : Program → (ℕ → ℕ) → State → List Task → List State
task_steps program names state [] = closed program state ∷ []
task_steps program names state (begins tree ∷ rest) = turned state (begin_statement program names state.frame.objects rest state.world.memory tree) ∷ []
task_steps program names state (declares declarator expressions ∷ rest) =
    turned state (begin_declarator program state.frame.objects rest state.world.memory declarator expressions) ∷ []
task_steps program names state (initials at kind initialiser expressions ∷ rest) =
    turned state (begin_initialiser program state.frame.objects rest state.world.memory at kind initialiser expressions) ∷ []
task_steps program names state (evaluates place run use_of ∷ rest) = expression_steps program names state rest place use_of run
task_steps program names state (ends saved ∷ rest) = turned state (ended saved state.frame.objects rest state.world.memory) ∷ []
task_steps program names state (ends_switch saved ∷ rest) = turned state (ended saved state.frame.objects rest state.world.memory) ∷ []
task_steps program names state (leaves ∷ rest) = turned state (after_break state.frame.objects state.world.memory rest) ∷ []
task_steps program names state (skips ∷ rest) = turned state (after_continue state.frame.objects state.world.memory rest) ∷ []
task_steps program names state (hands_back value ∷ rest) = handed_back state value state.callers ∷ []
task_steps program names state (again saved loop ∷ rest) = []
task_steps program names state (tests saved loop ∷ rest) = []

-- a state that has ended has no step
abbrev pub steps_from : Standing → List State → List State
steps_from going states = states
steps_from (exited status) states = []
steps_from (undefined cause place) states = []

-- The states that a step may lead to, from the left.
abbrev pub next : (ℕ → ℕ) → Program → State → List State
next names program state = steps_from state.standing (task_steps program names state (unfolded state.frame.tasks))

-- A step: new objects may take any names that were never used.
abbrev pub Step : Program → State → State → Type 0
Step program state other = (names : ℕ → ℕ) × IsFresh names state.world.memory × IsAmong other (next names program state)

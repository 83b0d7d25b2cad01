-- Programs in which certain declarations are named only where they are read or written.
--     known_where closed quiet      what is known of the old program: that these declarations are of closed objects, and these functions quiet
--     known_with closed quiet safe      and that these expressions always come to something
--     AreAlwaysSafe program safe      so they do in each state of each run where they stand in the full expression under evaluation
--     AreListed change      the new program has no functions but the added one and those of the old program
--     AreOnlyNamed change closed      all trees of both programs name what they declare only so, and that isn't of static storage duration
use Rattle.std.specs.Prelude.{◌≡◌, ◌⊎◌, ℕ, Bool, true, false, List, ◌∷◌, Some}
use Rattle.dm_token.specs.declared.place.Place.{Place}
use Rattle.dm_tree.specs.Trees.{Tree}
use Rattle.dm_meaning.specs.Among.{IsAmong}
use Rattle.dm_meaning.specs.Called.{Called, new_of}
use Rattle.dm_meaning.specs.Machines.{RunsTo}
use Rattle.dm_meaning.specs.Programs.{Definition, Program, definition_of}
use Rattle.dm_meaning.specs.Running.{Run, begun}
use Rattle.dm_meaning.specs.States.{Use, Task, evaluates, State}
use Rattle.dm_meaning.specs.Statements.{unfolded}
use Rattle.dm_meaning.specs.Steps.{scene_of}
use Rattle.dm_meaning.specs.Units.{static_numbers, machine_of}
use Rattle.dm_rewrite.specs.ClosedStates.{ProgramNamesOnly}
use Rattle.dm_rewrite.specs.Computed.{IsPure}
use Rattle.dm_central.specs.Bodies.{Known}
use Rattle.dm_central.specs.Outcomes.{ComesSafely}
use Rattle.dm_central.specs.Standing.{StandsIn}

abbrev pub known_with : (ℕ → Bool) → (ℕ → Bool) → (Tree → Bool) → Known
known_with closed quiet safe = record { closed = closed; quiet = quiet; safe = safe }

abbrev pub known_where : (ℕ → Bool) → (ℕ → Bool) → Known
known_where closed quiet = known_with closed quiet (λ tree. false)

abbrev pub known_closed : (ℕ → Bool) → Known
known_closed closed = known_where closed (λ f. false)

pub record AreOnlyNamed (change : Called) (closed : ℕ → Bool) : Type 0 where
  pub local : (d : ℕ) → closed d ≡ true → IsAmong d (static_numbers change.old.statics) → ⊥
  pub old : (d : ℕ) → closed d ≡ true → ProgramNamesOnly d change.old
  pub new : (d : ℕ) → closed d ≡ true → ProgramNamesOnly (change.rename d) (new_of change)

-- They neither store nor call.
abbrev pub AreAlwaysSafe : Program → (Tree → Bool) → Type 0
AreAlwaysSafe program safe =
    (input : List ℕ) (n : ℕ) (state : State) → RunsTo (machine_of program) input n state
    → (place : Place) (run : Run) (use_of : Use) (rest : List Task) → unfolded state.frame.tasks ≡ evaluates place run use_of ∷ rest
    → (tree : Tree) → safe tree ≡ true → StandsIn (begun tree) run → IsPure (begun tree) × ComesSafely (scene_of program state) state.world (begun tree)

abbrev pub AreListed : Called → Type 0
AreListed change =
    (definition : Definition) → IsAmong definition change.functions → (definition ≡ change.added) ⊎ ((g : ℕ) × (definition_of (new_of change) (change.rename g) ≡ Some definition))

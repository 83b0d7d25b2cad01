-- Where a value is lacking: at the closing brace of a function alone (6.9.1p12).
--     GivesValues program      the functions that the program defines give void, or values
--     IsAtClosingBrace program state      a function falls off its end that isn't `main` and whose result isn't void
--     LacksAtBrace program state other      where a step has the cause `novalue`, it is that
use Rattle.std.specs.Prelude.{◌≡◌, false, ◌||◌, IsTrue, []}
use Rattle.dm_token.specs.declared.place.Place.{Place}
use Rattle.dm_type.specs.CTypes.{bare}
use Rattle.dm_tree.specs.Scenes.{is_void}
use Rattle.dm_meaning.specs.declared.cause.Cause.TheVariants.{NoValue}
use Rattle.dm_meaning.specs.Among.{IsAmong}
use Rattle.dm_meaning.specs.Machines.{undefined}
use Rattle.dm_meaning.specs.Programs.{Program, Definition, declaration_of, definition_of}
use Rattle.dm_meaning.specs.States.{State}
use Rattle.dm_meaning.specs.Statements.{type_declared}
use Rattle.dm_meaning.specs.Steps.{is_main, gives_nothing, body_place, no_place}
use Rattle.dm_sound.specs.TypedValues.{own_type, has_values}
use Rattle.dm_sound.specs.TypedRuns.{result_of}

-- the result of each function that is defined is void, or a type that has values: so it is no function (6.9.1p3)
abbrev pub GivesValues : Program → Type 0
GivesValues program =
    (definition : Definition) → IsAmong definition program.functions
    → let result = result_of program definition.function in IsTrue (is_void (bare result) || has_values (own_type result))

-- nothing is left to do in a function that isn't `main` and whose result isn't void
pub record IsAtClosingBrace (program : Program) (state : State) : Type 0 where
  pub tasks : state.frame.tasks ≡ []
  pub other : is_main (declaration_of program state.frame.function) ≡ false
  pub result : gives_nothing (type_declared program state.frame.function) ≡ false

-- where the step is undefined because a value is lacking, that is so at the closing brace of the function that is running
abbrev pub LacksAtBrace : Program → State → State → Type 0
LacksAtBrace program state other =
    (place : Place) → other.standing ≡ undefined NoValue place
    → IsAtClosingBrace program state × (place ≡ body_place (definition_of program state.frame.function) no_place)

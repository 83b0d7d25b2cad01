-- Why a step of a typed expression may have the cause `type`: by what memory holds, and never by the tree.
--     results_in run      the results in a tree under evaluation
--     IsExcused layout memory given      why that is so beside these results
--     IsExcusedStep program state other      why that is so of a step of a state
--     HandsBackValues state      what a function hands back is there where it is needed
use Rattle.std.specs.Prelude.{◌≡◌, ◌⊎◌, false, IsTrue, List, [], ◌∷◌, ◌++◌, Err}
use Rattle.dm_token.specs.declared.place.Place.{Place}
use Rattle.dm_meaning.specs.declared.cause.Cause.TheVariants.{OtherType}
use Rattle.dm_meaning.specs.Among.{IsAmong}
use Rattle.dm_meaning.specs.Machines.{undefined}
use Rattle.dm_meaning.specs.Values.{At, to, Value, pointer_value}
use Rattle.dm_meaning.specs.Causes.{is_unset}
use Rattle.dm_meaning.specs.Objects.{Layout}
use Rattle.dm_meaning.specs.Memory.{Memory, look}
use Rattle.dm_meaning.specs.Primitives.{most_in, text_at}
use Rattle.dm_meaning.specs.Programs.{Program, layout}
use Rattle.dm_meaning.specs.Operations.{Result, of_value}
use Rattle.dm_meaning.specs.Running.{Run, done, to_do, Runs, no_runs, more_runs}
use Rattle.dm_meaning.specs.Expressions.{Move, goes, calls, fails, exits}
use Rattle.dm_meaning.specs.States.{Task, evaluates, hands_back, Caller, State}
use Rattle.dm_meaning.specs.Statements.{unfolded}
use Rattle.dm_sound.specs.TypedSteps.{IsMistyped, IsTooFar}
use Rattle.dm_sound.specs.TypedValues.{own_type, has_values}

abbrev mutual
  pub results_in : Run → List Result
  results_in (done kind result locks) = result ∷ []
  results_in (to_do doing kind place parts) = results_in_all parts

  pub results_in_all : Runs → List Result
  results_in_all no_runs = []
  results_in_all (more_runs first rest) = results_in first ++ results_in_all rest

-- one of these results is a pointer to a text in which something is no character (7.21.7.9)
pub record IsNoText (layout : Layout) (memory : Memory) (given : List Result) : Type 0 where
  pub at : At
  pub there : IsAmong (of_value (pointer_value (to at))) given
  pub text : text_at layout memory (most_in layout (look memory at.name)) at ≡ Err OtherType

abbrev pub IsExcused : Layout → Memory → List Result → Type 0
IsExcused layout memory given = IsMistyped layout memory given ⊎ (IsTooFar layout memory given ⊎ IsNoText layout memory given)

-- where the step is undefined with the cause `type`, that is so by what memory holds
abbrev pub IsExcusedMove : {T H : Type 0} → Layout → Memory → List Result → Move T H → Type 0
IsExcusedMove layout memory given (goes world tree) = Unit {0}
IsExcusedMove layout memory given (calls f arguments kind hole) = Unit {0}
IsExcusedMove layout memory given (fails cause place) = cause ≡ OtherType → IsExcused layout memory given
IsExcusedMove layout memory given (exits status) = Unit {0}

-- the results in the full expression that is under evaluation, if one is
abbrev pub results_at : List Task → List Result
results_at (evaluates place run use_of ∷ rest) = results_in run
results_at tasks = []

-- where a step of a state is undefined with the cause `type`, that is so by what memory holds beside these results
abbrev pub IsExcusedStep : Program → State → State → Type 0
IsExcusedStep program state other =
    (place : Place) → other.standing ≡ undefined OtherType place
    → IsExcused (layout program) state.world.memory (results_at (unfolded state.frame.tasks))

-- where a function hands back a value to a call whose type has values, that value was set (6.9.1p12)
abbrev pub HandsBackValues : State → Type 0
HandsBackValues state =
    (value : Value) (rest : List Task) (caller : Caller) (callers : List Caller) → state.frame.tasks ≡ hands_back value ∷ rest
    → state.callers ≡ caller ∷ callers → IsTrue (has_values (own_type caller.kind)) → is_unset value ≡ false

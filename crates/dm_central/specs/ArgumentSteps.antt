-- A step of the old arguments of a call that isn't evaluated yet, of which some are followed aside.
--     StandsOnce change kinds ways body other holes run      where an argument that is evaluated at once stands in the old program
--     ArgumentStep stage world locks beside ways inner move      the step is one of an argument that stands in the old program, or one aside
use Rattle.std.specs.Prelude.{◌≡◌, ◌⊎◌, List, [], ◌∷◌, length}
use Rattle.dm_type.specs.CTypes.{CType}
use Rattle.dm_tree.specs.Trees.{Tree}
use Rattle.dm_meaning.specs.Among.{IsAmong}
use Rattle.dm_meaning.specs.Values.{At}
use Rattle.dm_meaning.specs.Operations.{World, Scene}
use Rattle.dm_meaning.specs.Running.{Run, Runs, begun, every, Hole, Holes, in_first, in_others, filled_in, all_filled_in, IsOpen, AreOpen, holes_in}
use Rattle.dm_meaning.specs.Expressions.{Move, goes, lifted, moves}
use Rattle.dm_meaning.specs.Called.{Called}
use Rattle.dm_meaning.specs.CalledWithAll.{given}
use Rattle.dm_meaning.proofs.StandLemmas.{run_list}
use Rattle.dm_rewrite.specs.Computed.{computed}
use Rattle.dm_rewrite.specs.PureSteps.{Meets}
use Rattle.dm_rewrite.specs.Effects.{Effect, Stage}
use Rattle.dm_central.specs.Arguments.{Way, at_once, untouched, AllFollowed, runs_at, trees_at, StandsWhole}

-- the part that is left out belongs to an argument that is evaluated at once
abbrev pub IsAtOnce : List Way → Holes → Type 0
IsAtOnce [] holes = ⊥
IsAtOnce (at_once ∷ ways) (in_first hole rest) = Unit {0}
IsAtOnce (untouched tree ∷ ways) (in_first hole rest) = ⊥
IsAtOnce (way ∷ ways) (in_others first holes) = IsAtOnce ways holes

-- Such a part of the arguments stands at one place of the expression. If it may be evaluated there, so may the place; and with another part there
-- it is the expression with that argument.
pub record StandsOnce (change : Called) (kinds : List CType) (ways : List Way) (body : Tree) (other : Run) (holes : Holes) (run : Run) : Type 0 where
  pub hole : Hole
  pub opened : AreOpen every holes → IsOpen hole
  pub is : other ≡ filled_in hole run
  pub again : (after : Run) → StandsWhole change (given change.added.parameters kinds) (given change.added.parameters (trees_at ways))
      (given change.added.parameters (runs_at ways (all_filled_in holes after))) body (filled_in hole after)

-- a step of an argument that stands in the old program
pub record StepsAtOnce (scene : Scene) (world : World) (locks : List At) (ways : List Way) (inner : Runs) (m : Move Runs Holes) : Type 0 where
  pub holes : Holes
  pub run : Run
  pub step : Move Run Hole
  pub is : inner ≡ all_filled_in holes run
  pub among : IsAmong step (moves scene world locks run)
  pub same : m ≡ lifted (all_filled_in holes) (holes_in holes) step
  pub position : IsAtOnce ways holes
  pub opened : AreOpen every holes

-- a step aside: the same arguments stand in the old program, and the others are still followed
pub record StepsAside (stage : Stage) (world : World) (beside : List Effect) (ways : List Way) (inner : Runs) (m : Move Runs Holes) : Type 0 where
  pub later : Runs
  pub is : m ≡ goes world later
  pub followed : AllFollowed stage world beside ways later
  pub same : runs_at ways later ≡ runs_at ways inner
  pub count : length (run_list later) ≡ length (run_list inner)

-- an untouched argument comes to nothing now, or reads what is locked
pub record FailsNow (stage : Stage) (world : World) (locks : List At) (ways : List Way) : Type 0 where
  pub tree : Tree
  pub among : IsAmong (untouched tree) ways
  pub meets : Meets locks (computed stage.scene world (begun tree))

abbrev pub ArgumentStep : Stage → World → List At → List Effect → List Way → Runs → Move Runs Holes → Type 0
ArgumentStep stage world locks beside ways inner m =
    StepsAtOnce stage.scene world locks ways inner m ⊎ (StepsAside stage world beside ways inner m ⊎ FailsNow stage world locks ways)

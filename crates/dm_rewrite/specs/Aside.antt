-- The evaluation of a tree that the program hasn't begun, followed on the side: its steps may be made in one world after the other, and what it
-- comes to is told by the tree itself.
--     Follows scene world tree aside      the evaluation hasn't begun, or comes to what the tree comes to now
--     AsideFits scene world locks tree move      a step of it still follows the tree
use Rattle.std.specs.Prelude.{◌≡◌, ◌⊎◌, List, [], Some}
use Rattle.dm_meaning.specs.Among.{IsAmong}
use Rattle.dm_meaning.specs.Values.{At}
use Rattle.dm_meaning.specs.Operations.{World, Scene}
use Rattle.dm_meaning.specs.Running.{Run, done, Hole, filled_in}
use Rattle.dm_meaning.specs.Expressions.{Move, goes, calls, fails, exits, kind_of_run}
use Rattle.dm_rewrite.specs.Computed.{Computed, computed, IsPure}
use Rattle.dm_rewrite.specs.PureSteps.{Meets}

-- the same result, and no more places to read
pub record Leads (was now : Computed) : Type 0 where
  pub result : now.result ≡ was.result
  pub fewer : (at : At) → IsAmong at now.reads → IsAmong at was.reads

-- what the tree comes to now, the evaluation will come to
pub record Claims (scene : Scene) (world : World) (tree aside : Run) : Type 0 where
  pub found : Computed
  pub is : computed scene world tree ≡ Some found
  pub now : Computed
  pub is_now : computed scene world aside ≡ Some now
  pub leads : Leads found now

abbrev pub Follows : Scene → World → Run → Run → Type 0
Follows scene world tree aside = (aside ≡ tree) ⊎ Claims scene world tree aside

-- A step of the evaluation still follows the tree, unless the tree comes to nothing now or reads what is locked; and only then is it undefined.
abbrev pub AsideFits : Scene → World → List At → Run → Move Run Hole → Type 0
AsideFits scene world locks tree (goes after aside) =
    (after ≡ world) × IsPure aside × (kind_of_run aside ≡ kind_of_run tree) × (Claims scene world tree aside ⊎ Meets locks (computed scene world tree))
AsideFits scene world locks tree (calls f arguments kind hole) = ⊥
AsideFits scene world locks tree (fails cause place) = Meets locks (computed scene world tree)
AsideFits scene world locks tree (exits status) = ⊥

-- A part of the evaluation comes to something that is known beforehand; with that in its place the evaluation still follows the tree.
pub record IsForeseen (scene : Scene) (world : World) (tree : Run) (hole : Hole) (run : Run) : Type 0 where
  pub part : Computed
  pub is : computed scene world run ≡ Some part
  pub claims : Claims scene world tree (filled_in hole (done (kind_of_run run) part.result []))

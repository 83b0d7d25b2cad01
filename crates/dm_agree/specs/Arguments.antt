-- What stands at the occurrences of parameters in the tree of a run, of all parameters together.
--     arguments_in it run here tree      in a tree, from the right
--     AllPassed it arguments found      each agrees with the argument of a call for its parameter
use Rattle.std.specs.Prelude.{ℕ, List, [], ◌∷◌, ◌++◌, map, Option, Some, None, slice_get}
use Rattle.dm_runs.specs.declared.run.Occurrence.{Occurrence}
use Rattle.dm_runs.specs.declared.run.Run.{Run}
use Rattle.dm_type.specs.Tables.{Table}
use Rattle.dm_tree.specs.declared.tree.Core.{Core}
use Rattle.dm_tree.specs.Trees.{Label, Spans, Tree, Trees, node, no_trees, more_trees}
use Rattle.dm_tree.specs.Views.{view}
use Rattle.dm_agree.specs.declared.body.Argument.{Argument as CodeArgument}
use Rattle.dm_agree.specs.Agreement.{Rewriting, Here, here_below, Left, Agrees}
use Rattle.dm_agree.specs.Runs.{runs_in}

-- an occurrence of a parameter: the old tree there, and the runs that still stand at it
pub record Argument : Type 0 where
  pub parameter : ℕ
  pub left : Left

-- at an occurrence the tree itself
abbrev pub argument_at : List Occurrence → List Run → Tree → List Argument → List Argument
argument_at [] runs tree below = below
argument_at (one ∷ others) runs tree below = record { parameter = one.parameter; left = record { runs = runs; tree = tree } } ∷ []

abbrev mutual
  pub arguments_in : Rewriting → Run → Here → Tree → List Argument
  arguments_in it run here (node label kind spans parts) =
      argument_at here.occurrences here.runs (node label kind spans parts) (arguments_below it run label spans parts)

  pub arguments_below : Rewriting → Run → Label → Spans → Trees → List Argument
  arguments_below it run label spans no_trees = []
  arguments_below it run label spans (more_trees first rest) =
      arguments_below it run label spans rest ++ arguments_in it run (here_below it run label spans first) first

abbrev pub nothing_here : Here
nothing_here = record { occurrences = []; runs = [] }

-- ---- those of the code

abbrev pub seen : Table → CodeArgument → Argument
seen types one = record { parameter = one.parameter; left = record { runs = runs_in one.runs.items; tree = view types one.tree.now } }

abbrev pub seen_all : Table → List CodeArgument → List Argument
seen_all types found = map (seen types) found

abbrev pub trees_in : List CodeArgument → List Core
trees_in found = map (λ (one : CodeArgument). one.tree.now) found

-- ---- calls

-- a call has no argument for the parameter, or one that agrees
abbrev pub Passed : Rewriting → Option Tree → Left → Type 0
Passed it None left = Unit {0}
Passed it (Some argument) left = Agrees it left.runs argument left.tree

abbrev pub AllPassed : Rewriting → List Tree → List Argument → Type 0
AllPassed it arguments [] = Unit {0}
AllPassed it arguments (one ∷ others) = Passed it (slice_get arguments one.parameter) one.left × AllPassed it arguments others

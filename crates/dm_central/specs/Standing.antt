-- Where trees stand in others under evaluation.
--     StandsIn part run      a tree is the other one, or a part of it, which may be evaluated or not, but not in a type name
--     HasNoMore run whole      parts of the one of which nothing is evaluated stand in the other
use Rattle.std.specs.Prelude.{◌≡◌, ◌⊎◌, IsTrue}
use Rattle.dm_tree.specs.Trees.{Label, convert, sizeof_kind, Tree}
use Rattle.dm_meaning.specs.Running.{Doing, evaluates, gives_truth, gives_value, Run, done, to_do, Runs, no_runs, more_runs, begun, Open, every, only_first, nothing, first_open, others_open}

-- the parts of a node that aren't in a type name (6.7.7)
abbrev pub standing_of : Label → Open
standing_of convert = only_first
standing_of (sizeof_kind type) = nothing
standing_of label = every

abbrev pub standing_parts : Doing → Open
standing_parts (evaluates label) = standing_of label
standing_parts gives_truth = every
standing_parts gives_value = every

abbrev mutual
  pub StandsIn : Run → Run → Type 0
  StandsIn part (done kind result locks) = done kind result locks ≡ part
  StandsIn part (to_do doing kind place parts) = (to_do doing kind place parts ≡ part) ⊎ StandsAmong part (standing_parts doing) parts

  pub StandsAmong : Run → Open → Runs → Type 0
  StandsAmong part stand no_runs = ⊥
  StandsAmong part stand (more_runs first rest) = (IsTrue (first_open stand) × StandsIn part first) ⊎ StandsAmong part (others_open stand) rest

abbrev pub HasNoMore : Run → Run → Type 0
HasNoMore run whole = (tree : Tree) → StandsIn (begun tree) run → StandsIn (begun tree) whole

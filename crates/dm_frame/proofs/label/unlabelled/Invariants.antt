-- The statement behind the labels stays the same.
use Rattle.std.proofs.Common.{◌≡◌}
use Rattle.dm_type.specs.Tables.{Table}
use Rattle.dm_tree.specs.Views.{view}
use Rattle.dm_meaning.specs.Statements as statements
use Rattle.dm_frame.specs.Tasks.{TreeFits}
use Rattle.dm_frame.proofs.label.unlabelled.Given as goal

abbrev pub invariant-loop-at : goal.invariant-loop-at
invariant-loop-at l =
    ((table : Table) → statements.unlabelled (view table l.at) ≡ statements.unlabelled (view table l.fn.tree))
    × ((table : Table) → TreeFits table l.fn.tree → TreeFits table l.at)

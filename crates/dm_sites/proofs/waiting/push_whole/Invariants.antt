-- What was pushed, and what is left in the row.
use Rattle.std.proofs.Common.{◌≡◌, ◌++◌, List, map, reverse, vec_len}
use Rattle.dm_type.specs.Tables.{Table}
use Rattle.dm_sites.specs.Rows.{row}
use Rattle.dm_sites.specs.Seen.{seen}
use Rattle.dm_sites.specs.Sites.{Site, whole}
use Rattle.dm_sites.proofs.waiting.push_whole.Given as goal

abbrev pub invariant-loop-tree : goal.invariant-loop-tree
invariant-loop-tree l = (types : Table) (all : List Site) →
    map (seen types all) l.waiting.items ++ reverse (map (whole l.constant l.fixed) (row types l.row.items))
    ≡ map (seen types all) l.fn.waiting.items ++ reverse (map (whole l.constant l.fixed) (row types l.fn.row.items))

abbrev pub decreases-loop-tree : goal.decreases-loop-tree
decreases-loop-tree l = vec_len l.row

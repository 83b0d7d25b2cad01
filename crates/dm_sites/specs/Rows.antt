-- Rows of trees of the code.
--     row types trees      what they stand for, in order
--     nodes_left sites      how many nodes the trees at some places have
use Rattle.std.specs.Prelude.{ℕ, List, map, sum_by}
use Rattle.std.proofs.Common.{Bor}
use Rattle.dm_type.specs.Tables.{Table, no_type}
use Rattle.dm_tree.specs.declared.tree.Core.{Core}
use Rattle.dm_tree.specs.Paths.{nodes_in}
use Rattle.dm_tree.specs.Trees.{Tree}
use Rattle.dm_tree.specs.Views.{view}
use Rattle.dm_sites.specs.declared.site.Site.{Site as CodeSite}

abbrev pub row : Table → List (Bor Core) → List Tree
row types trees = map (λ (tree : Bor Core). view types tree.now) trees

abbrev pub nodes_left : List CodeSite → ℕ
nodes_left sites = sum_by (λ (site : CodeSite). nodes_in (view no_type site.tree.now)) sites

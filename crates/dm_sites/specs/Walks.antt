-- A walk over the trees of a unit.
--     IsLeft types declared all rest sites pending      all places are those that were found, those in the trees of some that wait, the
--         last one first, and others
--     AreSites unit sites heads links      what is kept of the places of a unit
use Rattle.std.specs.Prelude.{◌≡◌, ℕ, List, ◌++◌, map, reverse, Option}
use Rattle.dm_type.specs.Tables.{Table}
use Rattle.dm_tree.specs.declared.unit.CoreUnit.{CoreUnit}
use Rattle.dm_tree.specs.Paths.{Path}
use Rattle.dm_tree.specs.Trees.{Tree, label_of, spans_of}
use Rattle.dm_tree.specs.Units.{Declaration}
use Rattle.dm_tree.specs.Views.{view_of_unit}
use Rattle.dm_sites.specs.declared.site.Site.{Site as CodeSite}
use Rattle.dm_sites.specs.Links.{AreLinked}
use Rattle.dm_sites.specs.Seen.{seen}
use Rattle.dm_sites.specs.Sites.{Site, all_sites, operand_sites, sites_of_unit}

pub record IsLeft (types : Table) (declared : List Declaration) (all rest : List Site) (sites pending : List CodeSite) : Type 0 where
  pub same : all ≡ map (seen types all) sites ++ (all_sites declared (reverse (map (seen types all) pending)) ++ rest)

-- the same place with another way to it
abbrev pub at_path : Path → Site → Site
at_path path site = record site { path = path }

-- the places of parts of an expression, to which this way leads
abbrev pub operands_at : Path → Site → List Tree → List Site
operands_at path site parts = operand_sites (at_path path site) (label_of site.tree) (spans_of site.tree) 0 parts

pub record AreSites (one : CoreUnit) (sites : List CodeSite) (heads links : List (Option ℕ)) : Type 0 where
  pub same : (types : Table) → let all = sites_of_unit (view_of_unit types one) in map (seen types all) sites ≡ all
  pub linked : (types : Table) → AreLinked (sites_of_unit (view_of_unit types one)) heads links

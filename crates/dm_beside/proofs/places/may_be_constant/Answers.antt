-- The numbers of types in the tree at the run's place are known.
use Rattle.std.proofs.Common.{ap, ◌∙◌}
use Rattle.dm_tree.specs.declared.unit.CoreUnit.{CoreUnit}
use Rattle.dm_tree.specs.Views.{view_of_unit}
use Rattle.dm_sites.specs.Links.{passes}
use Rattle.dm_sites.specs.Seen.{seen}
use Rattle.dm_sites.specs.Sites.{sites_of_unit}
use Rattle.dm_beside.specs.Places.{may_stand}
use Rattle.dm_beside.proofs.KnownSiteLemmas.{known-site}
use Rattle.dm_beside.proofs.places.may_be_constant.Goals as goal

pub may_stand-requires : goal.may_stand-requires
may_stand-requires c = known-site c.args.types.now c.args.sites.now c.in-Some.number c.in-Some-get.site.now c.requires.known_in_trees (λ other. c.in-Some-get.ensures other)

pub returns-in-Some-get : goal.returns-in-Some-get
returns-in-Some-get c =
    let types = c.args.types.now in
    let all = sites_of_unit (view_of_unit types c.args.sites.now) in
    c.may_stand.ensures all
    ∙ (ap (λ (one : CoreUnit). may_stand types (view_of_unit types one) c.args.is_function (seen types all c.in-Some-get.site.now)) c.unit.ensures
    ∙ ap (passes (may_stand types (view_of_unit types c.args.sites.now) c.args.is_function)) (c.in-Some-get.ensures types ∙ c.in-Some.ensures types))

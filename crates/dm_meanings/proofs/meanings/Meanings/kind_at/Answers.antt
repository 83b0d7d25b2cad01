-- The place of the value has its type, whose number is known.
use Rattle.std.proofs.Common.{length, Some, IsTrue, sym, ap, subst, ◌∙◌}
use Rattle.std.specs.Prelude.{option_map}
use Rattle.std.specs.List.{list_all}
use Rattle.dm_type.specs.CTypes.{bare}
use Rattle.dm_tree.specs.declared.unit.CoreUnit.{CoreUnit}
use Rattle.dm_tree.specs.Trees.{kind_of}
use Rattle.dm_tree.specs.TypeNumbers.{external_has_known}
use Rattle.dm_tree.specs.Views.{view_of_unit}
use Rattle.dm_sites.specs.Sites.{Site, site_of, sites_of_unit}
use Rattle.dm_beside.proofs.KnownSiteLemmas.{known-site}
use Rattle.dm_meanings.specs.Types.{kind_at}
use Rattle.dm_meanings.proofs.meanings.Meanings.kind_at.Goals as goal

pub kind_of_value-requires : goal.kind_of_value-requires
kind_of_value-requires c =
    let self = c.args.self.now in
    let types = self.index.now.reading.now.types in
    known-site types self.sites c.in-Some.number c.in-Some-get.site.now
    (subst (λ (one : CoreUnit). IsTrue (list_all (external_has_known (length types.shapes)) one.externals)) (sym self.has_sites) self.has_types)
    (λ other. c.in-Some-get.ensures other)

pub returns-in-Some-get-clause-kind : goal.returns-in-Some-get-clause-kind
unfolding kind_at
returns-in-Some-get-clause-kind c =
    let self = c.args.self.now in
    let types = self.index.now.reading.now.types in
    let kind = λ (site : Site). bare (kind_of site.tree) in
    let all = sites_of_unit (view_of_unit types self.sites) in
    ap Some (c.kind_of_value.ensures all).1
    ∙ ap (option_map kind) (c.in-Some-get.ensures types ∙ c.in-Some.ensures types)
    ∙ ap (λ (one : CoreUnit). option_map kind (site_of (view_of_unit types one) c.args.span)) self.has_sites

pub returns-in-Some-get-clause-known : goal.returns-in-Some-get-clause-known
unfolding kind_at
returns-in-Some-get-clause-known c =
    let self = c.args.self.now in (c.kind_of_value.ensures (sites_of_unit (view_of_unit self.index.now.reading.now.types self.sites))).0

pub returns-in-None-get-clause-kind : goal.returns-in-None-get-clause-kind
unfolding kind_at
returns-in-None-get-clause-kind c =
    let self = c.args.self.now in
    let types = self.index.now.reading.now.types in
    let kind = λ (site : Site). bare (kind_of site.tree) in
    ap (option_map kind) (c.in-None-get.ensures types ∙ c.in-Some.ensures types)
    ∙ ap (λ (one : CoreUnit). option_map kind (site_of (view_of_unit types one) c.args.span)) self.has_sites

pub returns-in-None-clause-kind : goal.returns-in-None-clause-kind
unfolding kind_at
returns-in-None-clause-kind c =
    let self = c.args.self.now in
    let types = self.index.now.reading.now.types in
    let kind = λ (site : Site). bare (kind_of site.tree) in
    ap (option_map kind) (c.in-None.ensures types) ∙ ap (λ (one : CoreUnit). option_map kind (site_of (view_of_unit types one) c.args.span)) self.has_sites

-- The external declarations one after another.
use Rattle.std.proofs.Common.{◌++◌, List, map, append-nil, ap, sym, ◌∙◌, rules}
use Rattle.std.proofs.lemmas.List.{nil_from_length}
use Rattle.std.specs.List.{flat_map}
use Rattle.dm_tree.specs.declared.unit.CoreExternal.{CoreExternal}
use Rattle.dm_tree.specs.Views.{entries_of, view_of_external, view_of_unit}
use Rattle.dm_sites.specs.declared.site.Site.{Site as CodeSite}
use Rattle.dm_sites.specs.Seen.{seen}
use Rattle.dm_sites.specs.Sites.{all_sites, external_sites, sites_of_unit}
use Rattle.dm_sites.proofs.WalkLemmas.{external-waits}
use Rattle.dm_sites.proofs.walk.walk.Goals as goal

pub loop-external-init : goal.loop-external-init
loop-external-init c = (
  c.new-row.ensures.items,
  c.new-waiting.ensures.items,
  λ types.
      let declared = entries_of types c.args.unit.now.declared in
      let all = sites_of_unit (view_of_unit types c.args.unit.now) in
      ap (λ (externals : List CoreExternal). all_sites declared (flat_map (external_sites declared) (map (view_of_external types) externals))) (sym c.items-left.ensures)
      ∙ ap (λ (found : List CodeSite). map (seen types all) found ++ all_sites declared (flat_map (external_sites declared) (map (view_of_external types) c.items-left.result.now))) (sym c.new-found.ensures.items),
)

pub loop-external-preserved : goal.loop-external-preserved
loop-external-preserved c = (
  c.in_ok-spread.ensures.empty,
  c.in_ok-spread.ensures.none,
  λ types.
      let declared = entries_of types c.args.unit.now.declared in
      let all = sites_of_unit (view_of_unit types c.args.unit.now) in
      let here = external_sites declared (view_of_external types c.in-Some.external.now) in
      let behind = flat_map (external_sites declared) (map (view_of_external types) c.in-Some.rest.now) in
      c.in_ok-spread.ensures.places types all (all_sites declared behind)
      (external-waits types declared all here behind c.loop-external.found.items c.loop-external.waiting.items c.push_external.new.waiting.items c.loop-external.invariant.1
      (c.in_ok-push_external.ensures.places types all)
      (c.loop-external.invariant.2 types
      ∙ ap (λ (externals : List CoreExternal). map (seen types all) c.loop-external.found.items ++ all_sites declared (flat_map (external_sites declared) (map (view_of_external types) externals)))
      c.in-Some.ensures.cases.0)),
)

pub returns : goal.returns
returns c types =
    let declared = entries_of types c.args.unit.now.declared in
    let all = sites_of_unit (view_of_unit types c.args.unit.now) in
    let none = nil_from_length c.loop-external.left.now (search rules) in
    sym (c.loop-external.invariant.2 types
    ∙ (ap (λ (externals : List CoreExternal). map (seen types all) c.loop-external.found.items ++ all_sites declared (flat_map (external_sites declared) (map (view_of_external types) externals))) none
    ∙ append-nil (map (seen types all) c.loop-external.found.items)))

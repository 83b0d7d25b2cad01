-- A step of the way, from the inside out.
use Rattle.std.proofs.Common.{◌≡◌, [], ◌++◌, ◌∷◌, List, length, reverse, length-append, ap, subst, sym, ◌∙◌, arith}
use Rattle.dm_type.specs.Tables.{no_type}
use Rattle.dm_tree.specs.declared.unit.CoreUnit.{CoreUnit}
use Rattle.dm_tree.specs.Paths.{Path}
use Rattle.dm_tree.specs.Views.{view_of_unit}
use Rattle.dm_sites.specs.declared.site.Site.{Site as CodeSite}
use Rattle.dm_sites.specs.Seen.{above_at, path_at}
use Rattle.dm_sites.specs.Sites.{sites_of_unit}
use Rattle.dm_sites.proofs.SiteLemmas.{path-up, path-ends, way-longer}
use Rattle.dm_sites.proofs.sites.Sites.path.Goals as goal

pub loop-above-preserved : goal.loop-above-preserved
loop-above-preserved c types =
    let all = sites_of_unit (view_of_unit types c.self.inside.unit.now) in
    let is = ap (λ (them : List CodeSite). above_at them c.loop-above.at) (sym c.as_slice.ensures.value) ∙ (sym c.above.ensures ∙ c.in-Some.is) in
    c.loop-above.invariant types
    ∙ way-longer (path_at all c.loop-above.at) (path_at all c.in-Some.above.site) c.in-Some.above.part c.loop-above.parts.items c.push.new.self.items
    (path-up types all c.self.inside.found.items (c.self.invariant.same types) c.loop-above.at c.in-Some.above is) c.in_ok-push.ensures.items

pub loop-above-smaller : goal.loop-above-smaller
loop-above-smaller c =
    let all = sites_of_unit (view_of_unit no_type c.self.inside.unit.now) in
    let is = ap (λ (them : List CodeSite). above_at them c.loop-above.at) (sym c.as_slice.ensures.value) ∙ (sym c.above.ensures ∙ c.in-Some.is) in
    let up = ap length (path-up no_type all c.self.inside.found.items (c.self.invariant.same no_type) c.loop-above.at c.in-Some.above is) in
    let more = length-append (path_at all c.in-Some.above.site) (c.in-Some.above.part ∷ []) in
    omega (arith, up, more)

pub returns : goal.returns
returns c types =
    let all = sites_of_unit (view_of_unit types c.self.inside.unit.now) in
    let none = ap (λ (them : List CodeSite). above_at them c.loop-above.at) (sym c.as_slice.ensures.value) ∙ (sym c.above.ensures ∙ c.in_default.is) in
    let whole = c.loop-above.invariant types ∙ ap (λ (path : Path). path ++ reverse c.loop-above.parts.items) (path-ends types all c.self.inside.found.items (c.self.invariant.same types) c.loop-above.at none) in
    c.from_vec.ensures
    ∙ (c.reverse.ensures.items
    ∙ sym (subst (λ (one : CoreUnit). path_at (sites_of_unit (view_of_unit types one)) c.args.number ≡ reverse c.loop-above.parts.items) c.self.view_is whole))

-- The place that is next with the same sum of ends is the one that is sought, or isn't.
use Rattle.std.proofs.Common.{◌≡◌, ◌<◌, ℕ, List, Option, None, map, length, slice_get, ap, subst, sym, ◌∙◌, rules}
use Rattle.std.proofs.lemmas.List.{length-map}
use Rattle.dm_type.specs.Tables.{no_type}
use Rattle.dm_tree.specs.declared.unit.CoreUnit.{CoreUnit}
use Rattle.dm_tree.specs.Views.{view_of_unit}
use Rattle.dm_sites.specs.declared.site.Site.{Site as CodeSite}
use Rattle.dm_sites.specs.Links.{linked}
use Rattle.dm_sites.specs.Seen.{seen}
use Rattle.dm_sites.specs.Sites.{site_of, sites_of_unit}
use Rattle.dm_sites.proofs.SiteLemmas.{IsSought, places_left, sought-here, sought-later, sought-fewer, sought-none}
use Rattle.dm_sites.proofs.sites.Sites.find.Goals as goal

pub returns-then-is_at : goal.returns-then-is_at
returns-then-is_at c types =
    let all = sites_of_unit (view_of_unit types c.self.inside.unit.now) in
    let sought = subst (IsSought all c.args.span) c.in-Some.is (c.loop-at.invariant types) in
    let same = ap (λ (found : List CodeSite). map (seen types all) found) c.as_slice-in-Some.ensures.value ∙ c.self.invariant.same types in
    subst (λ (one : CoreUnit). slice_get (sites_of_unit (view_of_unit types one)) c.in-Some.number ≡ site_of (view_of_unit types one) c.args.span) c.self.view_is
    (sought-here all c.self.inside.heads.items c.self.inside.next.items (c.self.invariant.linked types) c.args.span c.in-Some.number sought (c.is_at.ensures types all same ∙ c.if-is_at.true))

pub loop-at-preserved : goal.loop-at-preserved
loop-at-preserved c types =
    let all = sites_of_unit (view_of_unit types c.self.inside.unit.now) in
    let sought = subst (IsSought all c.args.span) c.in-Some.is (c.loop-at.invariant types) in
    let same = ap (λ (found : List CodeSite). map (seen types all) found) c.as_slice-in-Some.ensures.value ∙ c.self.invariant.same types in
    sought-later all c.self.inside.heads.items c.self.inside.next.items (c.self.invariant.linked types) c.args.span c.in-Some.number c.linked-at-in-Some.result sought
    (c.is_at.ensures types all same ∙ c.if-is_at.false)
    (c.linked-at-in-Some.ensures ∙ ap (λ (them : List (Option ℕ)). linked them c.in-Some.number) c.as_slice-in-Some-2.ensures.value)

pub loop-at-smaller : goal.loop-at-smaller
loop-at-smaller c =
    let all = sites_of_unit (view_of_unit no_type c.self.inside.unit.now) in
    let sought = subst (IsSought all c.args.span) c.in-Some.is (c.loop-at.invariant no_type) in
    let after = c.linked-at-in-Some.result in
    let count : length all ≡ length c.self.inside.found.items = ap length (sym (c.self.invariant.same no_type)) ∙ length-map c.self.inside.found.items (seen no_type all) in
    subst (λ (n : ℕ). places_left n after < places_left n c.loop-at.at) count
    (subst (λ (at : Option ℕ). places_left (length all) after < places_left (length all) at) (sym c.in-Some.is)
    (sought-fewer all c.self.inside.heads.items c.self.inside.next.items (c.self.invariant.linked no_type) c.args.span c.in-Some.number after sought
    (c.linked-at-in-Some.ensures ∙ ap (λ (them : List (Option ℕ)). linked them c.in-Some.number) c.as_slice-in-Some-2.ensures.value)))

pub returns : goal.returns
returns c types =
    let all = sites_of_unit (view_of_unit types c.self.inside.unit.now) in
    let none : c.loop-at.at ≡ None = search rules in
    subst (λ (one : CoreUnit). None ≡ site_of (view_of_unit types one) c.args.span) c.self.view_is
    (sym (sought-none all c.self.inside.heads.items c.self.inside.next.items (c.self.invariant.linked types) c.args.span (subst (IsSought all c.args.span) none (c.loop-at.invariant types))))

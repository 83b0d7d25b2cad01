-- One place after another.
use Rattle.std.proofs.Common.{◌≡◌, ◌≤◌, ℕ, Option, List, length, slice_get, ap, ap₂, sym, subst, ◌∙◌, arith, rules}
use Rattle.dm_sites.specs.Links.{linked}
use Rattle.dm_around.specs.declared.ways.Way.{Way}
use Rattle.dm_around.specs.Ways.{way_below}
use Rattle.dm_around.proofs.ParentLemmas.{all_of, none-past, get-less}
use Rattle.dm_around.proofs.WayLemmas.{WaysSoFar, ways-next}
use Rattle.dm_around.proofs.ways.ways_of.Goals as goal

pub loop-site-preserved : goal.loop-site-preserved
loop-site-preserved c =
    let one = c.args.sites.now in
    let parents = c.args.parents.now in
    let ways = c.loop-site.known.items in
    let site = c.in-Some.site.now in
    let same : c.len.result ≡ length ways = search rules in
    let again : c.len-in-Some.result ≡ length ways = search rules in
    subst (WaysSoFar one parents) (sym c.in_ok-push.ensures.items)
    (ways-next one parents ways c.way_below-way.result site c.loop-site.invariant c.requires.before
    (λ types. c.in-Some.ensures types ∙ ap (slice_get (all_of types one)) same)
    (λ types.
    c.way_below-way.ensures types
    ∙ ap₂ (λ (them : List Way) (parent : Option ℕ). way_below (all_of types one) them parent site.above) c.as_slice.ensures.value (c.parent_at-parent.ensures ∙ ap (linked parents) again)))

pub returns : goal.returns
returns c types plain known n site there =
    let past : length (all_of types c.args.sites.now) ≤ c.len.result = none-past (all_of types c.args.sites.now) c.len.result (sym (c.in_default.ensures types)) in
    let same : c.len.result ≡ length c.loop-site.known.items = search rules in
    let less = get-less (all_of types c.args.sites.now) n site there in
    c.loop-site.invariant.fit types plain known n site (omega (arith, past, same, less)) there

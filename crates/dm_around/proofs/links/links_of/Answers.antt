-- One place after another.
use Rattle.std.proofs.Common.{◌≡◌, ◌≤◌, ◌<◌, ◌+◌, ℕ, List, Option, length, ap, ap₂, sym, subst, ◌∙◌, arith, rules}
use Rattle.dm_sites.specs.Links.{linked}
use Rattle.dm_around.specs.declared.links.Link.{Link}
use Rattle.dm_around.specs.Surroundings.{link_below}
use Rattle.dm_around.proofs.ParentLemmas.{all_of, get-less}
use Rattle.dm_around.proofs.LinkLemmas.{LinksSoFar, links-next}
use Rattle.dm_around.proofs.links.links_of.Goals as goal

pub loop-number-preserved : goal.loop-number-preserved
loop-number-preserved c =
    let one = c.args.sites.now in
    let parents = c.args.parents.now in
    let known = c.loop-number.invariant in
    let links = c.loop-number.links.items in
    let less : c.loop-number.number < length parents = search rules in
    let more : length c.push.new.self.items ≡ length links + 1 = search rules in
    let count = known.1 in (
      omega (arith, less),
      omega (arith, more, count),
      subst (LinksSoFar one parents) (sym c.in_ok-push.ensures.items)
          (links-next one parents links c.link_below-link.result known.2 c.requires.before
          (λ types.
          c.link_below-link.ensures types
          ∙ ap₂ (λ (them : List (Option Link)) (parent : Option ℕ). link_below (all_of types one) them parent) c.as_slice.ensures.value (c.parent_at.ensures ∙ ap (linked parents) (sym count)))),
    )

pub returns-clause-same : goal.returns-clause-same
returns-clause-same c types plain known n site there =
    let less = get-less (all_of types c.args.sites.now) n site there in
    let counted = c.requires.count types in
    let past : length c.args.parents.now ≤ c.loop-number.number = search rules in
    let count = c.loop-number.invariant.1 in
    c.loop-number.invariant.2.same types plain known n site (omega (arith, less, counted, past, count)) there

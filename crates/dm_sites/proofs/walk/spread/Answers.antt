-- What waits last enters.
use Rattle.std.proofs.Common.{[], List, subst, ◌≡◌, rules, arith}
use Rattle.dm_tree.specs.Views.{entries_of}
use Rattle.dm_sites.specs.declared.site.Site.{Site as CodeSite}
use Rattle.dm_sites.specs.Walks.{IsLeft}
use Rattle.dm_sites.proofs.WalkLemmas.{left-last, nothing-waits}
use Rattle.dm_sites.proofs.walk.spread.Goals as goal

pub loop-site-preserved : goal.loop-site-preserved
loop-site-preserved c = (
  c.in_ok-enter.ensures.empty,
  λ types all rest left.
      c.in_ok-enter.ensures.places types all rest
      (subst (λ (waiting : List CodeSite). IsLeft types (entries_of types c.args.declared.now) all rest c.loop-site.found.items waiting) c.in-Some.ensures.items (c.loop-site.invariant.1 types all rest left)),
)

pub loop-site-smaller : goal.loop-site-smaller
loop-site-smaller c =
    let fewer = c.in_ok-enter.ensures.fewer in
    let last = left-last c.loop-site.waiting.items c.pop.new.self.items c.in-Some.site c.in-Some.ensures.items in
    omega (arith, fewer, last)

pub returns-clause-places : goal.returns-clause-places
returns-clause-places c types all rest left =
    let none : c.loop-site.waiting.items ≡ [] = search rules in
    nothing-waits types (entries_of types c.args.declared.now) all rest c.loop-site.found.items c.loop-site.waiting.items none (c.loop-site.invariant.1 types all rest left)

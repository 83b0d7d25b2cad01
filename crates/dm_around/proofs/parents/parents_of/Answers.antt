-- One place after another.
use Rattle.std.proofs.Common.{◌≡◌, ◌≤◌, ◌<◌, ◌↔◌, IsSome, ◌+◌, ℕ, slice_get, List, [], ◌++◌, Option, length, replicate, ap, sym, subst, ◌∙◌, arith, rules}
use Rattle.dm_type.specs.Tables.{no_type}
use Rattle.dm_tree.specs.Trees.{is_statement, Tree}
use Rattle.dm_sites.proofs.NodeLemmas.{label-view, parts-view}
use Rattle.dm_around.proofs.ParentLemmas.{all_of, SoFar, so-far-none, so-far-next, none-past, get-less}
use Rattle.dm_around.proofs.parents.parents_of.Goals as goal

pub loop-site-init : goal.loop-site-init
loop-site-init c = subst (λ (parents : List (Option ℕ)). SoFar c.args.sites.now parents c.new-left.result.items) (sym c.new-parents.ensures.items) (subst (SoFar c.args.sites.now []) (sym c.new-left.ensures.items) (so-far-none c.args.sites.now))

pub loop-site-smaller : goal.loop-site-smaller
loop-site-smaller c =
    let less = get-less (all_of no_type c.args.sites.now) c.len.result _ (sym (c.in-Some.ensures no_type)) in
    let same : c.len.result ≡ length c.loop-site.parents.items = search rules in
    let more : length c.push.new.self.items ≡ length c.loop-site.parents.items + 1 = search rules in
    omega (arith, less, same, more)

pub loop-site-preserved : goal.loop-site-preserved
loop-site-preserved c =
    let one = c.args.sites.now in
    let same : c.len.result ≡ length c.loop-site.parents.items = search rules in
    let count : c.loop-site.left.len ≡ length c.loop-site.left.items = search rules in
    let number : c.len-number.result ≡ length c.loop-site.parents.items = search rules in
    subst (λ (parents : List (Option ℕ)). SoFar one parents c.push_times.new.numbers.items) (sym c.in_ok-push.ensures.items)
    (so-far-next one c.loop-site.parents.items c.loop-site.left.items c.pop.new.self.items c.push_times.new.numbers.items c.pop.result c.count_parts.result c.in-Some.site.now
    c.loop-site.invariant c.pop.ensures.items (subst (λ (n : ℕ). IsSome c.pop.result ↔ (0 < n)) count c.pop.ensures.variant)
    (c.in_ok-push_times.ensures ∙ ap (λ (n : ℕ). c.pop.new.self.items ++ replicate c.count_parts.result n) number)
    (λ types. c.in-Some.ensures types ∙ ap (slice_get (all_of types one)) same)
    (λ types is. c.count_parts.ensures types (ap is_statement (sym (label-view types c.in-Some.site.now.tree.now)) ∙ is) ∙ ap (λ (them : List Tree). length them) (sym (parts-view types c.in-Some.site.now.tree.now))))

pub returns-clause-same : goal.returns-clause-same
returns-clause-same c types plain n site there =
    let past : length (all_of types c.args.sites.now) ≤ c.len.result = none-past (all_of types c.args.sites.now) c.len.result (sym (c.in_default.ensures types)) in
    let same : c.len.result ≡ length c.loop-site.parents.items = search rules in
    let less = get-less (all_of types c.args.sites.now) n site there in
    c.loop-site.invariant.above types plain n site (omega (arith, past, same, less)) there

pub returns-clause-count : goal.returns-clause-count
returns-clause-count c types =
    let past : length (all_of types c.args.sites.now) ≤ c.len.result = none-past (all_of types c.args.sites.now) c.len.result (sym (c.in_default.ensures types)) in
    let same : c.len.result ≡ length c.loop-site.parents.items = search rules in
    let within = c.loop-site.invariant.within types in
    omega (arith, past, same, within)

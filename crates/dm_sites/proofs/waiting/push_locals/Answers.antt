-- The last declarator is pushed.
use Rattle.std.proofs.Common.{map, rules, ap, List}
use Rattle.std.proofs.lemmas.List.{nil_from_length}
use Rattle.dm_tree.specs.declared.tree.Local.{Local}
use Rattle.dm_tree.specs.Views.{entries_of, view_of_local}
use Rattle.dm_effect.specs.Questions.{as_local}
use Rattle.dm_sites.specs.Seen.{seen}
use Rattle.dm_sites.specs.Sites.{declarator_sites, initial_sites}
use Rattle.dm_sites.proofs.NodeLemmas.{locals-last}
use Rattle.dm_sites.proofs.WaitLemmas.{pushed-last, pushed-all}
use Rattle.dm_sites.proofs.waiting.push_locals.Goals as goal

pub loop-local-preserved : goal.loop-local-preserved
loop-local-preserved c = (
  c.in_ok-push_local.ensures.empty,
  λ types all.
      let declared = entries_of types c.args.declared.now in
      pushed-last (map (seen types all) c.loop-local.waiting.items) (map (seen types all) c.push_local.new.waiting.items) _
      (declarator_sites declared (map as_local (map (view_of_local types) c.loop-local.left.now))) (declarator_sites declared (map as_local (map (view_of_local types) c.in-Some.before.now)))
      (initial_sites declared (as_local (view_of_local types c.in-Some.local.now)))
      (locals-last types declared c.loop-local.left.now c.in-Some.before.now c.in-Some.local.now c.in-Some.ensures.cases.0)
      (c.in_ok-push_local.ensures.places types all) (c.loop-local.invariant.1 types all),
)

pub returns-clause-places : goal.returns-clause-places
returns-clause-places c types all =
    let declared = entries_of types c.args.declared.now in
    let none = nil_from_length c.loop-local.left.now (search rules) in
    pushed-all (map (seen types all) c.loop-local.waiting.items) _ (declarator_sites declared (map as_local (map (view_of_local types) c.loop-local.left.now)))
    (ap (λ (them : List Local). declarator_sites declared (map as_local (map (view_of_local types) them))) none) (c.loop-local.invariant.1 types all)

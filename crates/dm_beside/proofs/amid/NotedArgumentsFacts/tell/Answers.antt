-- What is known of the tree that stands there.
use Rattle.std.proofs.Common.{◌≡◌, Bool, Some, slice_get, ap, sym, ◌∙◌}
use Rattle.dm_tree.specs.declared.unit.CoreUnit.{CoreUnit}
use Rattle.dm_tree.specs.Views.{view_of_unit}
use Rattle.dm_effect.specs.Safe.{is_safe}
use Rattle.dm_sites.specs.Links.{passes}
use Rattle.dm_sites.specs.Seen.{seen}
use Rattle.dm_sites.specs.Sites.{Site, site_of, sites_of_unit}
use Rattle.dm_beside.specs.declared.tally.Fact.{Fact}
use Rattle.dm_beside.specs.Amid.{run_at}
use Rattle.dm_beside.specs.Evaluation.{is_first_in, is_stable_in}
use Rattle.dm_beside.proofs.KnownSiteLemmas.{known-site}
use Rattle.dm_beside.proofs.amid.NotedArgumentsFacts.tell.Goals as goal

pub is_safe-safe-requires-clause-argument : goal.is_safe-safe-requires-clause-argument
is_safe-safe-requires-clause-argument c =
    let it = c.args.self.now in
    known-site it.types.now it.sites.now c.in-Some.number c.in-Some-get.argument.now it.trees (λ other. c.in-Some-get.ensures other)

pub returns : goal.returns
returns c =
    let it = c.args.self.now in
    let types = it.types.now in
    let unit = view_of_unit types it.sites.now in
    let all = sites_of_unit unit in
    let run = run_at types it.sites.now it.run.now in
    let argument = seen types all c.in-Some-get.argument.now in
    let got : slice_get all c.in-Some.number ≡ Some argument = sym (c.in-Some-get.ensures types) in
    let found : site_of unit c.args.span ≡ Some argument = sym (c.in-Some.ensures types) ∙ got in
    let first = c.in_ok-first.ensures argument got ∙ sym (ap (passes (is_first_in run)) found) in
    let stable = c.is_stable-stable.ensures ∙ sym (ap (passes (is_stable_in unit run)) found) in
    let safe = c.is_safe-safe.ensures ∙ (ap (λ (one : CoreUnit). is_safe types (view_of_unit types one) argument.tree) it.noted ∙ sym (ap (passes (λ (one : Site). is_safe types unit one.tree)) found)) in
    let made : Bool → Bool → Bool → Fact = λ a b d. record { first = a; stable = b; safe = d } in
    ap (λ (a : Bool). made a c.is_stable-stable.result c.is_safe-safe.result) first
    ∙ (ap (λ (b : Bool). made (passes (is_first_in run) (site_of unit c.args.span)) b c.is_safe-safe.result) stable
    ∙ ap (λ (d : Bool). made (passes (is_first_in run) (site_of unit c.args.span)) (passes (is_stable_in unit run) (site_of unit c.args.span)) d) safe)

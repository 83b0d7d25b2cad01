-- What is known of the tree that stands there.
use Rattle.std.proofs.Common.{◌≡◌, Bool, [], Option, Some, drop, length, slice_get, ap, sym, ◌∙◌}
use Rattle.std.specs.Option.{option_map_or}
use Rattle.dm_tree.specs.declared.unit.CoreUnit.{CoreUnit}
use Rattle.dm_tree.specs.Views.{view, view_of_unit}
use Rattle.std.specs.List.{list_all}
use Rattle.dm_effect.specs.Quiet.{is_quiet}
use Rattle.dm_effect.specs.Safe.{is_safe}
use Rattle.dm_effect.specs.Sequencing.{around, is_first}
use Rattle.dm_effect.specs.Stable.{is_stable}
use Rattle.dm_sites.specs.Links.{passes}
use Rattle.dm_sites.specs.Seen.{path_of, seen}
use Rattle.dm_sites.specs.Sites.{Site, site_of, sites_of_unit}
use Rattle.dm_beside.specs.declared.tally.Fact.{Fact}
use Rattle.dm_beside.specs.Evaluation.{is_first_in, is_stable_in}
use Rattle.dm_beside.specs.Tallies.{placed}
use Rattle.dm_beside.proofs.KnownSiteLemmas.{known-site}
use Rattle.dm_beside.proofs.arguments.ArgumentsFacts.tell.Goals as goal

pub is_safe-safe-requires-clause-argument : goal.is_safe-safe-requires-clause-argument
is_safe-safe-requires-clause-argument c =
    let it = c.args.self.now in
    known-site it.types.now it.sites.now c.in-Some.number c.in-Some-get.argument.now it.trees (λ other. c.in-Some-get.ensures other)

pub is_stable_where-stable-requires-clause-calm : goal.is_stable_where-stable-requires-clause-calm
is_stable_where-stable-requires-clause-calm c =
    let it = c.args.self.now in
    let types = it.types.now in
    it.calmly ∙ ap (λ (one : CoreUnit). list_all (is_quiet (view_of_unit types one)) (around it.at.now (view types it.run.now.full.now))) (sym it.noted)

pub returns : goal.returns
returns c =
    let it = c.args.self.now in
    let types = it.types.now in
    let unit = view_of_unit types it.sites.now in
    let all = sites_of_unit unit in
    let run = placed types it.run.now it.at.now in
    let argument = seen types all c.in-Some-get.argument.now in
    let got : slice_get all c.in-Some.number ≡ Some argument = sym (c.in-Some-get.ensures types) in
    let found : site_of unit c.args.span ≡ Some argument = sym (c.in-Some.ensures types) ∙ got in
    let first = c.in_ok-first.ensures types ∙ (ap (λ (one : Option Site). is_first (drop (length it.at.now) (option_map_or path_of one [])) run.tree) got ∙ sym (ap (passes (is_first_in run)) found)) in
    let stable = c.is_stable_where-stable.ensures ∙ (ap (λ (one : CoreUnit). is_stable (view_of_unit types one) run.full it.at.now argument.tree) it.noted ∙ sym (ap (passes (is_stable_in unit run)) found)) in
    let safe = c.is_safe-safe.ensures ∙ (ap (λ (one : CoreUnit). is_safe types (view_of_unit types one) argument.tree) it.noted ∙ sym (ap (passes (λ (one : Site). is_safe types unit one.tree)) found)) in
    let made : Bool → Bool → Bool → Fact = λ a b d. record { first = a; stable = b; safe = d } in
    ap (λ (a : Bool). made a c.is_stable_where-stable.result c.is_safe-safe.result) first
    ∙ (ap (λ (b : Bool). made (passes (is_first_in run) (site_of unit c.args.span)) b c.is_safe-safe.result) stable
    ∙ ap (λ (d : Bool). made (passes (is_first_in run) (site_of unit c.args.span)) (passes (is_stable_in unit run) (site_of unit c.args.span)) d) safe)

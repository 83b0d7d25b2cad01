-- Where the run stands, and what is known of its arguments there.
use Rattle.std.proofs.Common.{◌≡◌, ℕ, Bool, List, Some, slice_get, ap, sym, subst, ◌∙◌}
use Rattle.std.specs.List.{list_all}
use Rattle.dm_tree.specs.declared.unit.CoreUnit.{CoreUnit}
use Rattle.dm_type.specs.Tables.{Table}
use Rattle.dm_tree.specs.TypeNumbers.{IsTypedUnit}
use Rattle.dm_tree.specs.Views.{view_of_unit}
use Rattle.dm_effect.specs.Quiet.{is_quiet}
use Rattle.dm_effect.specs.Sequencing.{around}
use Rattle.dm_runs.specs.declared.run.Occurrence.{Occurrence}
use Rattle.dm_sites.specs.Seen.{seen}
use Rattle.dm_sites.specs.Sites.{Site, sites_of_unit}
use Rattle.dm_beside.specs.Tallies.{fact_in, is_passed, spans_for, tally_of}
use Rattle.dm_beside.proofs.EvaluationLemmas.{placed-alike, nowhere-alike}
use Rattle.dm_beside.proofs.noted.evaluates_alike_amid.Goals as goal

-- what is told of the place with a number
abbrev Says : Bool → ℕ → Table → Site → CoreUnit → Type 0
Says answer n types site one =
    IsTypedUnit types one → slice_get (sites_of_unit (view_of_unit types one)) n ≡ Some site → answer ≡ list_all (is_quiet (view_of_unit types one)) (around site.path site.full)

pub returns-in_default : goal.returns-in_default
returns-in_default c =
    let types = c.args.types.now in
    sym c.if-is_empty.false ∙ nowhere-alike types (view_of_unit types c.args.sites.now) c.args.run.now c.is_empty.result c.is_empty.ensures (sym (c.in_default.ensures types))

pub returns-in_default-get : goal.returns-in_default-get
returns-in_default-get c =
    let types = c.args.types.now in
    sym c.if-is_empty.false
    ∙ nowhere-alike types (view_of_unit types c.args.sites.now) c.args.run.now c.is_empty.result c.is_empty.ensures (sym (c.in_default-get.ensures types ∙ c.in-Some.ensures types))

pub invariant_of-arguments : goal.invariant_of-arguments
invariant_of-arguments c =
    let types = c.args.types.now in
    let unit = view_of_unit types c.args.sites.now in
    let all = sites_of_unit unit in
    let site = seen types all c.in-Some-get.site.now in
    let got : slice_get all c.in-Some.number ≡ Some site = sym (c.in-Some-get.ensures types) in
    let calm : Says c.are_quiet.result c.in-Some.number types site c.args.sites.now =
    subst (Says c.are_quiet.result c.in-Some.number types site) c.requires.surroundings (c.are_quiet.ensures types site) in
    record {
      calmly = calm c.requires.typed got;
      noted = c.requires.objects;
      round = c.requires.surroundings;
      entries = c.requires.typed.known_in_entries;
      trees = c.requires.typed.known_in_trees;
      placed = ∣ record { typed = c.requires.typed; there = got } ∣₁;
    }

pub returns : goal.returns
returns c =
    let types = c.args.types.now in
    let unit = view_of_unit types c.args.sites.now in
    let all = sites_of_unit unit in
    let run = c.args.run.now in
    let site = seen types all c.in-Some-get.site.now in
    let got : slice_get all c.in-Some.number ≡ Some site = sym (c.in-Some-get.ensures types) in
    c.in_ok-passed.ensures
    ∙ (ap (λ (all : List Occurrence). list_all (λ (each : Occurrence). is_passed (tally_of (fact_in types unit site) (spans_for all each.parameter))) all) c.items.ensures
    ∙ placed-alike types unit run site (sym (c.in-Some.ensures types) ∙ got))

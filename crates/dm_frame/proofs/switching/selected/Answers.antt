-- The items from the matching label on, else from `default` on, else none.
use Rattle.std.proofs.Common.{◌≡◌, ℤ, List, [], map, rules, ap, sym, ◌∙◌, to_z, of_z}
use mir.Syntax.{w128}
use Rattle.dm_meaning.specs.Values.{integer_value}
use Rattle.dm_value.specs.Views.{view_of_value}
use Rattle.dm_tree.specs.Trees.{Tree}
use Rattle.dm_tree.specs.Views.{view}
use Rattle.dm_meaning.specs.Programs.{Program}
use Rattle.dm_meaning.specs.Statements.{from_first, has_case, has_default, or_items, selected_by}
use Rattle.dm_program.specs.Sources.{meant}
use Rattle.dm_frame.proofs.SwitchLemmas.{view-Integer}
use Rattle.dm_frame.proofs.switching.selected.Goals as goal

pub returns-in-Some-from_default-clause-same : goal.returns-in-Some-from_default-clause-same
returns-in-Some-from_default-clause-same c =
    let table = c.args.program.now.table in
    let program = meant c.args.program.now in
    let items : List Tree = map (view table) c.args.items.now in
    let found = c.in-Some-from_default.ensures table c.requires in
    let seen : view_of_value c.args.value.now ≡ integer_value c.in-Integer.integer.kind c.in-Integer.integer.value = ap view_of_value c.in-Integer.is ∙ view-Integer c.in-Integer.integer in
    let same : to_z w128 (of_z w128 c.value.result) ≡ c.in-Integer.integer.value = search rules in
    sym (ap (λ value. selected_by program value items) seen
    ∙ (ap (λ z. or_items (from_first (has_case program z) items) (or_items (from_first has_default items) [])) (sym same)
    ∙ (ap (λ first. or_items first (or_items (from_first has_default items) [])) c.in_default-from_case.ensures
    ∙ ap (λ first. or_items first []) found.0)))

pub returns-in-Some-from_default-clause-fits : goal.returns-in-Some-from_default-clause-fits
returns-in-Some-from_default-clause-fits c = (c.in-Some-from_default.ensures c.args.program.now.table c.requires).1

pub returns-in-None-clause-same : goal.returns-in-None-clause-same
returns-in-None-clause-same c =
    let table = c.args.program.now.table in
    let program = meant c.args.program.now in
    let items : List Tree = map (view table) c.args.items.now in
    let seen : view_of_value c.args.value.now ≡ integer_value c.in-Integer.integer.kind c.in-Integer.integer.value = ap view_of_value c.in-Integer.is ∙ view-Integer c.in-Integer.integer in
    let same : to_z w128 (of_z w128 c.value.result) ≡ c.in-Integer.integer.value = search rules in
    sym (ap (λ value. selected_by program value items) seen
    ∙ (ap (λ z. or_items (from_first (has_case program z) items) (or_items (from_first has_default items) [])) (sym same)
    ∙ (ap (λ first. or_items first (or_items (from_first has_default items) [])) c.in_default-from_case.ensures
    ∙ ap (λ first. or_items first []) (c.in-None.ensures table c.requires))))

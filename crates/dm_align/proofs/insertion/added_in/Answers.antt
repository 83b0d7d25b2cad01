-- The external declaration and the entry of the name.
use Rattle.std.proofs.Common.{◌≡◌, List, length, Some, option_map, refl, sym, ap, ◌∙◌}
use Rattle.std.specs.Prelude.{slice_get}
use Rattle.std.proofs.lemmas.Option.{slice_get_read}
use borrow.Author.Tests.{ltb-true}
use Rattle.dm_tree.specs.declared.unit.CoreExternal.{CoreExternal}
use Rattle.dm_tree.specs.TypeNumbers.{entry_has_known}
use Rattle.dm_tree.specs.Units.{Declaration}
use Rattle.dm_tree.specs.Views.{view_of_declared, view_of_external, view_of_unit}
use Rattle.dm_agree.specs.Comparing.{added_of}
use Rattle.dm_agree.proofs.PartLemmas.{if-ok}
use Rattle.dm_align.proofs.InsertionLemmas.{added-declared, form-only, get-shown, passes-at}
use Rattle.dm_align.proofs.NumberLemmas.{get-map}
use Rattle.dm_align.proofs.insertion.added_in.Goals as goal

pub returns-in_default-named_entry-clause-only : goal.returns-in_default-named_entry-clause-only
returns-in_default-named_entry-clause-only c x adds =
    let types = c.args.types.now in
    let it = c.args.it.now in
    let entry = added-declared types (view_of_unit types c.args.unit.now) it x adds in
    let seen = get-shown (view_of_declared types) c.args.unit.now.declared it.number entry.0 entry.1 in
    c.in_default-named_entry.ensures.none seen.0 seen.1 (ap (λ (one : Declaration). one.name) seen.2 ∙ entry.2) entry.3 entry.4

pub function_in-requires-clause-known : goal.function_in-requires-clause-known
function_in-requires-clause-known c =
    let n = length c.args.types.now.shapes in
    let passes = passes-at (entry_has_known n) c.args.unit.now.declared c.args.it.now.number c.in-Some-named_entry.entry.now c.requires.entries c.in-Some-named_entry.ensures.found.0 in
    ltb-true c.in-Some-named_entry.entry.now.kind n passes

pub constant_in-requires-clause-known : goal.constant_in-requires-clause-known
constant_in-requires-clause-known c =
    let n = length c.args.types.now.shapes in
    let passes = passes-at (entry_has_known n) c.args.unit.now.declared c.args.it.now.number c.in-Some-named_entry.entry.now c.requires.entries c.in-Some-named_entry.ensures.found.0 in
    ltb-true c.in-Some-named_entry.entry.now.kind n passes

pub returns-in-Function-clause-only : goal.returns-in-Function-clause-only
returns-in-Function-clause-only c =
    let types = c.args.types.now in
    let unit = c.args.unit.now in
    let it = c.args.it.now in
    let found : slice_get unit.externals it.external ≡ Some c.in-Some.external.now =
    ap (λ (externals : List CoreExternal). slice_get externals it.external) (sym c.items.ensures)
    ∙ slice_get_read c.items.result.now (length c.items.result.now) it.external c.in-Some.external.now refl c.in-Some.ensures.lookup.3.0 c.in-Some.ensures.lookup.1 in
    let at = get-map (view_of_external types) unit.externals it.external ∙ ap (option_map (view_of_external types)) found in
    if-ok c.function_in.result (λ added only. form-only types (view_of_unit types unit) it (view_of_external types c.in-Some.external.now) at (option_map (added_of types) added) only)
    c.function_in.ensures.only

pub returns-in-Enumerator-clause-only : goal.returns-in-Enumerator-clause-only
returns-in-Enumerator-clause-only c =
    let types = c.args.types.now in
    let unit = c.args.unit.now in
    let it = c.args.it.now in
    let found : slice_get unit.externals it.external ≡ Some c.in-Some.external.now =
    ap (λ (externals : List CoreExternal). slice_get externals it.external) (sym c.items.ensures)
    ∙ slice_get_read c.items.result.now (length c.items.result.now) it.external c.in-Some.external.now refl c.in-Some.ensures.lookup.3.0 c.in-Some.ensures.lookup.1 in
    let at = get-map (view_of_external types) unit.externals it.external ∙ ap (option_map (view_of_external types)) found in
    form-only types (view_of_unit types unit) it (view_of_external types c.in-Some.external.now) at (option_map (added_of types) c.enumerator_in.result) c.enumerator_in.ensures.only

pub returns-in-Constant-clause-only : goal.returns-in-Constant-clause-only
returns-in-Constant-clause-only c =
    let types = c.args.types.now in
    let unit = c.args.unit.now in
    let it = c.args.it.now in
    let found : slice_get unit.externals it.external ≡ Some c.in-Some.external.now =
    ap (λ (externals : List CoreExternal). slice_get externals it.external) (sym c.items.ensures)
    ∙ slice_get_read c.items.result.now (length c.items.result.now) it.external c.in-Some.external.now refl c.in-Some.ensures.lookup.3.0 c.in-Some.ensures.lookup.1 in
    let at = get-map (view_of_external types) unit.externals it.external ∙ ap (option_map (view_of_external types)) found in
    form-only types (view_of_unit types unit) it (view_of_external types c.in-Some.external.now) at (option_map (added_of types) c.constant_in.result) c.constant_in.ensures.only

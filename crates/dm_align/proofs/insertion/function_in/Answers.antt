-- The one function.
use Rattle.std.proofs.Common.{◌≡◌, ℕ, IsTrue, List, length, Option, Some, None, option_map, sym, ap, ◌∙◌, subst}
use Rattle.std.specs.Option.{option_copied}
use Rattle.std.specs.Prelude.{IfSome, slice_get}
use Rattle.std.specs.Borrow.{Bor}
use Rattle.dm_tree.specs.declared.tree.Core.{Core}
use Rattle.dm_tree.specs.declared.unit.CoreExternalForm.{CoreExternalForm}
use Rattle.dm_tree.specs.declared.unit.Linkage.TheVariants.{Internal}
use Rattle.dm_tree.specs.declared.unit.Sort.TheVariants.{Function}
use Rattle.dm_tree.specs.Trees.{parts_of}
use Rattle.dm_tree.specs.TypeNumbers.{are_known, form_has_known}
use Rattle.dm_tree.specs.Units.{ExternalForm, defines_function}
use Rattle.dm_tree.specs.Views.{view, view_of_declared, view_of_form, view_of_unit}
use Rattle.dm_agree.specs.Agreement.{added_function, nothing}
use Rattle.dm_align.specs.Insertions.{FormAddsIt, IsOnly, put_in, value_in}
use Rattle.dm_align.specs.Units.{AreParameters}
use Rattle.dm_align.proofs.InsertionLemmas.{function-found, no-function}
use Rattle.dm_align.proofs.NumberLemmas.{get-map}
use Rattle.dm_align.proofs.insertion.function_in.Goals as goal

pub returns-in_default-2-clause-only : goal.returns-in_default-2-clause-only
returns-in_default-2-clause-only c =
    let types = c.args.types.now in
    let new = view_of_unit types c.args.unit.now in
    let it = c.args.it.now in
    let entry = view_of_declared types c.args.entry.now in
    let whole = view types c.in-Function.body in
    let at : slice_get new.declared it.number ≡ Some entry =
    get-map (view_of_declared types) c.args.unit.now.declared it.number ∙ ap (option_map (view_of_declared types)) c.requires.entry in
    let value = ap (λ (found : Option (Bor Core)). option_map (view types) (option_copied found)) (sym c.in_default-2.is)
    ∙ (c.in_ok-value.ensures.value types ∙ ap (λ void. value_in void (parts_of whole)) c.is_void_result-void.ensures) in
    subst (λ (form : ExternalForm). IsOnly (FormAddsIt types new it form) None) (sym (ap (view_of_form types) c.in-Function.is))
    (no-function types new it entry at c.requires.name c.requires.put c.requires.kind c.in-Function.function c.in-Function.parameters whole value)

pub returns-clause-only : goal.returns-clause-only
returns-clause-only c =
    let types = c.args.types.now in
    let new = view_of_unit types c.args.unit.now in
    let it = c.args.it.now in
    let entry = view_of_declared types c.args.entry.now in
    let whole = view types c.in-Function.body in
    let body = view types c.in-Some.value.now in
    let at : slice_get new.declared it.number ≡ Some entry =
    get-map (view_of_declared types) c.args.unit.now.declared it.number ∙ ap (option_map (view_of_declared types)) c.requires.entry in
    let value = sym (ap (λ void. value_in void (parts_of whole)) c.is_void_result-void.ensures)
    ∙ (sym (c.in_ok-value.ensures.value types) ∙ ap (λ (found : Option (Bor Core)). option_map (view types) (option_copied found)) c.in-Some.is) in
    let own = c.is_internal_function.ensures.0 c.if-not-is_internal_function.false in
    let parameters : AreParameters (put_in it nothing) c.items.result.now = c.in_ok-are_parameters.ensures.0 c.if-not-branch.false in
    let facts : AreParameters (put_in it nothing) c.in-Function.parameters × (entry.sort ≡ Function) × (entry.linkage ≡ Internal) =
    (subst (λ (numbers : List ℕ). AreParameters (put_in it nothing) numbers) c.items.ensures parameters, own.0, own.1) in
    subst (λ (form : ExternalForm). IsOnly (FormAddsIt types new it form) (Some (added_function c.in-Function.function c.items-2.result.now body))) (sym (ap (view_of_form types) c.in-Function.is))
    (subst (λ (numbers : List ℕ). IsOnly (FormAddsIt types new it (defines_function c.in-Function.function c.in-Function.parameters whole)) (Some (added_function c.in-Function.function numbers body)))
    (sym c.items-2.ensures)
    (function-found types new it entry at c.requires.name c.requires.put c.requires.kind c.in-Function.function c.in-Function.parameters whole body c.if-function-it.false facts
    (sym c.is_function_result.ensures ∙ c.if-is_function_result.false) value))

pub returns-clause-known : goal.returns-clause-known
returns-clause-known c =
    let n = length c.args.types.now.shapes in
    let known = subst (λ (form : CoreExternalForm). IsTrue (form_has_known n form)) c.in-Function.is c.requires.form in
    subst (λ (found : Option (Bor Core)). IfSome found (λ value. IsTrue (are_known n value.now))) c.in-Some.is (c.in_ok-value.ensures.known n known)

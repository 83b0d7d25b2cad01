-- By the form.
use Rattle.std.proofs.Common.{◌↔◌, Bool, IfOk, IsTrue, sym, subst}
use Rattle.dm_type.specs.Tables.{Table}
use Rattle.dm_tree.specs.declared.unit.CoreExternalForm.{CoreExternalForm}
use Rattle.dm_tree.specs.Views.{view_of_form, view_of_unit}
use Rattle.dm_plain.specs.Plain.{HasPlainBody}
use Rattle.dm_alignment.proofs.added.has_plain_body.Goals as goal

pub returns-in-Function : goal.returns-in-Function
returns-in-Function c =
    subst (λ (form : CoreExternalForm). IfOk c.has_plain_types.result (λ (answer : Bool). (types : Table) → IsTrue answer ↔ HasPlainBody (view_of_unit types c.args.unit.now) (view_of_form types form)))
    (sym c.in-Function.is) c.has_plain_types.ensures

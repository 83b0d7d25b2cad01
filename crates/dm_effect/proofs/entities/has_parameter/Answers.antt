-- It is among the parameters.
use Rattle.std.proofs.Common.{ℕ, List, ◌==◌, ap, sym, ◌∙◌}
use Rattle.std.specs.List.{list_any}
use Rattle.dm_tree.specs.declared.unit.CoreExternalForm.{CoreExternalForm}
use Rattle.dm_tree.specs.Views.{view_of_form}
use Rattle.dm_effect.specs.Safe.{has_parameter}
use Rattle.dm_effect.proofs.entities.has_parameter.Goals as goal

pub returns-in-Function : goal.returns-in-Function
returns-in-Function c types =
    c.is_among.ensures
    ∙ (ap (λ (parameters : List ℕ). list_any (λ number. number == c.args.object) parameters) c.items.ensures
    ∙ sym (ap (λ (form : CoreExternalForm). has_parameter c.args.object (view_of_form types form)) c.in-Function.is))

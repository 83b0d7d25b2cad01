-- The expressions of the initialisers.
use Rattle.std.proofs.Common.{◌++◌, List, map, sym, ap, ◌∙◌}
use Rattle.dm_tree.specs.declared.tree.Local.{Local}
use Rattle.dm_tree.specs.declared.unit.CoreExternalForm.{CoreExternalForm}
use Rattle.dm_tree.specs.Views.{expressions_of_locals, view, view_of_form, view_of_local}
use Rattle.dm_effect.specs.Entities.{trees_in_form}
use Rattle.dm_agree.specs.Parts.{nows}
use Rattle.dm_align.proofs.places.push_form.Goals as goal

pub returns-in_ok-push_locals-in-Declaration : goal.returns-in_ok-push_locals-in-Declaration
returns-in_ok-push_locals-in-Declaration c types =
    let before = map (view types) (nows c.args.trees.now.items) in
    c.in_ok-push_locals-in-Declaration.ensures.same types
    ∙ (ap (λ (locals : List Local). before ++ expressions_of_locals (map (view_of_local types) locals)) c.items.ensures
    ∙ ap (λ (form : CoreExternalForm). before ++ trees_in_form (view_of_form types form)) (sym c.in-Declaration.is))

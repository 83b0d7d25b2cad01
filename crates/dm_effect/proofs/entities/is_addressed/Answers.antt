-- External declaration by external declaration.
use Rattle.std.proofs.Common.{List, map, ap, sym, ◌∙◌}
use Rattle.std.specs.List.{list_any}
use Rattle.dm_tree.specs.declared.unit.CoreExternal.{CoreExternal}
use Rattle.dm_tree.specs.Views.{view_of_external, view_of_unit}
use Rattle.dm_effect.specs.declared.question.Question.TheVariants as question
use Rattle.dm_effect.specs.Externals.{is_found}
use Rattle.dm_effect.proofs.ExternalLemmas.{addresses-found}
use Rattle.dm_effect.proofs.entities.is_addressed.Goals as goal

pub returns : goal.returns
returns c types =
    let d = c.args.object in
    c.any_external.ensures types
    ∙ (ap (λ (all : List CoreExternal). list_any (is_found types (question.Addresses d)) (map (view_of_external types) all)) c.items.ensures
    ∙ sym (addresses-found types (view_of_unit types c.args.unit.now) d))

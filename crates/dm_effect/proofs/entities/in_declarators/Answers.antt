-- By what is asked.
use Rattle.std.proofs.Common.{List, map, ap, ap₂, sym, ◌∙◌}
use Rattle.std.specs.List.{list_any}
use Rattle.dm_tree.specs.declared.tree.Local.{Local}
use Rattle.dm_tree.specs.declared.unit.CoreExternalForm.{CoreExternalForm}
use Rattle.dm_tree.specs.Views.{view_of_form, view_of_local}
use Rattle.dm_effect.specs.declared.question.Question.{Question}
use Rattle.dm_effect.specs.Externals.{at_declarators}
use Rattle.dm_effect.specs.Questions.{as_local}
use Rattle.dm_effect.specs.Safe.{defines_here, initialises_apart}
use Rattle.dm_effect.proofs.ExternalLemmas.{declared-found}
use Rattle.dm_effect.proofs.entities.in_declarators.Goals as goal

pub returns-in-Defines : goal.returns-in-Defines
returns-in-Defines c types =
    let test = defines_here c.in-Defines.object in
    c.any_defines.ensures types
    ∙ (ap (λ (all : List Local). list_any test (map as_local (map (view_of_local types) all))) c.items.ensures
    ∙ sym (ap₂ (λ (question : Question) (form : CoreExternalForm). at_declarators question (view_of_form types form)) c.in-Defines.is c.in-Declaration.is
    ∙ declared-found types test c.in-Declaration.locals))

pub returns-in-Initialises : goal.returns-in-Initialises
returns-in-Initialises c types =
    let test = initialises_apart c.in-Initialises.token c.in-Initialises.object in
    c.any_initialises.ensures types
    ∙ (ap (λ (all : List Local). list_any test (map as_local (map (view_of_local types) all))) c.items-in-Initialises.ensures
    ∙ sym (ap₂ (λ (question : Question) (form : CoreExternalForm). at_declarators question (view_of_form types form)) c.in-Initialises.is c.in-Declaration.is
    ∙ declared-found types test c.in-Declaration.locals))

-- By the form.
use Rattle.std.proofs.Common.{[], ◌∷◌, ◌++◌, List, map, reverse, ap, sym, ◌∙◌}
use Rattle.dm_tree.specs.declared.tree.Local.{Local}
use Rattle.dm_tree.specs.declared.unit.CoreExternalForm.{CoreExternalForm}
use Rattle.dm_tree.specs.Views.{entries_of, view_of_form, view_of_local}
use Rattle.dm_effect.specs.Questions.{as_local}
use Rattle.dm_effect.proofs.DeclaratorLemmas.{locals-with}
use Rattle.dm_sites.specs.Seen.{seen}
use Rattle.dm_sites.specs.Sites.{Site, declarator_sites, form_sites}
use Rattle.dm_sites.proofs.WaitLemmas.{seen-last}
use Rattle.dm_sites.proofs.waiting.push_form.Goals as goal

pub returns-in_ok-push_locals-in-Declaration-clause-places : goal.returns-in_ok-push_locals-in-Declaration-clause-places
returns-in_ok-push_locals-in-Declaration-clause-places c types all =
    let declared = entries_of types c.args.declared.now in
    c.in_ok-push_locals-in-Declaration.ensures.places types all
    ∙ ap (λ (them : List Site). map (seen types all) c.args.waiting.now.items ++ reverse them)
    (ap (λ (locals : List Local). declarator_sites declared (map as_local (map (view_of_local types) locals))) c.items.ensures
    ∙ (ap (declarator_sites declared) (sym (locals-with types c.in-Declaration.locals))
    ∙ ap (λ (form : CoreExternalForm). form_sites declared (view_of_form types form)) (sym c.in-Declaration.is)))

pub returns-in_ok-push-in-Function-clause-places : goal.returns-in_ok-push-in-Function-clause-places
returns-in_ok-push-in-Function-clause-places c types all =
    ap (map (seen types all)) c.in_ok-push-in-Function.ensures.items
    ∙ (seen-last types all c.args.waiting.now.items c.whole.result
    ∙ (ap (λ (site : Site). map (seen types all) c.args.waiting.now.items ++ site ∷ []) (c.whole.ensures types all)
    ∙ ap (λ (form : CoreExternalForm). map (seen types all) c.args.waiting.now.items ++ reverse (form_sites (entries_of types c.args.declared.now) (view_of_form types form))) (sym c.in-Function.is)))

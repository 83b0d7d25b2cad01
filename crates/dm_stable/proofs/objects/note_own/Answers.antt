-- By its form, and where that is a function by the deed.
use Rattle.std.proofs.Common.{List, map, ap, sym, ◌∙◌}
use Rattle.std.specs.List.{list_any}
use Rattle.dm_tree.specs.declared.tree.Local.{Local}
use Rattle.dm_tree.specs.declared.unit.CoreExternalForm.{CoreExternalForm}
use Rattle.dm_tree.specs.Views.{view_of_form, view_of_local}
use Rattle.dm_effect.specs.Questions.{as_local}
use Rattle.dm_stable.specs.Marks.{does_local, marks_of, own}
use Rattle.dm_stable.proofs.MarkLemmas.{follows-as}
use Rattle.dm_stable.proofs.ObjectLemmas.{own-declares}
use Rattle.dm_stable.proofs.objects.note_own.Goals as goal

pub returns-in-Declaration : goal.returns-in-Declaration
returns-in-Declaration c types deed =
    follows-as (λ d token. list_any (does_local deed d token) (map as_local (map (view_of_local types) c.items.result.now))) (λ d token. own deed d token (view_of_form types c.args.form.now)) (marks_of deed c.args.marks.now) (marks_of deed c.note_locals.new.marks)
    (λ d token. ap (λ (all : List Local). list_any (does_local deed d token) (map as_local (map (view_of_local types) all))) c.items.ensures
    ∙ (own-declares types d token deed c.in-Declaration.locals ∙ sym (ap (λ (form : CoreExternalForm). own deed d token (view_of_form types form)) c.in-Declaration.is)))
    (c.note_locals.ensures types deed)

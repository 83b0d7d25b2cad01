-- The declarators of a declaration come first, and then the other items.
use Rattle.std.proofs.Common.{◌≡◌, ◌∷◌, ◌++◌, map, length, rules, append_assoc, ap, sym, subst, ◌∙◌}
use Rattle.dm_tree.specs.Views.{view, view_of_local}
use Rattle.dm_meaning.specs.Statements.{items_tasks}
use Rattle.dm_program.proofs.InitialLemmas.{item-Declare}
use Rattle.dm_frame.specs.Frames.{tasks_of}
use Rattle.dm_frame.specs.Tasks.{declares_local, view_of_tasks, LocalsFit, TasksFit}
use Rattle.dm_frame.proofs.FitLemmas.{fits-Declare, form-is, tree-first}
use Rattle.dm_frame.proofs.frame.Frame.first_item.Goals as goal

pub returns-in_ok-first_local-in-Declare-clause-same : goal.returns-in_ok-first_local-in-Declare-clause-same
returns-in_ok-first_local-in-Declare-clause-same c =
    let e : c.args.items.now ≡ c.in-Some.first.now ∷ c.in-Some.rest.now = search rules in
    λ table.
    let rest = tasks_of table c.args.self.now in
    let others = items_tasks (map (view table) c.in-Some.rest.now) in
    ap (λ items. items_tasks (map (view table) items) ++ rest) e
    ∙ (ap (λ tasks. (tasks ++ others) ++ rest) (item-Declare table c.in-Some.first.now _ c.in-Declare.locals c.in-Declare.is)
    ∙ (append_assoc (map declares_local (map (view_of_local table) c.in-Declare.locals)) others rest
    ∙ (ap (λ locals. map declares_local (map (view_of_local table) locals) ++ (others ++ rest)) (sym c.items.ensures)
    ∙ (ap (λ tasks. map declares_local (map (view_of_local table) c.items.result.now) ++ view_of_tasks table c.args.self.now.objects tasks) (sym c.in_ok-push.ensures.ok)
    ∙ c.in_ok-first_local-in-Declare.ensures.same table))))

pub returns-in_ok-first_local-in-Declare-clause-fits : goal.returns-in_ok-first_local-in-Declare-clause-fits
returns-in_ok-first_local-in-Declare-clause-fits c =
    let e : c.args.items.now ≡ c.in-Some.first.now ∷ c.in-Some.rest.now = search rules in
    λ table fits all.
    let before = c.args.self.now in
    let parts = tree-first table c.args.items.now c.in-Some.first.now c.in-Some.rest.now e all in
    let locals = subst (LocalsFit table) (sym c.items.ensures) (fits-Declare table _ c.in-Declare.locals (form-is table c.in-Some.first.now _ c.in-Declare.is parts.0)) in
    c.in_ok-first_local-in-Declare.ensures.fits table (subst (TasksFit table (length before.objects)) (sym c.in_ok-push.ensures.ok) (parts.1, fits)) locals

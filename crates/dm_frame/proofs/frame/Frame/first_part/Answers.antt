-- The first initialiser in braces is that of the part, and the others are those of the parts behind it.
use Rattle.std.proofs.Common.{◌≡◌, ◌+◌, suc, ◌∷◌, ◌++◌, [], map, length, rules, ap, sym, subst, arith, ◌∙◌}
use Rattle.dm_type.specs.CTypes.{bare}
use Rattle.dm_layout.specs.Kinds.{type_of_object}
use Rattle.dm_layout.specs.LaidOut.{laid_out}
use Rattle.dm_meaning.specs.Objects.{inner_type}
use Rattle.dm_meaning.specs.States.{initials}
use Rattle.dm_meaning.specs.Statements.{part_tasks}
use Rattle.dm_program.specs.Initials.{view_of_initial}
use Rattle.dm_tree.specs.Views.{items_of, expressions_of_items}
use Rattle.dm_value.specs.Places.{view_of_at}
use Rattle.dm_frame.specs.Frames.{tasks_of}
use Rattle.dm_frame.specs.Tasks.{initials_at, view_of_tasks, TasksFit}
use Rattle.dm_frame.proofs.FitLemmas.{initial-first}
use Rattle.dm_frame.proofs.PartLemmas.{parts-first}
use Rattle.dm_frame.proofs.frame.Frame.first_part.Goals as goal

pub returns-clause-same : goal.returns-clause-same
returns-clause-same c =
    let table = c.args.layout.now in
    let first = c.in-Some.first.now in
    let rest = c.in-Some.rest.now in
    let e : c.args.items.now ≡ first ∷ rest = search rules in
    let next : c.in_ok-later.later ≡ suc c.args.number = search rules in
    let behind = tasks_of table c.args.self.now in
    let kind = ap (λ type. inner_type (laid_out table) type c.args.number) c.bare_kind.ensures.bare in
    ap (λ items. part_tasks (laid_out table) (view_of_at c.args.whole.0) (type_of_object table c.args.whole.1) c.args.number (items_of (initials_at table items)) (expressions_of_items (initials_at table items)) ++ behind) e
    ∙ (ap (λ tasks. tasks ++ behind) (parts-first table (view_of_at c.args.whole.0) (type_of_object table c.args.whole.1) c.args.number first rest)
    ∙ (ap (λ at. initials at (inner_type (laid_out table) (bare (type_of_object table c.args.whole.1)) c.args.number) (view_of_initial table first).initialiser (view_of_initial table first).expressions ∷ (part_tasks (laid_out table) (view_of_at c.args.whole.0) (type_of_object table c.args.whole.1) (suc c.args.number) (items_of (initials_at table rest)) (expressions_of_items (initials_at table rest)) ++ behind)) (sym c.in_ok-part.ensures)
    ∙ (ap (λ type. initials (view_of_at c.in_ok-part.part) type (view_of_initial table first).initialiser (view_of_initial table first).expressions
    ∷ (part_tasks (laid_out table) (view_of_at c.args.whole.0) (type_of_object table c.args.whole.1) (suc c.args.number) (items_of (initials_at table rest)) (expressions_of_items (initials_at table rest)) ++ behind))
    (sym (c.inner-part_kind.ensures.inner ∙ kind))
    ∙ (ap (λ n. initials (view_of_at c.in_ok-part.part) (type_of_object table c.inner-part_kind.result) (view_of_initial table first).initialiser (view_of_initial table first).expressions
    ∷ (part_tasks (laid_out table) (view_of_at c.args.whole.0) (type_of_object table c.args.whole.1) n (items_of (initials_at table rest)) (expressions_of_items (initials_at table rest)) ++ behind)) (sym next)
    ∙ ap (λ tasks. initials (view_of_at c.in_ok-part.part) (type_of_object table c.inner-part_kind.result) (view_of_initial table first).initialiser (view_of_initial table first).expressions
    ∷ view_of_tasks table c.args.self.now.objects tasks) (sym c.in_ok-push.ensures.ok)))))

pub returns-clause-fits : goal.returns-clause-fits
returns-clause-fits c =
    let e : c.args.items.now ≡ c.in-Some.first.now ∷ c.in-Some.rest.now = search rules in
    λ fits all.
    let table = c.args.layout.now in
    let parts = initial-first table c.args.items.now c.in-Some.first.now c.in-Some.rest.now e all in
    ((c.inner-part_kind.ensures.known, parts.0), subst (TasksFit table (length c.args.self.now.objects)) (sym c.in_ok-push.ensures.ok) ((c.requires, parts.1), fits))

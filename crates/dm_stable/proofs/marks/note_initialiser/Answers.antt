-- A token stands outside of the initialiser or not.
use Rattle.std.proofs.Common.{◌≡◌, Bool, ◌&&◌, ◌||◌, ◌==◌, not, ap, sym}
use Rattle.std.specs.List.{list_any}
use Rattle.dm_tree.specs.declared.tree.Local.{out-Local}
use Rattle.dm_tree.specs.Views.{view_of_local}
use Rattle.dm_meaning.specs.Wholes.{view_of_initial}
use Rattle.dm_effect.specs.Questions.{as_local}
use Rattle.dm_effect.specs.Safe.{holds, initialises_apart}
use Rattle.dm_effect.proofs.DeclaratorLemmas.{local-initialises}
use Rattle.dm_stable.specs.Marks.{mark_at}
use Rattle.dm_stable.proofs.MarkLemmas.{adds-if, tells-by}
use Rattle.dm_stable.proofs.marks.note_initialiser.Goals as goal

pub returns-in-Some : goal.returns-in-Some
returns-in-Some c types d token old h =
    let local = c.args.local.now in
    let one = as_local (view_of_local types local) in
    let object = (out-Local local).declared in
    let apart : Bool = not (list_any (holds token) (view_of_initial types c.in-Some.initial).expressions) in
    let same : ((object == d) && apart) ≡ initialises_apart token d one = sym (local-initialises types token d local c.in-Some.initial c.in-Some.is) in
    tells-by (mark_at c.note.new.marks.items d) token (old || ((object == d) && apart)) (old || initialises_apart token d one) (ap (λ x. old || x) same)
    (c.note.ensures d token old ((object == d) && apart) h (adds-if object d token c.outside.result apart (c.outside.ensures types token)))

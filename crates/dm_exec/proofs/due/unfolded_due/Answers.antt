-- The loop has gone on to a full expression.
use Rattle.std.proofs.Common.{◌≡◌, ◌∷◌, Option, sym, ◌∙◌, subst}
use Rattle.dm_meaning.specs.Statements.{unfolded}
use Rattle.dm_frame.specs.declared.next.Next.{Next}
use Rattle.dm_frame.specs.Frames.{tasks_of}
use Rattle.dm_frame.specs.Nexts.{next_task}
use Rattle.dm_state.specs.Unfolding.{left_of, LeftFits}
use Rattle.dm_state.specs.Views.{tasks_with}
use Rattle.dm_exec.proofs.DueLemmas.{due-behind, some-unfolded}
use Rattle.dm_exec.proofs.due.unfolded_due.Goals as goal

pub returns-in_ok-due-in-None : goal.returns-in_ok-due-in-None
returns-in_ok-due-in-None c =
    let table = c.args.program.now.table in
    let old = c.args.running.now in
    let middle = c.unfold.new.self in
    let ensured = c.in_ok-next.ensures in
    let tasks = next_task table old.frame.objects c.args.next ∷ tasks_of table old.frame in
    let left = subst (λ (left : Option Next). unfolded tasks ≡ left_of table left middle) c.in-None.is (ensured.same table) in
    let fits = subst (λ (left : Option Next). LeftFits table left middle) c.in-None.is (ensured.fits table c.requires.fits) in
    due-behind table (tasks_with table middle.full middle.frame) tasks c.in_ok-due-in-None.due old middle c.expression_due.new.running
    ensured.function ensured.objects ensured.callers ensured.statics ensured.blocks ensured.streams
    (left ∙ sym (some-unfolded table middle.full middle.frame fits.0)) c.in_ok-due-in-None.ensures

-- A value decides, and where an object is designated the value that counts.
use Rattle.std.proofs.Common.{◌≡◌, IfOk, ap, sym, subst, ◌∙◌}
use Rattle.dm_type.specs.Tables.{Table}
use Rattle.dm_memory.specs.Blocks.{view_of_blocks}
use Rattle.dm_meaning.specs.Operations.{of_value}
use Rattle.dm_meaning.specs.Statements.{Turned, concluded}
use Rattle.dm_meaning.specs.Steps.{turned}
use Rattle.dm_meaning.specs.Values.{Value}
use Rattle.dm_value.specs.Places.{view_of_at}
use Rattle.dm_value.specs.Views.{view_of_value}
use Rattle.dm_operate.specs.declared.evaluation.Evaluation.{Evaluation}
use Rattle.dm_operate.specs.Evaluations.{view_of_evaluation}
use Rattle.dm_program.specs.Sources.{meant}
use Rattle.dm_frame.specs.Conclusions.{value_for}
use Rattle.dm_frame.specs.Frames.{tasks_of}
use Rattle.dm_frame.specs.Tasks.{view_of_use}
use Rattle.dm_frame.proofs.InitialLemmas.{designates-meant}
use Rattle.dm_state.specs.Turns.{state_with, IsLeft}
use Rattle.dm_state.proofs.running.Running.conclude.Goals as goal

pub returns-in_ok-value-in-Object : goal.returns-in_ok-value-in-Object
returns-in_ok-value-in-Object c = λ tasks.
    let table = c.args.program.now.table in
    let program = meant c.args.program.now in
    let old = c.args.self.now in
    let rest = tasks_of table old.frame in
    let memory = view_of_blocks table old.blocks in
    let use_of = view_of_use table c.args.use_of.now in
    let same : concluded program old.frame.objects rest memory c.args.place use_of (of_value (view_of_value c.in_ok-value-in-Object.value))
    ≡ concluded program old.frame.objects rest memory c.args.place use_of (view_of_evaluation c.args.given.now) =
    ap (λ (value : Value). concluded program old.frame.objects rest memory c.args.place use_of (of_value value)) c.in_ok-value-in-Object.ensures
    ∙ (ap (λ (own : Table). concluded program old.frame.objects rest memory c.args.place use_of (of_value (value_for (view_of_use own c.args.use_of.now) (view_of_at c.in-Object.at)))) c.layout.ensures
    ∙ (designates-meant program old.frame.objects rest memory c.args.place use_of (view_of_at c.in-Object.at)
    ∙ sym (ap (λ (one : Evaluation). concluded program old.frame.objects rest memory c.args.place use_of (view_of_evaluation one)) c.in-Object.is))) in
    subst (λ (turn : Turned). IfOk c.conclude_value-in-Object.result (λ done. IsLeft table done c.conclude_value-in-Object.new.self (turned (state_with table tasks old) turn))) same
    (c.conclude_value-in-Object.ensures tasks)

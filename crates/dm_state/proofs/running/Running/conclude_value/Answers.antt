-- The frame has what is left to do.
use Rattle.std.proofs.Common.{Option, ap, subst}
use Rattle.dm_memory.specs.Blocks.{view_of_blocks}
use Rattle.dm_meaning.specs.declared.cause.Cause.{Cause}
use Rattle.dm_meaning.specs.Operations.{of_value}
use Rattle.dm_meaning.specs.Statements.{concluded}
use Rattle.dm_value.specs.Views.{view_of_value}
use Rattle.dm_program.specs.Sources.{meant}
use Rattle.dm_frame.specs.Conclusions.{IsConcluded}
use Rattle.dm_frame.specs.Frames.{tasks_of}
use Rattle.dm_frame.specs.Tasks.{view_of_use}
use Rattle.dm_state.specs.declared.full.Full.{Full}
use Rattle.dm_state.specs.Views.{tasks_with}
use Rattle.dm_state.proofs.TurnLemmas.{view-turned}
use Rattle.dm_state.proofs.running.Running.conclude_value.Goals as goal

pub returns-in-None : goal.returns-in-None
returns-in-None c = λ tasks.
    let table = c.args.program.now.table in
    let old = c.args.self.now in
    let frame = c.conclude.new.frame in
    let blocks = c.conclude.new.blocks in
    let turn = concluded (meant c.args.program.now) old.frame.objects (tasks_of table old.frame) (view_of_blocks table old.blocks) c.args.place (view_of_use table c.args.use_of.now) (of_value (view_of_value c.args.value.now)) in
    let left = subst (λ (refused : Option Cause). IsConcluded table c.args.place refused old.frame frame old.blocks blocks turn) c.in-None.is (c.in_ok-conclude.ensures.left c.args.place) in
    record {
      same = view-turned table old tasks (tasks_of table frame) frame old.full blocks turn c.in_ok-conclude.ensures.function
          (ap (λ (full : Option Full). tasks_with table full frame) c.requires.none) left.same;
      fits = record {
        frame = left.fits;
        full = c.requires.fits.full;
        callers = c.requires.fits.callers;
        blocks = left.known;
      };
    }

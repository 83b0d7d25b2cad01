-- The frame has what is left to do.
use Rattle.std.proofs.Common.{Option, ap, sym, subst}
use Rattle.dm_memory.specs.Blocks.{view_of_blocks}
use Rattle.dm_frame.specs.Frames.{tasks_of}
use Rattle.dm_state.specs.declared.full.Full.{Full}
use Rattle.dm_state.specs.Views.{tasks_with}
use Rattle.dm_state.proofs.TurnLemmas.{view-turned}
use Rattle.dm_state.proofs.running.Running.declare.Goals as goal

pub returns : goal.returns
returns c = λ tasks.
    let table = c.args.program.now.table in
    let old = c.args.self.now in
    let frame = c.begin_declarator.new.self in
    let ensured = c.in_ok-begin_declarator.ensures in
    let before = c.requires.fits.0 in
    record {
      same = view-turned table old tasks (tasks_of table frame) frame old.full old.blocks _ ensured.function
          (ap (λ (full : Option Full). tasks_with table full frame) c.requires.none) (ensured.left (view_of_blocks table old.blocks));
      fits = record {
        frame = ensured.fits before.frame c.requires.fits.1;
        full = before.full;
        callers = before.callers;
        blocks = before.blocks;
      };
    }

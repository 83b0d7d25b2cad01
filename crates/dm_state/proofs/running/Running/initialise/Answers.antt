-- What begins is under evaluation, and the frame has what is left to do.
use Rattle.dm_state.proofs.TurnLemmas.{view-turned}
use Rattle.dm_state.proofs.running.Running.initialise.Goals as goal

pub returns : goal.returns
returns c = λ tasks.
    let table = c.args.program.now.table in
    let frame = c.begin_initialiser.new.frame in
    let ensured = c.in_ok-started.ensures in
    record {
      same = view-turned table c.args.self.now tasks _ frame c.full_of.result c.begin_initialiser.new.blocks _ ensured.function (c.full_of.ensures.same table frame) ensured.left.same;
      fits = record {
        frame = ensured.left.frame_fits;
        full = c.full_of.ensures.fits table ensured.left.begun_fits;
        callers = c.requires.fits.0.callers;
        blocks = ensured.left.blocks_fit;
      };
    }

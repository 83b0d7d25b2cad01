-- The state is that of the definition.
use Rattle.std.proofs.Common.{ℕ, List, [], map, ap, sym, subst, ◌∙◌}
use Rattle.dm_memory.specs.Blocks.{view_of_blocks}
use Rattle.dm_meaning.specs.Machines.{going}
use Rattle.dm_meaning.specs.Operations.{Objects}
use Rattle.dm_meaning.specs.States as states
use Rattle.dm_value.specs.Views.{view_of_value}
use Rattle.dm_program.specs.Functions.{view_of_function}
use Rattle.dm_frame.specs.Frames.{view_of_frame}
use Rattle.dm_state.specs.declared.running.Caller.{Caller}
use Rattle.dm_state.specs.Fits.{CallersFit}
use Rattle.dm_state.specs.Views.{view_of_caller}
use Rattle.dm_start.proofs.StartLemmas.{started}
use Rattle.dm_start.proofs.beginning.start.Goals as goal

pub returns : goal.returns
returns c =
    let source = c.args.program.now in
    let table = source.table in
    let main = view_of_function table c.main-main.result in
    let shown : List states.Caller → Objects → List ℕ → states.State = λ callers statics output. record {
      standing = going;
      frame = view_of_frame table c.in_ok-frame.frame;
      callers = callers;
      statics = statics;
      world = record { memory = view_of_blocks table c.open.new.blocks; input = c.args.input.now; output = output };
    } in
    let by_callers : List Caller → states.State = λ callers. shown (map (view_of_caller table) callers) c.make_statics.new.names c.new-2.result in
    let arguments = ap (map view_of_value) c.as_slice.ensures.value ∙ c.in_ok-arguments.ensures in
    record {
      main = main;
      is_main = c.main-main.ensures.main;
      same = ap by_callers c.new.ensures
          ∙ (ap (shown [] c.make_statics.new.names) c.new-2.ensures
          ∙ started source c.args.input.now main (view_of_frame table c.in_ok-frame.frame) c.make_statics.new.names c.in_ok-argv.argv c.make_statics.new.blocks c.make_argv.new.blocks
          (view_of_blocks table c.open.new.blocks) (map view_of_value c.as_slice.result.now) c.in_ok-make_statics.ensures c.in_ok-argv.ensures arguments
          c.in_ok-frame.ensures.frame c.in_ok-frame.ensures.memory);
      fits = record {
        frame = c.in_ok-frame.ensures.fits;
        full = tt;
        callers = subst (CallersFit table) (sym c.new.ensures) tt;
        blocks = c.in_ok-frame.ensures.known;
      };
    }

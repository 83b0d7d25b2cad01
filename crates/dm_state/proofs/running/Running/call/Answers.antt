-- The frame is that of the call, and the one that calls is the first that waits.
use Rattle.std.proofs.Common.{◌≡◌, ◌∷◌, List, map, rules, ap, sym, subst, ◌∙◌}
use Rattle.dm_memory.specs.Blocks.{view_of_blocks}
use Rattle.dm_meaning.specs.Choices.{in_order}
use Rattle.dm_value.specs.Views.{view_of_value}
use Rattle.dm_program.specs.Functions.{view_of_function}
use Rattle.dm_program.specs.Sources.{meant}
use Rattle.dm_frame.specs.declared.frame.Frame.{Frame}
use Rattle.dm_frame.specs.Frames.{view_of_frame, FrameFits}
use Rattle.dm_state.specs.declared.running.Caller.{Caller}
use Rattle.dm_state.specs.Fits.{CallersFit}
use Rattle.dm_state.proofs.CallLemmas.{view-opened, waits}
use Rattle.dm_state.proofs.running.Running.call.Goals as goal

pub returns : goal.returns
returns c = λ tasks.
    let table = c.args.program.now.table in
    let old = c.args.self.now in
    let one = c.args.ongoing in
    let ensured = c.in_ok-opened.ensures in
    let lacks = c.requires.lacks in
    let frame : Frame = c.replace-frame.new.dest in
    let replaced : frame ≡ c.in_ok-opened.opened = search rules in
    let pushed : ◌≡◌ {A = List Caller} c.push.new.self (waits table old tasks one.place c.args.kind one.expression one.use_of ∷ old.callers) = search rules in
    record {
      same = view-opened table old tasks (meant c.args.program.now) (in_order (view_of_blocks table old.blocks)) (view_of_function table c.args.function) (map view_of_value c.args.arguments.now)
          frame old.full c.push.new.self c.open.new.blocks one.place c.args.kind one.expression one.use_of c.requires.none pushed
          (ap (λ (frame : Frame). view_of_frame table frame) replaced ∙ ensured.frame) ensured.memory;
      fits = record {
        frame = subst (λ (frame : Frame). FrameFits table frame) (sym replaced) ensured.fits;
        full = c.requires.fits.full;
        callers = subst (CallersFit table) (sym pushed) (
          record {
            frame = c.requires.fits.frame;
            kind = lacks.is_type;
            lacks = lacks.lacks;
            fits = lacks.fits;
            use_fits = lacks.use_fits;
          },
          c.requires.fits.callers,
        );
        blocks = ensured.known;
      };
    }

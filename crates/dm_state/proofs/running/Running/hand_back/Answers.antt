-- The caller fits.
use Rattle.std.proofs.Common.{subst}
use Rattle.dm_state.specs.Fits.{CallersFit}
use Rattle.dm_state.proofs.FitLemmas.{caller-room}
use Rattle.dm_state.proofs.running.Running.hand_back.Goals as goal

pub resume-requires : goal.resume-requires
resume-requires c =
    caller-room c.args.layout.now c.in-Some.caller (subst (CallersFit c.args.layout.now) c.in-Some.ensures c.requires.callers).0

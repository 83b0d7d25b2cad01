use Rattle.dm_central.proofs.KeptFrameLemmas.{kept_later}
use Rattle.dm_central.proofs.laws.waiting_frames_are_kept.Goals as goal

pub returns : goal.returns
returns c = kept_later

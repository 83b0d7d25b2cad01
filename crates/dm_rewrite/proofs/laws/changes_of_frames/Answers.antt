use Rattle.dm_rewrite.proofs.FrameChangeLemmas.{changes_join, changes_opened, changes_ended}
use Rattle.dm_rewrite.proofs.laws.changes_of_frames.Goals as goal

pub returns : goal.returns
returns c = record { joined = changes_join; opened = changes_opened; ended = changes_ended }

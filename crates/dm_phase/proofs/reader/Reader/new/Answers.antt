-- What is left at first is the whole text after phase 1.
use Rattle.std.proofs.Common.{sym}
use Rattle.dm_phase.proofs.Heads.{after_phase_1-unread}
use Rattle.dm_phase.proofs.reader.Reader.new.Goals as goal

pub returns-clause-whole : goal.returns-clause-whole
returns-clause-whole c = rw (c.split_at.ensures.back, c.mark_length-at.ensures.value) (sym (after_phase_1-unread c.args.bytes.now))

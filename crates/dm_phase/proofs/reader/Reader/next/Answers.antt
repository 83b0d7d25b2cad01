-- What is left begins with the front.
use Rattle.std.proofs.Common.{sym, ◌∙◌}
use Rattle.dm_phase.proofs.Heads.{unread-none, unread-some}
use Rattle.dm_phase.proofs.reader.Reader.next.Goals as goal

pub returns-in_err-byte-clause-text : goal.returns-in_err-byte-clause-text
returns-in_err-byte-clause-text c =
    rw c.from_residual.ensures (unread-none c.args.self.now.has_ended c.args.self.now.at c.args.self.now.rest.now (sym c.front.ensures.value ∙ c.in_err-byte.was))

pub returns-clause-text : goal.returns-clause-text
returns-clause-text c =
    rw c.split_at.ensures.back (unread-some c.args.self.now.has_ended c.args.self.now.at c.args.self.now.rest.now c.in_ok-byte.byte c.in_ok-byte.width (sym c.front.ensures.value ∙ c.in_ok-byte.was))

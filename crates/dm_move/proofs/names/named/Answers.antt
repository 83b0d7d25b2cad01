-- What the first objects name, all of them do.
use Rattle.std.proofs.Common.{sym, ◌∙◌}
use Rattle.dm_move.proofs.OperandLemmas.{named-first, named-second}
use Rattle.dm_move.proofs.names.named.Goals as goal

pub returns-in-Some : goal.returns-in-Some
returns-in-Some c = sym (named-first c.args.statics.now c.args.objects.now c.args.declared c.in-Some.number (sym c.in-Some.ensures))

pub returns-in-None : goal.returns-in-None
returns-in-None c = c.named-in-None.ensures ∙ sym (named-second c.args.statics.now c.args.objects.now c.args.declared (sym c.in-None.ensures))

-- The set answers as the list does.
use Rattle.std.proofs.Common.{◌∙◌}
use Rattle.dm_estatement.proofs.LabelLemmas.{have-is}
use Rattle.dm_estatement.proofs.labels.Labels.have.Goals as goal

pub returns : goal.returns
returns c = c.contains.ensures ∙ have-is c.args.label c.args.self.now.found.keys

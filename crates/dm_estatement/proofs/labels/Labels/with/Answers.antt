-- A new label goes last in the set.
use Rattle.dm_estatement.proofs.LabelLemmas.{with-is}
use Rattle.dm_estatement.proofs.labels.Labels.with.Goals as goal

pub returns : goal.returns
returns c = with-is c.args.label c.args.self.found.keys c.insert.new.self.keys c.requires c.in_ok-_new.ensures.keys

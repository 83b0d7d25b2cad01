use Rattle.std.proofs.Common.{◌∙◌}
use Rattle.dm_expand.proofs.TrailLemmas.{first-front}
use Rattle.dm_expand.proofs.trails.first_of.Goals as goal

pub returns : goal.returns
returns c = c.first_mark.ensures ∙ first-front c.front.result.now c.args.route.now c.front.ensures.begins c.front.ensures.all

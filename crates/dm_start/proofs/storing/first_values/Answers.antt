-- The objects of the program are those of the definition.
use Rattle.std.proofs.Common.{ap, ◌∙◌}
use Rattle.dm_start.specs.Storing.{kept_all}
use Rattle.dm_start.proofs.storing.first_values.Goals as goal

pub returns : goal.returns
returns c = c.in_ok-all.ensures ∙ ap (kept_all c.args.scene.now) c.statics.ensures.same

-- One more copy.
use Rattle.std.proofs.Common.{◌∙◌}
use Rattle.dm_value.specs.Views.{view_of_value}
use Rattle.dm_first_value.proofs.FirstLemmas.{one-copied}
use Rattle.dm_first_value.proofs.filled.repeated.Goals as goal

pub loop-preserved : goal.loop-preserved
loop-preserved c = (
  one-copied (view_of_value c.args.value) c.loop.counter c.loop.all.items c.push.new.self.items c.in_ok-copy.field-0 c.loop.invariant.0 (c.in_ok-copy.ensures ∙ c.loop.invariant.1) c.in_ok-push.ensures.items,
  c.loop.invariant.1,
)

use Rattle.std.proofs.Common.{sym, ◌∙◌}
use Rattle.dm_expand.proofs.TrailLemmas.{begins-is, begins-nothing}
use Rattle.dm_expand.proofs.trails.begins_with.Goals as goal

pub returns-then-length-eq0 : goal.returns-then-length-eq0
returns-then-length-eq0 c = begins-nothing _ _ (sym c.length.ensures ∙ c.if-length-eq0.true)

pub returns : goal.returns
returns c = begins-is _ _ _ c.in_ok-begins.ensures

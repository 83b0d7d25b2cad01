use Rattle.std.proofs.Common.{ap, ◌∙◌}
use Rattle.dm_row.specs.Counts.{ready_in}
use Rattle.dm_row.proofs.SideLemmas.{ready-right}
use Rattle.dm_row.proofs.row.Row.ready_in_front.Goals as goal

pub returns : goal.returns
returns g c = ready-right _ _ _ _ c.self.invariant ∙ ap (λ both. ready_in 0 both.0) c.self.view_is

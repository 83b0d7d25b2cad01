use Rattle.std.proofs.Common.{ap, ◌∙◌}
use Rattle.dm_row.specs.Counts.{results_after}
use Rattle.dm_row.proofs.SideLemmas.{results-right}
use Rattle.dm_row.proofs.row.Row.results_in_front.Goals as goal

pub returns : goal.returns
returns g c = results-right c.self.inside.left.items c.self.inside.passed c.self.inside.right.items c.self.inside.ahead c.self.invariant ∙ ap (λ both. results_after 0 both.0) c.self.view_is

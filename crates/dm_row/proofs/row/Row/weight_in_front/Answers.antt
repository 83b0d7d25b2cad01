use Rattle.std.proofs.Common.{ap, ◌∙◌}
use Rattle.dm_row.specs.Counts.{weight_in}
use Rattle.dm_row.proofs.SideLemmas.{weight-right}
use Rattle.dm_row.proofs.row.Row.weight_in_front.Goals as goal

pub returns : goal.returns
returns g c = weight-right c.self.inside.left.items c.self.inside.passed c.self.inside.right.items c.self.inside.ahead c.self.invariant ∙ ap (λ both. weight_in both.0) c.self.view_is

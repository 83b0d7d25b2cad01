use Rattle.std.proofs.Common.{nat_le, sym, ap, ◌∙◌}
use Rattle.dm_row.specs.Counts.{results_after}
use Rattle.dm_row.proofs.SideLemmas.{nearest-waits, nearest-done, results-right}
use Rattle.dm_row.proofs.row.Row.is_next_ready.Goals as goal

pub returns-in-Waits : goal.returns-in-Waits
returns-in-Waits g c =
    ap (λ n. nat_le c.in-Waits.operands n)
    (results-right c.self.inside.left.items c.self.inside.passed c.self.inside.right.items c.self.inside.ahead c.self.invariant ∙ ap (λ both. results_after 0 both.0) c.self.view_is)
    ∙ nearest-waits c.self.inside.left.items c.self.inside.right.items c.args.self.now c.self.view_is c.in-Some.field-0-1.now c.in-Some.nearest.now c.in-Waits.field-0 c.in-Waits.operands
    (results_after 0 c.args.self.now.0) (sym c.as_slice.ensures.value ∙ c.in-Some.ensures.cases.0) c.in-Waits.is

pub returns-in-Done : goal.returns-in-Done
returns-in-Done g c =
    nearest-done c.self.inside.left.items c.self.inside.right.items c.args.self.now c.self.view_is c.in-Some.field-0-1.now c.in-Some.nearest.now c.in-Done.field-0 c.in-Done.field-1
    (results_after 0 c.args.self.now.0) (sym c.as_slice.ensures.value ∙ c.in-Some.ensures.cases.0) c.in-Done.is

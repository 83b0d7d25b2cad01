-- The generator wraps at its product and again at its sum.
use Rattle.std.proofs.Common.{arith, ap, ℕ, ◌+◌, ◌*◌, ◌%◌, ◌≡◌, ◌∙◌}
use Rattle.dm_exec.specs.Orders.{drawn, turned}
use Rattle.dm_exec.proofs.order.Choices.draw.Goals as goal

wrapped : (x : ℕ) → (x * 6364136223846793005 % 18446744073709551616 + 1442695040888963407) % 18446744073709551616 ≡ turned x
unfolding turned
wrapped x = omega arith

pub returns-clause-choice : goal.returns-clause-choice
returns-clause-choice c = c.choice.ensures ∙ ap (drawn c.args.self.now.order) (wrapped c.args.self.now.number)

pub returns-clause-number : goal.returns-clause-number
returns-clause-number c = wrapped c.args.self.now.number

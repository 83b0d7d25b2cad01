-- The node that was looked for stands behind the place, and its operands in front of it.
use Rattle.std.proofs.Common.{◌≡◌, ℕ, ◌-◌, ◌≤◌, ◌∷◌, sym, ap, ap₂, ◌∙◌, arith}
use Rattle.dm_expression.specs.Taken.{number_of}
use Rattle.dm_expression.proofs.TakenLemmas.{enough, taken, weight-less}
use Rattle.dm_expression.proofs.expression.take_node.Goals as goal

pub take_results-requires : goal.take_results-requires
take_results-requires g c =
    enough c.chosen-number.result c.args.row.now c.seek.new.self c.take_behind.new.self c.in-Some-Waits.node c.in-Some-Waits.count c.in_ok-seek.ensures
    (c.in-Some-Waits.ensures.0 ∙ ap (λ item. item ∷ c.take_behind.new.self.1) c.in-Some-Waits.field-0-is) c.in-Some-Waits.ensures.1

pub overflow_sub-locks : goal.overflow_sub-locks
overflow_sub-locks g c =
    let less = weight-less c.in-Some-Waits.count c.take_behind.new.self c.take_results.new.row _ c.in_ok-operands.ensures in
    subst2 (sym c.weight_in_front.ensures) (sym c.weight_in_front-weight.ensures) less
  where
    subst2 : {a b x y : ℕ} → a ≡ x → b ≡ y → a ≤ b → x ≤ y
    subst2 p q h = omega (arith, p, q, h)

pub returns : goal.returns
returns g c =
    taken c.args.choice c.chosen-number.result c.args.row.now c.seek.new.self c.take_behind.new.self c.take_results.new.row _ c.in-Some-Waits.count c.in_ok-seek.ensures
    (c.in-Some-Waits.ensures.0 ∙ ap (λ item. item ∷ c.take_behind.new.self.1) c.in-Some-Waits.field-0-is) c.in-Some-Waits.ensures.1 c.in_ok-operands.ensures
    (ap₂ (λ a b. a - b) c.weight_in_front-weight.ensures c.weight_in_front.ensures) (c.chosen-number.ensures ∙ ap (number_of c.args.choice) c.ready.ensures)

-- The results were taken from the last one on, and are turned round at the end.
use Rattle.std.proofs.Common.{◌≡◌, ℕ, ◌+◌, ◌≤◌, ◌∷◌, [], reverse, suc, subst, sym, arith}
use Rattle.std.proofs.lemmas.List.{reverse-append}
use Rattle.dm_expression.specs.Taken.{IsOperands}
use Rattle.dm_expression.proofs.TakenLemmas.{no-operand, one-operand}
use Rattle.dm_expression.proofs.results.take_many.Goals as goal

one-more : (n : ℕ) → suc n ≡ n + 1
one-more n = omega arith

both-ways : (m n : ℕ) → m ≤ n → n ≤ m → m ≡ n
both-ways m n a b = omega (arith, a, b)

pub loop-init : goal.loop-init
loop-init g c = subst (λ xs. IsOperands 0 c.args.row.now c.args.row.now (reverse xs)) (sym c.new-all.ensures.items) (no-operand c.args.row.now)

pub loop-preserved : goal.loop-preserved
loop-preserved g c =
    subst (λ xs. IsOperands (c.loop.counter + 1) c.args.row.now c.take_result.new.self (reverse xs)) (sym c.in_ok-push.ensures.items)
    (subst (λ xs. IsOperands (c.loop.counter + 1) c.args.row.now c.take_result.new.self xs) (sym (reverse-append c.loop.all.items (c.in-Some.one ∷ [])))
    (subst (λ n. IsOperands n c.args.row.now c.take_result.new.self (c.in-Some.one ∷ reverse c.loop.all.items)) (one-more c.loop.counter)
    (one-operand c.loop.counter c.args.row.now c.loop.row c.take_result.new.self (reverse c.loop.all.items) c.in-Some.one c.in-Some.field-0-1 c.loop.invariant c.in-Some.ensures.0 c.in-Some.ensures.1)))

pub returns : goal.returns
returns g c =
    subst (λ xs. IsOperands c.args.count c.args.row.now c.loop.row xs) (sym c.reverse.ensures.items)
    (subst (λ n. IsOperands n c.args.row.now c.loop.row (reverse c.loop.all.items)) (both-ways c.loop.counter c.args.count c.loop.auto.counter-end c.loop-test.false) c.loop.invariant)

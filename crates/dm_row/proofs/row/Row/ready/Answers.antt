use Rattle.std.proofs.Common.{◌+◌, ◌++◌, ap, ◌∙◌, arith}
use Rattle.dm_row.specs.Counts.{ready_in}
use Rattle.dm_row.proofs.SideLemmas.{few-results, few-ready, few_ahead-results, few_ahead-ready, ready-both, count-few}
use Rattle.dm_row.proofs.row.Row.ready.Goals as goal

pub count-requires-clause-before : goal.count-requires-clause-before
count-requires-clause-before g c = let h = few-results _ _ _ _ c.self.invariant in omega (arith, h)

pub count-requires-clause-results : goal.count-requires-clause-results
count-requires-clause-results g c = let h = few_ahead-results _ _ _ _ c.self.invariant in omega (arith, h)

pub count-requires-clause-ready : goal.count-requires-clause-ready
count-requires-clause-ready g c = let h = few_ahead-ready _ _ _ _ c.self.invariant in omega (arith, h)

pub overflow_add-result : goal.overflow_add-result
overflow_add-result g c = let h = few-ready _ _ _ _ c.self.invariant in let k = count-few c.self.inside.ahead.operands (c.self.inside.passed.results + c.self.inside.ahead.results) c.self.inside.ahead.ready in let l = few_ahead-ready _ _ _ _ c.self.invariant in let e = c.count.ensures in omega (arith, h, k, l, e)

pub returns : goal.returns
returns g c = ap (λ n. c.self.inside.passed.ready + n) c.count.ensures ∙ (ready-both _ _ _ _ c.self.invariant ∙ ap (λ both. ready_in 0 (both.0 ++ both.1)) c.self.view_is)

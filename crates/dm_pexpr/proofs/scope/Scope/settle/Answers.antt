use Rattle.std.proofs.Common.{reverse, refl, sym, ap, ◌∙◌}
use Rattle.std.proofs.lemmas.List.{take_all}
use Rattle.dm_pexpr.specs.Scoping.{known_with, all_declared}
use Rattle.dm_pexpr.proofs.ScopeLemmas.{one-entered}
use Rattle.dm_pexpr.proofs.scope.Scope.settle.Goals as goal

pub loop-entry-init : goal.loop-entry-init
unfolding known_with
loop-entry-init c = refl

pub loop-entry-preserved : goal.loop-entry-preserved
loop-entry-preserved c =
    one-entered c.args.names.now c.loop-entry.names c.set.new.self c.deref-entry-items.result.now c.loop-entry.entry-index c.entry-item.result
    c.loop-entry-test.true c.entry-item.is c.loop-entry.invariant (c.in_ok-set.ensures.ok)

pub returns : goal.returns
returns c =
    c.loop-entry.invariant
    ∙ ap (λ those. known_with c.args.names.now (all_declared (reverse those))) (take_all _ _ c.loop-entry-test.false ∙ c.deref-entry-items.ensures.value)
    ∙ ap (known_with c.args.names.now) c.self.view_is

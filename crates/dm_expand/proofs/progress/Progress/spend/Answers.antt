use Rattle.std.proofs.Common.{ap, ◌∙◌, sym, arith, Err}
use Rattle.dm_expand.specs.Steps.{Progress, spend}
use Rattle.dm_expand.proofs.StepLemmas.{spend-fits, spend-over}
use Rattle.dm_expand.proofs.progress.Progress.spend.Goals as goal

pub returns-then-work-left-clause-stop : goal.returns-then-work-left-clause-stop
returns-then-work-left-clause-stop c =
    let same = ap (λ (p : Progress). p.spent) c.self.view_is in
    spend-over _ _ _ (omega (arith, same, c.if-work-left.true)) ∙ ap Err (sym c.too_much.ensures)

pub returns-clause-ok : goal.returns-clause-ok
returns-clause-ok c =
    let same = ap (λ (p : Progress). p.spent) c.self.view_is in
    ap (λ p. spend c.args.place c.args.work p) (sym c.self.view_is) ∙ spend-fits _ _ _ (omega (arith, same, c.if-work-left.false, c.requires))

use Rattle.std.proofs.Common.{ap, ◌∙◌, sym}
use Rattle.std.specs.FinSet as set
use Rattle.dm_expand.proofs.HiddenLemmas.{nothing-union}
use Rattle.dm_expand.proofs.hidden.Hiding.besides.Goals as goal

pub returns-then-is_nothing-clause-besides : goal.returns-then-is_nothing-clause-besides
returns-then-is_nothing-clause-besides c =
    c.in_ok-mine.ensures
    ∙ c.self.view_is
    ∙ nothing-union c.args.self.now
    ∙ ap (λ s. set.union s c.args.self.now) (sym (c.is_nothing.ensures c.if-is_nothing.true))

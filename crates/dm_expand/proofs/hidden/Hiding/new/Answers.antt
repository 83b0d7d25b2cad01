use Rattle.std.proofs.Common.{ap, ◌∙◌, sym}
use Rattle.std.specs.FinSet as set
use Rattle.dm_expand.proofs.HiddenLemmas.{nothing-union}
use Rattle.dm_expand.proofs.hidden.Hiding.new.Goals as goal

pub invariant_of-result : goal.invariant_of-result
invariant_of-result c =
    c.in_ok-became.ensures
    ∙ nothing-union c.args.hidden.now
    ∙ ap (λ s. set.union s c.args.hidden.now) (sym c.nothing.ensures)
    ∙ ap (λ s. set.union c.nothing.result s) (sym c.in_ok-mine.ensures)

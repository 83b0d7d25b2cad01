use Rattle.std.proofs.Common.{ap, ◌∙◌}
use Rattle.std.specs.FinSet as set
use Rattle.dm_expand.proofs.HiddenLemmas.{among-is}
use Rattle.dm_expand.proofs.hidden.Hidden.holds.Goals as goal

pub returns : goal.returns
returns c = c.is_among.ensures ∙ among-is _ _ ∙ ap (λ s. set.contains s c.args.number) c.numbers.ensures

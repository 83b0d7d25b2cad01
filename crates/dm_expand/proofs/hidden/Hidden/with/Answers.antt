use Rattle.std.proofs.Common.{ap, ◌∙◌}
use Rattle.std.specs.FinSet as set
use Rattle.dm_expand.proofs.HiddenLemmas.{of_list, push-is}
use Rattle.dm_expand.proofs.hidden.Hidden.with.Goals as goal

pub returns : goal.returns
returns c =
    c.in_ok-more.ensures
    ∙ ap of_list c.in_ok-push.ensures.items
    ∙ push-is _ _
    ∙ ap (λ numbers. set.insert (of_list numbers) c.args.number) c.in_ok-all.ensures
    ∙ ap (λ s. set.insert s c.args.number) c.numbers-mine.ensures

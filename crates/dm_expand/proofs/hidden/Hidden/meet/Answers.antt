use Rattle.std.proofs.Common.{ap, ◌∙◌}
use Rattle.std.specs.List.{filter}
use Rattle.std.specs.FinSet as set
use Rattle.std.proofs.lemmas.List.{take_all}
use Rattle.dm_expand.proofs.HiddenLemmas.{of_list, filter-is, meet-front}
use Rattle.dm_expand.proofs.hidden.Hidden.meet.Goals as goal

pub returns-then-is_front : goal.returns-then-is_front
returns-then-is_front c = c.in_ok-shorter.ensures ∙ meet-front _ _ _ _ _ c.numbers-mine.ensures c.numbers-theirs.ensures (c.is_front.ensures c.if-is_front.true)

pub returns : goal.returns
returns c =
    c.in_ok-both.ensures
    ∙ ap of_list (c.loop-number.invariant ∙ ap (filter (set.contains c.args.other.now)) (take_all _ _ c.loop-number-test.false))
    ∙ filter-is _ _
    ∙ ap (λ s. set.intersection s c.args.other.now) c.numbers-mine.ensures

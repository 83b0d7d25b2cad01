-- The first part, and the others.
use Rattle.std.proofs.Common.{sym, subst, ◌∙◌}
use Rattle.std.proofs.lemmas.List.Elements.{All-head, All-tail}
use Rattle.dm_typing.specs.Fitting.{IsNumbered, AreNumbered}
use Rattle.dm_enames.proofs.calls.comma_of.Goals as goal

pub returns-in_ok-made-in-Some-clause-numbered : goal.returns-in_ok-made-in-Some-clause-numbered
returns-in_ok-made-in-Some-clause-numbered c = λ types all.
    let first = c.in-Some.first in
    let others = c.next_of.new.queue.items in
    let parts = subst (AreNumbered types) (sym (c.from-queue.ensures.0 ∙ c.into_vec.ensures) ∙ c.in-Some.ensures) all in
    c.in_ok-made-in-Some.ensures.numbered types (All-head (IsNumbered types) first others parts) (All-tail (IsNumbered types) first others parts)

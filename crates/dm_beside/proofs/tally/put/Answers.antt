-- It is there, and nothing else has changed.
use Rattle.std.proofs.Common.{◌<◌, cond, ◌==◌, length, ap, ◌∙◌, rules}
use Rattle.dm_beside.specs.declared.tally.Tally.{Tally}
use Rattle.dm_beside.proofs.TallyLemmas.{set-at}
use Rattle.dm_beside.proofs.tally.put.Goals as goal

pub returns : goal.returns
returns c n =
    let long : c.args.at < length c.grow.new.table.items = search rules in
    set-at c.grow.new.table.items c.args.at n c.args.tally long ∙ ap (λ (tally : Tally). cond (c.args.at == n) c.args.tally tally) (c.in_ok-grow.ensures.same n)

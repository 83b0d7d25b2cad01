-- At the parameter's position one occurrence more is known.
use Rattle.std.proofs.Common.{cond, ◌==◌, ap, ◌∙◌, List}
use Rattle.dm_beside.specs.declared.tally.Tally.{Tally}
use Rattle.dm_beside.specs.Tallies.{added, tally_at}
use Rattle.dm_beside.proofs.TallyLemmas.{put-at}
use Rattle.dm_beside.proofs.tally.note.Goals as goal

pub returns : goal.returns
returns c n =
    let old = c.args.table.now.items in
    c.in_ok-put.ensures n
    ∙ (ap (λ (tally : Tally). cond (c.args.parameter == n) tally (tally_at old n)) c.added-tally.ensures
    ∙ put-at c.args.parameter n (tally_at old n) c.tally_at.result (added c.args.fact)
    (λ same. c.tally_at.ensures ∙ (ap (λ (them : List Tally). tally_at them c.args.parameter) c.as_slice.ensures.value ∙ ap (tally_at old) same)))

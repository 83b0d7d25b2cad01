-- One occurrence more.
use Rattle.std.proofs.Common.{List, ◌∷◌, [], ◌++◌, cond, ◌==◌, append_assoc, ap, sym, ◌∙◌}
use Rattle.dm_runs.specs.declared.run.Occurrence.{Occurrence}
use Rattle.dm_beside.specs.declared.tally.Fact.{Fact}
use Rattle.dm_beside.specs.declared.tally.Tally.{Tally}
use Rattle.dm_beside.specs.Tallies.{added, tally_at}
use Rattle.dm_beside.proofs.TallyLemmas.{one-more}
use Rattle.dm_beside.proofs.tally.tallied.Goals as goal

pub loop-occurrence-preserved : goal.loop-occurrence-preserved
loop-occurrence-preserved g c =
    let so_far = c.loop-occurrence.invariant in
    let done = so_far.0 in
    let each = c.in-Some.occurrence.now in
    let old = c.loop-occurrence.table.items in (
      each ∷ done,
      sym (append_assoc c.in-Some.before.now (each ∷ []) done) ∙ (ap (λ (them : List Occurrence). them ++ done) (sym c.in-Some.ensures.cases.0) ∙ so_far.1),
      λ n.
          c.in_ok-note.ensures n
          ∙ (ap (λ (fact : Fact). cond (each.parameter == n) (added fact (tally_at old n)) (tally_at old n)) c.in_ok-fact.ensures
          ∙ (ap (λ (tally : Tally). cond (each.parameter == n) (added (g.F.Facts.told c.args.facts.now each.span) tally) tally) (so_far.2 n)
          ∙ sym (one-more (g.F.Facts.told c.args.facts.now) each done n))),
    )

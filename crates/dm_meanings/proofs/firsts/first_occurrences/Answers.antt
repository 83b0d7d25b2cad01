-- One occurrence more in front.
use Rattle.std.proofs.Common.{List, ◌∷◌, [], ◌++◌, cond, ◌==◌, Option, Some, append_assoc, ap, sym, ◌∙◌}
use Rattle.dm_token.specs.declared.place.Span.{Span}
use Rattle.dm_runs.specs.declared.run.Occurrence.{Occurrence}
use Rattle.dm_meanings.proofs.FirstLemmas.{one-first}
use Rattle.dm_meanings.proofs.firsts.first_occurrences.Goals as goal

pub loop-one-preserved : goal.loop-one-preserved
loop-one-preserved c =
    let so_far = c.loop-one.invariant in
    let done = so_far.0 in
    let each = c.in-Some.one.now in (
      each ∷ done,
      sym (append_assoc c.in-Some.before.now (each ∷ []) done) ∙ (ap (λ (them : List Occurrence). them ++ done) (sym c.in-Some.ensures.cases.0) ∙ so_far.1),
      λ n.
          c.in_ok-put.ensures n
          ∙ (ap (λ (found : Option Span). cond (each.parameter == n) (Some each.span) found) (so_far.2 n) ∙ sym (one-first each done n)),
    )

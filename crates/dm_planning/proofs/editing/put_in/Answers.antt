-- The new readings over the old ones.
use Rattle.std.proofs.Common.{ap, ◌∙◌}
use Rattle.dm_planning.specs.Steps.{items_with}
use Rattle.dm_planning.proofs.JudgeLemmas.{put-readings}
use Rattle.dm_planning.proofs.editing.put_in.Goals as goal

pub returns : goal.returns
returns c =
    c.from_vec.ensures ∙ c.put_over.ensures ∙ ap (λ kept. items_with kept c.into_vec.result.items) (c.into_vec-readings.ensures ∙ c.replace.ensures.value)
    ∙ ap (items_with c.args.kept.now) c.into_vec.ensures ∙ put-readings c.args.kept.now c.args.news

-- One expression up.
use Rattle.std.proofs.Common.{Bool, ◌||◌, sym, ap, ◌∙◌}
use Rattle.dm_effect.specs.Entities.{writes}
use Rattle.dm_around.specs.Surroundings.{any_beside}
use Rattle.dm_around.proofs.StoreLemmas.{up-link}
use Rattle.dm_around.proofs.beside.is_written_beside.Goals as goal

pub returns-then-is_any_in_others : goal.returns-then-is_any_in_others
returns-then-is_any_in_others c one d site h got =
    let so_far = c.loop-link.invariant one d site h got in
    let up = up-link one d c.args.row.now c.args.ends.now c.args.links.now h c.loop-link.at so_far.0 c.in-Some.link so_far.1 (sym c.in-Some.ensures) in
    sym (so_far.2 ∙ (up.2 ∙ ap (λ (b : Bool). b || any_beside (writes d) up.0) (sym c.is_any_in_others.ensures ∙ c.if-is_any_in_others.true)))

pub loop-link-preserved : goal.loop-link-preserved
loop-link-preserved c one d site h got =
    let so_far = c.loop-link.invariant one d site h got in
    let up = up-link one d c.args.row.now c.args.ends.now c.args.links.now h c.loop-link.at so_far.0 c.in-Some.link so_far.1 (sym c.in-Some.ensures) in
    (up.0, up.1, so_far.2 ∙ (up.2 ∙ ap (λ (b : Bool). b || any_beside (writes d) up.0) (sym c.is_any_in_others.ensures ∙ c.if-is_any_in_others.false)))

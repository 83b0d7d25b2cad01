-- In what stands there, or beside it.
use Rattle.std.proofs.Common.{ℕ, Bool, ◌||◌, sym, ap, ◌∙◌}
use Rattle.std.specs.List.{list_any}
use Rattle.dm_effect.specs.Entities.{writes}
use Rattle.dm_around.specs.Surroundings.{any_beside}
use Rattle.dm_around.specs.Writes.{is_between}
use Rattle.dm_around.proofs.StoreLemmas.{around-own}
use Rattle.dm_around.proofs.beside.is_written_around.Goals as goal

pub returns-then-is_any_between : goal.returns-then-is_any_between
returns-then-is_any_between c one d site h got =
    let own = c.is_any_between.ensures ∙ ap (λ (to : ℕ). list_any (is_between c.args.number to) c.args.row.now) c.end_at.ensures in
    sym (around-own one d c.args.row.now c.args.ends.now c.args.links.now h c.args.number site got ∙ ap (λ (b : Bool). b || any_beside (writes d) site) (sym own ∙ c.if-is_any_between.true))

pub returns : goal.returns
returns c one d site h got =
    let own = c.is_any_between.ensures ∙ ap (λ (to : ℕ). list_any (is_between c.args.number to) c.args.row.now) c.end_at.ensures in
    c.is_written_beside.ensures one d site h got
    ∙ sym (around-own one d c.args.row.now c.args.ends.now c.args.links.now h c.args.number site got ∙ ap (λ (b : Bool). b || any_beside (writes d) site) (sym own ∙ c.if-is_any_between.false))

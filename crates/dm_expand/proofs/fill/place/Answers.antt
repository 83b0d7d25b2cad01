use Rattle.std.proofs.Common.{List, ap, ◌∙◌, map}
use Rattle.dm_expand.specs.Items.{Item, first_with_blank}
use Rattle.dm_expand.specs.Ways.{Way, moved}
use Rattle.dm_expand.proofs.FillLemmas.{moved-placed}
use Rattle.dm_expand.proofs.fill.place.Goals as goal

pub returns : goal.returns
returns c =
    let items : List Item = c.args.items.now in
    c.set_first_blank.ensures
    ∙ ap (first_with_blank c.args.token.now.blank_before) (c.in_ok-move_items.ensures ∙ ap (λ (way : Way). map (moved way) items) c.in_ok-way.ensures)
    ∙ moved-placed c.args.site.now c.args.token.now c.args.parameter c.args.occurrence items

use Rattle.std.proofs.Common.{ap, ◌∙◌, sym}
use Rattle.dm_expand.specs.Items.{with_blank}
use Rattle.dm_expand.proofs.FillLemmas.{first-nothing, first-some}
use Rattle.dm_expand.proofs.fill.set_first_blank.Goals as goal

pub returns-in-empty : goal.returns-in-empty
returns-in-empty c = first-nothing c.args.blank c.args.items.now c.in-empty.len_below

pub returns-in-len1-up : goal.returns-in-len1-up
returns-in-len1-up c =
    first-some c.args.blank c.args.items.now c.index-items-0.result c.set_blank.new.self c.in-len1-up.len_at_least c.index-items-0.is
    (c.set_blank.ensures ∙ ap (with_blank c.args.blank) (sym c.index-items-0.is))

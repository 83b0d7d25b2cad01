use Rattle.std.proofs.Common.{◌≡◌}
use Rattle.dm_expand.specs.Laws.{Follows}
use Rattle.dm_expand.specs.Substitution.{Expander, filled_all}
use Rattle.dm_expand.specs.Views.{IsWithin, pieces_in}
use Rattle.dm_expand.specs.ListViews.{pieces_before}
use Rattle.dm_expand.specs.Works.{parts_from}
use Rattle.dm_expand.proofs.substitute.fill_from.Given as goal

abbrev pub invariant-parts : goal.invariant-parts
invariant-parts l =
    ((expander : Expander) →
    pieces_before (pieces_in l.fn.pieces) (filled_all expander l.site l.counts (parts_from l.body.definition.now l.from) l.fn.progress)
    ≡ pieces_before (pieces_in l.pieces) (filled_all expander l.site l.counts (parts_from l.body.definition.now l.index) l.progress))
    × Follows l.fn.progress l.progress × IsWithin l.progress

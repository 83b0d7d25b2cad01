-- Where the file isn't read, its new bytes don't matter.
use Rattle.dm_search.specs.Loaded.{with_bytes}
use Rattle.dm_kept.proofs.CurrentLemmas.{edited-current, edited-loader, edited-unread}
use Rattle.dm_kept.proofs.laws.readings_again_are_current.Goals as goal

pub returns : goal.returns
returns c files file bytes units kept news known new of held are is =
    let unread = edited-unread files known file bytes held (λ unit reading by not. c.readings_stay_where_not_edited.ensures files unit known reading file bytes by of held not) units kept are in
    let current = edited-current files file units kept (with_bytes known file bytes) news new is (edited-loader files known file bytes held of) unread in
    (current.loader, current.are)

-- The loader with the old bytes follows the one that held them before.
use Rattle.dm_kept.proofs.CurrentLemmas.{current-follow, edited-loader}
use Rattle.dm_kept.proofs.PutBackLemmas.{follows-back, held-behind, old_bytes, restored}
use Rattle.dm_kept.proofs.laws.readings_stay_where_bytes_are_put_back.Goals as goal

pub returns : goal.returns
returns c files file bytes units kept known new of held are follows after = (
  edited-loader files new file (old_bytes files known file bytes held of new follows after) (held-behind files known file bytes held of new follows after) after,
  current-follow files units kept known (restored files known file bytes held of new follows after) are of (follows-back files known file bytes held of new follows after),
  follows-back files known file bytes held of new follows after,
)

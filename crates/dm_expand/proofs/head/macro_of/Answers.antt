use Rattle.std.proofs.Common.{sym}
use Rattle.dm_expand.proofs.head.macro_of.Goals as goal

pub body-requires : goal.body-requires
body-requires c = (c.in_ok-number.ensures.sound _ _ (sym c.in_ok-number.ensures.number)).0

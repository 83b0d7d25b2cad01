-- The types that a form has are known.
use Rattle.dm_agree.proofs.head.is_same_label.Goals as goal

pub is_same_head-requires-clause-new : goal.is_same_head-requires-clause-new
is_same_head-requires-clause-new c = c.head_of-head.ensures.known _ c.requires.new

pub is_same_head-requires-clause-old : goal.is_same_head-requires-clause-old
is_same_head-requires-clause-old c = c.head_of-other.ensures.known _ c.requires.old

-- A type is made of earlier ones.
use Rattle.dm_layout.proofs.alike.+is_void.Given as goal

abbrev pub decreases-is_void : goal.decreases-is_void
decreases-is_void l = l.id

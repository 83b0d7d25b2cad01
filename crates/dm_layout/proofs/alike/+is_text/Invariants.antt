-- A type is made of earlier ones.
use Rattle.dm_layout.proofs.alike.+is_text.Given as goal

abbrev pub decreases-is_text : goal.decreases-is_text
decreases-is_text l = l.id

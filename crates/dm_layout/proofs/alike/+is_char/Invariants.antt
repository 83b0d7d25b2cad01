-- A type is made of earlier ones.
use Rattle.dm_layout.proofs.alike.+is_char.Given as goal

abbrev pub decreases-is_char : goal.decreases-is_char
decreases-is_char l = l.id

-- It says so itself.
use Rattle.dm_stable.proofs.laws.typed_units_have_known_entries.Goals as goal

pub returns : goal.returns
returns c types one typed = typed.known_in_entries

use Rattle.dm_planning.proofs.EditLemmas.{taken-or-back}
use Rattle.dm_planning.proofs.laws.edits_stand_or_are_taken_back.Goals as goal

pub returns : goal.returns
returns c = taken-or-back

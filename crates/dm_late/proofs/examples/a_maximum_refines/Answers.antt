use Rattle.dm_late.proofs.MaxExample as example
use Rattle.dm_late.proofs.examples.a_maximum_refines.Goals as goal

pub returns-clause-old_typed : goal.returns-clause-old_typed
returns-clause-old_typed c = example.old_typed

pub returns-clause-new_typed : goal.returns-clause-new_typed
returns-clause-new_typed c = example.new_typed

pub returns-clause-sound : goal.returns-clause-sound
returns-clause-sound c = example.new_sound

pub returns-clause-first : goal.returns-clause-first
returns-clause-first c = example.first

pub returns-clause-alike : goal.returns-clause-alike
returns-clause-alike c = example.alike

pub returns-clause-closed : goal.returns-clause-closed
returns-clause-closed c = example.closed

pub returns-clause-quiet : goal.returns-clause-quiet
returns-clause-quiet c = example.quiet

pub returns-clause-safe : goal.returns-clause-safe
returns-clause-safe c = example.safe

use Rattle.dm_spans.proofs.ProgramLemmas.{program_typed}
use Rattle.dm_spans.proofs.laws.programs_are_typed_anywhere.Goals as goal

pub returns : goal.returns
returns c = program_typed

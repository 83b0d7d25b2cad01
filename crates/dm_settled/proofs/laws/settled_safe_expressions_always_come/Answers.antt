use Rattle.dm_safe.proofs.AnywhereLemmas.{program_settled}
use Rattle.dm_safe.proofs.SafeStateLemmas.{always_safe}
use Rattle.dm_spans.proofs.ProgramLemmas.{program_typed}
use Rattle.dm_late.specs.Settled.{erased_program}
use Rattle.dm_settled.proofs.MovedLemmas.{program_moved}
use Rattle.dm_settled.proofs.laws.settled_safe_expressions_always_come.Goals as goal

pub returns : goal.returns
returns c program needs sets safe typed settled trees =
    let moved = program_moved program in
    always_safe (erased_program program) needs sets safe (program_typed program (erased_program program) moved typed) (program_settled needs program (erased_program program) moved settled) trees

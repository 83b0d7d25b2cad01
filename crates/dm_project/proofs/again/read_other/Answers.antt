-- A unit that reads the file is read, and its stop passed over.
use Rattle.std.proofs.Common.{sym, ◌∙◌}
use Rattle.dm_readings.specs.Again.{reads}
use Rattle.dm_project.proofs.AgainLemmas.{may-stop, on-ok}
use Rattle.dm_readings.proofs.LeaveLemmas.{known-one, known-over}
use Rattle.dm_project.proofs.again.read_other.Goals as goal

pub returns-in-Err-clause-read : goal.returns-in-Err-clause-read
returns-in-Err-clause-read g c = λ files have.
    on-ok c.want_of_memory.result
    (may-stop files c.args.unit.now (reads c.args.file c.args.kept.now) c.args.loader.now c.in-Err.stop c.read_next.new.loader (sym c.reads.ensures ∙ c.if-not-reads.false) (c.in-Err.ensures.next files have))

pub returns-in-Err-clause-leaves : goal.returns-in-Err-clause-leaves
returns-in-Err-clause-leaves g c = known-over c.want_of_memory.result c.in-Err.stop c.want_of_memory.ensures (known-one c.in-Err.ensures.leaves)

pub returns-clause-leaves : goal.returns-clause-leaves
returns-clause-leaves g c = known-one c.in-Ok.ensures.leaves

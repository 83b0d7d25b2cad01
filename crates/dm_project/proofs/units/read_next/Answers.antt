-- A unit's reading, or its stop, or the limit.
use Rattle.std.proofs.Common.{length, Option, Some, None, Result, Ok, Err, refl, ap, subst, arith}
use Rattle.dm_token.specs.declared.stop.Stop.{Stop}
use Rattle.dm_reading.specs.declared.reading.Reading.{Reading}
use Rattle.dm_readings.specs.Leaves.{Leaves}
use Rattle.dm_readings.proofs.LeaveLemmas.{follows-grown, leaves-stop, memory-no-fault, reading-leaves, there-stays}
use Rattle.dm_project.proofs.UnitLemmas.{next-handed, handed-on, limit-no-fault}
use Rattle.dm_project.proofs.units.read_next.Goals as goal

pub returns-in_err-reading-clause-next : goal.returns-in_err-reading-clause-next
returns-in_err-reading-clause-next g c = λ files have.
    next-handed files c.args.unit.now c.args.spent c.args.loader.now c.from_residual.result c.in_err-reading.field-0.0 c.read_unit-result.new.loader c.from_residual.ensures.1
    (c.in_err-reading.ensures.reading files have)

pub returns-in_err-reading-clause-leaves : goal.returns-in_err-reading-clause-leaves
returns-in_err-reading-clause-leaves g c =
    let failed : Result Reading Stop = Err c.in_err-reading.field-0.0 in
    subst (λ (stop : Option Stop). Leaves (g.F.Folder.files c.args.folder.now) (g.F.Folder.files c.read_unit-result.new.folder) (g.F.Folder.room c.args.folder.now) (g.F.Folder.room c.read_unit-result.new.folder)
    (g.F.Folder.faults c.args.folder.now) (g.F.Folder.faults c.read_unit-result.new.folder) c.args.loader.now c.read_unit-result.new.loader stop)
    (handed-on c.from_residual.result c.in_err-reading.field-0.0 c.from_residual.ensures.1)
    (reading-leaves (g.F.Folder.files c.args.folder.now) (g.F.Folder.files c.read_unit-result.new.folder) (g.F.Folder.room c.args.folder.now) (g.F.Folder.room c.read_unit-result.new.folder)
    (g.F.Folder.faults c.args.folder.now) (g.F.Folder.faults c.read_unit-result.new.folder) c.args.loader.now c.read_unit-result.new.loader failed
    c.in_err-reading.ensures.files_stay c.in_err-reading.ensures.rooms_stay c.in_err-reading.ensures.later c.in_err-reading.ensures.failed c.in_err-reading.ensures.unknown c.in_err-reading.ensures.loader
    (let names = ap length c.names.ensures.names in omega (arith, names, c.if-names-ge-MOST_NAMES.false)) c.in_err-reading.ensures.served c.number_names.ensures c.number_names-2.ensures)

pub returns-then-names-ge-MOST_NAMES-clause-leaves : goal.returns-then-names-ge-MOST_NAMES-clause-leaves
returns-then-names-ge-MOST_NAMES-clause-leaves g c =
    let read = c.read_unit-result.ensures in
    record {
      files_stay = read.files_stay;
      rooms_stay = read.rooms_stay;
      later = read.later;
      failed = λ file e. absurd (memory-no-fault file e);
      unknown = λ file e. absurd (memory-no-fault file e);
      grows = λ not. absurd (not refl);
      roomy = λ not. absurd (not refl);
      served = read.served;
      there = there-stays (g.F.Folder.files c.args.folder.now) c.args.loader.now c.read_unit-result.new.loader c.number_names.ensures c.number_names-2.ensures read.served;
    }

pub returns-clause-leaves : goal.returns-clause-leaves
returns-clause-leaves g c =
    let given : Result Reading Stop = Ok c.in_ok-reading.reading in
    reading-leaves (g.F.Folder.files c.args.folder.now) (g.F.Folder.files c.read_unit-result.new.folder) (g.F.Folder.room c.args.folder.now) (g.F.Folder.room c.read_unit-result.new.folder)
    (g.F.Folder.faults c.args.folder.now) (g.F.Folder.faults c.read_unit-result.new.folder) c.args.loader.now c.read_unit-result.new.loader given
    c.in_ok-reading.ensures.files_stay c.in_ok-reading.ensures.rooms_stay c.in_ok-reading.ensures.later c.in_ok-reading.ensures.failed c.in_ok-reading.ensures.unknown c.in_ok-reading.ensures.loader
    (let names = ap length c.names.ensures.names in omega (arith, names, c.if-names-ge-MOST_NAMES.false)) c.in_ok-reading.ensures.served c.number_names.ensures c.number_names-2.ensures

pub returns-then-len-spent-clause-leaves : goal.returns-then-len-spent-clause-leaves
returns-then-len-spent-clause-leaves g c =
    let given : Result Reading Stop = Ok c.in_ok-reading.reading in
    leaves-stop (g.F.Folder.files c.args.folder.now) (g.F.Folder.files c.read_unit-result.new.folder) (g.F.Folder.room c.args.folder.now) (g.F.Folder.room c.read_unit-result.new.folder)
    (g.F.Folder.faults c.args.folder.now) (g.F.Folder.faults c.read_unit-result.new.folder) c.args.loader.now c.read_unit-result.new.loader (Some c.passed.result)
    (limit-no-fault c.passed.result 10 c.number_in.result c.passed.ensures)
    (reading-leaves (g.F.Folder.files c.args.folder.now) (g.F.Folder.files c.read_unit-result.new.folder) (g.F.Folder.room c.args.folder.now) (g.F.Folder.room c.read_unit-result.new.folder)
    (g.F.Folder.faults c.args.folder.now) (g.F.Folder.faults c.read_unit-result.new.folder) c.args.loader.now c.read_unit-result.new.loader given
    c.in_ok-reading.ensures.files_stay c.in_ok-reading.ensures.rooms_stay c.in_ok-reading.ensures.later c.in_ok-reading.ensures.failed c.in_ok-reading.ensures.unknown c.in_ok-reading.ensures.loader
    (let names = ap length c.names.ensures.names in omega (arith, names, c.if-names-ge-MOST_NAMES.false)) c.in_ok-reading.ensures.served c.number_names.ensures c.number_names-2.ensures)

pub returns-clause-next : goal.returns-clause-next
returns-clause-next g c = λ files have. (
  c.in_ok-reading.ensures.reading files have,
  omega (arith, c.requires.few, c.if-len-spent.false, c.len.ensures),
  follows-grown files None c.args.loader.now c.read_unit-result.new.loader (c.in_ok-reading.ensures.loader (λ e. absurd (cc))) (c.in_ok-reading.ensures.served files have),
)

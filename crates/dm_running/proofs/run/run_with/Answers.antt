-- A unit that was read is run, and else it is explained why its reading stopped.
use Rattle.std.proofs.Common.{ap, Err}
use Rattle.dm_lines.specs.Outside.{outside}
use Rattle.dm_words.specs.Requests.{request_of}
use Rattle.dm_manifest.proofs.Short.{lawful-short}
use Rattle.dm_running.proofs.RunSteps.{ends_finished, ends_stopped}
use Rattle.dm_running.proofs.run.run_with.Goals as goal

pub read_once-requires-clause-short : goal.read_once-requires-clause-short
read_once-requires-clause-short g c = lawful-short c.args.unit c.requires

pub returns-in-Ok-clause-ending : goal.returns-in-Ok-clause-ending
returns-in-Ok-clause-ending g c =
    ends_finished (request_of c.args.asked.now) c.args.unit c.args.input.now
    (outside g.F.Folder g.S.Sink c.args.folder.now c.args.out.now)
    (outside g.F.Folder g.S.Sink c.read_once.new.folder c.run_reading.new.out)
    c.in-Ok.reading c.read_once.new.loader c.names.result.now c.run_reading.result c.names.ensures.names
    c.in-Ok.ensures.reading c.in-Ok.ensures.files_stay c.run_reading.ensures.finished

pub returns-clause-ending : goal.returns-clause-ending
returns-clause-ending g c =
    ends_stopped (request_of c.args.asked.now) c.args.unit c.args.input.now
    (outside g.F.Folder g.S.Sink c.args.folder.now c.args.out.now)
    (outside g.F.Folder g.S.Sink c.read_once.new.folder c.explain_stop.new.out)
    c.in-Err.stop c.read_once.new.loader c.names-in-Err.result.now c.explain_stop.result c.names-in-Err.ensures.names
    c.in-Err.ensures.reading c.in-Err.ensures.files_stay (λ file is. c.in-Err.ensures.failed file (ap Err is)) c.explain_stop.ensures.put c.explain_stop.ensures.status c.explain_stop.ensures.err

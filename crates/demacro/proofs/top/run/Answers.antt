-- Where nothing fails, only two endings are left.
use Rattle.std.proofs.Common.{map, string_bytes}
use Rattle.dm_lines.specs.Outside.{outside}
use Rattle.demacro.proofs.AppliedSteps.{applied_for}
use Rattle.demacro.proofs.Steps.{ends_wanting}
use Rattle.demacro.proofs.CompleteSteps.{complete_for}
use Rattle.demacro.proofs.top.run.Goals as goal

pub returns-in-Ok-clause-complete : goal.returns-in-Ok-clause-complete
returns-in-Ok-clause-complete g c = λ request asks holds folder sink.
    complete_for c.one_request.ensures c.complete_request.ensures (map string_bytes c.args.words.now) request
    (outside g.F.Folder g.S.Sink c.args.folder.now c.args.out.now)
    (outside g.F.Folder g.S.Sink c.run_words.new.folder c.run_words.new.out)
    c.in-Ok.status c.in-Ok.ensures.ending asks holds folder sink

pub returns-in-Ok-clause-applied : goal.returns-in-Ok-clause-applied
returns-in-Ok-clause-applied g c = λ project json asks done.
    applied_for project json
    (outside g.F.Folder g.S.Sink c.args.folder.now c.args.out.now)
    (outside g.F.Folder g.S.Sink c.run_words.new.folder c.run_words.new.out)
    c.one_request.ensures (map string_bytes c.args.words.now) c.in-Ok.status c.in-Ok.ensures.ending asks done

pub returns-in-Err-clause-ending : goal.returns-in-Err-clause-ending
returns-in-Err-clause-ending g c =
    ends_wanting (map string_bytes c.args.words.now)
    (outside g.F.Folder g.S.Sink c.args.folder.now c.args.out.now)
    (outside g.F.Folder g.S.Sink c.run_words.new.folder c.run_words.new.out)
    c.in-Err.ensures.ending

-- A unit is listed, or its stop is explained.
use Rattle.std.proofs.Common.{ap, Err}
use Rattle.dm_lines.specs.Outside.{outside}
use Rattle.dm_expanding.proofs.ExpandSteps.{ends_listed, ends_stopped, is_reading}
use Rattle.dm_expanding.proofs.expanding.expand_unit.Goals as goal

pub returns-in-Ok-clause-ending : goal.returns-in-Ok-clause-ending
returns-in-Ok-clause-ending g c =
    ends_listed c.args.unit.now
    (outside g.F.Folder g.S.Sink c.args.folder.now c.args.out.now)
    (outside g.F.Folder g.S.Sink c.unit_tokens.new.folder c.put_listing.new.out)
    c.in-Ok.tokens c.unit_tokens.new.loader c.put_listing.result
    (is_reading (g.F.Folder.files c.args.folder.now) c.args.unit.now c.in_ok-loader.loader c.unit_tokens.new.loader _ c.in_ok-loader.ensures c.in-Ok.ensures.reading)
    c.unit_tokens.ensures.files_stay c.put_listing.ensures.done c.put_listing.ensures.failed c.put_listing.ensures.status c.put_listing.ensures.err

pub returns-clause-ending : goal.returns-clause-ending
returns-clause-ending g c =
    ends_stopped c.args.unit.now
    (outside g.F.Folder g.S.Sink c.args.folder.now c.args.out.now)
    (outside g.F.Folder g.S.Sink c.unit_tokens.new.folder c.explain_stop.new.out)
    c.in-Err.stop c.names.result.now c.unit_tokens.new.loader c.explain_stop.result c.names.ensures.names
    (is_reading (g.F.Folder.files c.args.folder.now) c.args.unit.now c.in_ok-loader.loader c.unit_tokens.new.loader _ c.in_ok-loader.ensures c.in-Err.ensures.reading)
    c.unit_tokens.ensures.files_stay (λ file is. c.in-Err.ensures.failed file (ap Err is)) c.explain_stop.ensures.put c.explain_stop.ensures.status c.explain_stop.ensures.err

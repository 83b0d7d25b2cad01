-- The file at the position that is given is the one whose write failed.
use Rattle.dm_lines.specs.Outside.{outside}
use Rattle.dm_apply.proofs.CommitLemmas.{failed_there, puts}
use Rattle.dm_apply.proofs.writing.commit.Goals as goal

pub returns-in-Some-clause-committed : goal.returns-in-Some-clause-committed
returns-in-Some-clause-committed g c =
    let line = c.index-items-failed.result in
    failed_there c.args.prepared.now (outside g.F.Folder g.S.Sink c.args.folder.now c.args.out.now) (outside g.F.Folder g.S.Sink c.write_files.new.folder c.put.new.self)
    c.items.result.now c.items-in-Some.result.now c.in-Some.failed line c.items.ensures c.items-in-Some.ensures c.requires.lines c.in-Some.ensures.inside c.in-Some.ensures.spoiled c.in-Some.ensures.failed
    c.index-items-failed.is
    (puts c.put.result (g.S.Sink.written c.args.out.now) (g.S.Sink.written c.put.new.self) (g.S.Sink.faults c.args.out.now) (g.S.Sink.faults c.put.new.self) line
    c.bytes.result.now c.bytes.ensures c.put.ensures.whole c.put.ensures.front c.put.ensures.failed)

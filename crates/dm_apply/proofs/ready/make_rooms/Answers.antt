-- The rooms of the files so far stay when that of one more is made.
use Rattle.std.proofs.Common.{◌∙◌, ◌≤◌, subst}
use Rattle.dm_apply.proofs.CommitLemmas.{rooms-more}
use Rattle.dm_apply.proofs.ready.make_rooms.Goals as goal

pub loop-file-preserved : goal.loop-file-preserved
loop-file-preserved g c =
    let inv = c.loop-file.invariant in
    let file = c.file-item.result in
    record {
      rooms = rooms-more (g.F.Folder.room c.loop-file.folder) (g.F.Folder.room c.ready.new.self) c.args.files.now c.loop-file.file-index file c.loop-file-test.true c.file-item.is
          c.requires.apart inv.rooms (subst (λ n. n ≤ g.F.Folder.room c.ready.new.self file.name) c.len.ensures c.in_ok-ready.ensures.ready) c.ready.ensures.rooms_stay;
      files = c.ready.ensures.files_stay ∙ inv.files;
      faults = c.ready.ensures.faults_stay ∙ inv.faults;
    }

-- The new file comes last, under a name that no other file has.
use Rattle.std.proofs.Common.{ap, ◌∙◌}
use Rattle.std.specs.FinMap as finite
use Rattle.dm_io.specs.Stored.{contents}
use Rattle.dm_io.specs.Files.{file_at}
use Rattle.dm_io.proofs.Shelves.{contents_push}
use Rattle.dm_io.proofs.memory_folder.MemoryFolder.add.Goals as goal

pub returns-clause-ok : goal.returns-clause-ok
returns-clause-ok c =
    let files = c.args.self.now.files.items in
    let stored = c.in_ok-stored.stored in
    let named = c.in_ok-stored.ensures.0 ∙ c.bytes.ensures in
    ap contents c.in_ok-push.ensures.items
    ∙ contents_push files stored (ap (file_at (contents files)) named ∙ c.requires)
    ∙ ap (λ name. finite.insert (contents files) name stored.bytes.items) named
    ∙ ap (finite.insert (contents files) c.args.name.now) c.in_ok-stored.ensures.1

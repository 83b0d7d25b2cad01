-- A new folder has no file.
use Rattle.std.proofs.Common.{ap, ◌∙◌}
use Rattle.std.specs.FinMap.{get-empty}
use Rattle.dm_io.specs.Files.{Files, file_at}
use Rattle.dm_gen.proofs.generated.Goals as goal

pub add-requires : goal.add-requires
add-requires c = ap (λ (files : Files). file_at files c.in_ok-name.name) c.new-folder.ensures.files ∙ get-empty _ _

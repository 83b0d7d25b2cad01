use Rattle.std.proofs.Common.{append_assoc, rules}
use Rattle.dm_manifest.specs.Paths.{unit_path, under, item_path}
use Rattle.dm_manifest.proofs.path.item_path.Goals as goal

pub returns : goal.returns
unfolding unit_path under item_path
returns c = rw (append_assoc) (search rules)

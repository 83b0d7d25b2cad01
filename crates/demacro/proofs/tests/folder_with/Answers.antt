-- A new folder has no file.
use Rattle.std.proofs.Common.{◌≡◌, None, sym, subst}
use Rattle.std.specs.Cmp.Lexicographic.{slice_cmp}
use Rattle.std.specs.Ordering.{nat_cmp}
use Rattle.std.specs.FinMap as finite
use Rattle.dm_io.specs.Files.{file_at}
use Rattle.demacro.proofs.tests.folder_with.Goals as goal

pub add-requires : goal.add-requires
add-requires c = subst (λ files. file_at files c.args.name.now ≡ None) (sym c.new-folder.ensures.files) (finite.get-empty (slice_cmp nat_cmp) c.args.name.now)

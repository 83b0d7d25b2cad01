use Rattle.std.proofs.Common.{◌≡◌, ℕ, List, codes, bytes_eq}
use Rattle.std.specs.HashSet.{contains_by}
use Rattle.dm_manifest.specs.Paths.{unit_path, under}
use Rattle.dm_manifest.specs.Units.{define_at, is_defined}
use Rattle.dm_manifest.proofs.Each.{GoesOn}
use Rattle.dm_manifest.proofs.unit.each_define.Given as goal

abbrev pub invariant-loop-value : goal.invariant-loop-value
invariant-loop-value l =
    GoesOn (define_at (under (unit_path l.unit) (codes "define"))) l.values l.value-index l.defines
    × ((q : List ℕ) → contains_by (λ name. bytes_eq q name.now) l.names ≡ is_defined l.defines q)

-- Numbers by names.
use Rattle.std.specs.Prelude.{ℕ}
use Rattle.std.specs.Cmp.Lexicographic.{slice_cmp}
use Rattle.std.specs.Ordering.{nat_cmp}
use Rattle.std.specs.FinMap as map

abbrev pub Numbers : Type 0
Numbers = map.FinMap (slice_cmp nat_cmp) ℕ

-- The operands of a node that leaves them unsequenced, by the number of the last one.
use Rattle.std.specs.Prelude.{ℕ, zero, suc, ◌+◌, not, ◌==◌, List, [], ◌∷◌, map, filter, Option, Some, None}
use Rattle.std.specs.List.{range_with_len}
use Rattle.dm_tree.specs.Paths.{Path}

-- the ways to the others
abbrev pub others_by : ℕ → Option ℕ → List Path
others_by n None = []
others_by n (Some last) = map (λ k. k ∷ []) (filter (λ k. not (k == n)) (range_with_len 0 (last + 1)))

-- the number before one
abbrev pub previous : ℕ → Option ℕ
previous zero = None
previous (suc n) = Some n

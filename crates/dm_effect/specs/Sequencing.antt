-- Where a tree stands among the operands of an expression (5.1.2.3p3, 6.5p3).
--     is_first path tree      nothing on the way is picked by another operand, and nothing on it isn't evaluated
--     beside path tree      the ways to the operands that are unsequenced to what stands there, from the inside out
--     around path tree      the tree at a place, and those beside it
use Rattle.std.specs.Prelude.{ℕ, Bool, true, false, ◌&&◌, not, ◌==◌, List, [], ◌∷◌, ◌++◌, map, filter, length, Option, Some, None, if◌then◌else◌}
use Rattle.std.specs.List.{filter_map, range_with_len}
use Rattle.dm_tree.specs.Paths.{Path, tree_in, tree_at}
use Rattle.dm_tree.specs.Trees.{Label, convert, binary, both, either, choose, comma, store, update, call, sizeof_tree, sizeof_kind, Tree, label_of, trees_of, parts_of}
use Rattle.dm_effect.specs.Entities.{passes}

-- The part with this number is evaluated before its node picks another one: of &&, ||, ?: and the comma that is the first (6.5.13p4,
-- 6.5.14p4, 6.5.15p4, 6.5.17p2). The operand of sizeof and the trees of a type name aren't evaluated (6.5.3.4p2).
abbrev pub comes_first : Label → ℕ → Bool
comes_first both n = n == 0
comes_first either n = n == 0
comes_first choose n = n == 0
comes_first comma n = n == 0
comes_first convert n = n == 0
comes_first sizeof_tree n = false
comes_first (sizeof_kind type) n = false
comes_first label n = true

-- each part on the way is so
abbrev pub is_first : Path → Tree → Bool
is_first [] whole = true
is_first (n ∷ path) whole = comes_first (label_of whole) n && passes (is_first path) (tree_in (trees_of whole) n)

-- the node leaves its operands unsequenced (6.5p3, 6.5.2.2p10, 6.5.16p3)
abbrev pub is_unsequenced : Label → Bool
is_unsequenced (binary op) = true
is_unsequenced store = true
is_unsequenced (update op works) = true
is_unsequenced call = true
is_unsequenced label = false

-- the ways to the other operands of such a node, from the left; the function that a call names is one
abbrev pub others_of : ℕ → Tree → List Path
others_of n whole =
    if is_unsequenced (label_of whole) then map (λ k. k ∷ []) (filter (λ k. not (k == n)) (range_with_len 0 (length (parts_of whole)))) else []

-- the ways that are found below a part, if it is there
abbrev pub below : ℕ → (Tree → List Path) → Option Tree → List Path
below n find None = []
below n find (Some tree) = map (λ (path : Path). n ∷ path) (find tree)

abbrev pub beside : Path → Tree → List Path
beside [] whole = []
beside (n ∷ path) whole = below n (beside path) (tree_in (trees_of whole) n) ++ others_of n whole

abbrev pub around : Path → Tree → List Tree
around path whole = filter_map (λ (way : Path). tree_at way whole) (path ∷ beside path whole)

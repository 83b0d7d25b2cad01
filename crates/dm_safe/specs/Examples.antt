-- Safe expressions beside `int c;`, the object of the examples of dm_sound.
--     five, read_counter      5, and the value of c
--     is_counter d      the declaration is that of c
--     is_number tree      the tree is a number of type int
use Rattle.std.specs.Prelude.{ℕ, ◌==◌, Bool, true, false, pos}
use Rattle.dm_int.specs.declared.Kind.TheVariants.{Int}
use Rattle.dm_type.specs.CTypes.{integer}
use Rattle.dm_tree.specs.Trees.{number, read, Tree, node, no_trees}
use Rattle.dm_sound.specs.Examples.{int, name, spans}

abbrev pub five : Tree
five = node (number (pos 5)) int spans no_trees

abbrev pub read_counter : Tree
read_counter = node read int spans name

abbrev pub is_counter : ℕ → Bool
is_counter d = d == 0

abbrev pub is_number : Tree → Bool
is_number (node (number z) (integer Int) at no_trees) = true
is_number tree = false

-- no object is to be set by its declarator, and no expression takes one for set
abbrev pub none : ℕ → Bool
none d = false

abbrev pub takes_none : Tree → ℕ → Bool
takes_none tree d = false

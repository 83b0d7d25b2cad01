-- What trees do to objects, and what the trees of a unit say of its objects and functions.
--     writes d tree      a tree stores in an object by its name (6.5.16, 6.5.2.4, 6.5.3.1)
--     is_addressed unit d      the address of an object is taken somewhere (6.5.3.2)
--     locals_of_unit unit      the declarators of a unit, each with the expressions of its initialiser (6.7)
use Rattle.std.specs.Prelude.{ℕ, Bool, true, false, ◌&&◌, ◌==◌, List, [], ◌∷◌, ◌++◌, drop, flat_map, Option, Some, None}
use Rattle.std.specs.List.{list_any}
use Rattle.dm_tree.specs.Paths.{all_in}
use Rattle.dm_tree.specs.Trees.{Label, object, function, address, store, update, count, declare, Tree, Trees, node, more_trees, listed}
use Rattle.dm_tree.specs.Units.{External, ExternalForm, declares, defines_function, TypedUnit}
use Rattle.dm_meaning.specs.Statements.{Local, with_expressions}

-- the trees of an external declaration, and all nodes of those of a unit
abbrev pub trees_in_form : ExternalForm → List Tree
trees_in_form (declares declarators trees) = trees
trees_in_form (defines_function f parameters body) = body ∷ []

abbrev pub trees_in_external : External → List Tree
trees_in_external one = one.constants ++ trees_in_form one.form

abbrev pub nodes_of_external : External → List Tree
nodes_of_external one = flat_map all_in (trees_in_external one)

abbrev pub nodes_of_unit : TypedUnit → List Tree
nodes_of_unit one = flat_map nodes_of_external one.externals

-- the object that the first of some trees names, and the function that it names
abbrev pub object_first : Trees → Option ℕ
object_first (more_trees (node (object d) kind spans parts) rest) = Some d
object_first trees = None

abbrev pub function_first : Trees → Option ℕ
function_first (more_trees (node (function d) kind spans parts) rest) = Some d
function_first trees = None

-- one is named, and passes; and it is this one
abbrev pub is_named : (ℕ → Bool) → Option ℕ → Bool
is_named test None = false
is_named test (Some d) = test d

abbrev pub is_this : ℕ → Option ℕ → Bool
is_this d named = is_named (λ c. c == d) named

-- a tree is there, and passes
abbrev pub passes : (Tree → Bool) → Option Tree → Bool
passes test None = false
passes test (Some tree) = test tree

-- ---- stores

-- = (6.5.16.1), a compound assignment (6.5.16.2), and ++ and -- (6.5.2.4, 6.5.3.1)
abbrev pub is_store : Label → Bool
is_store store = true
is_store (update op works) = true
is_store (count plus before) = true
is_store label = false

-- the node stores in the object that its first part names
abbrev pub writes_here : ℕ → Tree → Bool
writes_here d (node label kind spans parts) = is_store label && is_this d (object_first parts)

abbrev pub writes : ℕ → Tree → Bool
writes d tree = list_any (writes_here d) (all_in tree)

-- ---- addresses

-- the node is & of the object's name
abbrev pub addresses_here : ℕ → Tree → Bool
addresses_here d (node address kind spans parts) = is_this d (object_first parts)
addresses_here d tree = false

abbrev pub is_addressed : TypedUnit → ℕ → Bool
is_addressed one d = list_any (addresses_here d) (nodes_of_unit one)

-- ---- declarators

abbrev pub locals_here : Tree → List Local
locals_here (node (declare lengths declarators) kind spans parts) = with_expressions declarators (drop lengths (listed parts))
locals_here tree = []

abbrev pub locals_of_form : ExternalForm → List Local
locals_of_form (declares declarators trees) = with_expressions declarators trees
locals_of_form (defines_function f parameters body) = []

-- those of an external declaration itself, and those of declarations in its trees
abbrev pub locals_of_external : External → List Local
locals_of_external one = locals_of_form one.form ++ flat_map locals_here (nodes_of_external one)

abbrev pub locals_of_unit : TypedUnit → List Local
locals_of_unit one = flat_map locals_of_external one.externals

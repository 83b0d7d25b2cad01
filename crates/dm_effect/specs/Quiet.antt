-- Trees whose evaluation writes nothing.
--     is_quiet unit tree      a tree of a unit has no store, and calls only functions whose whole body is one `return` of such a tree and
--         which the unit defines before the external declaration in which the tree stands
--     quiet_functions externals      these functions behind external declarations
use Rattle.std.specs.Prelude.{ℕ, Bool, ◌==◌, nat_le, not, List, [], ◌∷◌, fold, take_while, Option, Some, None, if◌then◌else◌}
use Rattle.std.specs.List.{list_any}
use Rattle.dm_tree.specs.Paths.{all_in}
use Rattle.dm_tree.specs.Trees.{call, block, return, Tree, node, no_trees, more_trees, spans_of}
use Rattle.dm_tree.specs.Units.{External, ExternalForm, declares, defines_function, TypedUnit}
use Rattle.dm_effect.specs.Entities.{function_first, is_named, is_store, passes}

-- the node stores, or calls another function than those that pass
abbrev pub disturbs : (ℕ → Bool) → Tree → Bool
disturbs quiet (node call kind spans parts) = not (is_named quiet (function_first parts))
disturbs quiet (node label kind spans parts) = is_store label

-- no node does, also where it isn't evaluated
abbrev pub is_quiet_with : (ℕ → Bool) → Tree → Bool
is_quiet_with quiet tree = not (list_any (disturbs quiet) (all_in tree))

-- what a statement returns, and what a body returns that is one `return` alone
abbrev pub value_returned : Tree → Option Tree
value_returned (node return kind spans (more_trees value no_trees)) = Some value
value_returned statement = None

abbrev pub alone_returned : Tree → Option Tree
alone_returned (node block kind spans (more_trees only no_trees)) = value_returned only
alone_returned body = None

-- a body returns such a tree alone
abbrev pub returns_quietly : (ℕ → Bool) → Tree → Bool
returns_quietly quiet body = passes (is_quiet_with quiet) (alone_returned body)

-- the quiet functions behind an external declaration, where these are those before it; and those behind all
abbrev pub is_one_of : List ℕ → ℕ → Bool
is_one_of functions d = list_any (λ c. c == d) functions

abbrev pub with_function : List ℕ → ExternalForm → List ℕ
with_function functions (declares declarators trees) = functions
with_function functions (defines_function f parameters body) = if returns_quietly (is_one_of functions) body then f ∷ functions else functions

abbrev pub with_quiet : List ℕ → External → List ℕ
with_quiet functions one = with_function functions one.form

abbrev pub quiet_functions : List External → List ℕ
quiet_functions externals = fold with_quiet [] externals

-- the external declarations before the one in which a tree stands: those that end before its first token
abbrev pub ends_before : ℕ → External → Bool
ends_before first one = nat_le one.span.after first

abbrev pub before : Tree → List External → List External
before tree externals = take_while (ends_before (spans_of tree).inner.first) externals

abbrev pub is_quiet : TypedUnit → Tree → Bool
is_quiet one tree = is_quiet_with (is_one_of (quiet_functions (before tree one.externals))) tree

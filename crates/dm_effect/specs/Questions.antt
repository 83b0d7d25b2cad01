-- What is asked of the nodes of a tree.
--     answer types question tree      the answer at a node
--     is_asked types question trees      the answer at some node of some trees
use Rattle.std.specs.Prelude.{ℕ, Bool, false, nat_le, List, Option, Some, slice_get}
use Rattle.std.specs.List.{list_any}
use Rattle.dm_type.specs.Tables.{Table}
use Rattle.dm_tree.specs.Paths.{all_in_trees}
use Rattle.dm_tree.specs.Trees.{Tree, trees}
use Rattle.dm_tree.specs.Views.{OpenedLocal}
use Rattle.dm_meaning.specs.Statements.{Local}
use Rattle.dm_effect.specs.declared.question.Question.{Question}
use Rattle.dm_effect.specs.declared.question.Question.TheVariants as question
use Rattle.dm_effect.specs.Entities.{addresses_here, locals_here, writes_here}
use Rattle.dm_effect.specs.Quiet.{disturbs}
use Rattle.dm_effect.specs.Safe.{defines_here, initialises_apart}
use Rattle.dm_effect.specs.Stable.{acts}

-- the function of a number is quiet at a token, where each is from a token on, or nowhere
abbrev pub is_since : ℕ → Option (Option ℕ) → Bool
is_since token (Some (Some from)) = nat_le from token
is_since token _ = false

abbrev pub is_quiet_since : List (Option ℕ) → ℕ → ℕ → Bool
is_quiet_since since token d = is_since token (slice_get since d)

abbrev pub as_local : OpenedLocal → Local
as_local one = record { declarator = one.declarator; expressions = one.expressions }

abbrev pub answer : Table → Question → Tree → Bool
answer types question.Acts tree = acts tree
answer types (question.Writes d) tree = writes_here d tree
answer types (question.Addresses d) tree = addresses_here d tree
answer types (question.Defines d) tree = list_any (defines_here d) (locals_here tree)
answer types (question.Initialises d token) tree = list_any (initialises_apart token d) (locals_here tree)
answer types (question.Disturbs since token) tree = disturbs (is_quiet_since since.now token) tree

abbrev pub is_asked : Table → Question → List Tree → Bool
is_asked types question all = list_any (answer types question) (all_in_trees (trees all))

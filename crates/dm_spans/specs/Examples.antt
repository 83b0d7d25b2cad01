-- The expression `c++`, and `int c; int main(void) {}`, at another place than in the examples of dm_sound.
use Rattle.std.specs.Prelude.{[], ◌∷◌}
use Rattle.dm_tree.specs.Trees.{object, block, Spans, Tree, node, no_trees, more_trees}
use Rattle.dm_type.specs.CTypes.{void}
use Rattle.dm_meaning.specs.Programs.{Program}
use Rattle.dm_sound.specs.Examples.{counting, int, no_span, running}

abbrev pub elsewhere : Spans
elsewhere = record { inner = no_span; outer = no_span; place = record { file = 0; byte = 6; line = 1; column = 7 } }

abbrev pub counted : Tree
counted = node counting int elsewhere (more_trees (node (object 0) int elsewhere no_trees) no_trees)

abbrev pub moved : Program
moved = record running { functions = record { function = 1; parameters = []; body = node block void elsewhere no_trees } ∷ [] }

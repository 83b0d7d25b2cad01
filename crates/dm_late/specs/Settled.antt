-- Programs with other places in the text, on which no step depends: each node of a full expression stands where the expression does (6.8p4). So the
-- trees that stand for a parameter in a run are the same.
--     erased at tree      the tree, where each node stands at one place
--     settled tree      a statement, where the nodes of each full expression stand where that does, and other nodes nowhere
--     erased_program program      the program with such trees
use Rattle.std.specs.Prelude.{map, if◌then◌else◌}
use Rattle.dm_tree.specs.Trees.{is_statement, Spans, Tree, Trees, node, no_trees, more_trees}
use Rattle.dm_meaning.specs.Programs.{Definition, Static, Program}

abbrev pub nowhere : Spans
nowhere = record { inner = record { first = 0; after = 0 }; outer = record { first = 0; after = 0 }; place = record { file = 0; byte = 0; line = 0; column = 0 } }

abbrev mutual
  pub erased : Spans → Tree → Tree
  erased at (node label kind spans parts) = node label kind at (all_erased at parts)

  pub all_erased : Spans → Trees → Trees
  all_erased at no_trees = no_trees
  all_erased at (more_trees first rest) = more_trees (erased at first) (all_erased at rest)

-- ---- statements

-- Where a full expression stands, so that a tree under evaluation has it: the place tells its tokens.
abbrev pub spot : Spans → Spans
spot spans = record { inner = spans.inner; outer = spans.outer; place = record { file = 0; byte = spans.inner.first; line = spans.inner.after; column = 0 } }

-- the nodes of a full expression stand where it does
abbrev mutual
  pub settled : Tree → Tree
  settled (node label kind spans parts) = if is_statement label then node label kind nowhere (all_settled parts) else node label kind (spot spans) (all_erased (spot spans) parts)

  pub all_settled : Trees → Trees
  all_settled no_trees = no_trees
  all_settled (more_trees first rest) = more_trees (settled first) (all_settled rest)

-- ---- programs

abbrev pub erased_definition : Definition → Definition
erased_definition definition = record { function = definition.function; parameters = definition.parameters; body = settled definition.body }

abbrev pub erased_static : Static → Static
erased_static static = record { declared = static.declared; initialiser = static.initialiser; expressions = map (erased nowhere) static.expressions }

abbrev pub erased_program : Program → Program
erased_program program = record {
  declared = program.declared;
  functions = map erased_definition program.functions;
  statics = map erased_static program.statics;
  table = program.table;
}

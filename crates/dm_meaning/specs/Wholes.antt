-- Trees that are expressions throughout, and statements whose full expressions are so (6.8p4).
--     is_expression tree      no statement is in it
--     is_whole tree      no statement is in the full expressions of a statement, whatever statements it has below it
--     IsExpression core, IsWhole core      the same of a tree of the code
--     IsWholeInitial initial, IsWholeLocal local      each expression in an initialiser or a declarator is one
use Rattle.std.specs.Prelude.{Bool, true, false, not, ◌&&◌, List, [], ◌∷◌, map, IsTrue}
use Rattle.std.specs.List.{list_all}
use Rattle.dm_type.specs.Tables.{Table}
use Rattle.dm_tree.specs.declared.tree.Core.{Core}
use Rattle.dm_tree.specs.declared.tree.Initial.{Initial}
use Rattle.dm_tree.specs.declared.tree.Local.{Local}
use Rattle.dm_tree.specs.declared.tree.Form.TheFolds as folds
use Rattle.dm_tree.specs.Trees.{Label, Tree, Trees, node, no_trees, more_trees, listed, is_statement, block, declare, if_statement, switch, case, default, while_loop, do_loop, for_loop}
use Rattle.dm_tree.specs.TypeNumbers.{all_pass}
use Rattle.dm_tree.specs.Views.{Opened, OpenedInitial, OpenedLocal, form_layer, initial_layer, core_layer, local_layer, view, view_of_local, expressions_of_items, expressions_of_locals}

abbrev mutual
  pub is_expression : Tree → Bool
  is_expression (node label kind spans parts) = not (is_statement label) && are_expressions parts

  pub are_expressions : Trees → Bool
  are_expressions no_trees = true
  are_expressions (more_trees first rest) = is_expression first && are_expressions rest

-- the same of a list
abbrev pub all_expressions : List Tree → Bool
all_expressions trees = list_all is_expression trees

-- the first part of `for` is a declaration, or an expression (6.8.5.3)
abbrev pub is_whole_start : Tree → Bool
is_whole_start (node (declare lengths declarators) kind spans parts) = all_expressions (listed parts)
is_whole_start tree = is_expression tree

-- the first part and the rest, of which it is told whether they are whole
abbrev pub first_and : (Tree → Bool) → List Tree → List Bool → Bool
first_and test (first ∷ parts) (whole ∷ wholes) = test first && all_pass wholes
first_and test parts wholes = false

-- the parts of `for` that are there, and its body
abbrev pub loop_whole : Bool → Bool → Bool → List Tree → List Bool → Bool
loop_whole true second third (first ∷ parts) (whole ∷ wholes) = is_whole_start first && loop_whole false second third parts wholes
loop_whole false true third (condition ∷ parts) (whole ∷ wholes) = is_expression condition && loop_whole false false third parts wholes
loop_whole false false true (last ∷ parts) (whole ∷ wholes) = is_expression last && loop_whole false false false parts wholes
loop_whole false false false parts wholes = all_pass wholes
loop_whole first second third parts wholes = false

-- the body of `do` is whole, and its condition an expression
abbrev pub do_whole : List Tree → List Bool → Bool
do_whole (body ∷ parts) (whole ∷ wholes) = whole && all_expressions parts
do_whole parts wholes = false

-- by the form of a statement, where it is told which of its parts are whole: an expression statement, an initialiser, a length, a condition,
-- the value of a `case` and a returned value are full expressions, and the other parts are statements
abbrev pub whole_by : Label → List Tree → List Bool → Bool
whole_by block parts wholes = all_pass wholes
whole_by if_statement parts wholes = first_and is_expression parts wholes
whole_by switch parts wholes = first_and is_expression parts wholes
whole_by case parts wholes = first_and is_expression parts wholes
whole_by default parts wholes = all_pass wholes
whole_by while_loop parts wholes = first_and is_expression parts wholes
whole_by do_loop parts wholes = do_whole parts wholes
whole_by (for_loop first second third) parts wholes = loop_whole first second third parts wholes
whole_by label parts wholes = all_expressions parts

abbrev mutual
  pub is_whole : Tree → Bool
  is_whole (node label kind spans parts) = whole_by label (listed parts) (are_whole parts)

  pub are_whole : Trees → List Bool
  are_whole no_trees = []
  are_whole (more_trees first rest) = is_whole first ∷ are_whole rest

-- ---- trees of the code, whatever types their numbers stand for

abbrev pub IsExpression : Core → Type 0
IsExpression core = (types : Table) → IsTrue (is_expression (view types core))

abbrev pub IsWhole : Core → Type 0
IsWhole core = (types : Table) → IsTrue (is_whole (view types core))

abbrev pub AreWhole : List Core → Type 0
AreWhole cores = (types : Table) → IsTrue (list_all is_whole (map (view types) cores))

-- each expression of an initialiser is one, and so of a declarator
abbrev pub view_of_initial : Table → Initial → OpenedInitial
view_of_initial types = folds.fold-Initial Opened OpenedInitial Tree OpenedLocal (form_layer types) initial_layer (core_layer types) local_layer

abbrev pub IsWholeInitial : Initial → Type 0
IsWholeInitial initial = (types : Table) → IsTrue (all_expressions (view_of_initial types initial).expressions)

abbrev pub AreWholeInitials : List Initial → Type 0
AreWholeInitials initials = (types : Table) → IsTrue (all_expressions (expressions_of_items (map (view_of_initial types) initials)))

abbrev pub IsWholeLocal : Local → Type 0
IsWholeLocal local = (types : Table) → IsTrue (all_expressions (view_of_local types local).expressions)

abbrev pub AreWholeLocals : List Local → Type 0
AreWholeLocals locals = (types : Table) → IsTrue (all_expressions (expressions_of_locals (map (view_of_local types) locals)))

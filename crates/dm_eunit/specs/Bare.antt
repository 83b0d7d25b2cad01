-- Names, in parentheses or not: in front of the parameters of a function definition stands nothing else (6.9.1).
use Rattle.std.specs.Prelude.{Bool, true, false, [], ◌∷◌}
use Rattle.dm_syn.specs.Trees.{Declarator, Direct}
use Rattle.dm_syn.specs.Trees as tree

abbrev mutual
  pub is_bare : Direct → Bool
  is_bare tree.absent = true
  is_bare (tree.declared name) = true
  is_bare (tree.enclosed declarator) = is_bare_declarator declarator
  is_bare (tree.array direct) = false
  is_bare (tree.sized direct length) = false
  is_bare (tree.function direct others) = false

  pub is_bare_declarator : Declarator → Bool
  is_bare_declarator (tree.shaped span [] direct) = is_bare direct
  is_bare_declarator (tree.shaped span (pointer ∷ pointers) direct) = false

-- Typed trees of C expressions and statements (6.5, 6.8), as contracts see them. One kind of node holds all forms: a label says the
-- form and what stands beside the trees below it, and these are in the order in which the form lists them.
use Rattle.std.specs.Prelude.{ℕ, ◌+◌, ℤ, Bool, true, false, List, [], ◌∷◌, Option}
use Rattle.dm_int.specs.declared.Op.{Op}
use Rattle.dm_token.specs.declared.place.Place.{Place}
use Rattle.dm_token.specs.declared.place.Span.{Span}
use Rattle.dm_type.specs.CTypes.{CType}
use Rattle.dm_tree.specs.declared.tree.Sign.{Sign}

mutual
  -- how an initialiser is written: as one expression, which is a tree below the node, or as a list in braces (6.7.9)
  pub data Initialiser : Type 0 where
    one_expression : Initialiser
    in_braces : Initialisers → Initialiser

  -- the initialisers of a list in braces, in order
  pub data Initialisers : Type 0 where
    no_items : Initialisers
    more_items : Initialiser → Initialisers → Initialisers

-- a declarator of a declaration: the number of what it declares, whether it defines an object, and its initialiser (6.7)
pub record Declarator : Type 0 where
  pub declared : ℕ
  pub defines : Bool
  pub initialiser : Option Initialiser

-- the form of a node, and what it has beside the trees below it. A number that names a declaration is its place in the list of all
pub data Label : Type 0 where
  -- expressions (6.5)
  -- a constant: its value (6.4.4)
  number : ℤ → Label
  -- an enumerator: its declaration
  enumerator : ℕ → Label
  -- a string literal: its bytes without the closing 0, and the number of its unit (6.4.5)
  literal : List ℕ → ℕ → Label
  -- the name of an object, or of a function: its declaration (6.5.1)
  object : ℕ → Label
  function : ℕ → Label
  -- the value of what an lvalue designates (6.3.2.1p2), and the pointer to the first element of an array (6.3.2.1p3)
  read : Label
  decay : Label
  -- a conversion to the node's type (6.3, 6.5.4). Below it: the operand, then the trees of the type name
  convert : Label
  -- unary & and * (6.5.3.2)
  address : Label
  follow : Label
  -- a member, by its number from 0 (6.5.2.3)
  member : ℕ → Label
  -- unary + - ~ ! (6.5.3.3)
  unary : Sign → Label
  -- a binary operator (6.5.5 to 6.5.12)
  binary : Op → Label
  -- && and || (6.5.13, 6.5.14)
  both : Label
  either : Label
  -- ?: (6.5.15), and the comma (6.5.17)
  choose : Label
  comma : Label
  -- = (6.5.16.1)
  store : Label
  -- a compound assignment: its operator, and the type in which it works (6.5.16.2)
  update : Op → CType → Label
  -- ++ or --: whether it adds, and whether it stands before its operand (6.5.2.4, 6.5.3.1)
  count : Bool → Bool → Label
  -- a call. Below it: the function, then the arguments (6.5.2.2)
  call : Label
  -- sizeof of an expression, which is below it, and of a type. Below that: the trees of the type name (6.5.3.4)
  sizeof_tree : Label
  sizeof_kind : CType → Label
  -- statements (6.8)
  -- a block: its items
  block : Label
  -- a declaration: how many trees of array lengths and enumerator values it has, and its declarators. Below it: these trees, then the
  -- expressions of the initialisers
  declare : ℕ → List Declarator → Label
  -- an expression statement, and the empty one (6.8.3)
  full : Label
  empty : Label
  -- if. Below it: the condition, the statement, and that of else, where there is one (6.8.4.1)
  if_statement : Label
  -- switch. Below it: the operand, then the items of its block (6.8.4.2)
  switch : Label
  -- case, with its value and its statement, and default, with its statement (6.8.1)
  case : Label
  default : Label
  -- while, with condition and body, and do, with body and condition (6.8.5)
  while_loop : Label
  do_loop : Label
  -- for: which of its first three parts are there. Below it: those that are, then the body (6.8.5.3)
  for_loop : Bool → Bool → Bool → Label
  -- break and continue (6.8.6.2, 6.8.6.3)
  break : Label
  continue : Label
  -- return. Below it: the value, where it has one (6.8.6.4)
  return : Label

-- where a node stands among the tokens: without parentheses round it, with all of them, and the place of the first token without
pub record Spans : Type 0 where
  pub inner : Span
  pub outer : Span
  pub place : Place

mutual
  -- a node: its form, its type (void for a statement), where it stands, and the trees below it
  pub data Tree : Type 0 where
    node : Label → CType → Spans → Trees → Tree

  -- trees in order
  pub data Trees : Type 0 where
    no_trees : Trees
    more_trees : Tree → Trees → Trees

-- the four parts of a node
abbrev pub label_of : Tree → Label
label_of (node label kind spans parts) = label

abbrev pub kind_of : Tree → CType
kind_of (node label kind spans parts) = kind

abbrev pub spans_of : Tree → Spans
spans_of (node label kind spans parts) = spans

abbrev pub trees_of : Tree → Trees
trees_of (node label kind spans parts) = parts

-- trees as a list, and back
abbrev pub listed : Trees → List Tree
listed no_trees = []
listed (more_trees first rest) = first ∷ listed rest

abbrev pub trees : List Tree → Trees
trees [] = no_trees
trees (first ∷ rest) = more_trees first (trees rest)

-- the parts of a node: the trees directly below it
abbrev pub parts_of : Tree → List Tree
parts_of whole = listed (trees_of whole)

-- the forms that are statements and declarations
abbrev pub is_statement : Label → Bool
is_statement block = true
is_statement (declare lengths declarators) = true
is_statement full = true
is_statement empty = true
is_statement if_statement = true
is_statement switch = true
is_statement case = true
is_statement default = true
is_statement while_loop = true
is_statement do_loop = true
is_statement (for_loop first second third) = true
is_statement break = true
is_statement continue = true
is_statement return = true
is_statement other = false

abbrev mutual
  -- how many expressions an initialiser has
  pub expressions_in : Initialiser → ℕ
  expressions_in one_expression = 1
  expressions_in (in_braces items) = expressions_in_items items

  pub expressions_in_items : Initialisers → ℕ
  expressions_in_items no_items = 0
  expressions_in_items (more_items first rest) = expressions_in first + expressions_in_items rest

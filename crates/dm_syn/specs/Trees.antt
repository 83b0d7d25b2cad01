-- The trees of the grammar of 6.5 to 6.9. A number in a tree is the position of a token, unless said otherwise; a span is that of
-- the node's own tokens.
use Rattle.std.specs.Prelude.{ℕ, Bool, List, Option}
use Rattle.dm_token.specs.declared.place.Span.{Span}

mutual
  -- an expression (6.5)
  pub data Expr : Type 0 where
    name : Span → Expr
    constant : Span → Expr
    literal : Span → Expr
    paren : Span → Expr → Expr
    index : Span → Expr → Expr → Expr
    call : Span → Expr → Exprs → Expr
    member : Span → Expr → ℕ → Expr
    arrow : Span → Expr → ℕ → Expr
    postfix : Span → Expr → ℕ → Expr
    prefix : Span → ℕ → Expr → Expr
    sizeof_expr : Span → Expr → Expr
    sizeof_name : Span → TypeName → Expr
    cast : Span → TypeName → Expr → Expr
    binary : Span → Expr → ℕ → Expr → Expr
    conditional : Span → Expr → Expr → Expr → Expr
    assign : Span → Expr → ℕ → Expr → Expr
    comma : Span → Exprs → Expr

  pub data Exprs : Type 0 where
    no_exprs : Exprs
    more_exprs : Expr → Exprs → Exprs

  -- a type name (6.7.7)
  pub data TypeName : Type 0 where
    type_name : Span → Specifiers → Declarator → TypeName

  -- specifiers and qualifiers (6.7, 6.7.2.1)
  pub data Specifiers : Type 0 where
    listed : Span → Words → Specifiers

  pub data Words : Type 0 where
    no_words : Words
    more_words : Specifier → Words → Words

  -- one of them: a keyword, a typedef name, or `struct` or `enum` with a tag, if there is one, and with content or without
  pub data Specifier : Type 0 where
    keyword : ℕ → Specifier
    typedef_name : ℕ → Specifier
    struct_only : Span → Option ℕ → Specifier
    struct_with : Span → Option ℕ → Members → Specifier
    enum_only : Span → Option ℕ → Bool → Specifier
    enum_with : Span → Option ℕ → Enumerators → Bool → Specifier

  -- the declarations of a struct's members (6.7.2.1)
  pub data Members : Type 0 where
    no_members : Members
    more_members : Member → Members → Members

  pub data Member : Type 0 where
    members : Span → Specifiers → Declarators → Member

  pub data Declarators : Type 0 where
    no_declarators : Declarators
    more_declarators : Declarator → Declarators → Declarators

  -- enumerators, without and with a value (6.7.2.2)
  pub data Enumerators : Type 0 where
    no_enumerators : Enumerators
    more_enumerators : Enumerator → Enumerators → Enumerators

  pub data Enumerator : Type 0 where
    bare : Span → ℕ → Enumerator
    valued : Span → ℕ → Expr → Enumerator

  -- a declarator: for each `*` the number of `const` behind it, and what stands behind the pointers (6.7.6, 6.7.7)
  pub data Declarator : Type 0 where
    shaped : Span → List ℕ → Direct → Declarator

  -- nothing, the declared identifier, a declarator in parentheses, an array without and with a length, a function
  pub data Direct : Type 0 where
    absent : Direct
    declared : ℕ → Direct
    enclosed : Declarator → Direct
    array : Direct → Direct
    sized : Direct → Expr → Direct
    function : Direct → Parameters → Direct

  pub data Parameters : Type 0 where
    no_parameters : Parameters
    more_parameters : Parameter → Parameters → Parameters

  -- the declaration of a parameter (6.7.6.3)
  pub data Parameter : Type 0 where
    parameter : Span → Specifiers → Declarator → Parameter

mutual
  -- an initialiser: an expression, or a list in braces with a comma before the closing brace or without (6.7.9)
  pub data Initialiser : Type 0 where
    value : Span → Expr → Initialiser
    braces : Span → Initialisers → Bool → Initialiser

  pub data Initialisers : Type 0 where
    no_initialisers : Initialisers
    more_initialisers : Initialiser → Initialisers → Initialisers

-- a declarator of a declaration, without and with an initialiser (6.7)
pub data Item : Type 0 where
  plain : Span → Declarator → Item
  initialised : Span → Declarator → Initialiser → Item

-- a declaration (6.7)
pub data Declaration : Type 0 where
  declaring : Span → Specifiers → List Item → Declaration

-- the first clause of a `for` (6.8.5.3)
pub data ForStart : Type 0 where
  declares : Declaration → ForStart
  evaluates : Option Expr → ForStart

mutual
  -- a statement (6.8)
  pub data Stmt : Type 0 where
    block : Span → BlockItems → Stmt
    expression : Span → Option Expr → Stmt
    if_only : Span → Expr → Stmt → Stmt
    if_else : Span → Expr → Stmt → Stmt → Stmt
    switch : Span → Expr → SwitchItems → Stmt
    while : Span → Expr → Stmt → Stmt
    do_while : Span → Stmt → Expr → Stmt
    for_loop : Span → ForStart → Option Expr → Option Expr → Stmt → Stmt
    break : Span → Stmt
    continue : Span → Stmt
    return : Span → Option Expr → Stmt

  -- what stands in a block (6.8.2)
  pub data BlockItems : Type 0 where
    no_items : BlockItems
    more_items : BlockItem → BlockItems → BlockItems

  pub data BlockItem : Type 0 where
    declared_item : Declaration → BlockItem
    stated_item : Stmt → BlockItem

  -- what stands in the braces of a `switch` (6.8.4.2)
  pub data SwitchItems : Type 0 where
    no_switch_items : SwitchItems
    more_switch_items : SwitchItem → SwitchItems → SwitchItems

  -- a statement with labels (6.8.1)
  pub data SwitchItem : Type 0 where
    case : Span → Expr → SwitchItem → SwitchItem
    default : Span → SwitchItem → SwitchItem
    unlabelled : Span → Stmt → SwitchItem

-- an external declaration (6.9)
pub data External : Type 0 where
  external : Span → Declaration → External
  definition : Span → Specifiers → Declarator → Stmt → External

-- What a translation unit declares, and its external declarations in order (6.9), as contracts see them.
use Rattle.std.specs.Prelude.{ℕ, List}
use Rattle.dm_token.specs.declared.place.Place.{Place}
use Rattle.dm_token.specs.declared.place.Span.{Span}
use Rattle.dm_type.specs.CTypes.{CType}
use Rattle.dm_tree.specs.declared.unit.Sort.{Sort}
use Rattle.dm_tree.specs.declared.unit.Linkage.{Linkage}
use Rattle.dm_tree.specs.Trees.{Declarator, Tree}

-- an entry of the list of declarations: all declarations of one entity with linkage share one
pub record Declaration : Type 0 where
  pub name : List ℕ
  pub sort : Sort
  pub kind : CType
  pub linkage : Linkage
  pub place : Place

-- an external declaration: its declarators with the expressions of their initialisers, or the definition of a function with the numbers
-- of the function and of its parameters, and its body (6.9)
pub data ExternalForm : Type 0 where
  declares : List Declarator → List Tree → ExternalForm
  defines_function : ℕ → List ℕ → Tree → ExternalForm

-- an external declaration, with its span and the trees of its array lengths and enumerator values
pub record External : Type 0 where
  pub span : Span
  pub constants : List Tree
  pub form : ExternalForm

-- a translation unit
pub record TypedUnit : Type 0 where
  pub declared : List Declaration
  pub externals : List External

-- The nodes of typed trees.
--     EachNode P tree      each node of a tree stands at such spans
--     StandsIn source extents spans      the spans are those of a piece of syntax among these, and their place is that of its first token
--     IsOf source one made      an external declaration has the span of the syntax, and each node of its trees stands at a node of it
--     AreOf source externals all      so have these in their order
use Rattle.std.specs.Prelude.{◌≡◌, ℕ, List, [], ◌∷◌, ◌++◌, Some, slice_get}
use Rattle.std.specs.List.{AllByRecursion}
use Rattle.dm_syn.specs.Sources.{Source}
use Rattle.dm_syn.specs.Spans.{external_span}
use Rattle.dm_syn.specs.Trees.{External}
use Rattle.dm_tree.specs.Trees.{Spans, Tree, Trees, node, no_trees, more_trees}
use Rattle.dm_tree.specs.Units as unit
use Rattle.dm_typing.specs.declared.extent.Extent.{Extent}
use Rattle.dm_typing.specs.Conversions.{spans_at}
use Rattle.dm_nodes.specs.Syntax.{in_external}

abbrev mutual
  pub EachNode : (Spans → Type 0) → Tree → Type 0
  EachNode P (node label kind spans parts) = P spans × EachNodeIn P parts

  pub EachNodeIn : (Spans → Type 0) → Trees → Type 0
  EachNodeIn P no_trees = Unit {0}
  EachNodeIn P (more_trees first rest) = EachNode P first × EachNodeIn P rest

abbrev pub StandsIn : Source → List Extent → Spans → Type 0
StandsIn source extents spans = (k : ℕ) × (one : Extent) × (slice_get extents k ≡ Some one) × (spans ≡ spans_at source one)

-- the expressions of initialisers, or the body of a function
abbrev pub trees_in : unit.ExternalForm → List Tree
trees_in (unit.declares declarators expressions) = expressions
trees_in (unit.defines_function number parameters body) = body ∷ []

abbrev pub IsOf : Source → External → unit.External → Type 0
IsOf source one made =
    (made.span ≡ external_span one) × AllByRecursion (EachNode (StandsIn source (in_external one))) (made.constants ++ trees_in made.form)

abbrev pub AreOf : Source → List External → List unit.External → Type 0
AreOf source [] [] = Unit {0}
AreOf source (first ∷ others) (made ∷ more) = IsOf source first made × AreOf source others more
AreOf source externals all = ⊥

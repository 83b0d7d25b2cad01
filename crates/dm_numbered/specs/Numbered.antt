-- That the names of a unit are numbered as its typing numbers them (6.2.1).
--     Means all at number      the identifier at a token means the entry of this number
--     IsMeant all label spans      a node that names an object, a function or an enumerator stands at an identifier that means it
--     AreMeant all externals      so does each node of the trees of these external declarations
--     ArePlain tokens all      none of these identifiers begins with `#`, tags apart
--     ArePlainTokens tokens      no token that is an identifier does, as 6.4.2.1 has it
use Rattle.std.specs.Prelude.{◌≡◌, ◌==◌, ℕ, Bool, false, List, [], ◌∷◌, ◌++◌, Some, find, slice_get}
use Rattle.std.specs.List.{AllByRecursion}
use Rattle.dm_token.specs.declared.token.Class.TheVariants as class
use Rattle.dm_token.specs.declared.token.CToken.{CToken}
use Rattle.dm_syn.specs.Sources.{spelling_of_token}
use Rattle.dm_tree.specs.Trees.{Label, object, function, enumerator, Spans, Tree, Trees, node, no_trees, more_trees}
use Rattle.dm_tree.specs.Units.{External, ExternalForm, declares, defines_function}
use Rattle.dm_names.specs.declared.identifier.Identifier.{Identifier}
use Rattle.dm_names.specs.Meanings.{is_at}

-- as `meaning_at` finds it
abbrev pub Means : List Identifier → ℕ → ℕ → Type 0
Means all at number = find (is_at at) all ≡ Some (record { at = at; tag = false; number = Some number })

-- 6.5.1
abbrev pub IsMeant : List Identifier → Label → Spans → Type 0
IsMeant all (object number) spans = Means all spans.inner.first number
IsMeant all (function number) spans = Means all spans.inner.first number
IsMeant all (enumerator number) spans = Means all spans.inner.first number
IsMeant all label spans = Unit {0}

abbrev mutual
  pub EachMeant : List Identifier → Tree → Type 0
  EachMeant all (node label kind spans parts) = IsMeant all label spans × EachMeantIn all parts

  pub EachMeantIn : List Identifier → Trees → Type 0
  EachMeantIn all no_trees = Unit {0}
  EachMeantIn all (more_trees first rest) = EachMeant all first × EachMeantIn all rest

-- the expressions of initialisers, or the body of a function
abbrev pub trees_in : ExternalForm → List Tree
trees_in (declares declarators expressions) = expressions
trees_in (defines_function number parameters body) = body ∷ []

abbrev pub AreMeant : List Identifier → List External → Type 0
AreMeant all externals = AllByRecursion (λ (one : External). AllByRecursion (EachMeant all) (one.constants ++ trees_in one.form)) externals

-- ---- spellings

abbrev pub is_hash : List ℕ → Bool
is_hash [] = false
is_hash (byte ∷ bytes) = byte == 35

abbrev pub ArePlain : List CToken → List Identifier → Type 0
ArePlain tokens all = (k : ℕ) (one : Identifier) → slice_get all k ≡ Some one → one.tag ≡ false → is_hash (spelling_of_token (slice_get tokens one.at)) ≡ false

abbrev pub ArePlainTokens : List CToken → Type 0
ArePlainTokens tokens = (at : ℕ) (token : CToken) → slice_get tokens at ≡ Some token → token.class ≡ class.Identifier → is_hash token.spelling ≡ false

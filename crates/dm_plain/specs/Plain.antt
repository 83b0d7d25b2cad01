-- Type names whose array lengths and enumerator values name no automatic object. In file scope none is in scope (6.2.1p4), and so none is named there.
--     NamesNoLocal automatic tree      no node names such an object
--     AreTypesPlain automatic tree      no array length or enumerator's value in a type name does
--     HasPlainTypes unit tree      so it is of the automatic objects of a unit
--     HasPlainBody unit form      so it is of the body of a function
use Rattle.std.specs.Prelude.{◌≡◌, ℕ, Bool, false}
use Rattle.dm_tree.specs.Trees.{Label, object, convert, sizeof_kind, Tree, Trees, node, no_trees, more_trees}
use Rattle.dm_tree.specs.Units.{ExternalForm, declares, defines_function, TypedUnit}
use Rattle.dm_effect.specs.Scoped.{is_automatic}

-- no node names an automatic object
abbrev pub IsNoLocal : (ℕ → Bool) → Label → Type 0
IsNoLocal automatic (object d) = automatic d ≡ false
IsNoLocal automatic label = Unit {0}

abbrev mutual
  pub NamesNoLocal : (ℕ → Bool) → Tree → Type 0
  NamesNoLocal automatic (node label kind spans parts) = IsNoLocal automatic label × NameNoLocal automatic parts

  pub NameNoLocal : (ℕ → Bool) → Trees → Type 0
  NameNoLocal automatic no_trees = Unit {0}
  NameNoLocal automatic (more_trees first rest) = NamesNoLocal automatic first × NameNoLocal automatic rest

-- the lengths and enumerator values of a type name stand behind the operand of a conversion, and are all parts of sizeof of a type
abbrev pub TypeNamesNone : (ℕ → Bool) → Label → Trees → Type 0
TypeNamesNone automatic convert (more_trees operand lengths) = NameNoLocal automatic lengths
TypeNamesNone automatic (sizeof_kind type) lengths = NameNoLocal automatic lengths
TypeNamesNone automatic label parts = Unit {0}

abbrev mutual
  pub AreTypesPlain : (ℕ → Bool) → Tree → Type 0
  AreTypesPlain automatic (node label kind spans parts) = TypeNamesNone automatic label parts × AllTypesPlain automatic parts

  pub AllTypesPlain : (ℕ → Bool) → Trees → Type 0
  AllTypesPlain automatic no_trees = Unit {0}
  AllTypesPlain automatic (more_trees first rest) = AreTypesPlain automatic first × AllTypesPlain automatic rest

abbrev pub HasPlainTypes : TypedUnit → Tree → Type 0
HasPlainTypes one tree = AreTypesPlain (is_automatic one.declared) tree

abbrev pub HasPlainBody : TypedUnit → ExternalForm → Type 0
HasPlainBody one (defines_function f parameters body) = HasPlainTypes one body
HasPlainBody one (declares declarators trees) = Unit {0}

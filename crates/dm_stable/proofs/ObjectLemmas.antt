-- What is found in a unit by a deed is what its definition says.
use Rattle.std.proofs.Common.{◌≡◌, ℕ, Bool, true, false, ◌||◌, List, [], ◌∷◌, map, refl, ap, sym, ◌∙◌}
use Rattle.std.specs.List.{list_any}
use Rattle.std.specs.Prelude.{flat_map}
use Rattle.std.proofs.lemmas.List.Folds.{list_any-append}
use mathlib.Core.Path.{fun_ext}
use Rattle.dm_type.specs.Tables.{Table}
use Rattle.dm_tree.specs.declared.tree.Local.{Local as CoreLocal}
use Rattle.dm_tree.specs.declared.unit.CoreExternalForm.TheVariants as code
use Rattle.dm_tree.specs.Trees.{Tree, spans_of}
use Rattle.dm_tree.specs.Units.{External, TypedUnit}
use Rattle.dm_tree.specs.Views.{view_of_form, view_of_local}
use Rattle.dm_meaning.specs.Statements.{Local}
use Rattle.dm_effect.specs.Entities.{addresses_here, is_addressed, locals_here, locals_of_external, locals_of_form, locals_of_unit, nodes_of_external}
use Rattle.dm_effect.specs.Questions.{as_local}
use Rattle.dm_effect.specs.Safe.{defines_here, has_parameter, initialises_apart, is_defined, is_initialised, is_parameter}
use Rattle.dm_effect.proofs.ExternalLemmas.{any-flat, declared-found}
use Rattle.dm_stable.specs.Marks.{Deed, Addresses, Defines, Initialises, Receives, does, does_local, found, own}

none-any : {X : Type 0} (all : List X) → list_any (λ x. false) all ≡ false
none-any [] = refl
none-any (x ∷ all) = none-any all

or-none : (b : Bool) → (b || false) ≡ b
or-none true = refl
or-none false = refl

-- ---- what a node does

node-addresses : (d token : ℕ) (tree : Tree) → does Addresses d token tree ≡ addresses_here d tree
node-addresses d token tree = ap (λ b. addresses_here d tree || b) (none-any (locals_here tree)) ∙ or-none (addresses_here d tree)

node-receives : (d token : ℕ) (tree : Tree) → does Receives d token tree ≡ false
node-receives d token tree = none-any (locals_here tree)

-- ---- what an external declaration does

module _ (types : Table) (d token : ℕ) where
  one-addresses : (one : External) → found Addresses d token one ≡ list_any (addresses_here d) (nodes_of_external one)
  one-addresses one =
      ap (λ b. b || list_any (does Addresses d token) (nodes_of_external one)) (none-any (locals_of_form one.form))
      ∙ ap (λ test. list_any test (nodes_of_external one)) (fun_ext (node-addresses d token))

  one-receives : (one : External) → found Receives d token one ≡ has_parameter d one.form
  one-receives one =
      ap (λ b. has_parameter d one.form || b) (ap (λ test. list_any test (nodes_of_external one)) (fun_ext (node-receives d token)) ∙ none-any (nodes_of_external one)) ∙ or-none (has_parameter d one.form)

  pub own-declares : (deed : Deed) (locals : List CoreLocal) → list_any (does_local deed d token) (map as_local (map (view_of_local types) locals)) ≡ own deed d token (view_of_form types (code.Declaration locals))
  own-declares Addresses locals = sym (declared-found types (does_local Addresses d token) locals)
  own-declares Defines locals = sym (declared-found types (does_local Defines d token) locals)
  own-declares Initialises locals = sym (declared-found types (does_local Initialises d token) locals)
  own-declares Receives locals = none-any (map as_local (map (view_of_local types) locals))

-- ---- a unit

locals-found : (test : Local → Bool) (one : External)
    → list_any test (locals_of_external one) ≡ (list_any test (locals_of_form one.form) || list_any (λ tree. list_any test (locals_here tree)) (nodes_of_external one))
locals-found test one =
    list_any-append test (locals_of_form one.form) (flat_map locals_here (nodes_of_external one))
    ∙ ap (λ b. list_any test (locals_of_form one.form) || b) (any-flat test locals_here (nodes_of_external one))

module _ (types : Table) (one : TypedUnit) (d token : ℕ) where
  pub addresses-noted : list_any (found Addresses d token) one.externals ≡ is_addressed one d
  addresses-noted = ap (λ test. list_any test one.externals) (fun_ext (one-addresses types d token)) ∙ sym (any-flat (addresses_here d) nodes_of_external one.externals)

  locals-noted : (test : Local → Bool) → list_any (λ (external : External). list_any test (locals_of_form external.form) || list_any (λ tree. list_any test (locals_here tree)) (nodes_of_external external)) one.externals
      ≡ list_any test (locals_of_unit one)
  locals-noted test = sym (any-flat test locals_of_external one.externals ∙ ap (λ found. list_any found one.externals) (fun_ext (locals-found test)))

  pub definitions-noted : list_any (found Defines d token) one.externals ≡ is_defined one d
  definitions-noted = locals-noted (defines_here d)

  pub parameters-noted : list_any (found Receives d token) one.externals ≡ is_parameter one d
  parameters-noted = ap (λ test. list_any test one.externals) (fun_ext (one-receives types d token))

  pub starts-noted : list_any (found Initialises d token) one.externals ≡ list_any (initialises_apart token d) (locals_of_unit one)
  starts-noted = locals-noted (initialises_apart token d)

pub initialisers-noted : (types : Table) (one : TypedUnit) (argument : Tree) (d : ℕ) → list_any (found Initialises d (spans_of argument).inner.first) one.externals ≡ is_initialised one argument d
initialisers-noted types one argument d = starts-noted types one d (spans_of argument).inner.first

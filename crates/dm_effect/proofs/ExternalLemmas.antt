-- What is asked of external declarations, part by part.
use Rattle.std.proofs.Common.{◌≡◌, ℕ, Bool, ◌||◌, List, [], ◌∷◌, ◌++◌, map, append-nil, refl, ap, ◌∙◌}
use Rattle.std.specs.List.{list_any}
use Rattle.std.specs.Prelude.{flat_map}
use Rattle.std.proofs.lemmas.List.Folds.{list_any-append}
use mathlib.Core.Path.{fun_ext}
use Rattle.dm_type.specs.Tables.{Table}
use Rattle.dm_tree.specs.declared.tree.Core.{Core}
use Rattle.dm_tree.specs.declared.tree.Local.{Local as CoreLocal}
use Rattle.dm_tree.specs.declared.unit.CoreExternalForm.TheVariants as code
use Rattle.dm_tree.specs.Paths.{all_in, all_in_trees}
use Rattle.dm_tree.specs.Trees.{Tree, trees}
use Rattle.dm_tree.specs.Units.{External, TypedUnit}
use Rattle.dm_tree.specs.Views.{view, view_of_form, view_of_local}
use Rattle.dm_meaning.specs.Statements.{Local}
use Rattle.dm_effect.specs.declared.question.Question.{Question}
use Rattle.dm_effect.specs.declared.question.Question.TheVariants as question
use Rattle.dm_effect.specs.Entities.{addresses_here, is_addressed, locals_here, locals_of_external, locals_of_form, nodes_of_external, trees_in_form}
use Rattle.dm_effect.specs.Externals.{is_found}
use Rattle.dm_effect.specs.Questions.{answer, as_local, is_asked}
use Rattle.dm_effect.specs.Safe.{defines_here, initialises_apart, is_defined}
use Rattle.dm_effect.proofs.DeclaratorLemmas.{locals-with}
use Rattle.dm_effect.proofs.WalkLemmas.{nodes-append}

-- ---- one of what several give

pub any-flat : {X Y : Type 0} (test : Y → Bool) (each : X → List Y) (all : List X) → list_any test (flat_map each all) ≡ list_any (λ x. list_any test (each x)) all
any-flat test each [] = refl
any-flat test each (x ∷ all) = list_any-append test (each x) (flat_map each all) ∙ ap (λ b. list_any test (each x) || b) (any-flat test each all)

pub trees-nodes : (all : List Tree) → flat_map all_in all ≡ all_in_trees (trees all)
trees-nodes [] = refl
trees-nodes (first ∷ all) = ap (λ nodes. all_in first ++ nodes) (trees-nodes all)

-- ---- an external declaration

pub nodes-found : (types : Table) (question : Question) (one : External)
    → list_any (answer types question) (nodes_of_external one) ≡ (is_asked types question one.constants || is_asked types question (trees_in_form one.form))
nodes-found types question one =
    ap (list_any (answer types question)) (trees-nodes (one.constants ++ trees_in_form one.form)) ∙ nodes-append (answer types question) one.constants (trees_in_form one.form)

pub body-found : (types : Table) (question : Question) (body : Core) → is_asked types question (view types body ∷ []) ≡ list_any (answer types question) (all_in (view types body))
body-found types question body = ap (list_any (answer types question)) (append-nil (all_in (view types body)))

locals-found : (test : Local → Bool) (one : External)
    → list_any test (locals_of_external one) ≡ (list_any test (locals_of_form one.form) || list_any (λ tree. list_any test (locals_here tree)) (nodes_of_external one))
locals-found test one =
    list_any-append test (locals_of_form one.form) (flat_map locals_here (nodes_of_external one))
    ∙ ap (λ b. list_any test (locals_of_form one.form) || b) (any-flat test locals_here (nodes_of_external one))

pub declared-found : (types : Table) (test : Local → Bool) (locals : List CoreLocal)
    → list_any test (locals_of_form (view_of_form types (code.Declaration locals))) ≡ list_any test (map as_local (map (view_of_local types) locals))
declared-found types test locals = ap (list_any test) (locals-with types locals)

-- ---- a unit

module _ (types : Table) (one : TypedUnit) (d : ℕ) where
  pub addresses-found : is_addressed one d ≡ list_any (is_found types (question.Addresses d)) one.externals
  addresses-found = any-flat (addresses_here d) nodes_of_external one.externals

  locals-of-all : (test : Local → Bool) → list_any test (flat_map locals_of_external one.externals)
      ≡ list_any (λ (external : External). list_any test (locals_of_form external.form) || list_any (λ tree. list_any test (locals_here tree)) (nodes_of_external external)) one.externals
  locals-of-all test = any-flat test locals_of_external one.externals ∙ ap (λ found. list_any found one.externals) (fun_ext (λ external. locals-found test external))

  pub definitions-found : is_defined one d ≡ list_any (is_found types (question.Defines d)) one.externals
  definitions-found = locals-of-all (defines_here d)

  pub initialisers-found : (token : ℕ) → list_any (initialises_apart token d) (flat_map locals_of_external one.externals) ≡ list_any (is_found types (question.Initialises d token)) one.externals
  initialisers-found token = locals-of-all (initialises_apart token d)

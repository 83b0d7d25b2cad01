-- The trees at the places of a typed unit are expressions throughout.
use Rattle.std.proofs.Common.{ℕ, not, List, [], ◌∷◌, Option, Some, None, slice_get, All, IfSome, IsSome, ap}
use Rattle.std.proofs.lemmas.List.Elements.{All-head, All-tail}
use Rattle.dm_type.specs.CTypes.{CType, function as function_type}
use Rattle.dm_type.specs.Tables.{Table}
use Rattle.dm_tree.specs.declared.unit.CoreUnit.{CoreUnit}
use Rattle.dm_tree.specs.Scenes.{Scene}
use Rattle.dm_tree.specs.Trees.{Label, Spans, Tree, Trees, node, no_trees, more_trees, listed}
use Rattle.dm_tree.specs.TypeNumbers.{IsTypedUnit}
use Rattle.dm_tree.specs.Typing.{IsWellTyped, AreWellTyped, inside, file_scene, body_scene, AllWellTyped, DefinitionFits, FunctionFits, FormFits, ExternalFits}
use Rattle.dm_tree.specs.Units.{Declaration, External, ExternalForm, declares, defines_function}
use Rattle.dm_tree.specs.Views.{view_of_unit}
use Rattle.dm_meaning.proofs.WholeLemmas.{typed-expression}
use Rattle.dm_effect.specs.Entities.{trees_in_form}
use Rattle.dm_sites.specs.Sites.{sites_of_unit}
use Rattle.dm_sites.proofs.LeadLemmas.{fit-at, unit-fits}
use Rattle.dm_around.specs.Places.{ArePlain}
use Rattle.dm_around.proofs.HeritageLemmas.{AllHave, EachHave, have-append, have-at, sites-have}

abbrev Has : Tree → Type 0
Has tree = (scene : Scene) × IsWellTyped scene tree

parts-have : (scene : Scene) (parts : Trees) → AreWellTyped scene parts → AllHave Has (listed parts)
parts-have scene no_trees h = tt
parts-have scene (more_trees first rest) h = ((scene, h.0), parts-have scene rest h.1)

below : (label : Label) (kind : CType) (spans : Spans) (parts : Trees) → Has (node label kind spans parts) → AllHave Has (listed parts)
below label kind spans parts h = parts-have (inside h.0 label (listed parts)) parts h.1.1

list-have : (scene : Scene) (trees : List Tree) → AllWellTyped scene trees → AllHave Has trees
list-have scene [] h = tt
list-have scene (tree ∷ trees) h = ((scene, All-head (IsWellTyped scene) tree trees h), list-have scene trees (All-tail (IsWellTyped scene) tree trees h))

definition-has : (scene : Scene) (parameters : List ℕ) (body : Tree) (kind : CType) → DefinitionFits scene parameters body kind → Has body
definition-has scene parameters body (function_type result types) h = (body_scene scene result, h.2)
definition-has scene parameters body kind h = absurd h

entry-has : (scene : Scene) (parameters : List ℕ) (body : Tree) (found : Option Declaration) → IfSome found (FunctionFits scene parameters body) → IsSome found → Has body
entry-has scene parameters body None h some = absurd (cc)
entry-has scene parameters body (Some entry) h some = definition-has scene parameters body entry.kind h.1

form-has : (scene : Scene) (form : ExternalForm) → FormFits scene form → AllHave Has (trees_in_form form)
form-has scene (declares declarators trees) h = list-have scene trees h.0
form-has scene (defines_function at parameters body) h = (entry-has scene parameters body (slice_get scene.declared at) h.0 h.1, tt)

externals-have : (scene : Scene) (declared : List Declaration) (externals : List External) → All (ExternalFits scene) externals → EachHave Has below declared externals
externals-have scene declared [] h = tt
externals-have scene declared (one ∷ externals) h =
    let fits = All-head (ExternalFits scene) one externals h in (
      have-append Has one.constants (trees_in_form one.form) (list-have scene one.constants fits.0) (form-has scene one.form fits.2),
      externals-have scene declared externals (All-tail (ExternalFits scene) one externals h),
    )

pub typed-plain : (types : Table) (one : CoreUnit) → IsTypedUnit types one → ArePlain (sites_of_unit (view_of_unit types one))
typed-plain types one typed n site there =
    let unit = view_of_unit types one in
    let has = have-at Has (sites_of_unit unit) n site (sites-have Has below unit.declared unit.externals (externals-have (file_scene types unit.declared) unit.declared unit.externals typed.typed.externals)) there in
    typed-expression has.0 site.tree has.1 (ap not (fit-at (sites_of_unit unit) n site (unit-fits unit) there).1)

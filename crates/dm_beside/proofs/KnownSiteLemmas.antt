-- The numbers of types in the trees at the places of a typed unit are those of its types.
use Rattle.std.proofs.Common.{◌≡◌, ℕ, true, ◌&&◌, List, [], ◌∷◌, map, length, Some, slice_get, IsTrue, sym, ◌∙◌}
use Rattle.std.specs.List.{list_all}
use Rattle.std.proofs.lemmas.Bool.{and_parts}
use Rattle.dm_type.specs.CTypes.{CType}
use Rattle.dm_type.specs.Tables.{Table}
use Rattle.dm_tree.specs.declared.tree.Core.{Core}
use Rattle.dm_tree.specs.declared.tree.Local.{Local}
use Rattle.dm_tree.specs.declared.unit.CoreExternal.{CoreExternal}
use Rattle.dm_tree.specs.declared.unit.CoreExternalForm.{CoreExternalForm}
use Rattle.dm_tree.specs.declared.unit.CoreExternalForm.TheVariants as code
use Rattle.dm_tree.specs.declared.unit.CoreUnit.{CoreUnit}
use Rattle.dm_tree.specs.Trees.{Label, Spans, Tree, Trees, node, no_trees, more_trees, listed}
use Rattle.dm_tree.specs.TypeNumbers.{are_known, are_known_in_local, form_has_known, external_has_known}
use Rattle.dm_tree.specs.Units.{Declaration}
use Rattle.dm_tree.specs.Views.{view, view_of_local, view_of_form, view_of_external, view_of_unit, expressions_of_locals}
use Rattle.dm_effect.specs.Entities.{trees_in_form}
use Rattle.dm_sites.specs.declared.site.Site.{Site as CodeSite}
use Rattle.dm_sites.specs.Seen.{seen}
use Rattle.dm_sites.specs.Sites.{sites_of_unit}
use Rattle.dm_around.proofs.HeritageLemmas.{AllHave, EachHave, have-append, have-at, sites-have}
use Rattle.dm_beside.proofs.KnownLemmas.{ints, all_int, are_all_int, int_label, known-view, known-local}
use Rattle.dm_beside.specs.Places.{is_int}

abbrev Has : Tree → Type 0
Has tree = all_int tree ≡ true

parts-have : (parts : Trees) → are_all_int parts ≡ true → AllHave Has (listed parts)
parts-have no_trees h = tt
parts-have (more_trees first rest) h = let both = and_parts (all_int first) (are_all_int rest) h in (both.0, parts-have rest both.1)

below : (label : Label) (kind : CType) (spans : Spans) (parts : Trees) → Has (node label kind spans parts) → AllHave Has (listed parts)
below label kind spans parts h =
    parts-have parts (and_parts (int_label label) (are_all_int parts) (and_parts (is_int kind) (int_label label && are_all_int parts) h).1).1

list-have : (trees : List Tree) → list_all all_int trees ≡ true → AllHave Has trees
list-have [] h = tt
list-have (tree ∷ trees) h = let both = and_parts (all_int tree) (list_all all_int trees) h in (both.0, list-have trees both.1)

module _ (n : ℕ) where
  cores-have : (cores : List Core) → list_all (are_known n) cores ≡ true → AllHave Has (map (view (ints n)) cores)
  cores-have [] h = tt
  cores-have (core ∷ cores) h =
      let both = and_parts (are_known n core) (list_all (are_known n) cores) h in (sym (known-view n core) ∙ both.0, cores-have cores both.1)

  locals-have : (locals : List Local) → list_all (are_known_in_local n) locals ≡ true → AllHave Has (expressions_of_locals (map (view_of_local (ints n)) locals))
  locals-have [] h = tt
  locals-have (local ∷ locals) h =
      let both = and_parts (are_known_in_local n local) (list_all (are_known_in_local n) locals) h in
      have-append Has (view_of_local (ints n) local).expressions (expressions_of_locals (map (view_of_local (ints n)) locals))
      (list-have (view_of_local (ints n) local).expressions (sym (known-local n local) ∙ both.0)) (locals-have locals both.1)

  form-has : (form : CoreExternalForm) → form_has_known n form ≡ true → AllHave Has (trees_in_form (view_of_form (ints n) form))
  form-has (code.Declaration locals) h = locals-have locals h
  form-has (code.Function function parameters body) h = (sym (known-view n body) ∙ h, tt)

  externals-have : (externals : List CoreExternal) → list_all (external_has_known n) externals ≡ true → (declared : List Declaration) → EachHave Has below declared (map (view_of_external (ints n)) externals)
  externals-have [] h declared = tt
  externals-have (one ∷ externals) h declared =
      let both = and_parts (external_has_known n one) (list_all (external_has_known n) externals) h in
      let parts = and_parts (list_all (are_known n) one.constants) (form_has_known n one.form) both.0 in (
        have-append Has (map (view (ints n)) one.constants) (trees_in_form (view_of_form (ints n) one.form)) (cores-have one.constants parts.0) (form-has one.form parts.1),
        externals-have externals both.1 declared,
      )

pub known-site : (types : Table) (one : CoreUnit) (n : ℕ) (site : CodeSite) → IsTrue (list_all (external_has_known (length types.shapes)) one.externals)
    → ((other : Table) → Some (seen other (sites_of_unit (view_of_unit other one)) site) ≡ slice_get (sites_of_unit (view_of_unit other one)) n) → IsTrue (are_known (length types.shapes) site.tree.now)
known-site types one n site known is =
    let count = length types.shapes in
    let unit = view_of_unit (ints count) one in
    known-view count site.tree.now
    ∙ have-at Has (sites_of_unit unit) n (seen (ints count) (sites_of_unit unit) site)
    (sites-have Has below unit.declared unit.externals (externals-have count one.externals known unit.declared)) (sym (is (ints count)))

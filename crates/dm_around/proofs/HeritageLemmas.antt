-- What all parts of a tree have if it has it, the trees at all places of a unit have if the unit's trees have it.
use Rattle.std.proofs.Common.{◌≡◌, ℕ, Bool, true, false, cond, List, [], ◌∷◌, ◌++◌, map, Some, slice_get, zero, suc, refl, sym, subst}
use Rattle.std.specs.List.{flat_map}
use Rattle.dm_type.specs.CTypes.{CType}
use Rattle.dm_tree.specs.Trees.{Label, Spans, Tree, Trees, node, no_trees, more_trees, listed, is_statement}
use Rattle.dm_tree.specs.Units.{Declaration, External, ExternalForm, declares, defines_function}
use Rattle.dm_meaning.specs.Statements.{with_expressions}
use Rattle.dm_effect.specs.Entities.{trees_in_form, trees_in_external}
use Rattle.dm_sites.specs.Sites.{Site, whole, declarator_sites, part_sites, own_site, sites_in, sites_below, all_sites, form_sites, external_sites}
use Rattle.dm_sites.proofs.LeadLemmas.{IsFront, with-front, front-by}
use Rattle.dm_sites.proofs.PlaceLemmas.{tree_of, declarator-trees}

module _ (Has : Tree → Type 0) where
  abbrev pub AllHave : List Tree → Type 0
  AllHave [] = Unit {0}
  AllHave (tree ∷ trees) = Has tree × AllHave trees

  abbrev pub SitesHave : List Site → Type 0
  SitesHave [] = Unit {0}
  SitesHave (site ∷ sites) = Has site.tree × SitesHave sites

  pub have-append : (front back : List Tree) → AllHave front → AllHave back → AllHave (front ++ back)
  have-append [] back h k = k
  have-append (tree ∷ front) back h k = (h.0, have-append front back h.1 k)

  front-have : (front back : List Tree) → AllHave (front ++ back) → AllHave front
  front-have [] back h = tt
  front-have (tree ∷ front) back h = (h.0, front-have front back h.1)

  in-front : (front all : List Tree) → IsFront front all → AllHave all → AllHave front
  in-front front all is h = front-have front is.0 (subst AllHave (sym is.1) h)

  sites-append : (front back : List Site) → SitesHave front → SitesHave back → SitesHave (front ++ back)
  sites-append [] back h k = k
  sites-append (site ∷ front) back h k = (h.0, sites-append front back h.1 k)

  pub have-at : (sites : List Site) (n : ℕ) (site : Site) → SitesHave sites → slice_get sites n ≡ Some site → Has site.tree
  have-at [] n site h is = absurd (cc)
  have-at (first ∷ sites) zero site h is =
      let same : first ≡ site = cc in subst (λ (one : Site). Has one.tree) same h.0
  have-at (first ∷ sites) (suc n) site h is = have-at sites n site h.1 is

  module _ (below : (label : Label) (kind : CType) (spans : Spans) (parts : Trees) → Has (node label kind spans parts) → AllHave (listed parts)) (declared : List Declaration) where
    own-has : (label : Label) (site : Site) (b : Bool) → is_statement label ≡ b → Has site.tree → SitesHave (cond b [] (site ∷ []))
    own-has label site true is h = tt
    own-has label site false is h = (h, tt)

    mutual
      tree-has : (tree : Tree) (site : Site) → site.tree ≡ tree → Has tree → SitesHave (sites_in declared tree site)
      tree-has (node label kind spans parts) site same h =
          let front = front-by declared site label spans parts (is_statement label) in
          sites-append (own_site label site) (sites_below declared parts (part_sites declared site label spans (listed parts)))
          (own-has label site (is_statement label) refl (subst Has (sym same) h))
          (parts-have parts (part_sites declared site label spans (listed parts)) front (in-front _ (listed parts) front (below label kind spans parts h)))

      parts-have : (trees : Trees) (sites : List Site) → IsFront (map tree_of sites) (listed trees) → AllHave (map tree_of sites) → SitesHave (sites_below declared trees sites)
      parts-have no_trees sites front h = tt
      parts-have (more_trees first rest) [] front h = tt
      parts-have (more_trees first rest) (site ∷ sites) front h =
          let whole : site.tree ∷ (map tree_of sites ++ front.0) ≡ first ∷ listed rest = front.1 in
          let here : site.tree ≡ first = cc in
          let behind : map tree_of sites ++ front.0 ≡ listed rest = cc in
          sites-append (sites_in declared first site) (sites_below declared rest sites) (tree-has first site here (subst Has here h.0)) (parts-have rest sites (front.0, behind) h.1)

    all-have : (sites : List Site) → AllHave (map tree_of sites) → SitesHave (all_sites declared sites)
    all-have [] h = tt
    all-have (site ∷ sites) h = sites-append (sites_in declared site.tree site) (all_sites declared sites) (tree-has site.tree site refl h.0) (all-have sites h.1)

    -- ---- units

    to-trees : (sites : List Site) → SitesHave sites → AllHave (map tree_of sites)
    to-trees [] h = tt
    to-trees (site ∷ sites) h = (h.0, to-trees sites h.1)

    from-trees : (sites : List Site) → AllHave (map tree_of sites) → SitesHave sites
    from-trees [] h = tt
    from-trees (site ∷ sites) h = (h.0, from-trees sites h.1)

    whole-have : (constant fixed : Bool) (trees : List Tree) → AllHave trees → SitesHave (map (whole constant fixed) trees)
    whole-have constant fixed [] h = tt
    whole-have constant fixed (tree ∷ trees) h = (h.0, whole-have constant fixed trees h.1)

    form-have : (form : ExternalForm) → AllHave (trees_in_form form) → SitesHave (form_sites declared form)
    form-have (declares declarators trees) h =
        let locals = with_expressions declarators trees in
        from-trees (declarator_sites declared locals) (subst AllHave (sym (declarator-trees declared locals)) (in-front _ trees (with-front declarators trees) h))
    form-have (defines_function f parameters body) h = (h.0, tt)

    back-have : (front back : List Tree) → AllHave (front ++ back) → AllHave back
    back-have [] back h = h
    back-have (tree ∷ front) back h = back-have front back h.1

    external-have : (one : External) → AllHave (trees_in_external one) → SitesHave (external_sites declared one)
    external-have one h =
        sites-append (map (whole true false) one.constants) (form_sites declared one.form)
        (whole-have true false one.constants (front-have one.constants (trees_in_form one.form) h)) (form-have one.form (back-have one.constants (trees_in_form one.form) h))

    abbrev pub EachHave : List External → Type 0
    EachHave [] = Unit {0}
    EachHave (one ∷ externals) = AllHave (trees_in_external one) × EachHave externals

    externals-have : (externals : List External) → EachHave externals → SitesHave (flat_map (external_sites declared) externals)
    externals-have [] h = tt
    externals-have (one ∷ externals) h = sites-append (external_sites declared one) (flat_map (external_sites declared) externals) (external-have one h.0) (externals-have externals h.1)

    pub sites-have : (externals : List External) → EachHave externals → SitesHave (all_sites declared (flat_map (external_sites declared) externals))
    sites-have externals h = let roots = flat_map (external_sites declared) externals in all-have roots (to-trees roots (externals-have externals h))

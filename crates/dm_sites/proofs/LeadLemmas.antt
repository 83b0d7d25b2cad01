-- The way to a place leads to its tree, which is an expression.
use Rattle.std.proofs.Common.{◌≡◌, ℕ, ◌+◌, zero, suc, Bool, true, false, cond, List, [], ◌∷◌, ◌++◌, map, take, drop, Option, Some, None, slice_get, append_assoc, append-nil, refl, sym, ap, ap₂, subst, ◌∙◌, arith}
use Rattle.std.specs.Prelude.{option_and_then}
use Rattle.std.specs.List.{flat_map}
use Rattle.std.proofs.lemmas.List.{map-append, take-append-drop}
use Rattle.dm_tree.specs.Paths.{Path, tree_in, tree_at}
use Rattle.dm_tree.specs.Trees.{Label, declare, case, Declarator, Spans, Tree, Trees, node, no_trees, more_trees, label_of, trees_of, listed, is_statement}
use Rattle.dm_tree.specs.Units.{Declaration, External, ExternalForm, declares, defines_function, TypedUnit}
use Rattle.dm_meaning.specs.Statements.{Local, expressions_of, with_expressions}
use Rattle.dm_sites.specs.Sites.{Site, whole, initial_sites, declarator_sites, statement_parts, operand_site, operand_sites, part_sites, own_site, sites_in, sites_below, all_sites, form_sites, external_sites, sites_of_unit}
use Rattle.dm_sites.proofs.PlaceLemmas.{tree_of, whole-trees, operand-trees, declarator-trees}

abbrev pub Leads : Site → Type 0
Leads site = tree_at site.path site.full ≡ Some site.tree

abbrev AllLead : List Site → Type 0
AllLead [] = Unit {0}
AllLead (site ∷ sites) = Leads site × AllLead sites

-- and its tree is an expression
abbrev AllFit : List Site → Type 0
AllFit [] = Unit {0}
AllFit (site ∷ sites) = (Leads site × (is_statement (label_of site.tree) ≡ false)) × AllFit sites

lead-append : (front back : List Site) → AllLead front → AllLead back → AllLead (front ++ back)
lead-append [] back h k = k
lead-append (site ∷ front) back h k = (h.0, lead-append front back h.1 k)

fit-append : (front back : List Site) → AllFit front → AllFit back → AllFit (front ++ back)
fit-append [] back h k = k
fit-append (site ∷ front) back h k = (h.0, fit-append front back h.1 k)

pub fit-at : (sites : List Site) (n : ℕ) (site : Site) → AllFit sites → slice_get sites n ≡ Some site → Leads site × (is_statement (label_of site.tree) ≡ false)
fit-at [] n site h is = absurd (cc)
fit-at (first ∷ sites) zero site h is =
    let same : first ≡ site = cc in
    subst (λ (one : Site). Leads one × (is_statement (label_of one.tree) ≡ false)) same h.0
fit-at (first ∷ sites) (suc n) site h is = fit-at sites n site h.1 is

-- ---- one more step of a way

step-by : (path : Path) (n : ℕ) (tree part : Tree) (below : Option Tree) → ((whole : Tree) → tree_at path whole ≡ Some tree → tree_at (path ++ n ∷ []) whole ≡ Some part)
    → option_and_then (tree_at path) below ≡ Some tree → option_and_then (tree_at (path ++ n ∷ [])) below ≡ Some part
step-by path n tree part None goes h = absurd (cc)
step-by path n tree part (Some inner) goes h = goes inner h

one-step : (path : Path) (n : ℕ) (whole tree part : Tree) → tree_in (trees_of tree) n ≡ Some part → tree_at path whole ≡ Some tree → tree_at (path ++ n ∷ []) whole ≡ Some part
one-step [] n whole tree part there h =
    let same : whole ≡ tree = cc in
    ap (λ (one : Tree). option_and_then (tree_at []) (tree_in (trees_of one) n)) same ∙ ap (option_and_then (tree_at [])) there
one-step (k ∷ path) n whole tree part there h =
    step-by path n tree part (tree_in (trees_of whole) k) (λ inner. one-step path n inner tree part there) h

operands-lead : (site : Site) (label : Label) (spans : Spans) (n : ℕ) (parts : Trees) → Leads site
    → ((k : ℕ) → tree_in (trees_of site.tree) (n + k) ≡ tree_in parts k) → AllLead (operand_sites site label spans n (listed parts))
operands-lead site label spans n no_trees leads there = tt
operands-lead site label spans n (more_trees first rest) leads there =
    let here : n + 0 ≡ n = omega arith in (
      one-step site.path n site.full site.tree first (ap (tree_in (trees_of site.tree)) (sym here) ∙ there 0) leads,
      operands-lead site label spans (suc n) rest leads (λ k. let more : suc n + k ≡ n + suc k = omega arith in ap (tree_in (trees_of site.tree)) more ∙ there (suc k)),
    )

-- ---- full expressions

wholes-lead : (constant fixed : Bool) (trees : List Tree) → AllLead (map (whole constant fixed) trees)
wholes-lead constant fixed [] = tt
wholes-lead constant fixed (tree ∷ trees) = (refl, wholes-lead constant fixed trees)

declarators-lead : (declared : List Declaration) (locals : List Local) → AllLead (declarator_sites declared locals)
declarators-lead declared [] = tt
declarators-lead declared (one ∷ locals) = lead-append (initial_sites declared one) (declarator_sites declared locals) (wholes-lead false _ one.expressions) (declarators-lead declared locals)

statement-lead : (declared : List Declaration) (label : Label) (parts : List Tree) → AllLead (statement_parts declared label parts)
statement-lead declared (declare lengths declarators) parts =
    lead-append (map (whole true false) (take lengths parts)) (declarator_sites declared (with_expressions declarators (drop lengths parts)))
    (wholes-lead true false (take lengths parts)) (declarators-lead declared (with_expressions declarators (drop lengths parts)))
statement-lead declared case [] = tt
statement-lead declared case (value ∷ parts) = (refl, wholes-lead false false parts)
statement-lead declared label parts = wholes-lead false false parts

-- ---- the trees of places are a front of the parts

abbrev pub IsFront : List Tree → List Tree → Type 0
IsFront front all = (rest : List Tree) × (front ++ rest ≡ all)

pub with-front : (declarators : List Declarator) (trees : List Tree) → IsFront (flat_map (λ (one : Local). one.expressions) (with_expressions declarators trees)) trees
with-front [] trees = (trees, refl)
with-front (one ∷ declarators) trees =
    let n = expressions_of one.initialiser in
    let behind = with-front declarators (drop n trees) in (
      behind.0,
      append_assoc (take n trees) (flat_map (λ (one : Local). one.expressions) (with_expressions declarators (drop n trees))) behind.0
          ∙ (ap (λ (them : List Tree). take n trees ++ them) behind.1 ∙ take-append-drop n trees),
    )

pub all-front : (front all : List Tree) → front ≡ all → IsFront front all
all-front front all is = ([], append-nil front ∙ is)

statement-front : (declared : List Declaration) (label : Label) (parts : List Tree) → IsFront (map tree_of (statement_parts declared label parts)) parts
statement-front declared (declare lengths declarators) parts =
    let locals = with_expressions declarators (drop lengths parts) in
    let behind = with-front declarators (drop lengths parts) in (
      behind.0,
      ap (λ (them : List Tree). them ++ behind.0)
          (map-append tree_of (map (whole true false) (take lengths parts)) (declarator_sites declared locals)
          ∙ ap₂ (λ (front back : List Tree). front ++ back) (whole-trees true false (take lengths parts)) (declarator-trees declared locals))
          ∙ (append_assoc (take lengths parts) (flat_map (λ (one : Local). one.expressions) locals) behind.0
          ∙ (ap (λ (them : List Tree). take lengths parts ++ them) behind.1 ∙ take-append-drop lengths parts)),
    )
statement-front declared case [] = ([], refl)
statement-front declared case (value ∷ parts) = all-front _ _ (ap (λ rest. value ∷ rest) (whole-trees false false parts))
statement-front declared label parts = all-front _ _ (whole-trees false false parts)

-- ---- trees

module _ (declared : List Declaration) where
  parts-by : (site : Site) (label : Label) (spans : Spans) (parts : Trees) (b : Bool) → Leads site → ((k : ℕ) → tree_in (trees_of site.tree) (0 + k) ≡ tree_in parts k)
      → AllLead (cond b (statement_parts declared label (listed parts)) (operand_sites site label spans 0 (listed parts)))
  parts-by site label spans parts true leads there = statement-lead declared label (listed parts)
  parts-by site label spans parts false leads there = operands-lead site label spans 0 parts leads there

  pub front-by : (site : Site) (label : Label) (spans : Spans) (parts : Trees) (b : Bool)
      → IsFront (map tree_of (cond b (statement_parts declared label (listed parts)) (operand_sites site label spans 0 (listed parts)))) (listed parts)
  front-by site label spans parts true = statement-front declared label (listed parts)
  front-by site label spans parts false = all-front _ _ (operand-trees site label spans 0 (listed parts))

  own-by : (site : Site) (label : Label) (b : Bool) → is_statement label ≡ b → label_of site.tree ≡ label → Leads site → AllFit (cond b [] (site ∷ []))
  own-by site label true is same leads = tt
  own-by site label false is same leads = ((leads, ap is_statement same ∙ is), tt)

  mutual
    sites-fit : (tree : Tree) (site : Site) → site.tree ≡ tree → Leads site → AllFit (sites_in declared tree site)
    sites-fit (node label kind spans parts) site same leads =
        let there : (k : ℕ) → tree_in (trees_of site.tree) (0 + k) ≡ tree_in parts k = λ k. let none : 0 + k ≡ k = omega arith in ap₂ (λ (tree : Tree) (n : ℕ). tree_in (trees_of tree) n) same none in
        fit-append (own_site label site) (sites_below declared parts (part_sites declared site label spans (listed parts)))
        (own-by site label (is_statement label) refl (ap label_of same) leads)
        (below-fit parts (part_sites declared site label spans (listed parts)) (front-by site label spans parts (is_statement label)) (parts-by site label spans parts (is_statement label) leads there))

    below-fit : (trees : Trees) (sites : List Site) → IsFront (map tree_of sites) (listed trees) → AllLead sites → AllFit (sites_below declared trees sites)
    below-fit no_trees sites front leads = tt
    below-fit (more_trees first rest) [] front leads = tt
    below-fit (more_trees first rest) (site ∷ sites) front leads =
        let whole : site.tree ∷ (map tree_of sites ++ front.0) ≡ first ∷ listed rest = front.1 in
        let here : site.tree ≡ first = cc in
        let behind : map tree_of sites ++ front.0 ≡ listed rest = cc in
        fit-append (sites_in declared first site) (sites_below declared rest sites) (sites-fit first site here leads.0) (below-fit rest sites (front.0, behind) leads.1)

  all-fit : (sites : List Site) → AllLead sites → AllFit (all_sites declared sites)
  all-fit [] leads = tt
  all-fit (site ∷ sites) leads = fit-append (sites_in declared site.tree site) (all_sites declared sites) (sites-fit site.tree site refl leads.0) (all-fit sites leads.1)

  form-lead : (form : ExternalForm) → AllLead (form_sites declared form)
  form-lead (declares declarators trees) = declarators-lead declared (with_expressions declarators trees)
  form-lead (defines_function f parameters body) = (refl, tt)

  externals-lead : (externals : List External) → AllLead (flat_map (external_sites declared) externals)
  externals-lead [] = tt
  externals-lead (one ∷ externals) =
      lead-append (external_sites declared one) (flat_map (external_sites declared) externals)
      (lead-append (map (whole true false) one.constants) (form_sites declared one.form) (wholes-lead true false one.constants) (form-lead one.form)) (externals-lead externals)

pub unit-fits : (one : TypedUnit) → AllFit (sites_of_unit one)
unit-fits one = all-fit one.declared (flat_map (external_sites one.declared) one.externals) (externals-lead one.declared one.externals)

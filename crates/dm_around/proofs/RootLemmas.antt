-- The full expressions of a unit, and those of its places that wait behind one another.
use Rattle.std.proofs.Common.{◌≡◌, ℕ, zero, suc, ◌+◌, Bool, true, false, cond, List, [], ◌∷◌, ◌++◌, map, length, take, drop, replicate, Option, Some, None, slice_get, append-nil, append_assoc, refl, sym, ap, ap₂, subst, ◌∙◌, arith}
use Rattle.std.specs.List.{flat_map}
use Rattle.std.proofs.lemmas.List.{length-append}
use Rattle.std.proofs.lemmas.List.Concat.{flat_map-append}
use Rattle.dm_tree.specs.Paths.{nodes_in}
use Rattle.dm_tree.specs.Trees.{Label, declare, case, Spans, Tree, Trees, node, no_trees, more_trees, label_of, spans_of, listed, parts_of, is_statement}
use Rattle.dm_tree.specs.Units.{Declaration, External, ExternalForm, declares, defines_function, TypedUnit}
use Rattle.dm_meaning.specs.Statements.{Local, with_expressions}
use Rattle.dm_meaning.specs.Wholes.{is_expression, all_expressions}
use Rattle.dm_sites.specs.Sites.{Site, whole, initial_sites, declarator_sites, statement_parts, operand_sites, sites_in, sites_below, all_sites, form_sites, external_sites, sites_of_unit}
use Rattle.dm_sites.proofs.LeadLemmas.{IsFront, front-by}
use Rattle.dm_sites.proofs.PlaceLemmas.{tree_of}
use Rattle.dm_around.specs.Places.{ArePlain, HasAbove, IsPart, nodes_before}
use Rattle.dm_around.proofs.WalkLemmas.{at-head, none-behind, first-expression, expression-parts, nodes-next, nodes-whole, sites-of}

abbrev AllPlain : List Site → Type 0
AllPlain [] = Unit {0}
AllPlain (site ∷ sites) = (is_expression site.tree ≡ true) × AllPlain sites

plain-front : (front back : List Site) → AllPlain (front ++ back) → AllPlain front
plain-front [] back h = tt
plain-front (site ∷ front) back h = (h.0, plain-front front back h.1)

plain-back : (front back : List Site) → AllPlain (front ++ back) → AllPlain back
plain-back [] back h = h
plain-back (site ∷ front) back h = plain-back front back h.1

plain-all : (all : List Site) → ArePlain all → AllPlain all
plain-all [] h = tt
plain-all (site ∷ all) h = (h 0 site refl, plain-all all (λ n one is. h (suc n) one is))

seam : (front : List Tree) (part : Tree) (parts all : List Tree) (j : ℕ) → all ≡ front ++ part ∷ parts → length front ≡ j → slice_get all j ≡ Some part
seam front part parts all j split count = ap₂ (λ (them : List Tree) (n : ℕ). slice_get them n) split (sym count) ∙ by front
  where
    by : (front : List Tree) → slice_get (front ++ part ∷ parts) (length front) ≡ Some part
    by [] = refl
    by (first ∷ front) = by front

-- ---- full expressions

abbrev AllWhole : List Site → Type 0
AllWhole [] = Unit {0}
AllWhole (site ∷ sites) = (site.path ≡ []) × AllWhole sites

whole-append : (front back : List Site) → AllWhole front → AllWhole back → AllWhole (front ++ back)
whole-append [] back h k = k
whole-append (site ∷ front) back h k = (h.0, whole-append front back h.1 k)

whole-map : (constant fixed : Bool) (trees : List Tree) → AllWhole (map (whole constant fixed) trees)
whole-map constant fixed [] = tt
whole-map constant fixed (tree ∷ trees) = (refl, whole-map constant fixed trees)

declarators-whole : (declared : List Declaration) (locals : List Local) → AllWhole (declarator_sites declared locals)
declarators-whole declared [] = tt
declarators-whole declared (one ∷ locals) = whole-append (initial_sites declared one) (declarator_sites declared locals) (whole-map false _ one.expressions) (declarators-whole declared locals)

statement-whole : (declared : List Declaration) (label : Label) (parts : List Tree) → AllWhole (statement_parts declared label parts)
statement-whole declared (declare lengths declarators) parts =
    whole-append (map (whole true false) (take lengths parts)) (declarator_sites declared (with_expressions declarators (drop lengths parts)))
    (whole-map true false (take lengths parts)) (declarators-whole declared (with_expressions declarators (drop lengths parts)))
statement-whole declared case [] = tt
statement-whole declared case (value ∷ parts) = (refl, whole-map false false parts)
statement-whole declared label parts = whole-map false false parts

abbrev pub AllRoots : List Site → Type 0
AllRoots [] = Unit {0}
AllRoots (site ∷ sites) = (site.path ≡ []) × (is_expression site.tree ≡ true) × AllRoots sites

roots-append : (front back : List Site) → AllRoots front → AllRoots back → AllRoots (front ++ back)
roots-append [] back h k = k
roots-append (site ∷ front) back h k = (h.0, h.1, roots-append front back h.2 k)

abbrev pub first_of : List ℕ → Option ℕ
first_of [] = None
first_of (above ∷ left) = Some above

abbrev pub rest_of : List ℕ → List ℕ
rest_of [] = []
rest_of (above ∷ left) = left

module _ (declared : List Declaration) where
  -- the places are those in the trees of full expressions
  abbrev Rooted : List Site → Type 0
  Rooted sites = (roots : List Site) × (sites ≡ all_sites declared roots) × AllRoots roots

  rooted-append : (front back : List Site) → Rooted front → Rooted back → Rooted (front ++ back)
  rooted-append front back h k = (
    h.0 ++ k.0,
    ap₂ (λ (a b : List Site). a ++ b) h.1 k.1 ∙ sym (flat_map-append (λ (site : Site). sites_in declared site.tree site) h.0 k.0),
    roots-append h.0 k.0 h.2 k.2,
  )

  abbrev places : Site → Label → Spans → Trees → Bool → List Site
  places site label spans parts b = (cond b [] (site ∷ [])) ++ sites_below declared parts (cond b (statement_parts declared label (listed parts)) (operand_sites site label spans 0 (listed parts)))

  rooted-by : (site : Site) (label : Label) (spans : Spans) (parts : Trees) → site.path ≡ [] → (b : Bool) → sites_in declared site.tree site ≡ places site label spans parts b
      → AllPlain (places site label spans parts b)
      → (AllPlain (sites_below declared parts (statement_parts declared label (listed parts))) → Rooted (sites_below declared parts (statement_parts declared label (listed parts))))
      → Rooted (places site label spans parts b)
  rooted-by site label spans parts root true is plain below = below plain
  rooted-by site label spans parts root false is plain below = (site ∷ [], sym is ∙ sym (append-nil (sites_in declared site.tree site)), (root, plain.0, tt))

  mutual
    rooted-tree : (tree : Tree) (site : Site) → site.tree ≡ tree → site.path ≡ [] → AllPlain (sites_in declared tree site) → Rooted (sites_in declared tree site)
    rooted-tree (node label kind spans parts) site same root plain =
        rooted-by site label spans parts root (is_statement label) (ap (λ (one : Tree). sites_in declared one site) same) plain
        (λ below. rooted-below parts (statement_parts declared label (listed parts)) (front-by declared site label spans parts true) (statement-whole declared label (listed parts)) below)

    rooted-below : (trees : Trees) (sites : List Site) → IsFront (map tree_of sites) (listed trees) → AllWhole sites → AllPlain (sites_below declared trees sites) → Rooted (sites_below declared trees sites)
    rooted-below no_trees sites front root plain = ([], refl, tt)
    rooted-below (more_trees first rest) [] front root plain = ([], refl, tt)
    rooted-below (more_trees first rest) (site ∷ sites) front root plain =
        let together : site.tree ∷ (map tree_of sites ++ front.0) ≡ first ∷ listed rest = front.1 in
        let here : site.tree ≡ first = cc in
        let behind : map tree_of sites ++ front.0 ≡ listed rest = cc in
        rooted-append (sites_in declared first site) (sites_below declared rest sites)
        (rooted-tree first site here root.0 (plain-front (sites_in declared first site) (sites_below declared rest sites) plain))
        (rooted-below rest sites (front.0, behind) root.1 (plain-back (sites_in declared first site) (sites_below declared rest sites) plain))

  rooted-all : (sites : List Site) → AllWhole sites → AllPlain (all_sites declared sites) → Rooted (all_sites declared sites)
  rooted-all [] root plain = ([], refl, tt)
  rooted-all (site ∷ sites) root plain =
      rooted-append (sites_in declared site.tree site) (all_sites declared sites)
      (rooted-tree site.tree site refl root.0 (plain-front (sites_in declared site.tree site) (all_sites declared sites) plain))
      (rooted-all sites root.1 (plain-back (sites_in declared site.tree site) (all_sites declared sites) plain))

  form-whole : (form : ExternalForm) → AllWhole (form_sites declared form)
  form-whole (declares declarators trees) = declarators-whole declared (with_expressions declarators trees)
  form-whole (defines_function f parameters body) = (refl, tt)

  externals-whole : (externals : List External) → AllWhole (flat_map (external_sites declared) externals)
  externals-whole [] = tt
  externals-whole (one ∷ externals) =
      whole-append (external_sites declared one) (flat_map (external_sites declared) externals)
      (whole-append (map (whole true false) one.constants) (form_sites declared one.form) (whole-map true false one.constants) (form-whole one.form)) (externals-whole externals)

  -- ---- what waits behind so many places: the parts of the expressions at the places with these numbers, and then full expressions

  abbrev pub Match : List Site → ℕ → List ℕ → List Site → Type 0
  Match all n [] waiting = AllRoots waiting
  Match all n (above ∷ left) [] = ⊥
  Match all n (above ∷ left) (site ∷ waiting) = IsPart all above n site × (is_expression site.tree ≡ true) × Match all (n + nodes_in site.tree) left waiting

  pub record Waits (all : List Site) (n : ℕ) (left : List ℕ) : Type 0 where
    pub waiting : List Site
    pub behind : drop n all ≡ all_sites declared waiting
    pub parts : Match all n left waiting

  -- ---- the next place

  roots-match : (all : List Site) (n m : ℕ) (left : List ℕ) (waiting : List Site) → n ≡ m → Match all n left waiting → Match all m left waiting
  roots-match all n m left waiting same h = subst (λ (k : ℕ). Match all k left waiting) same h

  match-parts : (all : List Site) (n : ℕ) (site : Site) → slice_get all n ≡ Some site
      → (front parts : List Tree) (j pos : ℕ) (left : List ℕ) (waiting : List Site) → parts_of site.tree ≡ front ++ parts → length front ≡ j → all_expressions parts ≡ true
      → pos ≡ n + 1 + nodes_before j (parts_of site.tree) → Match all (pos + nodes_before (length parts) parts) left waiting
      → Match all pos (replicate (length parts) n ++ left) (operand_sites site (label_of site.tree) (spans_of site.tree) j parts ++ waiting)
  match-parts all n site there front [] j pos left waiting split count plain is h = roots-match all _ _ left waiting (omega arith) h
  match-parts all n site there front (part ∷ parts) j pos left waiting split count plain is h =
      let both = first-expression part parts plain in
      let found = seam front part parts (parts_of site.tree) j split count in
      let more = nodes-next j (parts_of site.tree) part found in (
        record { upper = site; part = j; there = there; same = refl; below = found; behind = is },
        both.0,
        match-parts all n site there (front ++ part ∷ []) parts (suc j) (pos + nodes_in part) left waiting
            (split ∙ sym (append_assoc front (part ∷ []) parts)) (length-append front (part ∷ []) ∙ omega (arith, count)) both.1 (omega (arith, is, more))
            (roots-match all _ _ left waiting (omega arith) h),
      )

  first-waits : (all : List Site) (n : ℕ) (left : List ℕ) (site : Site) (waiting : List Site) → Match all n left (site ∷ waiting) → is_expression site.tree ≡ true
  first-waits all n [] site waiting h = h.1
  first-waits all n (above ∷ left) site waiting h = h.1

  first-above : (all : List Site) (n : ℕ) (left : List ℕ) (site : Site) (waiting : List Site) → Match all n left (site ∷ waiting) → HasAbove all (first_of left) n site
  first-above all n [] site waiting h = h.0
  first-above all n (above ∷ left) site waiting h = h.0

  rest-matches : (all : List Site) (n : ℕ) (left : List ℕ) (site : Site) (waiting : List Site) → Match all n left (site ∷ waiting) → Match all (n + nodes_in site.tree) (rest_of left) waiting
  rest-matches all n [] site waiting h = h.2
  rest-matches all n (above ∷ left) site waiting h = h.2

  -- what is at the place that comes next
  pub record Comes (all : List Site) (n : ℕ) (left : List ℕ) (site : Site) : Type 0 where
    pub above : HasAbove all (first_of left) n site
    pub plain : is_expression site.tree ≡ true
    pub rest : List Site
    pub within : drop n all ≡ sites_in declared site.tree site ++ rest
    pub next : Waits all (suc n) (replicate (length (parts_of site.tree)) n ++ rest_of left)

  pub comes : (all : List Site) (n : ℕ) (left : List ℕ) (site : Site) → slice_get all n ≡ Some site → Waits all n left → Comes all n left site
  comes all n left site there w = by w.waiting w.behind w.parts
    where
      by : (waiting : List Site) → drop n all ≡ all_sites declared waiting → Match all n left waiting → Comes all n left site
      by [] behind h =
          let some = at-head all n site there in absurd (cc)
      by (first ∷ waiting) behind h =
          let plain = first-waits all n left first waiting h in
          let parts = all_sites declared (operand_sites first (label_of first.tree) (spans_of first.tree) 0 (parts_of first.tree)) in
          let whole : drop n all ≡ first ∷ (parts ++ all_sites declared waiting) = behind ∙ ap (λ (them : List Site). them ++ all_sites declared waiting) (sites-of declared first plain) in
          let head = at-head all n site there in
          let same : first ≡ site = cc in
          let more : drop (suc n) all ≡ parts ++ all_sites declared waiting = cc in
          let count = nodes-whole first.tree in
          subst (Comes all n left) same
          (record {
            above = first-above all n left first waiting h;
            plain = plain;
            rest = all_sites declared waiting;
            within = behind;
            next = record {
              waiting = operand_sites first (label_of first.tree) (spans_of first.tree) 0 (parts_of first.tree) ++ waiting;
              behind = more ∙ sym (flat_map-append (λ (site : Site). sites_in declared site.tree site) (operand_sites first (label_of first.tree) (spans_of first.tree) 0 (parts_of first.tree)) waiting);
              parts =
                  match-parts all n first (there ∙ ap (λ (one : Site). Some one) (sym same)) [] (parts_of first.tree) 0 (suc n) (rest_of left) waiting refl refl (expression-parts first.tree plain) (omega arith)
                  (roots-match all _ _ (rest_of left) waiting (omega (arith, count)) (rest-matches all n left first waiting h));
            };
          })

pub starts : (one : TypedUnit) → ArePlain (sites_of_unit one) → Waits one.declared (sites_of_unit one) 0 []
starts one plain =
    let roots = flat_map (external_sites one.declared) one.externals in
    let found = rooted-all one.declared roots (externals-whole one.declared one.externals) (plain-all (sites_of_unit one) plain) in
    record { waiting = found.0; behind = found.1; parts = found.2 }

-- every place comes so
waits-next : (declared : List Declaration) (all : List Site) (n : ℕ) (found : Option Site) → slice_get all n ≡ found
    → (left : List ℕ) × Waits declared all n left → (left : List ℕ) × Waits declared all (suc n) left
waits-next declared all n None is before = ([], record { waiting = []; behind = none-behind all n is; parts = tt })
waits-next declared all n (Some site) is before = (_, (comes declared all n before.0 site is before.1).next)

pub waits-at : (one : TypedUnit) (n : ℕ) → ArePlain (sites_of_unit one) → (left : List ℕ) × Waits one.declared (sites_of_unit one) n left
waits-at one zero plain = ([], starts one plain)
waits-at one (suc n) plain = waits-next one.declared (sites_of_unit one) n (slice_get (sites_of_unit one) n) refl (waits-at one n plain)

-- the places inside an expression stand behind its own
pub place-within : (one : TypedUnit) (n : ℕ) (site : Site) → ArePlain (sites_of_unit one) → slice_get (sites_of_unit one) n ≡ Some site
    → (rest : List Site) × (drop n (sites_of_unit one) ≡ sites_in one.declared site.tree site ++ rest)
place-within one n site plain there =
    let here = waits-at one n plain in
    let come = comes one.declared (sites_of_unit one) n here.0 site there here.1 in (come.rest, come.within)

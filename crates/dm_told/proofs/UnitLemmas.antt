-- Places in statements, external declarations and units.
--     tree_known      the places in a tree that is well typed and laid out
--     unit_told      the places of a unit
use Rattle.std.specs.Prelude.{◌≡◌, refl, ℕ, zero, suc, ◌+◌, ◌-◌, ◌<◌, ◌≤◌, Bool, true, false, not, ◌&&◌, ◌||◌, ◌==◌, nat_le, All, IfSome, IsSome, List, [], ◌∷◌, ◌++◌, find, map, take, drop, flat_map, Option, Some, None, slice_get, if◌then◌else◌}
use Rattle.std.specs.List.{AllByRecursion, list_any}
use Rattle.std.specs.Option.{option_map_or}
use Rattle.std.proofs.Common.{ap, sym, ◌∙◌, subst, arith, ⊎_elim}
use Rattle.std.proofs.lemmas.Bool.{false≢true, and_parts, and_from}
use Rattle.std.proofs.lemmas.Bool.Decides.{nat_tests}
use Rattle.std.proofs.lemmas.List.{take-append-drop}
use Rattle.std.proofs.lemmas.List.Concat.{flat_map-append}
use Rattle.std.proofs.lemmas.List.Elements.{All-head, All-tail, All-nil, All-cons}
use Rattle.dm_token.specs.declared.place.Span.{Span}
use Rattle.dm_type.specs.CTypes.{CType, void, integer, pointer, array, struct, function as function_type, const}
use Rattle.dm_type.specs.Tables.{Table}
use Rattle.dm_tree.specs.Initialisers.{DeclaratorsFit, is_same_span}
use Rattle.dm_tree.specs.Scenes.{Scene}
use Rattle.dm_tree.specs.Trees.{Label, read, decay, convert, follow, member, comma, declare, expressions_in, Declarator, Initialiser, Spans, Tree, Trees, node, no_trees, more_trees, label_of, spans_of, parts_of, listed, is_statement}
use Rattle.dm_tree.specs.Typing.{Fits, FormFits, ExternalFits, inside, IsWellTyped, AreWellTyped, IsWellTypedUnit, DefinitionFits, FunctionFits, file_scene, body_scene}
use Rattle.dm_tree.specs.Units.{Declaration, External, ExternalForm, declares, defines_function, TypedUnit}
use Rattle.dm_meaning.specs.Wholes.{is_expression}
use Rattle.dm_meaning.specs.Statements.{Local, expressions_of, with_expressions}
use Rattle.dm_meaning.proofs.WholeLemmas.{typed-expression}
use Rattle.dm_effect.specs.Entities.{trees_in_form}
use Rattle.dm_sites.specs.Sites.{Site, is_site_of, whole, declarator_sites, statement_parts, sites_in, all_sites, form_sites, external_sites, sites_of_unit, site_of}
use Rattle.dm_sites.specs.Standing.{is_extent, is_value, is_implied_conversion}
use Rattle.dm_sites.specs.Standing as site_standing
use Rattle.dm_sites.proofs.PlaceLemmas.{Divides, whole-trees, declarator-trees, statement-trees, statement-sites}
use Rattle.dm_agree.specs.Standing.{widened, narrowing, extents, stands}
use Rattle.dm_scoped.specs.Spans.{MayShare, AreInside, in_source_order, EachInside, IsLaidOut, AreLaidOut, StandBetween, IsLaidOutForm, IsLaidOutExternal, AreLaidOutFrom, IsLaidOutUnit, IsApart, IsApartFrom, AreApart, StandApart}
use Rattle.dm_told.specs.Told.{IsInside, IsAroundParts, AreAroundParts, IsTold, ArePlacesExpressions, ArePlacesNested, ArePlacesTold}
use Rattle.dm_told.proofs.FindLemmas.{all_append, all_weaker, all_both, all_swapped, found_has}
use Rattle.dm_told.proofs.OnlyLemmas.{Told, told_none, told_append, only_found, IsDistinct, AreDistinct, Each, each_weaker, each_append, distinct, separate, swapped, IsIn, Region, wider}
use Rattle.dm_told.proofs.RowLemmas.{tree_of, InOrder, HasTokens, IsAroundSite, IsSettled, IsSeated, IsKnown, row_arounds, row_known}
use Rattle.dm_told.proofs.ExpressionLemmas.{expression_known}

-- ---- statements

-- nothing has the tokens of a statement
never_above : (label : Label) → is_statement label ≡ true → (one : Tree) (others : List Tree) → MayShare label one others → ⊥
never_above convert e one others h = false≢true e
never_above read e one others h = false≢true e
never_above decay e one others h = false≢true e
never_above follow e one others h = false≢true e
never_above (member n) e one others h = false≢true e
never_above comma e one others h = false≢true e
never_above label e one others h = false≢true h.0

statement_order : (label : Label) (spans : Spans) → is_statement label ≡ true → (lo : ℕ) (trees : List Tree) → AreInside label spans lo trees → InOrder lo spans.inner.after trees
statement_order label spans e lo [] h = h
statement_order label spans e lo (tree ∷ trees) h =
    ⊎_elim (λ same. absurd (never_above label e tree trees same.2)) (λ strict. (strict.0, statement_order label spans e (spans_of tree).outer.after trees strict.2)) h

same_count : (initialiser : Option Initialiser) → option_map_or expressions_in initialiser 0 ≡ expressions_of initialiser
same_count None = refl
same_count (Some initialiser) = refl

divided : (scene : Scene) (declarators : List Declarator) (trees : List Tree) → DeclaratorsFit scene declarators trees
    → flat_map (λ (one : Local). one.expressions) (with_expressions declarators trees) ≡ trees
divided scene [] trees h = sym h
divided scene (one ∷ more) trees h =
    let n = expressions_of one.initialiser in
    let rest = subst (λ (k : ℕ). DeclaratorsFit scene more (drop k trees)) (same_count one.initialiser) h.1 in
    ap (λ (ts : List Tree). take n trees ++ ts) (divided scene more (drop n trees) rest) ∙ take-append-drop n trees

divides : (scene : Scene) (label : Label) (kind : CType) (parts : List Tree) → Fits scene label kind parts → Divides label parts
divides scene (declare lengths declarators) kind parts fits = divided scene declarators (drop lengths parts) fits.0.2
divides scene label kind parts fits = tt

-- trees in two lists without a common token have no places with the same tokens
distinct_append : (list front back : List Site) → AreDistinct list front → AreDistinct list back → AreDistinct list (front ++ back)
distinct_append [] front back h k = tt
distinct_append (site ∷ list) front back h k = (all_append (IsDistinct site) front back h.0 k.0, distinct_append list front back h.1 k.1)

no_distinct : (list : List Site) → AreDistinct list []
no_distinct [] = tt
no_distinct (site ∷ list) = (tt, no_distinct list)

module _ (declared : List Declaration) where
  trees_distinct : (one other : Site) → IsKnown declared one → IsKnown declared other → IsApart one.tree other.tree
      → AreDistinct (sites_in declared one.tree one) (sites_in declared other.tree other)
  trees_distinct one other known more apart =
      let a = (spans_of one.tree).outer in
      let b = (spans_of other.tree).outer in
      distinct (IsIn a.first a.after) (IsIn b.first b.after)
      (λ span next h k.
      let ends = h.2 in
      let begins = k.0 in
      let first = h.0 in
      let last = k.2 in
      ⊎_elim (λ before. separate span next h.1 k.1 (omega (arith, ends, begins, before))) (λ behind. swapped next span (separate next span k.1 h.1 (omega (arith, first, last, behind)))) apart)
      (sites_in declared one.tree one) (sites_in declared other.tree other) known.region more.region

  tree_distinct : (one : Site) (list : List Site) → IsKnown declared one → AllByRecursion (IsKnown declared) list → IsApartFrom one.tree (map tree_of list)
      → AreDistinct (sites_in declared one.tree one) (all_sites declared list)
  tree_distinct one [] known more apart = no_distinct (sites_in declared one.tree one)
  tree_distinct one (other ∷ list) known more apart =
      distinct_append (sites_in declared one.tree one) (sites_in declared other.tree other) (all_sites declared list) (trees_distinct one other known more.0 apart.0)
      (tree_distinct one list known more.1 apart.1)

  rows_distinct : (front back : List Site) → AllByRecursion (IsKnown declared) front → AllByRecursion (IsKnown declared) back → AreApart (map tree_of front) (map tree_of back)
      → AreDistinct (all_sites declared front) (all_sites declared back)
  rows_distinct [] back known more apart = tt
  rows_distinct (one ∷ front) back known more apart =
      all_append (λ (f : Site). AllByRecursion (IsDistinct f) (all_sites declared back)) (sites_in declared one.tree one) (all_sites declared front)
      (tree_distinct one back known.0 more apart.0) (rows_distinct front back known.1 more apart.1)

  abbrev Rows : ℕ → ℕ → List Site → Type 0
  Rows lo hi sites = Told declared (all_sites declared sites) × Region lo hi (all_sites declared sites)

  both_rows : (lo hi : ℕ) (front back : List Site) → AllByRecursion (IsKnown declared) front → AllByRecursion (IsKnown declared) back → Rows lo hi front → Rows lo hi back
      → AreApart (map tree_of front) (map tree_of back) → Rows lo hi (front ++ back)
  both_rows lo hi front back known more h k apart =
      let them = flat_map-append (λ (site : Site). sites_in declared site.tree site) front back in
      subst (λ (sites : List Site). Told declared sites × Region lo hi sites) (sym them) (
        told_append declared (all_sites declared front) (all_sites declared back) h.0 k.0 (rows_distinct front back known more apart),
        each_append (IsIn lo hi) (all_sites declared front) (all_sites declared back) h.1 k.1,
      )

  row_of : (lo hi : ℕ) (sites : List Site) (trees : List Tree) → map tree_of sites ≡ trees → AllByRecursion (IsKnown declared) sites → InOrder lo hi trees → Rows lo hi sites
  row_of lo hi sites trees same known order = row_known declared lo hi sites known (subst (InOrder lo hi) (sym same) order)

  all_front : {A : Type 0} (P : A → Type 0) (front back : List A) → AllByRecursion P (front ++ back) → AllByRecursion P front
  all_front P [] back h = tt
  all_front P (x ∷ front) back h = (h.0, all_front P front back h.1)

  all_back : {A : Type 0} (P : A → Type 0) (front back : List A) → AllByRecursion P (front ++ back) → AllByRecursion P back
  all_back P [] back h = h
  all_back P (x ∷ front) back h = all_back P front back h.1

  -- the parts of a statement
  statement_rows : (label : Label) (spans : Spans) (parts : List Tree) → is_statement label ≡ true → Divides label parts → EachInside label spans (in_source_order label parts)
      → StandApart label parts → AllByRecursion (IsKnown declared) (statement_parts declared label parts) → Rows spans.inner.first spans.inner.after (statement_parts declared label parts)
  statement_rows convert spans parts e divide inside apart known = absurd (false≢true e)
  statement_rows (declare lengths declarators) spans parts e divide inside apart known =
      let front = map (whole true false) (take lengths parts) in
      let back = declarator_sites declared (with_expressions declarators (drop lengths parts)) in
      let front_is = whole-trees true false (take lengths parts) in
      let back_is = declarator-trees declared (with_expressions declarators (drop lengths parts)) ∙ divide in
      let front_known = all_front (IsKnown declared) front back known in
      let back_known = all_back (IsKnown declared) front back known in
      both_rows spans.inner.first spans.inner.after front back front_known back_known
      (row_of spans.inner.first spans.inner.after front (take lengths parts) front_is front_known
      (statement_order (declare lengths declarators) spans refl spans.inner.first (take lengths parts) inside.0))
      (row_of spans.inner.first spans.inner.after back (drop lengths parts) back_is back_known
      (statement_order (declare lengths declarators) spans refl spans.inner.first (drop lengths parts) inside.1.0))
      (subst (λ (ts : List Tree). AreApart ts (map tree_of back)) (sym front_is) (subst (AreApart (take lengths parts)) (sym back_is) apart))
  statement_rows label spans parts e divide inside apart known =
      row_of spans.inner.first spans.inner.after (statement_parts declared label parts) parts (statement-trees declared label parts divide) known
      (statement_order label spans e spans.inner.first parts inside.0)

  statement_known : (site : Site) (label : Label) (kind : CType) (spans : Spans) (parts : Trees) → site.tree ≡ node label kind spans parts → (scene : Scene) → is_statement label ≡ true
      → IsWellTyped scene (node label kind spans parts) → IsLaidOut (node label kind spans parts) → AllByRecursion (IsKnown declared) (statement_parts declared label (listed parts))
      → IsKnown declared site
  statement_known site label kind spans parts same scene is typed laid known =
      let divide = divides scene label kind (listed parts) typed.0 in
      let rows = statement_rows label spans (listed parts) is divide laid.3 laid.5 known in
      let places : sites_in declared site.tree site ≡ all_sites declared (statement_parts declared label (listed parts)) =
      statement-sites declared site (subst (λ (t : Tree). Divides (label_of t) (parts_of t)) (sym same) divide) (subst (λ (t : Tree). is_statement (label_of t) ≡ true) (sym same) is)
      ∙ ap (λ (t : Tree). all_sites declared (statement_parts declared (label_of t) (parts_of t))) same in
      let low = laid.0 in
      let some = laid.1 in
      let both = laid.2 in record {
        tokens = subst HasTokens (sym same) (omega (arith, low, some, both));
        arounds = subst (AllByRecursion (IsSeated declared)) (sym places) (row_arounds declared (statement_parts declared label (listed parts)) known);
        told = subst (Told declared) (sym places) rows.0;
        region = subst (Region (spans_of site.tree).outer.first (spans_of site.tree).outer.after) (sym places)
            (subst (λ (t : Tree). Region (spans_of t).outer.first (spans_of t).outer.after (all_sites declared (statement_parts declared label (listed parts)))) (sym same)
            (wider spans.inner.first spans.inner.after spans.outer.first spans.outer.after low (omega (arith, low, both)) (all_sites declared (statement_parts declared label (listed parts))) rows.1));
      }

  head_is : (site : Site) (sites : List Site) (tree : Tree) (trees : List Tree) → map tree_of (site ∷ sites) ≡ tree ∷ trees → site.tree ≡ tree
  head_is site sites tree trees e = cc

  tail_is : (site : Site) (sites : List Site) (tree : Tree) (trees : List Tree) → map tree_of (site ∷ sites) ≡ tree ∷ trees → map tree_of sites ≡ trees
  tail_is site sites tree trees e = cc

  more_sites : (site : Site) (sites : List Site) → map tree_of (site ∷ sites) ≡ [] → ⊥
  more_sites site sites e = cc

  mutual
    pub tree_known : (tree : Tree) (site : Site) → site.tree ≡ tree → (scene : Scene) → IsWellTyped scene tree → IsLaidOut tree → (b : Bool) → is_statement (label_of tree) ≡ b → IsKnown declared site
    tree_known tree site same scene typed laid false is = (expression_known declared tree site same (typed-expression scene tree typed (ap not is)) laid).known
    tree_known (node label kind spans parts) site same scene typed laid true is =
        statement_known site label kind spans parts same scene is typed laid
        (trees_known parts (statement_parts declared label (listed parts)) (statement-trees declared label (listed parts) (divides scene label kind (listed parts) typed.0))
        (inside scene label (listed parts)) typed.1 laid.4)

    trees_known : (trees : Trees) (sites : List Site) → map tree_of sites ≡ listed trees → (scene : Scene) → AreWellTyped scene trees → AreLaidOut trees → AllByRecursion (IsKnown declared) sites
    trees_known trees [] same scene typed laid = tt
    trees_known no_trees (site ∷ sites) same scene typed laid = absurd (more_sites site sites same)
    trees_known (more_trees first rest) (site ∷ sites) same scene typed laid = (
      tree_known first site (head_is site sites first (listed rest) same) scene typed.0 laid.0 (is_statement (label_of first)) refl,
      trees_known rest sites (tail_is site sites first (listed rest) same) scene typed.1 laid.1,
    )

  -- ---- external declarations

  row_trees : (lo hi : ℕ) (trees : List Tree) (sites : List Site) → map tree_of sites ≡ trees → (scene : Scene) → All (IsWellTyped scene) trees → StandBetween lo hi trees
      → AllByRecursion (IsKnown declared) sites × InOrder lo hi trees
  row_trees lo hi [] [] same scene typed h = (tt, h)
  row_trees lo hi [] (site ∷ sites) same scene typed h = absurd (more_sites site sites same)
  row_trees lo hi (tree ∷ trees) [] same scene typed h = absurd (no_trees_left tree trees same)
    where
      no_trees_left : (one : Tree) (others : List Tree) → [] ≡ one ∷ others → ⊥
      no_trees_left one others e = cc
  row_trees lo hi (tree ∷ trees) (site ∷ sites) same scene typed h =
      let rest = row_trees (spans_of tree).outer.after hi trees sites (tail_is site sites tree trees same) scene (All-tail (IsWellTyped scene) tree trees typed) h.2 in (
        (tree_known tree site (head_is site sites tree trees same) scene (All-head (IsWellTyped scene) tree trees typed) h.1 (is_statement (label_of tree)) refl, rest.0),
        (h.0, rest.1),
      )

  record HasTypedBody (types : Table) (body : Tree) : Type 0 where
    result : CType
    typed : IsWellTyped (body_scene (file_scene types declared) result) body

  by_type : (types : Table) (parameters : List ℕ) (body : Tree) (kind : CType) → DefinitionFits (file_scene types declared) parameters body kind → HasTypedBody types body
  by_type types parameters body (function_type result kinds) fits = record { result = result; typed = fits.2 }
  by_type types parameters body void fits = absurd fits
  by_type types parameters body (integer kind) fits = absurd fits
  by_type types parameters body (pointer kind) fits = absurd fits
  by_type types parameters body (array kind n) fits = absurd fits
  by_type types parameters body (struct n) fits = absurd fits
  by_type types parameters body (const kind) fits = absurd fits

  by_entry : (types : Table) (parameters : List ℕ) (body : Tree) (found : Option Declaration) → IfSome found (FunctionFits (file_scene types declared) parameters body) → IsSome found
      → HasTypedBody types body
  by_entry types parameters body None fits is = absurd (false≢true is)
  by_entry types parameters body (Some entry) fits is = by_type types parameters body entry.kind fits.1

  -- the places of an external declaration, and those behind its lengths and enumerator values
  record IsFormKnown (span : Span) (form : ExternalForm) : Type 0 where
    known : AllByRecursion (IsKnown declared) (form_sites declared form)
    trees : map tree_of (form_sites declared form) ≡ trees_in_form form
    rows : Rows span.first span.after (form_sites declared form)

  form_known : (types : Table) (span : Span) (form : ExternalForm) → FormFits (file_scene types declared) form → IsLaidOutForm span form → IsFormKnown span form
  form_known types span (declares declarators trees) fits laid =
      let sites = declarator_sites declared (with_expressions declarators trees) in
      let same = declarator-trees declared (with_expressions declarators trees) ∙ divided (file_scene types declared) declarators trees fits.1 in
      let them = row_trees span.first span.after trees sites same (file_scene types declared) fits.0 laid in
      record { known = them.0; trees = same; rows = row_of span.first span.after sites trees same them.0 them.1 }
  form_known types span (defines_function f parameters body) fits laid =
      let it = by_entry types parameters body (slice_get declared f) fits.0 fits.1 in
      let scene = body_scene (file_scene types declared) it.result in
      let them = row_trees span.first span.after (body ∷ []) (whole false false body ∷ []) refl scene (All-cons (IsWellTyped scene) body [] it.typed (All-nil (IsWellTyped scene))) laid in
      record { known = them.0; trees = refl; rows = row_of span.first span.after (whole false false body ∷ []) (body ∷ []) refl them.0 them.1 }

  external_rows : (types : Table) (one : External) → ExternalFits (file_scene types declared) one → IsLaidOutExternal one
      → AllByRecursion (IsKnown declared) (external_sites declared one) × Rows one.span.first one.span.after (external_sites declared one)
  external_rows types one fits laid =
      let scene = file_scene types declared in
      let front = map (whole true false) one.constants in
      let same = whole-trees true false one.constants in
      let them = row_trees one.span.first one.span.after one.constants front same scene fits.0 laid.0 in
      let form = form_known types one.span one.form fits.2 laid.1 in (
        all_append (IsKnown declared) front (form_sites declared one.form) them.0 form.known,
        both_rows one.span.first one.span.after front (form_sites declared one.form) them.0 form.known (row_of one.span.first one.span.after front one.constants same them.0 them.1) form.rows
            (subst (λ (ts : List Tree). AreApart ts (map tree_of (form_sites declared one.form))) (sym same) (subst (AreApart one.constants) (sym form.trees) laid.2)),
      )

  abbrev IsFrom : ℕ → Span → Type 0
  IsFrom at span = (at ≤ span.first) × (span.first < span.after)

  span_order : (one : External) → IsLaidOutExternal one → one.span.first ≤ one.span.after
  span_order one laid = between one.span.first one.span.after one.constants laid.0
    where
      around : (tree : Tree) → IsLaidOut tree → HasTokens tree
      around (node label kind spans parts) h = let low = h.0 in let some = h.1 in let both = h.2 in omega (arith, low, some, both)

      between : (lo hi : ℕ) (trees : List Tree) → StandBetween lo hi trees → lo ≤ hi
      between lo hi [] h = h
      between lo hi (tree ∷ trees) h =
          let rest = between (spans_of tree).outer.after hi trees h.2 in let begins = h.0 in let some = around tree h.1 in omega (arith, rest, begins, some)

  externals_rows : (types : Table) (at : ℕ) (externals : List External) → All (ExternalFits (file_scene types declared)) externals → AreLaidOutFrom at externals
      → AllByRecursion (IsKnown declared) (flat_map (external_sites declared) externals)
      × Told declared (all_sites declared (flat_map (external_sites declared) externals)) × Each (IsFrom at) (all_sites declared (flat_map (external_sites declared) externals))
  externals_rows types at [] fits laid = (tt, told_none declared, tt)
  externals_rows types at (one ∷ externals) fits laid =
      let own = external_rows types one (All-head (ExternalFits (file_scene types declared)) one externals fits) laid.1 in
      let rest = externals_rows types one.span.after externals (All-tail (ExternalFits (file_scene types declared)) one externals fits) laid.2 in
      let front = external_sites declared one in
      let back = flat_map (external_sites declared) externals in
      let here = all_sites declared front in
      let behind = all_sites declared back in
      let them = flat_map-append (λ (site : Site). sites_in declared site.tree site) front back in
      let begins = laid.0 in
      let order = span_order one laid.1 in (
        all_append (IsKnown declared) front back own.0 rest.0,
        subst (Told declared) (sym them) (told_append declared here behind own.1.0 rest.1
            (distinct (IsIn one.span.first one.span.after) (IsFrom one.span.after) (λ span next a b. let ends = a.2 in let first = b.0 in separate span next a.1 b.1 (omega (arith, ends, first))) here behind
            own.1.1 rest.2)),
        subst (Each (IsFrom at)) (sym them) (each_append (IsFrom at) here behind
            (each_weaker (IsIn one.span.first one.span.after) (IsFrom at) (λ span k. let low = k.0 in (omega (arith, low, begins), k.1)) here own.1.1)
            (each_weaker (IsFrom one.span.after) (IsFrom at) (λ span k. let low = k.0 in (omega (arith, low, begins, order), k.1)) behind rest.2)),
      )

-- ---- the tokens of a place

at_numbers : (span : Span) (spans : Spans) (n : ℕ) → spans.outer.first ≤ spans.inner.first → n ≤ spans.inner.first - spans.outer.first → span.first ≡ spans.inner.first - n
    → span.after ≡ spans.inner.after + n → is_extent span spans ≡ true
at_numbers span spans n around less first after =
    let low : spans.outer.first ≤ span.first = omega (arith, around, less, first) in
    let mid : span.first ≤ spans.inner.first = omega (arith, first) in
    let high : span.after ≡ spans.inner.after + (spans.inner.first - span.first) = omega (arith, around, less, first, after) in
    and_from (nat_le spans.outer.first span.first) (nat_le span.first spans.inner.first && (span.after == spans.inner.after + (spans.inner.first - span.first))) (grind (arith, nat_tests, low))
    (and_from (nat_le span.first spans.inner.first) (span.after == spans.inner.after + (spans.inner.first - span.first)) (grind (arith, nat_tests, mid)) (grind (arith, nat_tests, high)))

same_span : (a b : Span) → is_same_span a b ≡ true → (a.first ≡ b.first) × (a.after ≡ b.after)
same_span a b e = let both = and_parts (a.first == b.first) (a.after == b.after) e in (grind (arith, nat_tests, both), grind (arith, nat_tests, both))

or_none : (b : Bool) → (b || false) ≡ true → b ≡ true
or_none true e = refl
or_none false e = e

extent_by : (span : Span) (spans : Spans) → spans.outer.first ≤ spans.inner.first → (n : ℕ) → n ≤ spans.inner.first - spans.outer.first
    → list_any (is_same_span span) (narrowing spans.inner n) ≡ true → is_extent span spans ≡ true
extent_by span spans around zero less e =
    let same = same_span span spans.inner (or_none (is_same_span span spans.inner) e) in
    let first = same.0 in
    let after = same.1 in
    at_numbers span spans 0 around less (omega (arith, first)) (omega (arith, after))
extent_by span spans around (suc n) less e = by_first (is_same_span span (widened spans.inner (suc n))) refl e (extent_by span spans around n (omega (arith, less)))
  where
    by_first : (b : Bool) → is_same_span span (widened spans.inner (suc n)) ≡ b → (b || list_any (is_same_span span) (narrowing spans.inner n)) ≡ true
        → (list_any (is_same_span span) (narrowing spans.inner n) ≡ true → is_extent span spans ≡ true) → is_extent span spans ≡ true
    by_first true is k rest = let same = same_span span (widened spans.inner (suc n)) is in at_numbers span spans (suc n) around less same.0 same.1
    by_first false is k rest = rest k

stands_there : (span : Span) (site : Site) → IsAroundSite site → site.apart ≡ true → stands span site.tree ≡ true → is_site_of span site ≡ true
stands_there span site around apart e = and_from site.apart (site_standing.stands span site.tree) apart (by_value (is_value site.tree) refl e)
  where
    by_value : (b : Bool) → is_value site.tree ≡ b → list_any (is_same_span span) (if b then extents (spans_of site.tree) else []) ≡ true → site_standing.stands span site.tree ≡ true
    by_value false is k = absurd (false≢true k)
    by_value true is k =
        and_from (is_value site.tree) (is_extent span (spans_of site.tree)) is
        (extent_by span (spans_of site.tree) around ((spans_of site.tree).inner.first - (spans_of site.tree).outer.first) (omega arith) k)

pub unit_told : (types : Table) (one : TypedUnit) → IsWellTypedUnit types one → IsLaidOutUnit one → ArePlacesTold one
unit_told types one typed laid =
    let rows = externals_rows one.declared types 0 one.externals typed.externals laid in
    let sites = sites_of_unit one in
    let roots = flat_map (external_sites one.declared) one.externals in
    let Found : Span → Site → Type 0 = λ span site. is_site_of span site ≡ true → site_of one span ≡ Some site in
    all_weaker (λ (site : Site). IsSeated one.declared site × ((span : Span) → Found span site)) (IsTold one)
    (λ site both span apart stand. both.1 span (stands_there span site both.0.0.0 apart stand)) sites
    (all_both (IsSeated one.declared) (λ (site : Site). (span : Span) → Found span site) sites (row_arounds one.declared roots rows.0) (all_swapped Found sites (only_found sites rows.1.0)))

pub unit_nested : (types : Table) (one : TypedUnit) → IsWellTypedUnit types one → IsLaidOutUnit one → ArePlacesNested one
unit_nested types one typed laid =
    let rows = externals_rows one.declared types 0 one.externals typed.externals laid in
    let sites = sites_of_unit one in
    let roots = flat_map (external_sites one.declared) one.externals in
    record {
      inside = λ span part site other is found within.
          let it = found_has (is_site_of span)
          (λ (s : Site). (own : Span) → is_site_of own s ≡ true → IsInside part own → find (is_site_of part) (sites_in one.declared s.tree s) ≡ Some other) sites site (rows.1.1 part other found) is in
          it.0 span it.1 within;
      around = all_weaker (IsSeated one.declared) (AreAroundParts one) (λ site seated.
          all_weaker (IsSettled one.declared) (IsAroundParts one) (λ each settled span apart stand. settled.1 span (stands_there span each settled.0 apart stand))
          (sites_in one.declared site.tree site) seated.1) sites (row_arounds one.declared roots rows.0);
    }

pub unit_expressions : (types : Table) (one : TypedUnit) → IsWellTypedUnit types one → IsLaidOutUnit one → ArePlacesExpressions one
unit_expressions types one typed laid =
    let rows = externals_rows one.declared types 0 one.externals typed.externals laid in
    all_weaker (IsSeated one.declared) (λ (site : Site). is_expression site.tree ≡ true) (λ site seated. seated.0.2) (sites_of_unit one)
    (row_arounds one.declared (flat_map (external_sites one.declared) one.externals) rows.0)

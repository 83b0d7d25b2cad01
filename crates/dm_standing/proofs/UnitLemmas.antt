-- Statements and external declarations of the new unit beside those of the old one.
--     statement_called      no operand of sizeof in a tree that agrees with one at its place names the added function
--     calls_evaluated      so it is of a unit that is aligned with another, but for what is put in
use Rattle.std.specs.Prelude.{◌≡◌, refl, ℕ, Bool, true, false, not, ◌&&◌, IfSome, All, List, [], ◌∷◌, ◌++◌, map, length, take, drop, flat_map, Option, Some, None, slice_get, if◌then◌else◌}
use Rattle.std.specs.List.{AllByRecursion, list_any}
use Rattle.std.specs.Option.{IsSomeAnd, option_map_or}
use Rattle.std.proofs.Common.{ap, sym, ◌∙◌, subst, arith}
use Rattle.std.proofs.lemmas.Bool.{true≢false, false≢true}
use Rattle.std.proofs.lemmas.Bool.Decides.{nat_tests}
use Rattle.std.proofs.lemmas.List.{take-append-drop}
use Rattle.std.proofs.lemmas.List.Elements.{All-head, All-tail}
use Rattle.dm_token.specs.declared.place.Span.{Span}
use Rattle.dm_runs.specs.declared.run.Run.{Run}
use Rattle.dm_type.specs.CTypes.{CType, void, integer, pointer, array, struct, function as function_type, const}
use Rattle.dm_type.specs.Tables.{Table}
use Rattle.dm_tree.specs.Initialisers.{DeclaratorsFit, is_same_span}
use Rattle.dm_tree.specs.Scenes.{Scene}
use Rattle.dm_tree.specs.Trees.{Label, declare, case, sizeof_tree, expressions_in, Declarator, Initialiser, Spans, Tree, Trees, node, no_trees, more_trees, label_of, listed, is_statement}
use Rattle.dm_tree.specs.Typing.{Fits, FormFits, FunctionFits, DefinitionFits, ExternalFits, inside, IsWellTyped, AreWellTyped, IsWellTypedUnit, file_scene, body_scene}
use Rattle.dm_tree.specs.Units.{Declaration, External, ExternalForm, declares, defines_function, TypedUnit}
use Rattle.dm_meaning.specs.Replaced.{relabelled, Zipped}
use Rattle.dm_meaning.specs.Statements.{Local, expressions_of, with_expressions}
use Rattle.dm_meaning.proofs.WholeLemmas.{typed-expression}
use Rattle.dm_effect.specs.Entities.{trees_in_form}
use Rattle.dm_sites.specs.Sites.{Site, whole, initial_sites, declarator_sites, statement_parts, operand_sites, sites_in, sites_below, form_sites, external_sites}
use Rattle.dm_sites.proofs.PlaceLemmas.{tree_of, Divides, declarator-trees, statement-trees}
use Rattle.dm_sites.specs.Standing.{is_apart, is_implied_conversion}
use Rattle.dm_agree.specs.Standing.{extents, stands, runs_at, runs_below}
use Rattle.dm_agree.specs.Agreement.{Added, added_function, Rewriting, Agrees, AllAgree, AgreesWhole, AllAgreeWhole}
use Rattle.dm_align.specs.Units as aligned
use Rattle.dm_align.specs.Units.{Insertion, IsPut, moved, other_externals, FormAdds, rewriting_of, AreAligned}
use Rattle.dm_refine.specs.Calls.{any_names, NotInSizeof, IsEvaluated, AreEvaluated, AreOthersEvaluated}
use Rattle.dm_told.specs.Told.{IsTold, ArePlacesTold}
use Rattle.dm_standing.specs.Calls.{HasArguments, MayCall}
use Rattle.dm_standing.proofs.ArityLemmas.{IsDefinedAs}
use Rattle.dm_standing.proofs.CallLemmas.{AllTold, expression_called}
use Rattle.dm_standing.proofs.TypedLemmas.{inside_declared, typed_body, all_without, all_there}
use Rattle.dm_standing.proofs.RunLemmas.{all_front, all_back, StandsAt, runs_stand, runs_stand_below}

-- ---- declarators have all trees behind lengths

same_count : (initialiser : Option Initialiser) → option_map_or expressions_in initialiser 0 ≡ expressions_of initialiser
same_count None = refl
same_count (Some initialiser) = refl

pub divided : (scene : Scene) (declarators : List Declarator) (trees : List Tree) → DeclaratorsFit scene declarators trees
    → flat_map (λ (one : Local). one.expressions) (with_expressions declarators trees) ≡ trees
divided scene [] trees h = sym h
divided scene (one ∷ more) trees h =
    let n = expressions_of one.initialiser in
    let rest = subst (λ (k : ℕ). DeclaratorsFit scene more (drop k trees)) (same_count one.initialiser) h.1 in
    ap (λ (ts : List Tree). take n trees ++ ts) (divided scene more (drop n trees) rest) ∙ take-append-drop n trees

pub divides : (scene : Scene) (label : Label) (kind : CType) (parts : List Tree) → Fits scene label kind parts → Divides label parts
divides scene (declare lengths declarators) kind parts fits = divided scene declarators (drop lengths parts) fits.0.2
divides scene label kind parts fits = tt

-- ---- full expressions are expressions of their own

abbrev pub AllApart : List Site → Type 0
AllApart sites = AllByRecursion (λ (site : Site). site.apart ≡ true) sites

apart_append : (front back : List Site) → AllApart front → AllApart back → AllApart (front ++ back)
apart_append [] back h k = k
apart_append (site ∷ front) back h k = (h.0, apart_append front back h.1 k)

pub apart_whole : (constant fixed : Bool) (trees : List Tree) → AllApart (map (whole constant fixed) trees)
apart_whole constant fixed [] = tt
apart_whole constant fixed (tree ∷ trees) = (refl, apart_whole constant fixed trees)

pub apart_declarators : (declared : List Declaration) (locals : List Local) → AllApart (declarator_sites declared locals)
apart_declarators declared [] = tt
apart_declarators declared (one ∷ locals) = apart_append (initial_sites declared one) (declarator_sites declared locals) (apart_whole false _ one.expressions) (apart_declarators declared locals)

pub apart_statement : (declared : List Declaration) (label : Label) (parts : List Tree) → AllApart (statement_parts declared label parts)
apart_statement declared (declare lengths declarators) parts =
    apart_append (map (whole true false) (take lengths parts)) (declarator_sites declared (with_expressions declarators (drop lengths parts)))
    (apart_whole true false (take lengths parts)) (apart_declarators declared (with_expressions declarators (drop lengths parts)))
apart_statement declared case [] = tt
apart_statement declared case (value ∷ parts) = (refl, apart_whole false false parts)
apart_statement declared label parts = apart_whole false false parts

-- ---- statements

not_sizeof : (rename : ℕ → ℕ) (label : Label) (named : Bool) → is_statement label ≡ true → NotInSizeof (relabelled rename label) named
not_sizeof rename sizeof_tree named e = absurd (false≢true e)
not_sizeof rename label named e = tt

-- no tokens are the value of a statement
pub stands_nowhere : (span : Span) (label : Label) (kind : CType) (spans : Spans) (parts : Trees) → is_statement label ≡ true → stands span (node label kind spans parts) ≡ false
stands_nowhere span label kind spans parts e =
    ap (λ (b : Bool). list_any (is_same_span span) (if not b && not (is_implied_conversion (node label kind spans parts)) then extents spans else [])) e

-- ---- lists of lists

pub all_mapped : {A B : Type 0} (P : B → Type 0) (g : A → List B) (xs : List A) → AllByRecursion P (flat_map g xs) → AllByRecursion (λ x. AllByRecursion P (g x)) xs
all_mapped P g [] h = tt
all_mapped P g (x ∷ xs) h = (all_front P (g x) (flat_map g xs) h, all_mapped P g xs (all_back P (g x) (flat_map g xs) h))

module _ (types : Table) (one : TypedUnit) (it : Rewriting) (new_declared : List Declaration) (f : ℕ) (parameters : List ℕ) (body : Tree)
    (adds : it.added ≡ added_function f parameters body) (defined : IsDefinedAs new_declared f parameters) (apart : (d : ℕ) → it.rename d ≡ f → ⊥)
    (keep : AllByRecursion (λ (run : Run). MayCall types one run × HasArguments it one (length parameters) run) it.runs) where
  abbrev Keeps : Run → Type 0
  Keeps run = MayCall types one run × HasArguments it one (length parameters) run

  abbrev Standing : Site → List Run → Type 0
  Standing site runs = AllByRecursion (StandsAt Keeps site.apart site.tree) runs

  -- the parts of a statement
  parts_of_statement : (label : Label) (kind : CType) (spans : Spans) (parts : Trees) (site : Site) → is_statement label ≡ true
      → AllTold one (sites_in one.declared (node label kind spans parts) site) → AllTold one (sites_below one.declared parts (statement_parts one.declared label (listed parts)))
  parts_of_statement label kind spans parts site e h =
      subst (λ (b : Bool). AllTold one ((if b then [] else site ∷ [])
      ++ sites_below one.declared parts (if b then statement_parts one.declared label (listed parts) else operand_sites site label spans 0 (listed parts)))) e h

  head_is : (site : Site) (sites : List Site) (tree : Tree) (trees : List Tree) → map tree_of (site ∷ sites) ≡ tree ∷ trees → site.tree ≡ tree
  head_is site sites tree trees e = cc

  tail_is : (site : Site) (sites : List Site) (tree : Tree) (trees : List Tree) → map tree_of (site ∷ sites) ≡ tree ∷ trees → map tree_of sites ≡ trees
  tail_is site sites tree trees e = cc

  -- runs that stand at a part stand at its place
  at_part : (label : Label) (spans : Spans) (part : Tree) (site : Site) → site.tree ≡ part → site.apart ≡ true → Standing site (runs_below it.runs label spans part)
  at_part label spans part site same is = moved_to (runs_below it.runs label spans part) (runs_stand_below Keeps it.runs label spans part keep)
    where
      moved_to : (runs : List Run) → AllByRecursion (StandsAt Keeps (is_apart label spans part) part) runs → Standing site runs
      moved_to [] h = tt
      moved_to (run ∷ runs) h = ((h.0.0, is, subst (λ (t : Tree). stands run.span t ≡ true) (sym same) h.0.2), moved_to runs h.1)

  mutual
    pub statement_called : (standing : List Run) (tree other : Tree) (site : Site) (scene old_scene : Scene) → scene.declared ≡ new_declared → site.tree ≡ other
        → AllTold one (sites_in one.declared other site) → Standing site standing → IsWellTyped scene tree → IsWellTyped old_scene other → Agrees it standing tree other
        → (b : Bool) → is_statement (label_of other) ≡ b → IsEvaluated f tree
    statement_called standing tree other site scene old_scene e same told stand typed old_typed h false is =
        (expression_called types one it new_declared f parameters body adds defined apart keep false standing tree other site scene e same (λ no. absurd (false≢true no))
        (typed-expression old_scene other old_typed (ap not is)) told stand typed h).1
    statement_called [] (node label kind spans parts) (node other other_kind other_spans others) site scene old_scene e same told stand typed old_typed h true is = (
      subst (λ (l : Label). NotInSizeof l (any_names f parts)) (sym h.0.0) (not_sizeof it.rename other (any_names f parts) is),
      all_called other other_spans parts others (statement_parts one.declared other (listed others)) (inside scene label (listed parts)) (inside old_scene other (listed others))
          (inside_declared scene label (listed parts) ∙ e)
          (statement-trees one.declared other (listed others) (divides old_scene other other_kind (listed others) old_typed.0)) (apart_statement one.declared other (listed others))
          (parts_of_statement other other_kind other_spans others site is told) typed.1 old_typed.1 h.1,
    )
    statement_called (run ∷ inner) (node label kind spans parts) (node other other_kind other_spans others) site scene old_scene e same told stand typed old_typed h true is =
        absurd (true≢false (sym (subst (λ (t : Tree). stands run.span t ≡ true) same stand.0.2) ∙ stands_nowhere run.span other other_kind other_spans others is))

    all_called : (label : Label) (spans : Spans) (trees others : Trees) (sites : List Site) (scene old_scene : Scene) → scene.declared ≡ new_declared → map tree_of sites ≡ listed others
        → AllApart sites → AllTold one (sites_below one.declared others sites) → AreWellTyped scene trees → AreWellTyped old_scene others → AllAgree it label spans trees others
        → AreEvaluated f trees
    all_called label spans no_trees no_trees sites scene old_scene e same own told typed old_typed h = tt
    all_called label spans no_trees (more_trees other others) sites scene old_scene e same own told typed old_typed h = absurd h
    all_called label spans (more_trees first rest) no_trees sites scene old_scene e same own told typed old_typed h = absurd h
    all_called label spans (more_trees first rest) (more_trees other others) [] scene old_scene e same own told typed old_typed h = absurd (no_head (listed others) other same)
      where
        no_head : (trees : List Tree) (tree : Tree) → [] ≡ tree ∷ trees → ⊥
        no_head trees tree e = cc
    all_called label spans (more_trees first rest) (more_trees other others) (site ∷ sites) scene old_scene e same own told typed old_typed h =
        let here = head_is site sites other (listed others) same in (
          statement_called (runs_below it.runs label spans other) first other site scene old_scene e here
              (all_front (IsTold one) (sites_in one.declared other site) (sites_below one.declared others sites) told) (at_part label spans other site here own.0) typed.0 old_typed.0 h.0
              (is_statement (label_of other)) refl,
          all_called label spans rest others sites scene old_scene e (tail_is site sites other (listed others) same) own.1
              (all_back (IsTold one) (sites_in one.declared other site) (sites_below one.declared others sites) told) typed.1 old_typed.1 h.1,
        )

  -- ---- external declarations

  abbrev RootTold : Site → Type 0
  RootTold site = AllTold one (sites_in one.declared site.tree site)

  tree_called : (tree : Tree) (site : Site) (scene old_scene : Scene) → scene.declared ≡ new_declared → site.apart ≡ true → RootTold site → IsWellTyped scene tree
      → IsWellTyped old_scene site.tree → AgreesWhole it tree site.tree → IsEvaluated f tree
  tree_called tree site scene old_scene e own told typed old_typed h =
      statement_called (runs_at it.runs site.tree) tree site.tree site scene old_scene e refl told (own_runs (runs_at it.runs site.tree) (runs_stand Keeps it.runs site.tree keep))
      typed old_typed h (is_statement (label_of site.tree)) refl
    where
      own_runs : (runs : List Run) → AllByRecursion (StandsAt Keeps true site.tree) runs → Standing site runs
      own_runs [] k = tt
      own_runs (run ∷ runs) k = ((k.0.0, own, k.0.2), own_runs runs k.1)

  trees_called : (trees others : List Tree) (sites : List Site) (scene old_scene : Scene) → scene.declared ≡ new_declared → map tree_of sites ≡ others → AllApart sites
      → AllByRecursion RootTold sites → All (IsWellTyped scene) trees → All (IsWellTyped old_scene) others → AllAgreeWhole it trees others → AllByRecursion (IsEvaluated f) trees
  trees_called [] [] sites scene old_scene e same own told typed old_typed h = tt
  trees_called [] (other ∷ others) sites scene old_scene e same own told typed old_typed h = absurd h
  trees_called (tree ∷ trees) [] sites scene old_scene e same own told typed old_typed h = absurd h
  trees_called (tree ∷ trees) (other ∷ others) [] scene old_scene e same own told typed old_typed h = absurd (no_head same)
    where
      no_head : [] ≡ other ∷ others → ⊥
      no_head e = cc
  trees_called (tree ∷ trees) (other ∷ others) (site ∷ sites) scene old_scene e same own told typed old_typed h =
      let here = head_is site sites other others same in (
        tree_called tree site scene old_scene e own.0 told.0 (All-head (IsWellTyped scene) tree trees typed)
            (subst (IsWellTyped old_scene) (sym here) (All-head (IsWellTyped old_scene) other others old_typed)) (subst (AgreesWhole it tree) (sym here) h.0),
        trees_called trees others sites scene old_scene e (tail_is site sites other others same) own.1 told.1 (All-tail (IsWellTyped scene) tree trees typed)
            (All-tail (IsWellTyped old_scene) other others old_typed) h.1,
      )

  form_called : (new_types old_types : Table) (form other : ExternalForm) → FormFits (file_scene new_types new_declared) form → FormFits (file_scene old_types one.declared) other
      → AllByRecursion RootTold (form_sites one.declared other) → aligned.FormsAgree it form other → AllByRecursion (IsEvaluated f) (trees_in_form form)
  form_called new_types old_types (declares declarators trees) (declares others other_trees) typed old_typed told h =
      let scene = file_scene new_types new_declared in
      let old_scene = file_scene old_types one.declared in
      trees_called trees other_trees (declarator_sites one.declared (with_expressions others other_trees)) scene old_scene refl
      (declarator-trees one.declared (with_expressions others other_trees) ∙ divided old_scene others other_trees old_typed.1)
      (apart_declarators one.declared (with_expressions others other_trees)) told typed.0 old_typed.0 h.1
  form_called new_types old_types (declares declarators trees) (defines_function g others other) typed old_typed told h = absurd h
  form_called new_types old_types (defines_function g own tree) (declares others other_trees) typed old_typed told h = absurd h
  form_called new_types old_types (defines_function g own tree) (defines_function k others other) typed old_typed told h =
      let new_body = typed_body new_types new_declared g own tree typed in
      let old_body = typed_body old_types one.declared k others other old_typed in (
        tree_called tree (whole false false other) (body_scene (file_scene new_types new_declared) new_body.result) (body_scene (file_scene old_types one.declared) old_body.result)
            refl refl told.0 new_body.typed old_body.typed h.2,
        tt,
      )

  externals_called : (new_types old_types : Table) (externals others : List External) → All (ExternalFits (file_scene new_types new_declared)) externals
      → All (ExternalFits (file_scene old_types one.declared)) others → AllByRecursion (λ (external : External). AllByRecursion RootTold (external_sites one.declared external)) others
      → Zipped (aligned.ExternalsAgree it) externals others → AllByRecursion (λ (external : External). AllByRecursion (IsEvaluated f) (trees_in_form external.form)) externals
  externals_called new_types old_types [] [] typed old_typed told h = tt
  externals_called new_types old_types [] (other ∷ others) typed old_typed told h = absurd h
  externals_called new_types old_types (external ∷ externals) [] typed old_typed told h = absurd h
  externals_called new_types old_types (external ∷ externals) (other ∷ others) typed old_typed told h = (
    form_called new_types old_types external.form other.form (All-head (ExternalFits (file_scene new_types new_declared)) external externals typed).2
        (All-head (ExternalFits (file_scene old_types one.declared)) other others old_typed).2
        (all_back RootTold (map (whole true false) other.constants) (form_sites one.declared other.form) told.0) h.0.1,
    externals_called new_types old_types externals others (All-tail (ExternalFits (file_scene new_types new_declared)) external externals typed)
        (All-tail (ExternalFits (file_scene old_types one.declared)) other others old_typed) told.1 h.1,
  )

-- ---- what is put in

-- no old declaration has its number
moved_apart : (put : Insertion) (d : ℕ) → IsPut put (moved (Some put) d) → ⊥
moved_apart put d h = grind (arith, nat_tests, h)

module _ (types : Table) (new : TypedUnit) (put : Insertion) (f : ℕ) (parameters : List ℕ) (body : Tree) where
  abbrev scene : Scene
  scene = file_scene types new.declared

  by_type : (entry : Declaration) (whole : Tree) → slice_get new.declared f ≡ Some entry → (kind : CType) → entry.kind ≡ kind → DefinitionFits scene parameters whole kind
      → IsDefinedAs new.declared f parameters
  by_type entry whole found (function_type result types) typed fits =
      record { entry = entry; found = found; result = result; types = types; typed = typed; scene = scene; fits = fits.0 }
  by_type entry whole found void typed fits = absurd fits
  by_type entry whole found (integer kind) typed fits = absurd fits
  by_type entry whole found (pointer kind) typed fits = absurd fits
  by_type entry whole found (array kind n) typed fits = absurd fits
  by_type entry whole found (struct n) typed fits = absurd fits
  by_type entry whole found (const kind) typed fits = absurd fits

  by_entry : (whole : Tree) (found : Option Declaration) → slice_get new.declared f ≡ found → IsSomeAnd found (λ (entry : Declaration). Unit {0}) → IfSome found (FunctionFits scene parameters whole)
      → IsDefinedAs new.declared f parameters
  by_entry whole None e names fits = absurd names
  by_entry whole (Some entry) e names fits = by_type entry whole e entry.kind refl fits.1

  some_entry : (P : Declaration → Type 0) (found : Option Declaration) → IsSomeAnd found P → IsSomeAnd found (λ (entry : Declaration). Unit {0})
  some_entry P None h = absurd h
  some_entry P (Some entry) h = tt

  pub defined_by : (form : ExternalForm) → FormFits scene form → FormAdds types new put (added_function f parameters body) form → IsPut put f × IsDefinedAs new.declared f parameters
  defined_by (declares declarators trees) fits h = absurd h
  defined_by (defines_function g others whole) fits h =
      let fits_it = subst (FormFits scene) (ap (λ n. defines_function n others whole) (sym h.0) ∙ ap (λ ps. defines_function f ps whole) (sym h.1)) fits in
      (h.3.0, by_entry whole (slice_get new.declared f) refl (some_entry _ (slice_get new.declared f) h.3.1) fits_it.0)

-- ---- units

module _ (old_types new_types : Table) (old new : TypedUnit) (runs : List Run) (put : Insertion) (f : ℕ) (parameters : List ℕ) (body : Tree)
    (old_typed : IsWellTypedUnit old_types old) (typed : IsWellTypedUnit new_types new) (h : AreAligned old_types new_types old new runs (Some put))
    (adds : put.added ≡ added_function f parameters body) (told : ArePlacesTold old)
    (keep : AllByRecursion (λ (run : Run). MayCall old_types old run × HasArguments (rewriting_of old_types old runs (Some put)) old (length parameters) run) runs) where
  abbrev it : Rewriting
  it = rewriting_of old_types old runs (Some put)

  by_external : (found : Option External) → slice_get new.externals put.external ≡ found → IsSomeAnd found (λ external. FormAdds new_types new put put.added external.form)
      → IsPut put f × IsDefinedAs new.declared f parameters
  by_external None e adds_it = absurd adds_it
  by_external (Some external) e adds_it =
      defined_by new_types new put f parameters body external.form (all_there (ExternalFits (file_scene new_types new.declared)) new.externals typed.externals put.external external e).2
      (subst (λ (added : Added). FormAdds new_types new put added external.form) adds adds_it)

  pub calls_evaluated : AreOthersEvaluated f put new
  calls_evaluated =
      let is = by_external (slice_get new.externals put.external) refl h.added in
      externals_called old_types old it new.declared f parameters body adds is.1 (λ d e. moved_apart put d (subst (IsPut put) (sym e) is.0)) keep new_types old_types
      (other_externals (Some put) new.externals) old.externals
      (all_without (ExternalFits (file_scene new_types new.declared)) put.external new.externals typed.externals) old_typed.externals
      (all_mapped (RootTold old_types old it new.declared f parameters body adds is.1 (λ d e. moved_apart put d (subst (IsPut put) (sym e) is.0)) keep) (external_sites old.declared) old.externals
      (all_mapped (IsTold old) (λ (site : Site). sites_in old.declared site.tree site) (_) told)) h.externals

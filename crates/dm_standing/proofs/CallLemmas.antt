-- Expressions of the new unit beside those of the old one, with their places there: no operand of sizeof calls the added function.
--     Claim f unevaluated tree      no operand of sizeof in a tree names the function, nor does the tree where it stands in one itself
--     expression_called      so it is of a tree that agrees with one at its place
use Rattle.std.specs.Prelude.{◌≡◌, refl, ℕ, suc, ◌+◌, ◌<◌, Bool, true, false, not, ◌||◌, ◌==◌, List, [], ◌∷◌, ◌++◌, length, Some, if◌then◌else◌}
use Rattle.std.specs.List.{AllByRecursion}
use Rattle.std.proofs.Common.{ap, sym, ◌∙◌, subst, arith}
use Rattle.std.proofs.lemmas.Bool.{true≢false, false≢true, and_parts}
use Rattle.dm_runs.specs.declared.run.Occurrence.{Occurrence}
use Rattle.dm_runs.specs.declared.run.Run.{Run}
use Rattle.dm_type.specs.CTypes.{CType}
use Rattle.dm_type.specs.Tables.{Table}
use Rattle.dm_tree.specs.Scenes.{Scene}
use Rattle.dm_tree.specs.Trees.{Label, function, sizeof_tree, Spans, Tree, Trees, node, no_trees, more_trees, listed, is_statement}
use Rattle.dm_tree.specs.Typing.{Fits, inside, IsWellTyped, AreWellTyped}
use Rattle.dm_tree.specs.Units.{Declaration, TypedUnit}
use Rattle.dm_meaning.specs.Replaced.{relabelled}
use Rattle.dm_meaning.specs.Wholes.{is_expression, are_expressions}
use Rattle.dm_sites.specs.Links.{passes}
use Rattle.dm_sites.specs.Sites.{Site, is_sizeof, operand_site, operand_sites, statement_parts, sites_in, sites_below, site_of}
use Rattle.dm_agree.specs.Standing.{stands, runs_below}
use Rattle.dm_agree.specs.Agreement.{Added, added_function, Rewriting, Here, here_at, here_below, Left, left_at, standing_in, standing_below, standing_for, Agrees, AllAgree, AllLeft, AtRun, Passes, PassesFrom}
use Rattle.dm_beside.specs.Places.{wants_constant, may_stand}
use Rattle.dm_refine.specs.Calls.{is_name_of, names, any_names, NotInSizeof, IsEvaluated, AreEvaluated}
use Rattle.dm_told.specs.Told.{IsTold}
use Rattle.dm_standing.specs.Calls.{IsThere, HasArguments, MayCall}
use Rattle.dm_standing.proofs.ArityLemmas.{IsDefinedAs, NamesIt, named_parts}
use Rattle.dm_standing.proofs.RunLemmas.{all_append, all_front, all_back, StandsAt, runs_stand_below}
use Rattle.dm_standing.proofs.TypedLemmas.{inside_declared}

-- ---- tests

or_false : (a b : Bool) → a ≡ false → b ≡ false → (a || b) ≡ false
or_false true b e g = absurd (true≢false e)
or_false false b e g = g

neither : (a b : Bool) → (a || b) ≡ false → (a ≡ false) × (b ≡ false)
neither true b e = absurd (true≢false e)
neither false b e = (refl, e)

not_true : (b : Bool) → not b ≡ true → b ≡ false
not_true true e = absurd (false≢true e)
not_true false e = refl

either_below : (u above sizeof : Bool) → (u ≡ true → above ≡ true) → (u || sizeof) ≡ true → (above || sizeof) ≡ true
either_below true above sizeof h e = ap (λ b. b || sizeof) (h refl)
either_below false true sizeof h e = refl
either_below false false sizeof h e = e

under : (u sizeof : Bool) → u ≡ true → (u || sizeof) ≡ true
under true sizeof e = refl
under false sizeof e = absurd (false≢true e)

beyond : (u sizeof : Bool) → sizeof ≡ true → (u || sizeof) ≡ true
beyond true sizeof e = refl
beyond false sizeof e = e

equal_nat : (a b : ℕ) → (a == b) ≡ true → a ≡ b
equal_nat a b e = grind (arith, e)

-- ---- the function is named only where it is called

module _ (f : ℕ) (rename : ℕ → ℕ) (apart : (d : ℕ) → rename d ≡ f → ⊥) where
  other_name : (d : ℕ) → (rename d == f) ≡ false
  other_name d = by_test (rename d == f) refl
    where
      by_test : (b : Bool) → (rename d == f) ≡ b → (rename d == f) ≡ false
      by_test true e = absurd (apart d (equal_nat (rename d) f e))
      by_test false e = e

  pub not_named : (label : Label) → is_name_of f (relabelled rename label) ≡ false
  not_named (function d) = other_name d
  not_named label = refl

pub not_in_sizeof : (rename : ℕ → ℕ) (label : Label) (named : Bool) → (is_sizeof label ≡ true → named ≡ false) → NotInSizeof (relabelled rename label) named
not_in_sizeof rename sizeof_tree named h = h refl
not_in_sizeof rename label named h = tt

abbrev pub Claim : ℕ → Bool → Tree → Type 0
Claim f u tree = (u ≡ true → names f tree ≡ false) × IsEvaluated f tree

abbrev pub Claims : ℕ → Bool → Trees → Type 0
Claims f u trees = (u ≡ true → any_names f trees ≡ false) × AreEvaluated f trees

-- ---- places

abbrev pub AllTold : TypedUnit → List Site → Type 0
AllTold one sites = AllByRecursion (IsTold one) sites

-- an expression and its parts are told
module _ (one : TypedUnit) where
  pub own_and_parts : (label : Label) (kind : CType) (spans : Spans) (parts : Trees) (site : Site) → is_statement label ≡ false
      → AllTold one (sites_in one.declared (node label kind spans parts) site)
      → IsTold one site × AllTold one (sites_below one.declared parts (operand_sites site label spans 0 (listed parts)))
  own_and_parts label kind spans parts site e h =
      let told = subst (λ (b : Bool). AllTold one ((if b then [] else site ∷ [])
      ++ sites_below one.declared parts (if b then statement_parts one.declared label (listed parts) else operand_sites site label spans 0 (listed parts)))) e h in
      (told.0, told.1)

-- a run that may be a call stands at the place that is found by its tokens, and is evaluated there
found_at : (types : Table) (one : TypedUnit) (site : Site) → IsTold one site → (run : Run) → MayCall types one run → site.apart ≡ true → stands run.span site.tree ≡ true
    → (site_of one run.span ≡ Some site) × (site.unevaluated ≡ false)
found_at types one site told run may_call apart stand =
    let found = told run.span apart stand in
    let may : not (wants_constant site) ≡ true = sym (ap (passes (may_stand types one true)) found) ∙ may_call in
    (found, (neither site.fixed site.unevaluated (neither site.constant (site.fixed || site.unevaluated) (not_true (wants_constant site) may)).1).1)

-- ---- trees

module _ (types : Table) (one : TypedUnit) (it : Rewriting) (new_declared : List Declaration) (f : ℕ) (parameters : List ℕ) (body : Tree)
    (adds : it.added ≡ added_function f parameters body) (defined : IsDefinedAs new_declared f parameters) (apart : (d : ℕ) → it.rename d ≡ f → ⊥)
    (keep : AllByRecursion (λ (run : Run). MayCall types one run × HasArguments it one (length parameters) run) it.runs) where
  abbrev Keeps : Run → Type 0
  Keeps run = MayCall types one run × HasArguments it one (length parameters) run

  abbrev Standing : Site → List Run → Type 0
  Standing site runs = AllByRecursion (StandsAt Keeps site.apart site.tree) runs

  -- the place of what stands at an occurrence
  record Seated (left : Left) : Type 0 where
    site : Site
    same : site.tree ≡ left.tree
    expression : is_expression left.tree ≡ true
    told : AllTold one (sites_in one.declared left.tree site)
    standing : Standing site left.runs

  at_occurrence : (n : ℕ) (occurrences : List Occurrence) (runs : List Run) (tree : Tree) (below : List Left) → Seated (record { runs = runs; tree = tree }) → AllByRecursion Seated below
      → AllByRecursion Seated (left_at n occurrences runs tree below)
  at_occurrence n [] runs tree below h rest = rest
  at_occurrence n (first ∷ others) runs tree below h rest = by_test (first.parameter == n)
    where
      by_test : (b : Bool) → AllByRecursion Seated (if b then record { runs = runs; tree = tree } ∷ [] else [])
      by_test true = (h, tt)
      by_test false = tt

  mutual
    seated_in : (run : Run) (n : ℕ) (here : Here) (tree : Tree) (site : Site) → site.tree ≡ tree → is_expression tree ≡ true → AllTold one (sites_in one.declared tree site)
        → Standing site here.runs → AllByRecursion Seated (standing_in it run n here tree)
    seated_in run n here (node label kind spans parts) site same expression told standing =
        let plain = and_parts (not (is_statement label)) (are_expressions parts) expression in
        at_occurrence n here.occurrences here.runs (node label kind spans parts) (standing_below it run n label spans parts)
        (record { site = site; same = same; expression = expression; told = told; standing = standing })
        (seated_below run n label spans site 0 parts plain.1 (own_and_parts one label kind spans parts site (not_true (is_statement label) plain.0) told).1)

    seated_below : (run : Run) (n : ℕ) (label : Label) (spans : Spans) (above : Site) (from : ℕ) (trees : Trees) → are_expressions trees ≡ true
        → AllTold one (sites_below one.declared trees (operand_sites above label spans from (listed trees))) → AllByRecursion Seated (standing_below it run n label spans trees)
    seated_below run n label spans above from no_trees expressions told = tt
    seated_below run n label spans above from (more_trees first rest) expressions told =
        let plain = and_parts (is_expression first) (are_expressions rest) expressions in
        let here = operand_site above label spans from first in
        let behind = sites_below one.declared rest (operand_sites above label spans (suc from) (listed rest)) in
        all_append Seated (standing_in it run n (here_below it run label spans first) first) (standing_below it run n label spans rest)
        (seated_in run n (here_below it run label spans first) first here refl plain.0 (all_front (IsTold one) (sites_in one.declared first here) behind told)
        (runs_stand_below Keeps it.runs label spans first keep))
        (seated_below run n label spans above (suc from) rest plain.1 (all_back (IsTold one) (sites_in one.declared first here) behind told))

  -- an argument agrees with what stands at an occurrence
  argument_called : (argument : Tree) → ((left : Left) → Seated left → Agrees it left.runs argument left.tree → IsEvaluated f argument)
      → (lefts : List Left) → AllByRecursion Seated lefts → AllLeft (λ runs tree. Agrees it runs argument tree) lefts → IsThere lefts → IsEvaluated f argument
  argument_called argument called [] seated agree there = absurd there
  argument_called argument called (first ∷ rest) seated agree there = called first seated.0 agree.0

  -- the function's name, and arguments that are such
  first_is : (a b : Tree) (rest others : Trees) → more_trees a rest ≡ more_trees b others → a ≡ b
  first_is a b rest others e = cc

  rest_is : (a b : Tree) (rest others : Trees) → more_trees a rest ≡ more_trees b others → rest ≡ others
  rest_is a b rest others e = cc

  mutual
    pub expression_called : (u : Bool) (standing : List Run) (tree other : Tree) (site : Site) (scene : Scene) → scene.declared ≡ new_declared → site.tree ≡ other
        → (u ≡ true → site.unevaluated ≡ true) → is_expression other ≡ true → AllTold one (sites_in one.declared other site) → Standing site standing → IsWellTyped scene tree
        → Agrees it standing tree other → Claim f u tree
    expression_called u [] (node label kind spans parts) (node other other_kind other_spans others) site scene e same unevaluated expression told stand typed h =
        let plain = and_parts (not (is_statement other)) (are_expressions others) expression in
        let places = own_and_parts one other other_kind other_spans others site (not_true (is_statement other) plain.0) told in
        let below = parts_called (u || is_sizeof other) other other_spans site 0 parts others (inside scene label (listed parts)) (inside_declared scene label (listed parts) ∙ e)
        (either_below u site.unevaluated (is_sizeof other) unevaluated) plain.1 places.1 typed.1 h.1 in (
          λ is. or_false (is_name_of f label) (any_names f parts) (subst (λ (l : Label). is_name_of f l ≡ false) (sym h.0.0) (not_named f it.rename apart other))
              (below.0 (under u (is_sizeof other) is)),
          (
            subst (λ (l : Label). NotInSizeof l (any_names f parts)) (sym h.0.0)
                (not_in_sizeof it.rename other (any_names f parts) (λ is. below.0 (beyond u (is_sizeof other) is))),
            below.1,
          ),
        )
    expression_called u (run ∷ inner) (node label kind spans parts) (node other other_kind other_spans others) site scene e same unevaluated expression told stand typed h =
        let old = node other other_kind other_spans others in
        let plain = and_parts (not (is_statement other)) (are_expressions others) expression in
        let places = own_and_parts one other other_kind other_spans others site (not_true (is_statement other) plain.0) told in
        let at = subst (λ (added : Added). AtRun it added run inner label kind parts old (Passes it parts run inner old)) adds h in
        let names_it = named_parts new_declared f parameters defined scene e kind parts at.0.2
        (subst (λ (l : Label). Fits scene l kind (listed parts)) at.0.0 typed.0) (subst (λ (l : Label). AreWellTyped (inside scene l (listed parts)) parts) at.0.0 typed.1) in
        let found = found_at types one site places.0 run stand.0.0.0 stand.0.1 stand.0.2 in
        let there = stand.0.0.1 inner site found.0 in (
          λ is. absurd (true≢false (sym (unevaluated is) ∙ found.1)),
          subst (λ (l : Label). IsEvaluated f (node l kind spans parts)) (sym at.0.0) (
            tt,
            passes_called run inner old site same expression told stand.1 (λ n few. subst (λ (t : Tree). IsThere (standing_for it run inner n t)) same (there n few)) parts (inside scene label (listed parts)) (inside_declared scene label (listed parts) ∙ e) names_it typed.1 at.1,
          ),
        )

    parts_called : (u : Bool) (label : Label) (spans : Spans) (above : Site) (from : ℕ) (trees others : Trees) (scene : Scene) → scene.declared ≡ new_declared
        → (u ≡ true → (above.unevaluated || is_sizeof label) ≡ true) → are_expressions others ≡ true
        → AllTold one (sites_below one.declared others (operand_sites above label spans from (listed others))) → AreWellTyped scene trees → AllAgree it label spans trees others → Claims f u trees
    parts_called u label spans above from no_trees no_trees scene e unevaluated expressions told typed h = (λ is. refl, tt)
    parts_called u label spans above from no_trees (more_trees other others) scene e unevaluated expressions told typed h = absurd h
    parts_called u label spans above from (more_trees first rest) no_trees scene e unevaluated expressions told typed h = absurd h
    parts_called u label spans above from (more_trees first rest) (more_trees other others) scene e unevaluated expressions told typed h =
        let plain = and_parts (is_expression other) (are_expressions others) expressions in
        let here = operand_site above label spans from other in
        let behind = sites_below one.declared others (operand_sites above label spans (suc from) (listed others)) in
        let one_is = expression_called u (runs_below it.runs label spans other) first other here scene e refl unevaluated plain.0
        (all_front (IsTold one) (sites_in one.declared other here) behind told) (runs_stand_below Keeps it.runs label spans other keep) typed.0 h.0 in
        let others_are = parts_called u label spans above (suc from) rest others scene e unevaluated plain.1 (all_back (IsTold one) (sites_in one.declared other here) behind told) typed.1 h.1 in
        (λ is. or_false (names f first) (any_names f rest) (one_is.0 is) (others_are.0 is), (one_is.1, others_are.1))

    passes_called : (run : Run) (inner : List Run) (other : Tree) (site : Site) → site.tree ≡ other → is_expression other ≡ true → AllTold one (sites_in one.declared other site)
        → Standing site inner → ((n : ℕ) → n < length parameters → IsThere (standing_for it run inner n other)) → (parts : Trees) (scene : Scene) → scene.declared ≡ new_declared → NamesIt f (length parameters) parts
        → AreWellTyped scene parts → Passes it parts run inner other → AreEvaluated f parts
    passes_called run inner other site same expression told stand there no_trees scene e names_it typed h = absurd h
    passes_called run inner other site same expression told stand there (more_trees named arguments) scene e names_it typed h =
        let name = node (function f) names_it.named_kind names_it.named_spans no_trees in
        let rest = rest_is named name arguments names_it.arguments names_it.are in
        let count = ap (λ (ts : Trees). length (listed ts)) rest ∙ names_it.as_many in (
          subst (IsEvaluated f) (sym (first_is named name arguments names_it.arguments names_it.are)) (tt, tt),
          arguments_called run inner other site same expression told stand there 0 arguments (omega (arith, count)) scene e typed.1 h,
        )

    arguments_called : (run : Run) (inner : List Run) (other : Tree) (site : Site) → site.tree ≡ other → is_expression other ≡ true → AllTold one (sites_in one.declared other site)
        → Standing site inner → ((n : ℕ) → n < length parameters → IsThere (standing_for it run inner n other)) → (n : ℕ) (trees : Trees) → n + length (listed trees) ≡ length parameters → (scene : Scene) → scene.declared ≡ new_declared
        → AreWellTyped scene trees → PassesFrom it n trees run inner other → AreEvaluated f trees
    arguments_called run inner other site same expression told stand there n no_trees count scene e typed h = tt
    arguments_called run inner other site same expression told stand there n (more_trees first rest) count scene e typed h =
        let more : length (first ∷ listed rest) ≡ suc (length (listed rest)) = refl in (
          argument_called first
              (λ left seated agree. (expression_called false left.runs first left.tree seated.site scene e seated.same (λ is. absurd (false≢true is)) seated.expression seated.told seated.standing typed.0 agree).1)
              (standing_for it run inner n other) (seated_in run n (here_at run inner other) other site same expression told stand) h.0
              (there n (omega (arith, count, more))),
          arguments_called run inner other site same expression told stand there (suc n) rest (omega (arith, count, more)) scene e typed.1 h.1,
        )

-- What is known where alignment comes to a run is known of the unit, or no run stands where it comes to.
--     unmet      the same rewriting, where there are no runs
--     unit_met      either something that each run tells to which alignment comes, or the units are aligned without runs
use Rattle.std.specs.Prelude.{◌≡◌, refl, ◌⊎◌, ℕ, suc, Bool, true, false, not, All, List, [], ◌∷◌, ◌++◌, map, flat_map, if◌then◌else◌}
use Rattle.std.specs.List.{AllByRecursion}
use Rattle.std.proofs.Common.{ap, sym, ◌∙◌, subst, inl, inr, ⊎_elim}
use Rattle.std.proofs.lemmas.Bool.{true≢false, false≢true, and_parts}
use Rattle.std.proofs.lemmas.List.Elements.{All-head, All-tail}
use Rattle.dm_token.specs.declared.place.Span.{Span}
use Rattle.dm_runs.specs.declared.run.Run.{Run}
use Rattle.dm_type.specs.CTypes.{CType}
use Rattle.dm_type.specs.Tables.{Table}
use Rattle.dm_tree.specs.Scenes.{Scene}
use Rattle.dm_tree.specs.Trees.{Label, Spans, Tree, Trees, node, no_trees, more_trees, label_of, listed, is_statement}
use Rattle.dm_tree.specs.Typing.{FormFits, ExternalFits, inside, IsWellTyped, AreWellTyped, IsWellTypedUnit, file_scene, body_scene}
use Rattle.dm_tree.specs.Units.{External, ExternalForm, declares, defines_function, TypedUnit}
use Rattle.dm_meaning.specs.Replaced.{Zipped}
use Rattle.dm_meaning.specs.Statements.{with_expressions}
use Rattle.dm_meaning.specs.Wholes.{is_expression, are_expressions}
use Rattle.dm_meaning.proofs.WholeLemmas.{typed-expression}
use Rattle.dm_sites.specs.Sites.{Site, whole, declarator_sites, statement_parts, operand_site, operand_sites, sites_in, sites_below, form_sites, external_sites}
use Rattle.dm_sites.specs.Standing.{is_apart}
use Rattle.dm_sites.proofs.PlaceLemmas.{tree_of, whole-trees, declarator-trees, statement-trees}
use Rattle.dm_agree.specs.Standing.{extents_below, extents_of, stands, runs_with, runs_at, runs_below}
use Rattle.dm_agree.specs.Agreement.{Rewriting, Agrees, AllAgree, AgreesWhole, AllAgreeWhole, AtRun, Passes}
use Rattle.dm_align.specs.Units as aligned
use Rattle.dm_align.specs.Units.{Insertion, other_externals, rewriting_of, AreAligned}
use Rattle.dm_told.specs.Told.{IsTold, ArePlacesTold}
use Rattle.dm_standing.proofs.CallLemmas.{AllTold, own_and_parts}
use Rattle.dm_standing.proofs.RunLemmas.{all_front, all_back, StandsAt, runs_stand, runs_stand_below}
use Rattle.dm_standing.proofs.TypedLemmas.{typed_body}
use Rattle.dm_standing.proofs.UnitLemmas.{divided, divides, AllApart, apart_whole, apart_declarators, apart_statement, stands_nowhere, all_mapped}

abbrev pub unmet : Rewriting → Rewriting
unmet it = record it { runs = [] }

-- ---- no runs

no_runs_with : (spans : List Span) → flat_map (runs_with []) spans ≡ []
no_runs_with [] = refl
no_runs_with (span ∷ spans) = no_runs_with spans

no_runs_at : (tree : Tree) → runs_at [] tree ≡ []
no_runs_at tree = no_runs_with (extents_of tree)

no_runs_below : (label : Label) (spans : Spans) (part : Tree) → runs_below [] label spans part ≡ []
no_runs_below label spans part = no_runs_with (extents_below label spans part)

not_true : (b : Bool) → not b ≡ true → b ≡ false
not_true true e = absurd (false≢true e)
not_true false e = refl

module _ (one : TypedUnit) (it : Rewriting) (Keeps : Run → Type 0) (R : Type 0) (keep : AllByRecursion Keeps it.runs) where
  abbrev pub Standing : Site → List Run → Type 0
  Standing site runs = AllByRecursion (StandsAt Keeps site.apart site.tree) runs

  -- what is known of a run to which alignment comes
  pub record IsMet (run : Run) (inner : List Run) (label : Label) (kind : CType) (parts : Trees) (other : Tree) : Type 0 where
    pub site : Site
    pub same : site.tree ≡ other
    pub expression : is_expression other ≡ true
    pub told : AllTold one (sites_in one.declared other site)
    pub own : IsTold one site
    pub keeps : StandsAt Keeps site.apart site.tree run
    pub inner_stand : Standing site inner
    pub at : AtRun it it.added run inner label kind parts other (Passes it parts run inner other)

  module _ (visit : (run : Run) (inner : List Run) (label : Label) (kind : CType) (parts : Trees) (other : Tree) → IsMet run inner label kind parts other → R) where
    mutual
      expression_met : (standing : List Run) (tree other : Tree) (site : Site) → site.tree ≡ other → is_expression other ≡ true → AllTold one (sites_in one.declared other site)
          → Standing site standing → Agrees it standing tree other → R ⊎ Agrees (unmet it) [] tree other
      expression_met [] (node label kind spans parts) (node other other_kind other_spans others) site same expression told stand h =
          let plain = and_parts (not (is_statement other)) (are_expressions others) expression in
          let places = own_and_parts one other other_kind other_spans others site (not_true (is_statement other) plain.0) told in
          ⊎_elim (λ r. inl r) (λ rest. inr (h.0, rest)) (parts_met other other_spans site 0 parts others plain.1 places.1 h.1)
      expression_met (run ∷ inner) (node label kind spans parts) (node other other_kind other_spans others) site same expression told stand h =
          let plain = and_parts (not (is_statement other)) (are_expressions others) expression in
          let places = own_and_parts one other other_kind other_spans others site (not_true (is_statement other) plain.0) told in
          inl (visit run inner label kind parts (node other other_kind other_spans others)
          (record { site = site; same = same; expression = expression; told = told; own = places.0; keeps = stand.0; inner_stand = stand.1; at = h }))

      parts_met : (label : Label) (spans : Spans) (above : Site) (from : ℕ) (trees others : Trees) → are_expressions others ≡ true
          → AllTold one (sites_below one.declared others (operand_sites above label spans from (listed others))) → AllAgree it label spans trees others → R ⊎ AllAgree (unmet it) label spans trees others
      parts_met label spans above from no_trees no_trees expressions told h = inr tt
      parts_met label spans above from no_trees (more_trees other others) expressions told h = absurd h
      parts_met label spans above from (more_trees first rest) no_trees expressions told h = absurd h
      parts_met label spans above from (more_trees first rest) (more_trees other others) expressions told h =
          let plain = and_parts (is_expression other) (are_expressions others) expressions in
          let here = operand_site above label spans from other in
          let behind = sites_below one.declared others (operand_sites above label spans (suc from) (listed others)) in
          ⊎_elim (λ r. inl r)
          (λ this.
          ⊎_elim (λ r. inl r) (λ others_do. inr (subst (λ (runs : List Run). Agrees (unmet it) runs first other) (sym (no_runs_below label spans other)) this, others_do))
          (parts_met label spans above (suc from) rest others plain.1 (all_back (IsTold one) (sites_in one.declared other here) behind told) h.1))
          (expression_met (runs_below it.runs label spans other) first other here refl plain.0 (all_front (IsTold one) (sites_in one.declared other here) behind told)
          (runs_stand_below Keeps it.runs label spans other keep) h.0)

    -- ---- statements

    parts_of_statement : (label : Label) (kind : CType) (spans : Spans) (parts : Trees) (site : Site) → is_statement label ≡ true
        → AllTold one (sites_in one.declared (node label kind spans parts) site) → AllTold one (sites_below one.declared parts (statement_parts one.declared label (listed parts)))
    parts_of_statement label kind spans parts site e h =
        subst (λ (b : Bool). AllTold one ((if b then [] else site ∷ [])
        ++ sites_below one.declared parts (if b then statement_parts one.declared label (listed parts) else operand_sites site label spans 0 (listed parts)))) e h

    head_is : (site : Site) (sites : List Site) (tree : Tree) (trees : List Tree) → map tree_of (site ∷ sites) ≡ tree ∷ trees → site.tree ≡ tree
    head_is site sites tree trees e = cc

    tail_is : (site : Site) (sites : List Site) (tree : Tree) (trees : List Tree) → map tree_of (site ∷ sites) ≡ tree ∷ trees → map tree_of sites ≡ trees
    tail_is site sites tree trees e = cc

    no_head : (tree : Tree) (trees : List Tree) → [] ≡ tree ∷ trees → ⊥
    no_head tree trees e = cc

    at_part : (label : Label) (spans : Spans) (part : Tree) (site : Site) → site.tree ≡ part → site.apart ≡ true → Standing site (runs_below it.runs label spans part)
    at_part label spans part site same is = moved_to (runs_below it.runs label spans part) (runs_stand_below Keeps it.runs label spans part keep)
      where
        moved_to : (runs : List Run) → AllByRecursion (StandsAt Keeps (is_apart label spans part) part) runs → Standing site runs
        moved_to [] h = tt
        moved_to (run ∷ runs) h = ((h.0.0, is, subst (λ (t : Tree). stands run.span t ≡ true) (sym same) h.0.2), moved_to runs h.1)

    mutual
      statement_met : (standing : List Run) (tree other : Tree) (site : Site) (scene : Scene) → site.tree ≡ other → AllTold one (sites_in one.declared other site) → Standing site standing
          → IsWellTyped scene other → Agrees it standing tree other → (b : Bool) → is_statement (label_of other) ≡ b → R ⊎ Agrees (unmet it) [] tree other
      statement_met standing tree other site scene same told stand typed h false is =
          expression_met standing tree other site same (typed-expression scene other typed (ap not is)) told stand h
      statement_met [] (node label kind spans parts) (node other other_kind other_spans others) site scene same told stand typed h true is =
          ⊎_elim (λ r. inl r) (λ rest. inr (h.0, rest))
          (all_met other other_spans parts others (statement_parts one.declared other (listed others)) (inside scene other (listed others))
          (statement-trees one.declared other (listed others) (divides scene other other_kind (listed others) typed.0)) (apart_statement one.declared other (listed others))
          (parts_of_statement other other_kind other_spans others site is told) typed.1 h.1)
      statement_met (run ∷ inner) (node label kind spans parts) (node other other_kind other_spans others) site scene same told stand typed h true is =
          absurd (true≢false (sym (subst (λ (t : Tree). stands run.span t ≡ true) same stand.0.2) ∙ stands_nowhere run.span other other_kind other_spans others is))

      all_met : (label : Label) (spans : Spans) (trees others : Trees) (sites : List Site) (scene : Scene) → map tree_of sites ≡ listed others → AllApart sites
          → AllTold one (sites_below one.declared others sites) → AreWellTyped scene others → AllAgree it label spans trees others → R ⊎ AllAgree (unmet it) label spans trees others
      all_met label spans no_trees no_trees sites scene same own told typed h = inr tt
      all_met label spans no_trees (more_trees other others) sites scene same own told typed h = absurd h
      all_met label spans (more_trees first rest) no_trees sites scene same own told typed h = absurd h
      all_met label spans (more_trees first rest) (more_trees other others) [] scene same own told typed h = absurd (no_head other (listed others) same)
      all_met label spans (more_trees first rest) (more_trees other others) (site ∷ sites) scene same own told typed h =
          let here = head_is site sites other (listed others) same in
          ⊎_elim (λ r. inl r)
          (λ this.
          ⊎_elim (λ r. inl r) (λ others_do. inr (subst (λ (runs : List Run). Agrees (unmet it) runs first other) (sym (no_runs_below label spans other)) this, others_do))
          (all_met label spans rest others sites scene (tail_is site sites other (listed others) same) own.1
          (all_back (IsTold one) (sites_in one.declared other site) (sites_below one.declared others sites) told) typed.1 h.1))
          (statement_met (runs_below it.runs label spans other) first other site scene here
          (all_front (IsTold one) (sites_in one.declared other site) (sites_below one.declared others sites) told) (at_part label spans other site here own.0) typed.0 h.0
          (is_statement (label_of other)) refl)

    -- ---- external declarations

    abbrev RootTold : Site → Type 0
    RootTold site = AllTold one (sites_in one.declared site.tree site)

    tree_met : (tree : Tree) (site : Site) (scene : Scene) → site.apart ≡ true → RootTold site → IsWellTyped scene site.tree → AgreesWhole it tree site.tree
        → R ⊎ AgreesWhole (unmet it) tree site.tree
    tree_met tree site scene own told typed h =
        ⊎_elim (λ r. inl r) (λ this. inr (subst (λ (runs : List Run). Agrees (unmet it) runs tree site.tree) (sym (no_runs_at site.tree)) this))
        (statement_met (runs_at it.runs site.tree) tree site.tree site scene refl told (own_runs (runs_at it.runs site.tree) (runs_stand Keeps it.runs site.tree keep)) typed h
        (is_statement (label_of site.tree)) refl)
      where
        own_runs : (runs : List Run) → AllByRecursion (StandsAt Keeps true site.tree) runs → Standing site runs
        own_runs [] k = tt
        own_runs (run ∷ runs) k = ((k.0.0, own, k.0.2), own_runs runs k.1)

    trees_met : (trees others : List Tree) (sites : List Site) (scene : Scene) → map tree_of sites ≡ others → AllApart sites → AllByRecursion RootTold sites → All (IsWellTyped scene) others
        → AllAgreeWhole it trees others → R ⊎ AllAgreeWhole (unmet it) trees others
    trees_met [] [] sites scene same own told typed h = inr tt
    trees_met [] (other ∷ others) sites scene same own told typed h = absurd h
    trees_met (tree ∷ trees) [] sites scene same own told typed h = absurd h
    trees_met (tree ∷ trees) (other ∷ others) [] scene same own told typed h = absurd (no_head other others same)
    trees_met (tree ∷ trees) (other ∷ others) (site ∷ sites) scene same own told typed h =
        let here = head_is site sites other others same in
        ⊎_elim (λ r. inl r)
        (λ this. ⊎_elim (λ r. inl r) (λ others_do. inr (subst (AgreesWhole (unmet it) tree) here this, others_do))
        (trees_met trees others sites scene (tail_is site sites other others same) own.1 told.1 (All-tail (IsWellTyped scene) other others typed) h.1))
        (tree_met tree site scene own.0 told.0 (subst (IsWellTyped scene) (sym here) (All-head (IsWellTyped scene) other others typed)) (subst (AgreesWhole it tree) (sym here) h.0))

    form_met : (types : Table) (form other : ExternalForm) → FormFits (file_scene types one.declared) other → AllByRecursion RootTold (form_sites one.declared other)
        → aligned.FormsAgree it form other → R ⊎ aligned.FormsAgree (unmet it) form other
    form_met types (declares declarators trees) (declares others other_trees) typed told h =
        let scene = file_scene types one.declared in
        ⊎_elim (λ r. inl r) (λ rest. inr (h.0, rest))
        (trees_met trees other_trees (declarator_sites one.declared (with_expressions others other_trees)) scene
        (declarator-trees one.declared (with_expressions others other_trees) ∙ divided scene others other_trees typed.1)
        (apart_declarators one.declared (with_expressions others other_trees)) told typed.0 h.1)
    form_met types (declares declarators trees) (defines_function g others other) typed told h = absurd h
    form_met types (defines_function g own tree) (declares others other_trees) typed told h = absurd h
    form_met types (defines_function g own tree) (defines_function k others other) typed told h =
        let body = typed_body types one.declared k others other typed in
        ⊎_elim (λ r. inl r) (λ rest. inr (h.0, h.1, rest))
        (tree_met tree (whole false false other) (body_scene (file_scene types one.declared) body.result) refl told.0 body.typed h.2)

    external_met : (types : Table) (one_external other : External) → ExternalFits (file_scene types one.declared) other
        → AllByRecursion RootTold (external_sites one.declared other) → aligned.ExternalsAgree it one_external other → R ⊎ aligned.ExternalsAgree (unmet it) one_external other
    external_met types external other typed told h =
        let front = map (whole true false) other.constants in
        let back = form_sites one.declared other.form in
        ⊎_elim (λ r. inl r)
        (λ constants. ⊎_elim (λ r. inl r) (λ form. inr (constants, form))
        (form_met types external.form other.form typed.2 (all_back RootTold front back told) h.1))
        (trees_met external.constants other.constants front (file_scene types one.declared) (whole-trees true false other.constants) (apart_whole true false other.constants)
        (all_front RootTold front back told) typed.0 h.0)

    externals_met : (types : Table) (externals others : List External) → All (ExternalFits (file_scene types one.declared)) others
        → AllByRecursion (λ (external : External). AllByRecursion RootTold (external_sites one.declared external)) others → Zipped (aligned.ExternalsAgree it) externals others
        → R ⊎ Zipped (aligned.ExternalsAgree (unmet it)) externals others
    externals_met types [] [] typed told h = inr tt
    externals_met types [] (other ∷ others) typed told h = absurd h
    externals_met types (external ∷ externals) [] typed told h = absurd h
    externals_met types (external ∷ externals) (other ∷ others) typed told h =
        ⊎_elim (λ r. inl r)
        (λ this. ⊎_elim (λ r. inl r) (λ rest. inr (this, rest))
        (externals_met types externals others (All-tail (ExternalFits (file_scene types one.declared)) other others typed) told.1 h.1))
        (external_met types external other (All-head (ExternalFits (file_scene types one.declared)) other others typed) told.0 h.0)

    pub unit_met : (types : Table) (externals : List External) → IsWellTypedUnit types one → ArePlacesTold one → Zipped (aligned.ExternalsAgree it) externals one.externals
        → R ⊎ Zipped (aligned.ExternalsAgree (unmet it)) externals one.externals
    unit_met types externals typed told h =
        externals_met types externals one.externals typed.externals
        (all_mapped RootTold (external_sites one.declared) one.externals (all_mapped (IsTold one) (λ (site : Site). sites_in one.declared site.tree site) (flat_map (external_sites one.declared) one.externals) told)) h

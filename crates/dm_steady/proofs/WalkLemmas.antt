-- What holds of full expressions of the new unit beside those of the old one holds of the bodies of its functions.
--     AllPart label spans trees others      it holds of the parts of two nodes, one by one
--     AllBodies externals others      it holds of the functions' bodies
--     bodies_walked      where it goes from the parts of a statement to the statement
use Rattle.std.specs.Prelude.{◌≡◌, refl, Bool, true, false, not, All, List, [], ◌∷◌, ◌++◌, map, take, drop, flat_map, Some, if◌then◌else◌}
use Rattle.std.specs.List.{AllByRecursion}
use Rattle.std.proofs.Common.{ap, ap₂, sym, ◌∙◌, subst}
use Rattle.std.proofs.lemmas.Bool.{true≢false}
use Rattle.std.proofs.lemmas.List.Elements.{All-head, All-tail}
use Rattle.dm_runs.specs.declared.run.Run.{Run}
use Rattle.dm_type.specs.CTypes.{CType}
use Rattle.dm_type.specs.Tables.{Table}
use Rattle.dm_tree.specs.Paths.{Path, tree_at}
use Rattle.dm_tree.specs.Scenes.{Scene}
use Rattle.dm_tree.specs.Trees.{Label, declare, case, Spans, Tree, Trees, node, no_trees, more_trees, label_of, listed, is_statement}
use Rattle.dm_tree.specs.Typing.{inside, IsWellTyped, AreWellTyped, FormFits, ExternalFits, IsWellTypedUnit, file_scene, body_scene}
use Rattle.dm_tree.specs.Units.{Declaration, External, ExternalForm, declares, defines_function, TypedUnit}
use Rattle.dm_meaning.specs.Replaced.{relabelled, Zipped}
use Rattle.dm_meaning.specs.Statements.{Local, with_expressions}
use Rattle.dm_meaning.specs.Wholes.{is_expression}
use Rattle.dm_meaning.proofs.WholeLemmas.{typed-expression}
use Rattle.dm_sites.specs.Sites.{Site, whole, initial_sites, declarator_sites, statement_parts, operand_sites, sites_in, sites_below, form_sites, external_sites}
use Rattle.dm_sites.specs.Standing.{is_apart}
use Rattle.dm_sites.proofs.PlaceLemmas.{tree_of, statement-trees}
use Rattle.dm_agree.specs.Standing.{stands, runs_at, runs_below}
use Rattle.dm_agree.specs.Agreement.{Rewriting, Agrees, AllAgree}
use Rattle.dm_align.specs.Units as aligned
use Rattle.dm_told.specs.Told.{IsTold, ArePlacesTold}
use Rattle.dm_standing.proofs.CallLemmas.{AllTold}
use Rattle.dm_standing.proofs.RunLemmas.{all_append, all_front, all_back, StandsAt, runs_stand, runs_stand_below}
use Rattle.dm_standing.proofs.TypedLemmas.{inside_declared, typed_body}
use Rattle.dm_standing.proofs.UnitLemmas.{divides, stands_nowhere, all_mapped}
use Rattle.dm_steady.proofs.PartLemmas.{IsTyped}

-- ---- the places of full expressions and statements

abbrev pub IsRoot : Site → Type 0
IsRoot site = (site.apart ≡ true) × (site.path ≡ []) × (site.full ≡ site.tree)

abbrev AreRoots : List Site → Type 0
AreRoots sites = AllByRecursion IsRoot sites

whole_roots : (constant fixed : Bool) (trees : List Tree) → AreRoots (map (whole constant fixed) trees)
whole_roots constant fixed [] = tt
whole_roots constant fixed (tree ∷ trees) = ((refl, refl, refl), whole_roots constant fixed trees)

declarator_roots : (declared : List Declaration) (locals : List Local) → AreRoots (declarator_sites declared locals)
declarator_roots declared [] = tt
declarator_roots declared (one ∷ locals) = all_append IsRoot (initial_sites declared one) (declarator_sites declared locals) (whole_roots false _ one.expressions) (declarator_roots declared locals)

statement_roots : (declared : List Declaration) (label : Label) (parts : List Tree) → AreRoots (statement_parts declared label parts)
statement_roots declared (declare lengths declarators) parts =
    all_append IsRoot (map (whole true false) (take lengths parts)) (declarator_sites declared (with_expressions declarators (drop lengths parts))) (whole_roots true false (take lengths parts))
    (declarator_roots declared (with_expressions declarators (drop lengths parts)))
statement_roots declared case [] = tt
statement_roots declared case (value ∷ parts) = ((refl, refl, refl), whole_roots false false parts)
statement_roots declared label parts = whole_roots false false parts

root_leads : (site : Site) (tree : Tree) → IsRoot site → site.tree ≡ tree → tree_at site.path site.full ≡ Some tree
root_leads site tree root same = ap₂ (λ (p : Path) (t : Tree). tree_at p t) root.1 (root.2 ∙ same)

-- ---- statements

module _ (one : TypedUnit) (it : Rewriting) (Keeps : Run → Type 0) (keep : AllByRecursion Keeps it.runs) (new_declared : List Declaration) (Part : List Run → Tree → Tree → Type 0) where
  abbrev pub Standing : Site → List Run → Type 0
  Standing site runs = AllByRecursion (StandsAt Keeps site.apart site.tree) runs

  abbrev pub AllPart : Label → Spans → Trees → Trees → Type 0
  AllPart label spans no_trees no_trees = Unit {0}
  AllPart label spans (more_trees first rest) (more_trees other others) = Part (runs_below it.runs label spans other) first other × AllPart label spans rest others
  AllPart label spans trees others = ⊥

  abbrev pub BodyPart : ExternalForm → ExternalForm → Type 0
  BodyPart (defines_function g own tree) (defines_function k others other) = Part (runs_at it.runs other) tree other
  BodyPart form other = Unit {0}

  abbrev pub AllBodies : List External → List External → Type 0
  AllBodies (external ∷ externals) (other ∷ others) = BodyPart external.form other.form × AllBodies externals others
  AllBodies externals others = Unit {0}

  abbrev pub AtFull : Type 0
  AtFull =
      (standing : List Run) (tree other : Tree) (site : Site) (scene : Scene) → site.tree ≡ other → is_expression other ≡ true → AllTold one (sites_in one.declared other site) → Standing site standing
      → tree_at site.path site.full ≡ Some other → site.full ≡ other → IsTyped site.full → scene.declared ≡ new_declared → IsWellTyped scene tree → Agrees it standing tree other → Part standing tree other

  abbrev pub AtStatement : Type 0
  AtStatement =
      (label other : Label) (kind other_kind : CType) (spans other_spans : Spans) (parts others : Trees) → is_statement other ≡ true → label ≡ relabelled it.rename other → AllPart other other_spans parts others
      → Part [] (node label kind spans parts) (node other other_kind other_spans others)

  module _ (at_full : AtFull) (at_statement : AtStatement) where
    parts_of_statement : (label : Label) (kind : CType) (spans : Spans) (parts : Trees) (site : Site) → is_statement label ≡ true
        → AllTold one (sites_in one.declared (node label kind spans parts) site) → AllTold one (sites_below one.declared parts (statement_parts one.declared label (listed parts)))
    parts_of_statement label kind spans parts site e h =
        subst (λ (b : Bool). AllTold one ((if b then [] else site ∷ [])
        ++ sites_below one.declared parts (if b then statement_parts one.declared label (listed parts) else operand_sites site label spans 0 (listed parts)))) e h

    head_is : (site : Site) (sites : List Site) (tree : Tree) (trees : List Tree) → map tree_of (site ∷ sites) ≡ tree ∷ trees → site.tree ≡ tree
    head_is site sites tree trees e = cc

    tail_is : (site : Site) (sites : List Site) (tree : Tree) (trees : List Tree) → map tree_of (site ∷ sites) ≡ tree ∷ trees → map tree_of sites ≡ trees
    tail_is site sites tree trees e = cc

    no_head : (tree : Tree) (trees : List Tree) → [] ≡ tree ∷ trees → ⊥
    no_head tree trees e = cc

    at_part : (label : Label) (spans : Spans) (part : Tree) (site : Site) → site.tree ≡ part → site.apart ≡ true → Standing site (runs_below it.runs label spans part)
    at_part label spans part site same is = moved_to (runs_below it.runs label spans part) (runs_stand_below Keeps it.runs label spans part keep)
      where
        moved_to : (runs : List Run) → AllByRecursion (StandsAt Keeps (is_apart label spans part) part) runs → Standing site runs
        moved_to [] h = tt
        moved_to (run ∷ runs) h = ((h.0.0, is, subst (λ (t : Tree). stands run.span t ≡ true) (sym same) h.0.2), moved_to runs h.1)

    mutual
      tree_walked : (standing : List Run) (tree other : Tree) (site : Site) (scene old_scene : Scene) → scene.declared ≡ new_declared → site.tree ≡ other → IsRoot site
          → AllTold one (sites_in one.declared other site) → Standing site standing → IsWellTyped scene tree → IsWellTyped old_scene other → Agrees it standing tree other
          → (b : Bool) → is_statement (label_of other) ≡ b → Part standing tree other
      tree_walked standing tree other site scene old_scene e same root told stand typed old_typed h false is =
          at_full standing tree other site scene same (typed-expression old_scene other old_typed (ap not is)) told stand (root_leads site other root same) (root.2 ∙ same)
          (subst IsTyped (sym (root.2 ∙ same)) (old_scene, old_typed)) e typed h
      tree_walked [] (node label kind spans parts) (node other other_kind other_spans others) site scene old_scene e same root told stand typed old_typed h true is =
          at_statement label other kind other_kind spans other_spans parts others is h.0.0
          (all_walked other other_spans parts others (statement_parts one.declared other (listed others)) (inside scene label (listed parts)) (inside old_scene other (listed others))
          (inside_declared scene label (listed parts) ∙ e)
          (statement-trees one.declared other (listed others) (divides old_scene other other_kind (listed others) old_typed.0)) (statement_roots one.declared other (listed others))
          (parts_of_statement other other_kind other_spans others site is told) typed.1 old_typed.1 h.1)
      tree_walked (run ∷ inner) (node label kind spans parts) (node other other_kind other_spans others) site scene old_scene e same root told stand typed old_typed h true is =
          absurd (true≢false (sym (subst (λ (t : Tree). stands run.span t ≡ true) same stand.0.2) ∙ stands_nowhere run.span other other_kind other_spans others is))

      all_walked : (label : Label) (spans : Spans) (trees others : Trees) (sites : List Site) (scene old_scene : Scene) → scene.declared ≡ new_declared → map tree_of sites ≡ listed others
          → AreRoots sites → AllTold one (sites_below one.declared others sites) → AreWellTyped scene trees → AreWellTyped old_scene others → AllAgree it label spans trees others
          → AllPart label spans trees others
      all_walked label spans no_trees no_trees sites scene old_scene e same own told typed old_typed h = tt
      all_walked label spans no_trees (more_trees other others) sites scene old_scene e same own told typed old_typed h = absurd h
      all_walked label spans (more_trees first rest) no_trees sites scene old_scene e same own told typed old_typed h = absurd h
      all_walked label spans (more_trees first rest) (more_trees other others) [] scene old_scene e same own told typed old_typed h = absurd (no_head other (listed others) same)
      all_walked label spans (more_trees first rest) (more_trees other others) (site ∷ sites) scene old_scene e same own told typed old_typed h =
          let here = head_is site sites other (listed others) same in (
            tree_walked (runs_below it.runs label spans other) first other site scene old_scene e here own.0
                (all_front (IsTold one) (sites_in one.declared other site) (sites_below one.declared others sites) told) (at_part label spans other site here own.0.0) typed.0 old_typed.0 h.0
                (is_statement (label_of other)) refl,
            all_walked label spans rest others sites scene old_scene e (tail_is site sites other (listed others) same) own.1
                (all_back (IsTold one) (sites_in one.declared other site) (sites_below one.declared others sites) told) typed.1 old_typed.1 h.1,
          )

    -- ---- functions

    abbrev RootTold : Site → Type 0
    RootTold site = AllTold one (sites_in one.declared site.tree site)

    own_runs : (tree : Tree) (site : Site) → site.tree ≡ tree → site.apart ≡ true → (runs : List Run) → AllByRecursion (StandsAt Keeps true tree) runs → Standing site runs
    own_runs tree site same own [] h = tt
    own_runs tree site same own (run ∷ runs) h = ((h.0.0, own, subst (λ (t : Tree). stands run.span t ≡ true) (sym same) h.0.2), own_runs tree site same own runs h.1)

    form_walked : (new_types old_types : Table) (form other : ExternalForm) → FormFits (file_scene new_types new_declared) form → FormFits (file_scene old_types one.declared) other
        → AllByRecursion RootTold (form_sites one.declared other) → aligned.FormsAgree it form other → BodyPart form other
    form_walked new_types old_types (declares declarators trees) other typed old_typed told h = tt
    form_walked new_types old_types (defines_function g own tree) (declares others other_trees) typed old_typed told h = tt
    form_walked new_types old_types (defines_function g own tree) (defines_function k others other) typed old_typed told h =
        let new_body = typed_body new_types new_declared g own tree typed in
        let old_body = typed_body old_types one.declared k others other old_typed in
        let site = whole false false other in
        tree_walked (runs_at it.runs other) tree other site (body_scene (file_scene new_types new_declared) new_body.result) (body_scene (file_scene old_types one.declared) old_body.result) refl refl
        (refl, refl, refl) told.0 (own_runs other site refl refl (runs_at it.runs other) (runs_stand Keeps it.runs other keep)) new_body.typed old_body.typed h.2 (is_statement (label_of other)) refl

    externals_walked : (new_types old_types : Table) (externals others : List External) → All (ExternalFits (file_scene new_types new_declared)) externals
        → All (ExternalFits (file_scene old_types one.declared)) others → AllByRecursion (λ (external : External). AllByRecursion RootTold (external_sites one.declared external)) others
        → Zipped (aligned.ExternalsAgree it) externals others → AllBodies externals others
    externals_walked new_types old_types [] others typed old_typed told h = tt
    externals_walked new_types old_types (external ∷ externals) [] typed old_typed told h = tt
    externals_walked new_types old_types (external ∷ externals) (other ∷ others) typed old_typed told h = (
      form_walked new_types old_types external.form other.form (All-head (ExternalFits (file_scene new_types new_declared)) external externals typed).2
          (All-head (ExternalFits (file_scene old_types one.declared)) other others old_typed).2
          (all_back RootTold (map (whole true false) other.constants) (form_sites one.declared other.form) told.0) h.0.1,
      externals_walked new_types old_types externals others (All-tail (ExternalFits (file_scene new_types new_declared)) external externals typed)
          (All-tail (ExternalFits (file_scene old_types one.declared)) other others old_typed) told.1 h.1,
    )

    pub bodies_walked : (new_types old_types : Table) (externals : List External) → All (ExternalFits (file_scene new_types new_declared)) externals → IsWellTypedUnit old_types one → ArePlacesTold one
        → Zipped (aligned.ExternalsAgree it) externals one.externals → AllBodies externals one.externals
    bodies_walked new_types old_types externals typed old_typed told h =
        externals_walked new_types old_types externals one.externals typed old_typed.externals
        (all_mapped RootTold (external_sites one.declared) one.externals
        (all_mapped (IsTold one) (λ (site : Site). sites_in one.declared site.tree site) (flat_map (external_sites one.declared) one.externals) told)) h

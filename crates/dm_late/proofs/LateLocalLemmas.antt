-- Declarations in functions of aligned units.
--     plain      where the new tree is that of a constant, both are the same
--     locals_agree      declarators agree, and initialisers of objects of static storage duration call the added function nowhere
--     statics_erased      the objects that they define, without the places of their initialisers
use Rattle.std.specs.Prelude.{◌≡◌, refl, ℕ, ◌==◌, Bool, true, false, not, ◌&&◌, All, List, [], ◌∷◌, map, take, drop, Some, option_map, is_some, flat_map, if◌then◌else◌}
use Rattle.std.proofs.Common.{ap, sym, ◌∙◌, subst, inl}
use Rattle.std.proofs.lemmas.Bool.{true≢false}
use Rattle.std.proofs.lemmas.List.Elements.{All-head, All-tail, All-take, All-drop}
use Rattle.dm_runs.specs.declared.run.Run.{Run}
use Rattle.dm_type.specs.CTypes.{CType}
use Rattle.dm_type.specs.Tables.{Table}
use Rattle.dm_tree.specs.Constants.{constant}
use Rattle.dm_tree.specs.Initialisers.{DeclaratorFits, DeclaratorsFit}
use Rattle.dm_tree.specs.Scenes.{Scene}
use Rattle.dm_tree.specs.Trees.{Label, enumerator, function, declare, is_statement, Declarator, Spans, Tree, Trees, node, no_trees, more_trees, label_of, listed}
use Rattle.dm_tree.specs.Typing.{Fits, inside, IsEntry, IsWellTyped, AreWellTyped}
use Rattle.dm_tree.specs.Units.{Declaration}
use Rattle.dm_meaning.specs.Called.{Called, new_of}
use Rattle.dm_meaning.specs.CalledWithAll.{AreDistinct}
use Rattle.dm_meaning.specs.Programs.{Static, declaration_of}
use Rattle.dm_meaning.specs.Replaced as replaced
use Rattle.dm_meaning.specs.Replaced.{Zipped, relabelled, renamed_declarator, facts_of}
use Rattle.dm_meaning.specs.Statements.{Local, with_expressions, expressions_of}
use Rattle.dm_meaning.specs.Units.{is_static, with_initialiser, with_static, statics_from, locals_by, locals_in, locals_in_all}
use Rattle.dm_meaning.proofs.GrowLemmas.{equal_is}
use Rattle.dm_meaning.proofs.OptionLemmas.{none_is_some, some_is_some}
use Rattle.dm_meaning.proofs.StatementLemmas.{zipped_take, zipped_drop, zipped_append}
use Rattle.dm_sound.proofs.LocalLemmas.{same_count}
use Rattle.dm_effect.specs.Entities.{function_first}
use Rattle.dm_agree.specs.Standing.{runs_with, runs_at, runs_below, extents, extents_of}
use Rattle.dm_sites.specs.Standing.{is_apart, is_implied_conversion}
use Rattle.dm_agree.specs.Agreement.{Added, Rewriting, IsCallOf, AtRun, Agrees, AllAgree}
use Rattle.dm_refine.specs.Calls.{is_name_of, names, any_names, IsEvaluated, AreEvaluated}
use Rattle.dm_refine.proofs.CallLocalLemmas.{all_evaluated}
use Rattle.dm_refine.proofs.CallStaticLemmas.{LocalAgrees}
use Rattle.dm_refine.proofs.CallTreeLemmas.{AddsFunction, IsAddedEntry, at_run, bare_of, below_node, or_left, or_right}
use Rattle.dm_refine.proofs.ConstantLocalLemmas.{no_locals, static_sort_fixed, all_typed}
use Rattle.dm_refine.proofs.ConstantTreeLemmas.{inside_declared}
use Rattle.dm_refine.proofs.InertLemmas.{reads_or_calls, IsInert, AreInert}
use Rattle.dm_refine.proofs.ReadFirstLemmas.{either}
use Rattle.dm_refine.proofs.StaticLemmas.{declarator_inert}
use Rattle.dm_late.specs.Settled.{nowhere, erased, all_erased, erased_static}

-- ---- runs stand at expressions

no_extents : (tree : Tree) → is_statement (label_of tree) ≡ true → extents_of tree ≡ []
no_extents (node label kind spans parts) e =
    ap (λ b. if not b && not (is_implied_conversion (node label kind spans parts)) then extents spans else []) e

pub value_at : (runs : List Run) (tree : Tree) → is_statement (label_of tree) ≡ true → runs_at runs tree ≡ []
value_at runs tree e = ap (flat_map (runs_with runs)) (no_extents tree e)

pub value_below : (runs : List Run) (label : Label) (spans : Spans) (tree : Tree) → is_statement (label_of tree) ≡ true → runs_below runs label spans tree ≡ []
value_below runs label spans tree e = ap (flat_map (runs_with runs)) (by_bool (is_apart label spans tree))
  where
    by_bool : (b : Bool) → (if b then extents_of tree else []) ≡ []
    by_bool true = no_extents tree e
    by_bool false = refl

-- ---- locals without their places

abbrev pub erased_local : Local → Local
erased_local local = record { declarator = local.declarator; expressions = map (erased nowhere) local.expressions }

module _ (declared : List Declaration) where
  initialised_if : (b : Bool) (static : Static) (local : Local) → (if b then erased_static (record { declared = static.declared; initialiser = local.declarator.initialiser; expressions = local.expressions }) else erased_static static)
      ≡ erased_static (if b then record { declared = static.declared; initialiser = local.declarator.initialiser; expressions = local.expressions } else static)
  initialised_if true static local = refl
  initialised_if false static local = refl

  static_if : (b : Bool) (one other : Static) (rest others : List Static) → (if b then erased_static one ∷ map erased_static rest else erased_static other ∷ map erased_static others)
      ≡ map erased_static (if b then one ∷ rest else other ∷ others)
  static_if true one other rest others = refl
  static_if false one other rest others = refl

  static_erased : (local : Local) (statics : List Static) → with_static (erased_local local) (map erased_static statics) ≡ map erased_static (with_static local statics)
  static_erased local [] = refl
  static_erased local (static ∷ statics) =
      ap (λ (one : Static). if static.declared == local.declarator.declared then one ∷ map erased_static statics else erased_static static ∷ with_static (erased_local local) (map erased_static statics))
      (initialised_if (is_some local.declarator.initialiser) static local)
      ∙ (ap (λ (ss : List Static). if static.declared == local.declarator.declared then erased_static (with_initialiser static local) ∷ map erased_static statics else erased_static static ∷ ss) (static_erased local statics)
      ∙ static_if (static.declared == local.declarator.declared) (with_initialiser static local) static statics (with_static local statics))

  one_erased : (b : Bool) (local : Local) (statics : List Static) → (if b then with_static (erased_local local) (map erased_static statics) else map erased_static statics)
      ≡ map erased_static (if b then with_static local statics else statics)
  one_erased true local statics = static_erased local statics
  one_erased false local statics = refl

  pub statics_erased : (locals : List Local) (statics : List Static) → statics_from declared (map erased_local locals) (map erased_static statics) ≡ map erased_static (statics_from declared locals statics)
  statics_erased [] statics = refl
  statics_erased (local ∷ locals) statics =
      ap (statics_from declared (map erased_local locals)) (one_erased (is_static declared local) local statics) ∙ statics_erased locals (if is_static declared local then with_static local statics else statics)

module _ (change : Called) (told : (d : ℕ) → option_map facts_of (declaration_of (new_of change) (change.rename d)) ≡ option_map facts_of (declaration_of change.old d))
    (injective : (c d : ℕ) → change.rename c ≡ change.rename d → c ≡ d) (types : Table) (entries : All IsEntry change.declared)
    (entry : IsAddedEntry types change.declared change.added.function change.added.parameters) (runs : List Run) (added : Added) (adds : AddsFunction change added)
    (distinct : AreDistinct change.added.parameters) where
  abbrev f : ℕ
  f = change.added.function

  abbrev it : Rewriting
  it = record { runs = runs; added = added; rename = change.rename; value = constant change.old.table change.old.declared }

  run_here : (run : Run) (inner : List Run) (label : Label) (kind : CType) (parts : Trees) (other : Tree) (Passed : Type 0) → AtRun it added run inner label kind parts other Passed
      → IsCallOf it f change.added.parameters change.body run inner label kind parts other × Passed
  run_here run inner label kind parts other Passed h = at_run change told injective types entries entry runs added adds distinct added adds run inner label kind parts other Passed h

  unnamed_function : (parts : Trees) → function_first parts ≡ Some f → any_names f parts ≡ false → ⊥
  unnamed_function (more_trees (node (function d) kind spans below) rest) e n =
      true≢false (sym (equal_is d f (some_is_some d f e)) ∙ or_left (d == f) (any_names f below) (or_left (names f (node (function d) kind spans below)) (any_names f rest) n))
  unnamed_function (more_trees (node label kind spans below) rest) e n = none_is_some f e
  unnamed_function no_trees e n = none_is_some f e

  -- ---- constants

  module _ (statics old_statics : List Static) where
    mutual
      unnamed : (at : Spans) (standing : List Run) (tree other : Tree) → Agrees it standing tree other → names f tree ≡ false → replaced.Agrees (bare_of change statics old_statics) tree (erased at other)
      unnamed at [] (node label kind spans parts) (node other other_kind other_spans others) h n =
          inl (h.0.0, h.0.1, all_unnamed at other other_spans parts others h.1 (or_right (is_name_of f label) (any_names f parts) n))
      unnamed at (run ∷ inner) (node label kind spans parts) other h n = absurd (unnamed_function parts (run_here run inner label kind parts other _ h).0.2 (or_right (is_name_of f label) (any_names f parts) n))

      all_unnamed : (at : Spans) (label : Label) (spans : Spans) (trees others : Trees) → AllAgree it label spans trees others → any_names f trees ≡ false → replaced.AllAgree (bare_of change statics old_statics) trees (all_erased at others)
      all_unnamed at label spans no_trees no_trees h n = tt
      all_unnamed at label spans no_trees (more_trees other others) h n = absurd h
      all_unnamed at label spans (more_trees first rest) no_trees h n = absurd h
      all_unnamed at label spans (more_trees first rest) (more_trees other others) h n =
          (unnamed at (runs_below runs label spans other) first other h.0 (or_left (names f first) (any_names f rest) n), all_unnamed at label spans rest others h.1 (or_right (names f first) (any_names f rest) n))

    mutual
      pub plain : (at : Spans) (standing : List Run) (tree other : Tree) → Agrees it standing tree other → IsInert tree → IsEvaluated f tree → replaced.Agrees (bare_of change statics old_statics) tree (erased at other)
      plain at [] (node label kind spans parts) (node other other_kind other_spans others) h inert evaluated =
          inl (
            h.0.0,
            h.0.1,
            either (AreInert parts) (any_names f parts ≡ false) (replaced.AllAgree (bare_of change statics old_statics) parts (all_erased at others)) (λ rest. all_plain at other other_spans parts others h.1 evaluated.1 rest)
                (λ n. all_unnamed at other other_spans parts others h.1 n) (below_node f label parts inert.1 evaluated.0),
          )
      plain at (run ∷ inner) (node label kind spans parts) other h inert evaluated =
          absurd (true≢false (ap reads_or_calls (sym (run_here run inner label kind parts other _ h).0.0) ∙ inert.0))

      all_plain : (at : Spans) (label : Label) (spans : Spans) (trees others : Trees) → AllAgree it label spans trees others → AreEvaluated f trees → AreInert trees → replaced.AllAgree (bare_of change statics old_statics) trees (all_erased at others)
      all_plain at label spans no_trees no_trees h evaluated inert = tt
      all_plain at label spans no_trees (more_trees other others) h evaluated inert = absurd h
      all_plain at label spans (more_trees first rest) no_trees h evaluated inert = absurd h
      all_plain at label spans (more_trees first rest) (more_trees other others) h evaluated inert =
          (plain at (runs_below runs label spans other) first other h.0 inert.0 evaluated.0, all_plain at label spans rest others h.1 evaluated.1 inert.1)

    -- ---- declarators

    -- trees agree wherever they stand
    abbrev pub AgreesSomewhere : Tree → Tree → Type 0
    AgreesSomewhere tree other = (standing : List Run) × Agrees it standing tree other

    listed_agree : (label : Label) (spans : Spans) (trees others : Trees) → AllAgree it label spans trees others → Zipped AgreesSomewhere (listed trees) (listed others)
    listed_agree label spans no_trees no_trees h = tt
    listed_agree label spans no_trees (more_trees other others) h = absurd h
    listed_agree label spans (more_trees first rest) no_trees h = absurd h
    listed_agree label spans (more_trees first rest) (more_trees other others) h = ((runs_below runs label spans other, h.0), listed_agree label spans rest others h.1)

    plain_list : (trees others : List Tree) → Zipped AgreesSomewhere trees others → All IsInert trees → All (IsEvaluated f) trees → Zipped (replaced.Agrees (bare_of change statics old_statics)) trees (map (erased nowhere) others)
    plain_list [] [] h inert evaluated = tt
    plain_list [] (other ∷ others) h inert evaluated = absurd h
    plain_list (tree ∷ trees) [] h inert evaluated = absurd h
    plain_list (tree ∷ trees) (other ∷ others) h inert evaluated = (
      plain nowhere h.0.0 tree other h.0.1 (All-head IsInert tree trees inert) (All-head (IsEvaluated f) tree trees evaluated),
      plain_list trees others h.1 (All-tail IsInert tree trees inert) (All-tail (IsEvaluated f) tree trees evaluated),
    )

    abbrev pub Same : Local → Local → Type 0
    Same local other = LocalAgrees (bare_of change statics old_statics) local (erased_local other)

    pub declarators_agree : (scene place_scene : Scene) → place_scene.declared ≡ change.declared → (declarators : List Declarator) (trees others : List Tree) → All (IsWellTyped scene) trees → All (IsEvaluated f) trees
        → DeclaratorsFit place_scene (map (renamed_declarator change.rename) declarators) trees → Zipped AgreesSomewhere trees others
        → Zipped Same (with_expressions (map (renamed_declarator change.rename) declarators) trees) (with_expressions declarators others)
    declarators_agree scene place_scene e [] trees others t evaluated fits h = tt
    declarators_agree scene place_scene e (one ∷ more) trees others t evaluated fits h =
        let n = expressions_of one.initialiser in
        let renamed = renamed_declarator change.rename one in
        let first = subst (λ k. DeclaratorFits place_scene (renamed_declarator change.rename one) (take k trees)) (same_count one.initialiser) fits.0 in
        let rest = subst (λ k. DeclaratorsFit place_scene (map (renamed_declarator change.rename) more) (drop k trees)) (same_count one.initialiser) fits.1 in (
          (
            refl,
            λ static. plain_list (take n trees) (take n others) (zipped_take AgreesSomewhere n trees others h)
                (declarator_inert scene place_scene renamed
                (λ entry found defines object. static_sort_fixed change.declared place_scene e (record { declarator = renamed; expressions = take n trees }) static entry found)
                (take n trees) (All-take (IsWellTyped scene) n trees t) first)
                (All-take (IsEvaluated f) n trees evaluated),
          ),
          declarators_agree scene place_scene e more (drop n trees) (drop n others) (All-drop (IsWellTyped scene) n trees t) (All-drop (IsEvaluated f) n trees evaluated) rest
              (zipped_drop AgreesSomewhere n trees others h),
        )

    if_agree : (b : Bool) (locals others : List Local) → Zipped Same locals others → Zipped Same (if b then locals else []) (if b then others else [])
    if_agree true locals others h = h
    if_agree false locals others h = tt

    label_agrees : (scene : Scene) → scene.declared ≡ change.declared → (label : Label) (spans : Spans) (kind : CType) (trees others : Trees) → Fits scene (relabelled change.rename label) kind (listed trees)
        → AreWellTyped (inside scene (relabelled change.rename label) (listed trees)) trees → AreEvaluated f trees → (own_label : Label) → AllAgree it own_label spans trees others
        → (below other_below : List Local) → Zipped Same below other_below
        → Zipped Same (locals_by (relabelled change.rename label) (listed trees) below) (locals_by label (listed others) other_below)
    label_agrees scene e (declare lengths declarators) spans kind trees others fits typed evaluated own_label h below other_below k =
        let inner = inside scene (declare lengths (map (renamed_declarator change.rename) declarators)) (listed trees) in
        declarators_agree inner scene e declarators (drop lengths (listed trees)) (drop lengths (listed others))
        (All-drop (IsWellTyped inner) lengths (listed trees) (all_typed inner trees typed)) (All-drop (IsEvaluated f) lengths (listed trees) (all_evaluated f trees evaluated)) fits.0.2
        (zipped_drop AgreesSomewhere lengths (listed trees) (listed others) (listed_agree own_label spans trees others h))
    label_agrees scene e (enumerator d) spans kind trees others fits typed evaluated own_label h below other_below k = tt
    label_agrees scene e label spans kind trees others fits typed evaluated own_label h below other_below k = if_agree (is_statement label) below other_below k

    expression_none : (tree : Tree) → is_statement (label_of tree) ≡ false → locals_in tree ≡ []
    expression_none (node label kind spans parts) e = no_locals label (listed parts) (locals_in_all parts) e

    by_statement : (b : Bool) (standing : List Run) (run : Run) (inner : List Run) → (b ≡ true → standing ≡ []) → standing ≡ run ∷ inner → b ≡ false
    by_statement false standing run inner h e = refl
    by_statement true standing run inner h e = absurd (nothing (sym (h refl) ∙ e))
      where
        nothing : [] ≡ run ∷ inner → ⊥
        nothing k = cc

    mutual
      pub locals_agree : (scene : Scene) → scene.declared ≡ change.declared → (standing : List Run) (tree other : Tree) → (is_statement (label_of other) ≡ true → standing ≡ []) → IsWellTyped scene tree → IsEvaluated f tree
          → Agrees it standing tree other → Zipped Same (locals_in tree) (locals_in other)
      locals_agree scene e [] (node label kind spans parts) (node other other_kind other_spans others) value t evaluated h =
          subst (λ (l : Label). Zipped Same (locals_by l (listed parts) (locals_in_all parts)) (locals_by other (listed others) (locals_in_all others))) (sym h.0.0)
          (label_agrees scene e other other_spans kind parts others (subst (λ (l : Label). Fits scene l kind (listed parts)) h.0.0 t.0)
          (subst (λ (l : Label). AreWellTyped (inside scene l (listed parts)) parts) h.0.0 t.1) evaluated.1 other h.1 (locals_in_all parts) (locals_in_all others)
          (all_locals_agree (inside scene label (listed parts)) (inside_declared scene label (listed parts) ∙ e) other other_spans parts others t.1 evaluated.1 h.1))
      locals_agree scene e (run ∷ inner) (node label kind spans parts) other value t evaluated h =
          subst (λ (l : Label). Zipped Same (locals_by l (listed parts) (locals_in_all parts)) (locals_in other)) (sym (run_here run inner label kind parts other _ h).0.0)
          (subst (λ (ls : List Local). Zipped Same [] ls) (sym (expression_none other (by_statement (is_statement (label_of other)) (run ∷ inner) run inner value refl))) tt)

      all_locals_agree : (scene : Scene) → scene.declared ≡ change.declared → (label : Label) (spans : Spans) (trees others : Trees) → AreWellTyped scene trees → AreEvaluated f trees → AllAgree it label spans trees others
          → Zipped Same (locals_in_all trees) (locals_in_all others)
      all_locals_agree scene e label spans no_trees no_trees t evaluated h = tt
      all_locals_agree scene e label spans no_trees (more_trees other others) t evaluated h = absurd h
      all_locals_agree scene e label spans (more_trees first rest) no_trees t evaluated h = absurd h
      all_locals_agree scene e label spans (more_trees first rest) (more_trees other others) t evaluated h =
          zipped_append Same (locals_in first) (locals_in other) (locals_in_all rest) (locals_in_all others)
          (locals_agree scene e (runs_below runs label spans other) first other (value_below runs label spans other) t.0 evaluated.0 h.0)
          (all_locals_agree scene e label spans rest others t.1 evaluated.1 h.1)

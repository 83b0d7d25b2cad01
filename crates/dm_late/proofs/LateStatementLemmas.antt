-- Statements of aligned units: they agree, and in each frame their full expressions do.
--     parts_agree      the parts of statements that agree
use Rattle.std.specs.Prelude.{◌≡◌, refl, ℕ, Bool, true, false, not, List, [], ◌∷◌, ◌++◌, All, option_map}
use Rattle.std.proofs.Common.{ap, sym, ◌∙◌, subst, inl, inr}
use Rattle.std.proofs.lemmas.Bool.{false≢true, true≢false}
use Rattle.dm_runs.specs.declared.run.Run.{Run}
use Rattle.dm_type.specs.CTypes.{CType}
use Rattle.dm_type.specs.Tables.{Table}
use Rattle.dm_tree.specs.Constants.{constant}
use Rattle.dm_tree.specs.Scenes.{Scene, is_lvalue, IsValue}
use Rattle.dm_tree.specs.Trees.{Label, call, case, block, sizeof_tree, is_statement, Spans, Tree, Trees, node, no_trees, more_trees, label_of, spans_of, trees_of, listed}
use Rattle.dm_tree.specs.Typing.{Fits, inside, IsEntry, IsWellTyped, AreWellTyped}
use Rattle.dm_meaning.specs.Among.{IsAmong}
use Rattle.dm_meaning.specs.Called.{Called, new_of, Gives, SameCase, is_nowhere_local}
use Rattle.dm_meaning.specs.CalledWithAll.{AreDistinct}
use Rattle.dm_meaning.specs.Programs.{declaration_of}
use Rattle.dm_meaning.specs.Replaced as replaced
use Rattle.dm_meaning.specs.Replaced.{relabelled, facts_of}
use Rattle.dm_meaning.specs.Running.{evaluates, Open, others_open, open_of}
use Rattle.dm_meaning.specs.Wholes.{is_expression}
use Rattle.dm_meaning.proofs.OptionLemmas.{and_right}
use Rattle.dm_meaning.proofs.StatementLemmas.{agreeing_constant}
use Rattle.dm_meaning.proofs.WholeLemmas.{typed-expression}
use Rattle.dm_effect.specs.Scoped.{is_scoped}
use Rattle.dm_rewrite.specs.Closed.{unseen, names_first}
use Rattle.dm_agree.specs.Standing.{runs_below}
use Rattle.dm_agree.specs.Agreement.{Added, Rewriting, IsCallOf, AtRun, Agrees, AllAgree}
use Rattle.dm_central.specs.Bodies as central
use Rattle.dm_central.specs.Bodies.{Known, closed_numbers, ExpressionAgrees}
use Rattle.dm_central.specs.ClosedPrograms.{known_with}
use Rattle.dm_plain.specs.Plain.{AreTypesPlain}
use Rattle.dm_refine.specs.Calls.{IsEvaluated, AreEvaluated}
use Rattle.dm_refine.proofs.CallBodyLemmas.{not_true}
use Rattle.dm_refine.proofs.CallLocalLemmas.{same_statement}
use Rattle.dm_refine.proofs.CallTreeLemmas.{AddsFunction, IsAddedEntry, at_run, bare_of, some_run}
use Rattle.dm_refine.proofs.ConstantTreeLemmas.{inside_declared}
use Rattle.dm_refine.proofs.InertLemmas.{reads_or_calls, IsInert, constant_inert, has_form}
use Rattle.dm_late.specs.Late.{Judged, before_others, EvaluatesAlike, AllAlike}
use Rattle.dm_late.specs.Settled.{erased, spot, settled, all_settled}
use Rattle.dm_late.proofs.ErasedLemmas.{erased_expression, settled_statement, settled_expression}
use Rattle.dm_late.proofs.LateLocalLemmas.{plain, value_below}
use Rattle.dm_late.proofs.LateTreeLemmas.{IsEarly, NamesOr, AllNameOr, all_name_or, only_parts, tree_begun}

seen_statement : (label : Label) → is_statement label ≡ true → names_first (evaluates label) ≡ unseen → ⊥
seen_statement sizeof_tree e h = false≢true e
seen_statement label e h = absurd (cc)

call_statement : (label : Label) → label ≡ call → is_statement label ≡ false
call_statement label e = ap is_statement e

by_bool : (b : Bool) (R : Type 0) → (b ≡ true → R) → (b ≡ false → R) → R
by_bool true R f g = f refl
by_bool false R f g = g refl

-- a run stands at no statement
run_value : (b : Bool) (standing : List Run) (run : Run) (inner : List Run) → (b ≡ true → standing ≡ []) → standing ≡ run ∷ inner → b ≡ false
run_value false standing run inner h e = refl
run_value true standing run inner h e = absurd (nothing (sym (h refl) ∙ e))
  where
    nothing : [] ≡ run ∷ inner → ⊥
    nothing k = cc

module _ (change : Called) (told : (d : ℕ) → option_map facts_of (declaration_of (new_of change) (change.rename d)) ≡ option_map facts_of (declaration_of change.old d))
    (injective : (c d : ℕ) → change.rename c ≡ change.rename d → c ≡ d) (types : Table) (entries : All IsEntry change.declared)
    (entry : IsAddedEntry types change.declared change.added.function change.added.parameters) (runs : List Run) (added : Added) (adds : AddsFunction change added)
    (distinct : AreDistinct change.added.parameters) (own : (p : ℕ) → IsAmong p change.added.parameters → (d : ℕ) → change.rename d ≡ p → ⊥)
    (apart : (d : ℕ) → change.rename d ≡ change.added.function → ⊥) (body_expression : is_expression change.body ≡ true) (body_value : Gives change.body)
    (automatic : ℕ → Bool) (still : (d : ℕ) → automatic (change.rename d) ≡ false → is_nowhere_local change.old d ≡ true) (body_scoped : is_scoped automatic change.added.parameters change.body ≡ true)
    (body_scene : Scene) (body_declared : body_scene.declared ≡ change.declared) (body_typed : IsWellTyped body_scene change.body)
    (judged : Judged) (local : (d : ℕ) → judged.closed d ≡ true → automatic (change.rename d) ≡ true) where
  abbrev ps : List ℕ
  ps = change.added.parameters

  abbrev f : ℕ
  f = change.added.function

  abbrev it : Rewriting
  it = record { runs = runs; added = added; rename = change.rename; value = constant change.old.table change.old.declared }

  abbrev Early : Type 0
  Early = IsEarly judged ps change.body × AreTypesPlain automatic change.body

  abbrev known : Known
  known = known_with judged.closed judged.quiet judged.safe

  run_here : (run : Run) (inner : List Run) (label : Label) (kind : CType) (parts : Trees) (other : Tree) (Passed : Type 0) → AtRun it added run inner label kind parts other Passed
      → IsCallOf it f ps change.body run inner label kind parts other × Passed
  run_here run inner label kind parts other Passed h = at_run change told injective types entries entry runs added adds distinct added adds run inner label kind parts other Passed h

  abbrev Only : Tree → Type 0
  Only tree = (d : ℕ) → judged.closed d ≡ true → NamesOr (change.rename d) tree

  -- a full expression agrees in each frame
  expression_part : (scene : Scene) → scene.declared ≡ change.declared → (old_scene : Scene) (standing : List Run) → ((run : Run) → IsAmong run standing → Early) → ((run : Run) → IsAmong run runs → Early) → (tree other : Tree)
      → is_statement (label_of tree) ≡ false → is_statement (label_of other) ≡ false → IsWellTyped scene tree → IsWellTyped old_scene other → IsEvaluated f tree → Only tree → Agrees it standing tree other
      → EvaluatesAlike judged it ps (spot (spans_of other)) [] standing tree other → ExpressionAgrees change known tree (erased (spot (spans_of other)) other)
  expression_part scene e old_scene standing early_ones all tree other n m typed old_typed evaluated only h alike = (
    erased_expression (spot (spans_of other)) other ∙ typed-expression old_scene other old_typed (ap not m),
    λ statics objects named.
        tree_begun (spot (spans_of other)) change told injective types entries entry runs added adds distinct own apart body_expression body_value automatic still body_scoped body_scene body_declared body_typed judged local (statics ++ objects)
        (closed_numbers judged.closed objects) named.apart named.closed_ones named.closed_names scene e standing early_ones all tree other typed (typed-expression scene tree typed (ap not n)) evaluated only h [] alike [] (λ effect l. absurd l),
  )

  -- what agrees with an expression is one
  value_stays : (standing : List Run) (tree other : Tree) → Agrees it standing tree other → IsInert tree → IsValue tree → is_statement (label_of other) ≡ false
  value_stays [] (node label kind spans parts) (node other other_kind other_spans others) h inert value =
      sym (same_statement change.rename other)
      ∙ (ap is_statement (sym h.0.0) ∙ not_true (is_statement label) (and_right (not (is_lvalue (node label kind spans parts))) (not (is_statement label)) value))
  value_stays (run ∷ inner) (node label kind spans parts) other h inert value =
      absurd (true≢false (sym (ap reads_or_calls (run_here run inner label kind parts other _ h).0.0) ∙ inert.0))

  -- the value of a label `case` stays
  case_same : (scene : Scene) (own_label : Label) (spans : Spans) (label : Label) (kind : CType) (parts others : Trees) → Fits scene (relabelled change.rename label) kind (listed parts)
      → AreWellTyped (inside scene (relabelled change.rename label) (listed parts)) parts → AreEvaluated f parts → AllAgree it own_label spans parts others → SameCase change label parts (all_settled others)
  case_same scene own_label spans case kind (more_trees value (more_trees below no_trees)) (more_trees other others) fits typed evaluated h =
      agreeing_constant (bare_of change [] []) (record { injective = injective; told = told; functions = tt; statics = tt }) value (settled other)
      (subst (replaced.Agrees (bare_of change [] []) value) (sym (settled_expression other (value_stays (runs_below runs own_label spans other) value other h.0
      (constant_inert (inside scene case (value ∷ below ∷ [])) value typed.0 (has_form scene value fits.0.2.1)) fits.0.2.0)))
      (plain change told injective types entries entry runs added adds distinct [] [] (spot (spans_of other)) (runs_below runs own_label spans other) value other h.0
      (constant_inert (inside scene case (value ∷ below ∷ [])) value typed.0 (has_form scene value fits.0.2.1)) evaluated.0))
  case_same scene own_label spans case kind (more_trees value (more_trees below no_trees)) no_trees fits typed evaluated h = absurd h
  case_same scene own_label spans case kind (more_trees value no_trees) others fits typed evaluated h = absurd fits.0
  case_same scene own_label spans case kind (more_trees value (more_trees below (more_trees third rest))) others fits typed evaluated h = absurd fits.0
  case_same scene own_label spans case kind no_trees others fits typed evaluated h = absurd fits.0
  case_same scene own_label spans label kind parts others fits typed evaluated h = tt

  mutual
    pub tree_agrees : (scene : Scene) → scene.declared ≡ change.declared → (old_scene : Scene) (standing : List Run) → ((run : Run) → IsAmong run standing → Early) → (all : (run : Run) → IsAmong run runs → Early) → (tree other : Tree)
        → (is_statement (label_of other) ≡ true → standing ≡ []) → IsWellTyped scene tree → IsWellTyped old_scene other → IsEvaluated f tree → Only tree → Agrees it standing tree other
        → EvaluatesAlike judged it ps (spot (spans_of other)) [] standing tree other → central.Agrees change known tree (settled other)
    tree_agrees scene e old_scene [] early_ones all (node label kind spans parts) (node other other_kind other_spans others) value typed old_typed evaluated only h alike =
        by_bool (is_statement label) (central.Agrees change known (node label kind spans parts) (settled (node other other_kind other_spans others)))
        (λ s.
        let old_s = sym (same_statement change.rename other) ∙ (ap is_statement (sym h.0.0) ∙ s) in
        subst (central.Agrees change known (node label kind spans parts)) (sym (settled_statement other other_kind other_spans others old_s)) (inl (
          old_s,
          h.0.0,
          h.0.1,
          case_same scene other other_spans other kind parts others (subst (λ (l : Label). Fits scene l kind (listed parts)) h.0.0 typed.0)
              (subst (λ (l : Label). AreWellTyped (inside scene l (listed parts)) parts) h.0.0 typed.1) evaluated.1 h.1,
          parts_agree (inside scene label (listed parts)) (inside_declared scene label (listed parts) ∙ e) (inside old_scene other (listed others)) all other other_spans (open_of other) parts others typed.1 old_typed.1 evaluated.1
              (λ d picked. all_name_or (change.rename d) (names_first (evaluates label)) parts (seen_statement label s) (only_parts (change.rename d) label kind spans parts (only d picked))) h.1 [] []
              (spot other_spans) (subst (λ b. AllAlike judged it ps b (open_of other) (spot other_spans) [] [] other other_spans parts others) old_s alike),
        )))
        (λ n.
        let old_n = sym (same_statement change.rename other) ∙ (ap is_statement (sym h.0.0) ∙ n) in
        subst (central.Agrees change known (node label kind spans parts)) (sym (settled_expression (node other other_kind other_spans others) old_n))
        (inr (expression_part scene e old_scene [] early_ones all (node label kind spans parts) (node other other_kind other_spans others) n old_n typed old_typed evaluated only h alike)))
    tree_agrees scene e old_scene (run ∷ inner) early_ones all (node label kind spans parts) other value typed old_typed evaluated only h alike =
        let old_n = run_value (is_statement (label_of other)) (run ∷ inner) run inner value refl in
        subst (central.Agrees change known (node label kind spans parts)) (sym (settled_expression other old_n))
        (inr (expression_part scene e old_scene (run ∷ inner) early_ones all (node label kind spans parts) other (call_statement label (run_here run inner label kind parts other _ h).0.0) old_n typed old_typed
        evaluated only h alike))

    pub parts_agree : (scene : Scene) → scene.declared ≡ change.declared → (old_scene : Scene) → (all : (run : Run) → IsAmong run runs → Early) → (label : Label) (spans : Spans) (opens : Open) (trees others : Trees)
        → AreWellTyped scene trees → AreWellTyped old_scene others → AreEvaluated f trees → ((d : ℕ) → judged.closed d ≡ true → AllNameOr (change.rename d) trees) → AllAgree it label spans trees others
        → (before beside : List Tree) (at : Spans) → AllAlike judged it ps true opens at before beside label spans trees others → central.AllAgree change known trees (all_settled others)
    parts_agree scene e old_scene all label spans opens no_trees no_trees typed old_typed evaluated only h before beside at alike = tt
    parts_agree scene e old_scene all label spans opens no_trees (more_trees other others) typed old_typed evaluated only h before beside at alike = absurd h
    parts_agree scene e old_scene all label spans opens (more_trees first rest) no_trees typed old_typed evaluated only h before beside at alike = absurd h
    parts_agree scene e old_scene all label spans opens (more_trees first rest) (more_trees other others) typed old_typed evaluated only h before beside at alike = (
      tree_agrees scene e old_scene (runs_below runs label spans other) (λ run k. all run (some_run runs _ run k)) all first other (value_below runs label spans other) typed.0 old_typed.0 evaluated.0 (λ d picked. (only d picked).0) h.0
          alike.0,
      parts_agree scene e old_scene all label spans (others_open opens) rest others typed.1 old_typed.1 evaluated.1 (λ d picked. (only d picked).1) h.1 (before_others opens before other) beside at alike.1,
    )

  no_block : block ≡ call → ⊥
  no_block e = cc

  -- the items of bodies
  pub items_agree : (scene : Scene) → scene.declared ≡ change.declared → (old_scene : Scene) (standing : List Run) → (all : (run : Run) → IsAmong run runs → Early) → (at : Spans) (tree other : Tree) → label_of tree ≡ block → IsWellTyped scene tree
      → IsWellTyped old_scene other → IsEvaluated f tree → ((d : ℕ) → judged.closed d ≡ true → AllNameOr (change.rename d) (trees_of tree)) → Agrees it standing tree other
      → EvaluatesAlike judged it ps at [] standing tree other → central.AllAgree change known (trees_of tree) (trees_of (settled other))
  items_agree scene e old_scene [] all at (node label kind spans parts) (node other other_kind other_spans others) is typed old_typed evaluated only h alike =
      let old_s = sym (same_statement change.rename other) ∙ (ap is_statement (sym h.0.0) ∙ ap is_statement is) in
      subst (λ (t : Tree). central.AllAgree change known parts (trees_of t)) (sym (settled_statement other other_kind other_spans others old_s))
      (parts_agree (inside scene label (listed parts)) (inside_declared scene label (listed parts) ∙ e) (inside old_scene other (listed others)) all other other_spans (open_of other) parts others typed.1 old_typed.1 evaluated.1 only h.1 [] []
      at (subst (λ b. AllAlike judged it ps b (open_of other) at [] [] other other_spans parts others) old_s alike))
  items_agree scene e old_scene (run ∷ inner) all at (node label kind spans parts) other is typed old_typed evaluated only h alike =
      absurd (no_block (sym is ∙ (run_here run inner label kind parts other _ h).0.0))

-- Aligned units, where a function is put in that may read its arguments late.
--     restated_functions new put added      the functions of the new unit, with this definition of the added one
--     restated_refines      its calls stand in place of runs, as the law of programs asks
use Rattle.std.specs.Prelude.{◌≡◌, refl, ◌⊎◌, ℕ, ◌+◌, Bool, true, false, not, ◌&&◌, All, List, [], ◌∷◌, ◌++◌, map, take, drop, Some, option_map, slice_get, if◌then◌else◌}
use Rattle.std.specs.List.{list_all, AllByRecursion}
use Rattle.std.proofs.Common.{ap, sym, ◌∙◌, subst, inl, inr, append_assoc}
use Rattle.std.proofs.lemmas.Bool.{false≢true}
use Rattle.std.proofs.lemmas.List.Elements.{All-head, All-tail, All-from_recursion}
use Rattle.dm_runs.specs.declared.run.Run.{Run}
use Rattle.dm_type.specs.CTypes.{CType}
use Rattle.dm_type.specs.Tables.{Table}
use Rattle.dm_tree.specs.Initialisers.{DeclaratorsFit}
use Rattle.dm_tree.specs.Scenes.{Scene, is_lvalue}
use Rattle.dm_tree.specs.TypeNumbers.{all_pass}
use Rattle.dm_tree.specs.Trees.{Label, call, block, return, is_statement, Declarator, Spans, Tree, Trees, node, no_trees, more_trees, label_of, spans_of, trees_of, parts_of, listed}
use Rattle.dm_tree.specs.Typing.{inside, IsWellTyped, FormFits, ExternalFits, IsWellTypedUnit, file_scene, body_scene}
use Rattle.dm_tree.specs.Units.{External, ExternalForm, declares, defines_function, TypedUnit}
use Rattle.dm_meaning.specs.Among.{IsAmong}
use Rattle.dm_meaning.specs.Called.{Called, Gives, new_of, statics_of, is_nowhere_local}
use Rattle.dm_meaning.specs.CalledWithAll.{AreDistinct}
use Rattle.dm_meaning.specs.Programs.{Definition, declaration_at, definition_in}
use Rattle.dm_meaning.specs.Refinement.{Refines, refines_through}
use Rattle.dm_meaning.specs.Replaced.{Zipped, facts_of, StaticAgrees}
use Rattle.dm_meaning.specs.Statements.{Local, with_expressions}
use Rattle.dm_meaning.specs.Steps.{is_main}
use Rattle.dm_meaning.specs.Units.{definitions_by, definitions_in, locals_of, all_locals, statics_from, main_in, machine_of, program_of}
use Rattle.dm_meaning.specs.Wholes.{is_expression, is_whole, are_whole}
use Rattle.dm_meaning.proofs.AmongLemmas.{among_left, among_right, among_either, among-map_from}
use Rattle.dm_meaning.proofs.OptionLemmas.{and_left, and_right}
use Rattle.dm_meaning.proofs.RunLemmas.{OptionAgrees}
use Rattle.dm_meaning.proofs.StatementLemmas.{zipped_append}
use Rattle.dm_meaning.proofs.WholeLemmas.{typed-expression, typed-whole}
use Rattle.dm_effect.specs.Entities.{trees_in_form}
use Rattle.dm_effect.specs.Scoped.{is_automatic, is_scoped}
use Rattle.dm_rewrite.specs.Closed.{only_closed}
use Rattle.dm_rewrite.specs.ClosedStates.{AllNameOnly, ListNamesOnly}
use Rattle.dm_agree.specs.Standing.{runs_at}
use Rattle.dm_agree.specs.Agreement.{added_function, Rewriting, AgreesWhole, Agrees}
use Rattle.dm_align.specs.Units as aligned
use Rattle.dm_align.specs.Units.{Insertion, moved, other_externals, other_entries, entry_of, rewriting_of}
use Rattle.dm_central.specs.Bodies.{Known, CallsInPlace, IsWholeProgram, DefinitionAgrees}
use Rattle.dm_central.specs.ClosedPrograms.{known_with, AreOnlyNamed, AreAlwaysSafe}
use Rattle.dm_central.specs.QuietFrames as quiet
use Rattle.dm_central.specs.QuietFrames.{WritesNothing}
use Rattle.dm_central.proofs.QuietTreeLemmas.{writes_nothing}
use Rattle.dm_central.proofs.RefineLemmas.{safe_calls_refine}
use Rattle.dm_central.proofs.WholeLemmas.{no_statements}
use Rattle.dm_plain.specs.Plain.{HasPlainTypes}
use Rattle.dm_refine.specs.Calls.{IsEvaluated, AreOthersEvaluated}
use Rattle.dm_refine.proofs.AutomaticLemmas.{nowhere_local}
use Rattle.dm_refine.proofs.CallGivesLemmas.{gives}
use Rattle.dm_refine.proofs.CallLocalLemmas.{same_statement}
use Rattle.dm_refine.proofs.CallStaticLemmas.{LocalAgrees, statics_agree}
use Rattle.dm_refine.proofs.CallTreeLemmas.{AddsFunction, IsAddedEntry, at_run}
use Rattle.dm_refine.proofs.ConstantTreeLemmas.{inside_declared}
use Rattle.dm_refine.proofs.CallUnitLemmas.{locals_but_added, automatic_fact, automatic_is, distinct_of, all_put}
use Rattle.dm_refine.proofs.NumberLemmas.{moved_injective, moved_apart, entry_told}
use Rattle.dm_refine.proofs.PutLemmas.{parts_of_list, all_without}
use Rattle.dm_refine.proofs.TypedLemmas.{typed_body}
use Rattle.dm_void.specs.Bodies.{with_functions}
use Rattle.dm_late.specs.Late as late
use Rattle.dm_late.specs.Late.{Judged, AreReadFirst, FormAlike, EvaluateAlike, AreClosed}
use Rattle.dm_late.proofs.AddedLemmas.{IsAddedFunction, IsValueThere}
use Rattle.dm_late.proofs.ArgumentLemmas.{names_trees}
use Rattle.dm_late.proofs.DefinitionLemmas.{zipped_map, zipped_partner, weaker_option, both_some, related_lookup, found_added, related_main, none_static}
use Rattle.dm_late.specs.Settled.{nowhere, erased, all_erased, spot, settled, all_settled, erased_definition, erased_program}
use Rattle.dm_late.proofs.ErasedLemmas.{erased_list, settled_list, settled_statement, erased_refines}
use Rattle.dm_late.proofs.ErasedWholeLemmas.{all_whole_settled, quiet_erased, quiet_settled, all_names_settled, still_nowhere}
use Rattle.dm_late.proofs.LateLocalLemmas.{value_at, erased_local, statics_erased, AgreesSomewhere, declarators_agree, locals_agree}
use Rattle.dm_late.proofs.LateStatementLemmas.{items_agree}
use Rattle.dm_late.proofs.LateTreeLemmas.{IsEarly, AllNameOr}

-- ---- lists

definitions_append : (before behind : List External) → definitions_in (before ++ behind) ≡ definitions_in before ++ definitions_in behind
definitions_append [] behind = refl
definitions_append (external ∷ before) behind =
    ap (λ (ds : List Definition). definitions_by external.form ++ ds) (definitions_append before behind) ∙ sym (append_assoc (definitions_by external.form) (definitions_in before) (definitions_in behind))

list_or : (d : ℕ) (trees : Trees) → ListNamesOnly d (listed trees) → AllNameOr d trees
list_or d no_trees h = tt
list_or d (more_trees first rest) h = (inl h.0, list_or d rest h.1)

list_only : (d : ℕ) (trees : Trees) → ListNamesOnly d (listed trees) → AllNameOnly d only_closed trees
list_only d no_trees h = tt
list_only d (more_trees first rest) h = (h.0, list_only d rest h.1)

only_list : (d : ℕ) (trees : Trees) → AllNameOnly d only_closed trees → ListNamesOnly d (listed trees)
only_list d no_trees h = tt
only_list d (more_trees first rest) h = (h.0, only_list d rest h.1)

all_whole : (trees : Trees) → all_pass (are_whole trees) ≡ true → list_all is_whole (listed trees) ≡ true
all_whole no_trees e = e
all_whole (more_trees first rest) e = both (is_whole first) (list_all is_whole (listed rest)) (and_left (is_whole first) (all_pass (are_whole rest)) e) (all_whole rest (and_right (is_whole first) (all_pass (are_whole rest)) e))
  where
    both : (a b : Bool) → a ≡ true → b ≡ true → (a && b) ≡ true
    both true b f g = g
    both false b f g = absurd (false≢true f)

-- the items of a body are whole
items_whole : (scene : Scene) (tree : Tree) → label_of tree ≡ block → IsWellTyped scene tree → list_all is_whole (parts_of (settled tree)) ≡ true
items_whole scene (node label kind spans parts) is typed =
    ap (λ (t : Tree). list_all is_whole (parts_of t)) (settled_statement label kind spans parts (ap is_statement is))
    ∙ (ap (list_all is_whole) (settled_list parts)
    ∙ (all_whole_settled (listed parts)
    ∙ all_whole parts (subst (λ l. is_whole (node l kind spans parts) ≡ true) is (typed-whole scene (node label kind spans parts) typed (ap is_statement is)))))

-- ---- units

-- the functions, of which the added one has this definition
abbrev pub restated_functions : TypedUnit → Insertion → Definition → List Definition
restated_functions new put added = definitions_in (take put.external new.externals) ++ added ∷ definitions_in (drop (put.external + 1) new.externals)

module _ (old_types new_types : Table) (old new : TypedUnit) (runs : List Run) (old_typed : IsWellTypedUnit old_types old) (typed : IsWellTypedUnit new_types new) (put : Insertion)
    (same_entries : map entry_of (other_entries (Some put) new.declared) ≡ map entry_of old.declared)
    (agreed : Zipped (aligned.ExternalsAgree (rewriting_of old_types old runs (Some put))) (other_externals (Some put) new.externals) old.externals)
    (f : ℕ) (parameters : List ℕ) (body : Tree) (adds : put.added ≡ added_function f parameters body)
    (lengths : (run : Run) → IsAmong run runs → HasPlainTypes new body) (evaluated : AreOthersEvaluated f put new) (judged : Judged)
    (closed_lengths : (d : ℕ) → judged.closed d ≡ true → HasPlainTypes new body) (first : AreReadFirst judged runs parameters body)
    (alike : EvaluateAlike judged (rewriting_of old_types old runs (Some put)) parameters (other_externals (Some put) new.externals) old.externals)
    (silent : late.AreQuiet judged (program_of old_types old)) (always : AreAlwaysSafe (erased_program (program_of old_types old)) judged.safe) where
  abbrev Fits : External → Type 0
  Fits external = ExternalFits (file_scene new_types new.declared) external × AllByRecursion (IsEvaluated f) (trees_in_form external.form)

  abbrev others_fit : All (ExternalFits (file_scene new_types new.declared)) (other_externals (Some put) new.externals)
  others_fit = all_without (ExternalFits (file_scene new_types new.declared)) put.external new.externals typed.externals

  abbrev others_evaluated : All (λ (external : External). AllByRecursion (IsEvaluated f) (trees_in_form external.form)) (other_externals (Some put) new.externals)
  others_evaluated = All-from_recursion (λ (external : External). AllByRecursion (IsEvaluated f) (trees_in_form external.form)) (other_externals (Some put) new.externals) evaluated

  abbrev all_fit : All Fits (other_externals (Some put) new.externals)
  all_fit k default inside = (others_fit k default inside, others_evaluated k default inside)

  abbrev OldFits : External → Type 0
  OldFits external = ExternalFits (file_scene old_types old.declared) external

  abbrev told : (d : ℕ) → option_map facts_of (declaration_at new.declared (moved (Some put) d)) ≡ option_map facts_of (declaration_at old.declared d)
  told = entry_told (Some put) new.declared old.declared same_entries

  -- the function may have another body, which returns the expression
  module _ (external : External) (found : slice_get new.externals put.external ≡ Some external) (written : Tree) (one : IsAddedFunction new_types new put f parameters written external) (nothing_declared : locals_of external.form ≡ [])
      (value : IsValueThere new.declared body) (body_scoped : is_scoped (is_automatic new.declared) parameters body ≡ true) (restated : Tree) (return_kind : CType) (return_spans : Spans)
      (returns : parts_of restated ≡ node return return_kind return_spans (more_trees body no_trees) ∷ [])
      (closed : AreClosed judged old (moved (Some put)) (with_functions (program_of new_types new) (restated_functions new put (record { function = f; parameters = parameters; body = restated })))) where
    abbrev added : Definition
    added = record { function = f; parameters = parameters; body = restated }

    abbrev pub change : Called
    change = record {
      old = erased_program (program_of old_types old);
      declared = new.declared;
      functions = restated_functions new put added;
      statics = statics_from new.declared (all_locals new.externals) [];
      rename = moved (Some put);
      added = added;
      body = body;
    }

    abbrev known : Known
    known = known_with judged.closed judged.quiet judged.safe

    abbrev injective : (c d : ℕ) → change.rename c ≡ change.rename d → c ≡ d
    injective = moved_injective (Some put)

    entry : IsAddedEntry new_types new.declared f parameters
    entry = record { entry = one.entry; found = one.found; result = one.result; kinds = one.kinds; typed = one.typed; fit = one.parameters_fit }

    own : (p : ℕ) → IsAmong p parameters → (d : ℕ) → moved (Some put) d ≡ p → ⊥
    own p k d e = moved_apart put d (subst (aligned.IsPut put) (sym e) (all_put put parameters one.parameters_put.0 p k))

    apart : (d : ℕ) → moved (Some put) d ≡ f → ⊥
    apart d e = moved_apart put d (subst (aligned.IsPut put) (sym e) one.inside)

    distinct : AreDistinct parameters
    distinct = distinct_of parameters one.parameters_put.1

    is_added : AddsFunction change put.added
    is_added = subst (AddsFunction change) (sym adds) (refl, refl, refl)

    body_expression : is_expression body ≡ true
    body_expression = typed-expression value.inner body value.typed (and_right (not (is_lvalue body)) (not (is_statement (label_of body))) value.value)

    body_value : Gives body
    body_value = gives new.declared typed.entries value.inner value.same body value.typed value.value value.no_function

    -- what is automatic in one unit is in the other
    same_automatic : (d : ℕ) → is_automatic new.declared (moved (Some put) d) ≡ is_automatic old.declared d
    same_automatic d = automatic_is (slice_get new.declared (moved (Some put) d)) ∙ (ap automatic_fact (told d) ∙ sym (automatic_is (slice_get old.declared d)))

    still : (d : ℕ) → is_automatic new.declared (moved (Some put) d) ≡ false → is_nowhere_local change.old d ≡ true
    still d e = still_nowhere (program_of old_types old) d (nowhere_local old_types old old_typed d (sym (same_automatic d) ∙ e))

    local : (d : ℕ) → judged.closed d ≡ true → is_automatic new.declared (moved (Some put) d) ≡ true
    local d picked = same_automatic d ∙ (closed d picked).0

    early_ones : (run : Run) → IsAmong run runs → IsEarly judged parameters body × HasPlainTypes new body
    early_ones run k = (λ p l. first run k p l, lengths run k)

    -- ---- external declarations

    abbrev it : Rewriting
    it = rewriting_of old_types old runs (Some put)

    abbrev Same : Local → Local → Type 0
    Same one_local other = LocalAgrees (statics_of change) one_local (erased_local other)

    -- functions agree, name closed objects only where they read or write them, and are whole
    abbrev Alike : Definition → Definition → Type 0
    Alike definition other =
        DefinitionAgrees change known definition other × ((d : ℕ) → judged.closed d ≡ true → ListNamesOnly d (parts_of other.body)) × (list_all is_whole (parts_of other.body) ≡ true)

    abbrev OnlyIn : Definition → Type 0
    OnlyIn definition = (d : ℕ) → judged.closed d ≡ true → ListNamesOnly (moved (Some put) d) (parts_of definition.body)

    somewhere : (trees others : List Tree) → Zipped (AgreesWhole it) trees others
        → Zipped (AgreesSomewhere change told injective new_types typed.entries entry runs put.added is_added distinct change.statics change.old.statics) trees others
    somewhere [] [] k = tt
    somewhere [] (other ∷ others) k = absurd k
    somewhere (tree ∷ trees) [] k = absurd k
    somewhere (tree ∷ trees) (other ∷ others) k = ((runs_at runs other, k.0), somewhere trees others k.1)

    no_block : block ≡ call → ⊥
    no_block e = cc

    names_body : (scene : Scene) → scene.declared ≡ new.declared → (standing : List Run) (tree other : Tree) → label_of tree ≡ block → IsWellTyped scene tree → Agrees it standing tree other → (d : ℕ) → judged.closed d ≡ true
        → ListNamesOnly (moved (Some put) d) (parts_of tree) → ListNamesOnly d (parts_of (settled other))
    names_body scene e [] (node label kind spans parts) (node other other_kind other_spans others) is t agree d picked only =
        let old_s = sym (same_statement (moved (Some put)) other) ∙ (ap is_statement (sym agree.0.0) ∙ ap is_statement is) in
        subst (λ (t : Tree). ListNamesOnly d (parts_of t)) (sym (settled_statement other other_kind other_spans others old_s))
        (only_list d (all_settled others)
        (all_names_settled d nowhere others
        (names_trees nowhere change told injective new_types typed.entries entry runs put.added is_added distinct own apart body_expression (is_automatic new.declared) d (local d picked) body_scoped (closed_lengths d picked) (inside scene label (listed parts))
        (inside_declared scene label (listed parts) ∙ e) only_closed other other_spans parts others t.1 agree.1 (list_only (moved (Some put) d) parts only))))
    names_body scene e (run ∷ inner) (node label kind spans parts) other is t agree d picked only =
        absurd (no_block (sym is ∙ (at_run change told injective new_types typed.entries entry runs put.added is_added distinct put.added is_added run inner label kind parts other _ agree).0.0))

    forms_agree : (form other : ExternalForm) → FormFits (file_scene new_types new.declared) form → FormFits (file_scene old_types old.declared) other → AllByRecursion (IsEvaluated f) (trees_in_form form)
        → aligned.FormsAgree it form other → FormAlike judged it parameters form other → ((definition : Definition) → IsAmong definition (definitions_by form) → OnlyIn definition)
        → Zipped (λ definition was. Alike definition (erased_definition was)) (definitions_by form) (definitions_by other) × Zipped Same (locals_of form) (locals_of other)
    forms_agree (declares declarators trees) (declares others other_trees) t old_t calls agree same only =
        let scene = file_scene new_types new.declared in (
          tt,
          subst (λ (ds : List Declarator). Zipped Same (with_expressions ds trees) (with_expressions others other_trees)) (sym agree.0)
              (declarators_agree change told injective new_types typed.entries entry runs put.added is_added distinct change.statics change.old.statics scene scene refl others trees other_trees t.0 (All-from_recursion (IsEvaluated f) trees calls)
              (subst (λ (ds : List Declarator). DeclaratorsFit scene ds trees) agree.0 t.1) (somewhere trees other_trees agree.1)),
        )
    forms_agree (declares declarators trees) (defines_function g others other) t old_t calls agree same only = absurd agree
    forms_agree (defines_function g names tree) (declares others other_trees) t old_t calls agree same only = absurd agree
    forms_agree (defines_function g names tree) (defines_function k others other) t old_t calls agree same only =
        let new_body = typed_body new_types new.declared g names tree t in
        let old_body = typed_body old_types old.declared k others other old_t in
        let scene = body_scene (file_scene new_types new.declared) new_body.result in
        let only_names = only (record { function = g; parameters = names; body = tree }) (inl refl) in (
          (
            (
              (
                agree.0,
                agree.1,
                items_agree change told injective new_types typed.entries entry runs put.added is_added distinct own apart body_expression body_value (is_automatic new.declared) still body_scoped value.inner value.same value.typed judged
                    local scene refl (body_scene (file_scene old_types old.declared) old_body.result) (runs_at runs other) early_ones (spot (spans_of other)) tree other new_body.block new_body.typed old_body.typed calls.0
                    (λ d picked. list_or (moved (Some put) d) (trees_of tree) (only_names d picked)) agree.2 same,
              ),
              λ d picked. names_body scene refl (runs_at runs other) tree other new_body.block new_body.typed agree.2 d picked (only_names d picked),
              items_whole (body_scene (file_scene old_types old.declared) old_body.result) other old_body.block old_body.typed,
            ),
            tt,
          ),
          locals_agree change told injective new_types typed.entries entry runs put.added is_added distinct change.statics change.old.statics scene refl (runs_at runs other) tree other (value_at runs other) new_body.typed calls.0 agree.2,
        )

    abbrev Both : External → External → Type 0
    Both each other = Zipped (λ definition was. Alike definition (erased_definition was)) (definitions_by each.form) (definitions_by other.form) × Zipped Same (locals_of each.form) (locals_of other.form)

    all_agree : (externals others : List External) → All Fits externals → All OldFits others → Zipped (aligned.ExternalsAgree it) externals others → EvaluateAlike judged it parameters externals others
        → ((definition : Definition) → IsAmong definition (definitions_in externals) → OnlyIn definition) → Zipped Both externals others
    all_agree [] [] t old_t agree same only = tt
    all_agree [] (other ∷ others) t old_t agree same only = absurd agree
    all_agree (each ∷ externals) [] t old_t agree same only = absurd agree
    all_agree (each ∷ externals) (other ∷ others) t old_t agree same only =
        let fits = All-head Fits each externals t in (
          forms_agree each.form other.form fits.0.2 (All-head OldFits other others old_t).2 fits.1 agree.0.1 same.0 (λ definition l. only definition (among_left definition (definitions_by each.form) (definitions_in externals) l)),
          all_agree externals others (All-tail Fits each externals t) (All-tail OldFits other others old_t) agree.1 same.1
              (λ definition l. only definition (among_right definition (definitions_by each.form) (definitions_in externals) l)),
        )

    both_definitions : (externals others : List External) → Zipped Both externals others → Zipped (λ definition was. Alike definition (erased_definition was)) (definitions_in externals) (definitions_in others)
    both_definitions [] [] k = tt
    both_definitions [] (other ∷ others) k = absurd k
    both_definitions (each ∷ externals) [] k = absurd k
    both_definitions (each ∷ externals) (other ∷ others) k =
        zipped_append (λ definition was. Alike definition (erased_definition was)) (definitions_by each.form) (definitions_by other.form) (definitions_in externals) (definitions_in others) k.0.0
        (both_definitions externals others k.1)

    both_locals : (externals others : List External) → Zipped Both externals others → Zipped (λ (each other : External). Zipped Same (locals_of each.form) (locals_of other.form)) externals others
    both_locals [] [] k = tt
    both_locals [] (other ∷ others) k = absurd k
    both_locals (each ∷ externals) [] k = absurd k
    both_locals (each ∷ externals) (other ∷ others) k = (k.0.1, both_locals externals others k.1)

    abbrev before : List External
    before = take put.external new.externals

    abbrev behind : List External
    behind = drop (put.external + 1) new.externals

    split : new.externals ≡ before ++ external ∷ behind
    split = parts_of_list put.external new.externals external found

    -- the old functions are among the new ones
    only_there : (definition : Definition) → IsAmong definition (definitions_in (before ++ behind)) → OnlyIn definition
    only_there definition l d picked = (closed d picked).1 definition (by_side (among_either definition (definitions_in before) (definitions_in behind) (subst (IsAmong definition) (definitions_append before behind) l)))
      where
        by_side : IsAmong definition (definitions_in before) ⊎ IsAmong definition (definitions_in behind) → IsAmong definition (definitions_in before ++ added ∷ definitions_in behind)
        by_side (inl k) = among_left definition (definitions_in before) (added ∷ definitions_in behind) k
        by_side (inr k) = among_right definition (definitions_in before) (added ∷ definitions_in behind) (inr k)

    both_agree : Zipped Both (before ++ behind) old.externals
    both_agree = all_agree (before ++ behind) old.externals all_fit old_typed.externals agreed alike only_there

    abbrev olds : List Definition
    olds = map erased_definition (definitions_in old.externals)

    related : Zipped Alike (definitions_in before ++ definitions_in behind) olds
    related =
        subst (λ (definitions : List Definition). Zipped Alike definitions olds) (definitions_append before behind)
        (zipped_map Alike erased_definition (definitions_in (before ++ behind)) (definitions_in old.externals) (both_definitions (before ++ behind) old.externals both_agree))

    same_function : (definition other : Definition) → Alike definition other → definition.function ≡ moved (Some put) other.function
    same_function definition other k = k.0.0

    functions : (g : ℕ) → OptionAgrees (DefinitionAgrees change known) (definition_in change.functions (moved (Some put) g)) (definition_in olds g)
    functions g =
        weaker_option Alike (DefinitionAgrees change known) (λ definition other k. k.0) (definition_in (definitions_in before ++ added ∷ definitions_in behind) (moved (Some put) g)) (definition_in olds g)
        (related_lookup added (moved (Some put)) injective apart Alike same_function (definitions_in before) (definitions_in behind) olds related g)

    not_main : is_main (declaration_at new.declared f) ≡ false
    not_main = ap is_main one.found ∙ one.not_main

    mains : OptionAgrees (DefinitionAgrees change known) (main_in (new_of change) change.functions) (main_in change.old olds)
    mains =
        weaker_option Alike (DefinitionAgrees change known) (λ definition other k. k.0) (main_in (new_of change) (definitions_in before ++ added ∷ definitions_in behind)) (main_in change.old olds)
        (related_main added (moved (Some put)) injective apart Alike same_function (new_of change) change.old told not_main (definitions_in before) (definitions_in behind) olds related)

    locals_same : Zipped Same (all_locals new.externals) (all_locals old.externals)
    locals_same =
        subst (λ (externals : List External). Zipped Same (all_locals externals) (all_locals old.externals)) (sym split)
        (locals_but_added Same before behind old.externals external nothing_declared (both_locals (before ++ behind) old.externals both_agree))

    statics : Zipped (StaticAgrees (statics_of change)) change.statics change.old.statics
    statics =
        subst (Zipped (StaticAgrees (statics_of change)) change.statics) (statics_erased old.declared (all_locals old.externals) [])
        (statics_agree (statics_of change) injective told (all_locals new.externals) (map erased_local (all_locals old.externals))
        (zipped_map (LocalAgrees (statics_of change)) erased_local (all_locals new.externals) (all_locals old.externals) locals_same) [] [] tt)

    in_place : CallsInPlace change known
    in_place = record {
      injective = injective;
      apart = apart;
      added = record {
        told = told;
        defined = λ d. both_some (DefinitionAgrees change known) (definition_in change.functions (moved (Some put) d)) (definition_in olds d) (functions d);
        found = found_added added (moved (Some put)) injective apart Alike same_function (definitions_in before) (definitions_in behind) olds related;
        distinct = distinct;
        own = own;
        gives = body_value;
      };
      functions = functions;
      mains = mains;
      statics = statics;
      not_main = not_main;
      return_kind = return_kind;
      return_spans = return_spans;
      returns = returns;
    }

    only_named : AreOnlyNamed change judged.closed
    only_named = record {
      local = λ d picked l. none_static old.declared (all_locals old.externals) d (closed d picked).0 l;
      old = λ d picked definition l. (zipped_partner Alike (definitions_in before ++ definitions_in behind) olds related definition l).related.1 d picked;
      new = λ d picked. (closed d picked).1;
    }

    -- the one `return` of a body
    quiet_by : (label : Label) (own_kind : CType) (own_spans : Spans) (parts : Trees) (f : ℕ) (names : List ℕ) (kind : CType) (spans : Spans) (value_of : Tree)
        → listed parts ≡ node return kind spans (more_trees value_of no_trees) ∷ [] → WritesNothing judged.quiet value_of → (b : Bool)
        → quiet.ReturnsQuietly change.old judged.quiet (record { function = f; parameters = names; body = if b then node label own_kind nowhere (all_settled parts) else node label own_kind (spot own_spans) (all_erased (spot own_spans) parts) })
    quiet_by label own_kind own_spans parts f names kind spans value_of returns_it quietly true = record {
      kind = kind;
      spans = nowhere;
      value = settled value_of;
      returns_it = settled_list parts ∙ ap (map settled) returns_it;
      quietly = λ objects effect l. writes_nothing change.old judged.quiet (settled value_of) (quiet_settled judged.quiet value_of quietly) objects effect l;
    }
    quiet_by label own_kind own_spans parts f names kind spans value_of returns_it quietly false = record {
      kind = kind;
      spans = spot own_spans;
      value = erased (spot own_spans) value_of;
      returns_it = erased_list (spot own_spans) parts ∙ ap (map (erased (spot own_spans))) returns_it;
      quietly = λ objects effect l. writes_nothing change.old judged.quiet (erased (spot own_spans) value_of) (quiet_erased (spot own_spans) judged.quiet value_of quietly) objects effect l;
    }

    quiet_one : (g : ℕ) (names : List ℕ) (tree : Tree) → late.ReturnsQuietly judged.quiet (record { function = g; parameters = names; body = tree })
        → quiet.ReturnsQuietly change.old judged.quiet (erased_definition (record { function = g; parameters = names; body = tree }))
    quiet_one g names (node label own_kind own_spans parts) r = quiet_by label own_kind own_spans parts g names r.kind r.spans r.value r.returns_it r.quietly (is_statement label)

    are_quiet : quiet.AreQuiet change.old judged.quiet
    are_quiet definition l q =
        let was = among-map_from erased_definition definition (definitions_in old.externals) l in
        subst (quiet.ReturnsQuietly change.old judged.quiet) (sym was.2) (quiet_one was.0.function was.0.parameters was.0.body (silent was.0 was.1 (ap (λ (d : Definition). judged.quiet d.function) (sym was.2) ∙ q)))

    whole : IsWholeProgram change.old
    whole definition l = (zipped_partner Alike (definitions_in before ++ definitions_in behind) olds related definition l).related.2

    pub restated_refines : Refines (machine_of (with_functions (program_of old_types new) (restated_functions new put added))) (machine_of (program_of old_types old))
    restated_refines =
        refines_through (machine_of (new_of change)) (machine_of (erased_program (program_of old_types old))) (machine_of (program_of old_types old))
        (safe_calls_refine change judged.closed judged.quiet judged.safe in_place only_named are_quiet always (no_statements change.old whole)) (erased_refines (program_of old_types old))

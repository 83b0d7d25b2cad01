-- The program of the new unit refines that of the old one.
--     late_typed_units      where the function has a result or none, if the program is typed
--     uncalled_units      where the macro has no run
use Rattle.std.specs.Prelude.{◌≡◌, refl, ◌⊎◌, ℕ, ◌+◌, Bool, true, false, not, IsTrue, List, [], ◌∷◌, ◌++◌, take, drop, Option, Some, None, slice_get, pos}
use Rattle.std.specs.Int.Signed.{le_z_yes}
use Rattle.std.specs.Option.{IsSomeAnd}
use Rattle.std.proofs.Common.{ap, sym, ◌∙◌, subst, inl, inr, append_assoc}
use Rattle.std.proofs.lemmas.Bool.{true≢false, false≢true}
use Rattle.dm_int.specs.declared.Kind.TheVariants.{Int}
use Rattle.dm_runs.specs.declared.run.Run.{Run}
use Rattle.dm_type.specs.CTypes.{CType, void, integer, pointer, array, struct, function as function_type, const, bare}
use Rattle.dm_type.specs.Tables.{Table}
use Rattle.dm_tree.specs.Scenes.{is_lvalue, is_void, is_function as is_function_type}
use Rattle.dm_tree.specs.Trees.{number, block, return, is_statement, Spans, Tree, node, no_trees, more_trees, label_of, kind_of, parts_of}
use Rattle.dm_tree.specs.Typing.{ExternalFits, IsWellTypedUnit, file_scene, body_scene}
use Rattle.dm_tree.specs.Units.{Declaration, External, ExternalForm, defines_function, TypedUnit}
use Rattle.dm_meaning.specs.Among.{IsAmong}
use Rattle.dm_meaning.specs.Programs.{Definition, Program, declaration_of}
use Rattle.dm_meaning.specs.Replaced.{Zipped}
use Rattle.dm_meaning.specs.Refinement.{Refines, refines_itself, refines_through}
use Rattle.dm_meaning.specs.Statements.{Local, kind_declared, type_declared}
use Rattle.dm_meaning.specs.Steps.{is_main, gives_nothing}
use Rattle.dm_meaning.specs.Units.{definitions_by, definitions_in, locals_in, locals_of, all_locals, statics_from, machine_of, program_of}
use Rattle.dm_meaning.proofs.AmongLemmas.{among_left, among_right, among_either}
use Rattle.dm_meaning.proofs.OptionLemmas.{and_right}
use Rattle.dm_effect.specs.Scoped.{is_automatic, is_scoped, is_scoped_form, is_scoped_external, IsScopedUnit}
use Rattle.dm_sound.specs.TypedRuns.{IsTypedProgram}
use Rattle.dm_same.proofs.MachineLemmas.{refines_same}
use Rattle.dm_rewrite.specs.ClosedStates.{ListNamesOnly}
use Rattle.dm_agree.specs.Agreement.{Added, added_function, Rewriting}
use Rattle.dm_align.specs.Units.{Insertion, IsPut, moved, other_externals, ExternalsAgree, FormAdds, rewriting_of, AreAligned}
use Rattle.dm_central.specs.ClosedPrograms.{AreAlwaysSafe}
use Rattle.dm_void.specs.Bodies.{with_functions, AllNotNamed, AreUncalled, IsNeverCalled, IsRestated}
use Rattle.dm_void.proofs.RefineLemmas.{restated_refines as dropped_refines}
use Rattle.dm_void.proofs.UncalledStateLemmas.{never_called}
use Rattle.dm_plain.specs.Plain.{HasPlainTypes}
use Rattle.dm_refine.specs.Calls.{AreOthersEvaluated}
use Rattle.dm_refine.proofs.CallBodyLemmas.{not_true}
use Rattle.dm_refine.proofs.CallGivesLemmas.{gives}
use Rattle.dm_refine.proofs.CallPutLemmas.{IsReturned, returned, scoped_body}
use Rattle.dm_refine.proofs.CallUnitLemmas.{whole_locals, no_function}
use Rattle.dm_refine.proofs.NumberLemmas.{moved_apart}
use Rattle.dm_refine.proofs.PutLemmas.{parts_of_list, all_without, all_passing, all_there}
use Rattle.dm_late.specs.Settled.{erased_program}
use Rattle.dm_late.specs.Late as late
use Rattle.dm_late.specs.Late.{Judged, AreReadFirst, EvaluateAlike, AreClosed}
use Rattle.dm_late.proofs.AddedLemmas.{IsAddedFunction, added_put, Returns, Drops, body_cases, IsValueThere, dropped_value, dropped_statement, dropped_scoped, dropped_locals}
use Rattle.dm_late.proofs.LateUnitLemmas.{restated_functions, restated_refines}
use Rattle.dm_late.proofs.NoRunLemmas.{alone, units_alone, units_without, uncalled, alike_alone}

-- ---- a unit with another definition

definitions_append : (before behind : List External) → definitions_in (before ++ behind) ≡ definitions_in before ++ definitions_in behind
definitions_append [] behind = refl
definitions_append (external ∷ before) behind =
    ap (λ (ds : List Definition). definitions_by external.form ++ ds) (definitions_append before behind) ∙ sym (append_assoc (definitions_by external.form) (definitions_in before) (definitions_in behind))

locals_replaced : (before behind : List External) (one other : External) → locals_of one.form ≡ locals_of other.form → all_locals (before ++ one ∷ behind) ≡ all_locals (before ++ other ∷ behind)
locals_replaced [] behind one other e = ap (λ (ls : List Local). ls ++ all_locals behind) e
locals_replaced (external ∷ before) behind one other e = ap (λ (ls : List Local). locals_of external.form ++ ls) (locals_replaced before behind one other e)

module _ (new : TypedUnit) (put : Insertion) (f : ℕ) (parameters : List ℕ) (whole restated : Tree) (external : External) (found : slice_get new.externals put.external ≡ Some external)
    (form : external.form ≡ defines_function f parameters whole) (declared : locals_in whole ≡ []) (declared_there : locals_in restated ≡ []) where
  abbrev pub before : List External
  before = take put.external new.externals

  abbrev pub behind : List External
  behind = drop (put.external + 1) new.externals

  abbrev added : Definition
  added = record { function = f; parameters = parameters; body = restated }

  abbrev pub restated_external : External
  restated_external = record { span = external.span; constants = external.constants; form = defines_function f parameters restated }

  abbrev pub restated_unit : TypedUnit
  restated_unit = record { declared = new.declared; externals = before ++ restated_external ∷ behind }

  split : new.externals ≡ before ++ external ∷ behind
  split = parts_of_list put.external new.externals external found

  pub was_functions : definitions_in new.externals ≡ definitions_in before ++ record { function = f; parameters = parameters; body = whole } ∷ definitions_in behind
  was_functions = ap definitions_in split ∙ (definitions_append before (external ∷ behind) ∙ ap (λ (one : ExternalForm). definitions_in before ++ (definitions_by one ++ definitions_in behind)) form)

  same_locals : all_locals (before ++ restated_external ∷ behind) ≡ all_locals new.externals
  same_locals = locals_replaced before behind restated_external external (declared_there ∙ sym (ap locals_of form ∙ declared)) ∙ sym (ap all_locals split)

  restated_program : (table : Table) → program_of table restated_unit ≡ with_functions (program_of table new) (restated_functions new put added)
  restated_program table = λ i. record {
    declared = new.declared;
    functions = definitions_append before (restated_external ∷ behind) i;
    statics = statics_from new.declared (same_locals i) [];
    table = table;
  }

  pub same_restated : (old_types new_types : Table) → Refines (machine_of (program_of new_types restated_unit)) (machine_of (program_of old_types restated_unit))
      → Refines (machine_of (with_functions (program_of new_types new) (restated_functions new put added))) (machine_of (with_functions (program_of old_types new) (restated_functions new put added)))
  same_restated old_types new_types h =
      subst (λ (one : Program). Refines (machine_of one) (machine_of (with_functions (program_of old_types new) (restated_functions new put added)))) (restated_program new_types)
      (subst (λ (one : Program). Refines (machine_of (program_of new_types restated_unit)) (machine_of one)) (restated_program old_types) h)

-- ---- the function that is put in

-- nothing is read late
abbrev nothing_judged : Judged
nothing_judged = record { closed = λ c. false; quiet = λ g. false; late = λ p. false; first = λ p. true; safe = λ tree. false }

void_function : (type : CType) → is_void (bare type) ≡ true → is_function_type type ≡ false
void_function void e = refl
void_function (integer kind) e = refl
void_function (pointer type) e = refl
void_function (array type n) e = refl
void_function (struct n) e = refl
void_function (const type) e = refl
void_function (function_type result kinds) e = absurd (false≢true e)

-- the body with a `return` of this expression
abbrev returning_body : CType → Spans → Tree → Tree
returning_body kind spans tree = node block kind spans (more_trees (node return kind spans (more_trees tree no_trees)) no_trees)

module _ (old_types new_types : Table) (old new : TypedUnit) (runs : List Run) (old_typed : IsWellTypedUnit old_types old) (typed : IsWellTypedUnit new_types new)
    (put : Insertion) (h : AreAligned old_types new_types old new runs (Some put)) (f : ℕ) (parameters : List ℕ) (body : Tree) (adds : put.added ≡ added_function f parameters body)
    (evaluated : AreOthersEvaluated f put new) where
  abbrev pub Refined : Type 0
  Refined = Refines (machine_of (program_of new_types new)) (machine_of (program_of old_types old))

  module _ (external : External) (found : slice_get new.externals put.external ≡ Some external) (one : IsAddedFunction new_types new put f parameters body external) where
    abbrev pub of_body : Tree → List Definition
    of_body restated = restated_functions new put (record { function = f; parameters = parameters; body = restated })

    -- the new program, the one with another body, over both tables of types, and the old one
    pub chain : (restated : Tree) → locals_in one.whole ≡ [] → locals_in restated ≡ [] → Refines (machine_of (program_of new_types new)) (machine_of (with_functions (program_of new_types new) (of_body restated)))
        → Refines (machine_of (with_functions (program_of old_types new) (of_body restated))) (machine_of (program_of old_types old)) → Refined
    chain restated none none_there above below =
        refines_through (machine_of (program_of new_types new)) (machine_of (with_functions (program_of new_types new) (of_body restated))) (machine_of (program_of old_types old)) above
        (refines_through (machine_of (with_functions (program_of new_types new) (of_body restated))) (machine_of (with_functions (program_of old_types new) (of_body restated))) (machine_of (program_of old_types old))
        (same_restated new put f parameters one.whole restated external found one.form none none_there old_types new_types
        (refines_same old_types new_types h.structs (restated_unit new put f parameters one.whole restated external found one.form none none_there))) below)

    pub other_name : is_main (declaration_of (program_of new_types new) f) ≡ false
    other_name = ap is_main one.found ∙ one.not_main

    -- the body with a `return` of another expression
    pub restated_here : (d : Drops one.result body one.whole) (none : locals_in one.whole ≡ []) (other : Tree) → locals_in (returning_body d.kind d.spans other) ≡ [] → IsRestated (program_of new_types new) f body other (of_body (returning_body d.kind d.spans other))
    restated_here d none other none_there = record {
      before = definitions_in (take put.external new.externals);
      behind = definitions_in (drop (put.external + 1) new.externals);
      parameters = parameters;
      body = one.whole;
      other_body = returning_body d.kind d.spans other;
      was = was_functions new put f parameters one.whole (returning_body d.kind d.spans other) external found one.form none none_there;
      is = refl;
      kind = d.kind;
      spans = d.spans;
      drops = d.is;
      other_kind = d.kind;
      other_spans = d.spans;
      returns = refl;
    }

    -- it drops the value of its expression, and the units agree without runs: then it is never called, and may return anything
    pub never_dropping : Drops one.result body one.whole → ((added : Added) → Zipped (ExternalsAgree (alone (rewriting_of old_types old runs (Some put)) added)) (other_externals (Some put) new.externals) old.externals) → Refined
    never_dropping d alike = chain restated none none_there above below
      where
        spans : Spans
        spans = d.spans

        zero : Tree
        zero = node (number (pos 0)) (integer Int) spans no_trees

        restated : Tree
        restated = returning_body d.kind spans zero

        put_there : Insertion
        put_there = record { external = put.external; first = put.first; count = put.count; name = put.name; added = added_function f parameters zero }

        none : locals_in one.whole ≡ []
        none = dropped_locals one.whole body d.kind d.spans one.block d.is (dropped_statement (body_scene (file_scene new_types new.declared) one.result) one.whole body d.kind d.spans d.is one.fits)

        none_there : locals_in restated ≡ []
        none_there = refl

        it : Rewriting
        it = rewriting_of old_types old runs (Some put)

        apart : (c : ℕ) → moved (Some put) c ≡ f → ⊥
        apart c e = moved_apart put c (subst (IsPut put) (sym e) one.inside)

        agreed : Zipped (ExternalsAgree (rewriting_of old_types old [] (Some put_there))) (other_externals (Some put) new.externals) old.externals
        agreed = alike (added_function f parameters zero)

        value : IsValueThere new.declared zero
        value = record { inner = file_scene new_types new.declared; same = refl; typed = ((refl, (le_z_yes tt, le_z_yes tt)), tt); value = refl; no_function = refl }

        never : IsNeverCalled (program_of new_types new) f
        never = never_called f (program_of new_types new) others_lack other_name
          where
            lacking : (definition : Definition) → IsAmong definition (definitions_in (take put.external new.externals) ++ definitions_in (drop (put.external + 1) new.externals)) → AllNotNamed f (parts_of definition.body)
            lacking definition l =
                uncalled it (added_function f parameters zero) f apart (other_externals (Some put) new.externals) old.externals agreed definition
                (subst (IsAmong definition) (sym (definitions_append (take put.external new.externals) (drop (put.external + 1) new.externals))) l)

            by_place : (definition : Definition) → IsAmong definition (definitions_in (take put.external new.externals)) ⊎ IsAmong definition (record { function = f; parameters = parameters; body = one.whole } ∷ definitions_in (drop (put.external + 1) new.externals))
                → (definition.function ≡ f) ⊎ AllNotNamed f (parts_of definition.body)
            by_place definition (inr (inl e)) = inl (ap (λ (one_definition : Definition). one_definition.function) e)
            by_place definition (inl l) = inr (lacking definition (among_left definition (definitions_in (take put.external new.externals)) (definitions_in (drop (put.external + 1) new.externals)) l))
            by_place definition (inr (inr l)) = inr (lacking definition (among_right definition (definitions_in (take put.external new.externals)) (definitions_in (drop (put.external + 1) new.externals)) l))

            others_lack : AreUncalled (program_of new_types new) f
            others_lack definition l =
                by_place definition (among_either definition (definitions_in (take put.external new.externals)) (record { function = f; parameters = parameters; body = one.whole } ∷ definitions_in (drop (put.external + 1) new.externals))
                (subst (IsAmong definition) (was_functions new put f parameters one.whole restated external found one.form none none_there) l))

        above : Refines (machine_of (program_of new_types new)) (machine_of (with_functions (program_of new_types new) (of_body restated)))
        above = dropped_refines (program_of new_types new) f body zero (of_body restated) (restated_here d none zero none_there) other_name (inr never)

        below : Refines (machine_of (with_functions (program_of old_types new) (of_body restated))) (machine_of (program_of old_types old))
        below =
            restated_refines old_types new_types old new [] old_typed typed put_there h.declared agreed f parameters zero refl (λ run k. absurd k) evaluated nothing_judged (λ d picked. absurd (true≢false (sym picked))) (λ run k. absurd k)
            (alike_alone it (added_function f parameters zero) nothing_judged parameters (other_externals (Some put) new.externals) old.externals) (λ definition l q. absurd (true≢false (sym q)))
            (λ input n state runs_to place run use_of rest e tree picked stands. absurd (true≢false (sym picked))) external found body
            (record {
              inside = one.inside;
              whole = one.whole;
              form = one.form;
              parameters_put = one.parameters_put;
              entry = one.entry;
              found = one.found;
              result = one.result;
              kinds = one.kinds;
              typed = one.typed;
              parameters_fit = one.parameters_fit;
              not_main = one.not_main;
              body_is = one.body_is;
              block = one.block;
              fits = one.fits;
            })
            (ap locals_of one.form ∙ none) value refl restated d.kind spans refl (λ c picked. absurd (true≢false (sym picked)))

    -- it drops that of an expression which has one: then no run stands in the unit
    pub uncalling : Drops one.result body one.whole → is_void (bare (kind_of body)) ≡ false → Refined
    uncalling d valued =
        never_dropping d
        (λ added.
        units_alone (rewriting_of old_types old runs (Some put)) added new_types new.declared f parameters body adds one.entry one.found one.result one.kinds one.typed d.valueless valued (other_externals (Some put) new.externals) old.externals
        (all_without (ExternalFits (file_scene new_types new.declared)) put.external new.externals typed.externals) h.externals)

  -- ---- units

  pub by_external : (P : (external : External) → IsAddedFunction new_types new put f parameters body external → slice_get new.externals put.external ≡ Some external → Refined) → Refined
  by_external P = by_found (slice_get new.externals put.external) refl h.added
    where
      by_found : (found : Option External) → slice_get new.externals put.external ≡ found → IsSomeAnd found (λ external. FormAdds new_types new put put.added external.form) → Refined
      by_found None e adds_it = absurd adds_it
      by_found (Some external) e adds_it =
          P external
          (added_put new_types new put f parameters body external (all_there (ExternalFits (file_scene new_types new.declared)) new.externals typed.externals put.external external e)
          (subst (λ (it : Added). FormAdds new_types new put it external.form) adds adds_it)) e

module _ (old_types new_types : Table) (old new : TypedUnit) (runs : List Run) (old_typed : IsWellTypedUnit old_types old) (typed : IsWellTypedUnit new_types new) (scoped : IsScopedUnit new)
    (put : Insertion) (h : AreAligned old_types new_types old new runs (Some put)) (f : ℕ) (parameters : List ℕ) (body : Tree) (adds : put.added ≡ added_function f parameters body)
    (lengths : (run : Run) → IsAmong run runs → HasPlainTypes new body) (evaluated : AreOthersEvaluated f put new) (judged : Judged)
    (closed_lengths : (d : ℕ) → judged.closed d ≡ true → HasPlainTypes new body) (first : AreReadFirst judged runs parameters body)
    (alike : EvaluateAlike judged (rewriting_of old_types old runs (Some put)) parameters (other_externals (Some put) new.externals) old.externals)
    (closed : AreClosed judged old (moved (Some put)) (program_of new_types new)) (silent : late.AreQuiet judged (program_of old_types old))
    (always : AreAlwaysSafe (erased_program (program_of old_types old)) judged.safe) where
  abbrev Goal : Type 0
  Goal = Refined old_types new_types old new runs old_typed typed put h f parameters body adds evaluated

  module _ (external : External) (found : slice_get new.externals put.external ≡ Some external) (one : IsAddedFunction new_types new put f parameters body external) where
    abbrev with_body : Tree → List Definition
    with_body restated = restated_functions new put (record { function = f; parameters = parameters; body = restated })

    scoped_whole : is_scoped (is_automatic new.declared) parameters one.whole ≡ true
    scoped_whole =
        subst (λ (form : ExternalForm). IsTrue (is_scoped_form (is_automatic new.declared) form)) one.form
        (all_there (λ (each : External). IsTrue (is_scoped_external new.declared each)) new.externals (all_passing (is_scoped_external new.declared) new.externals scoped) put.external external found)

    no_statement : IsValueThere new.declared body → is_statement (label_of body) ≡ false
    no_statement value = not_true (is_statement (label_of body)) (and_right (not (is_lvalue body)) (not (is_statement (label_of body))) value.value)

    -- it returns the expression
    returning : Returns one.result body one.whole → Goal
    returning r = chain old_types new_types old new runs old_typed typed put h f parameters body adds evaluated external found one one.whole none none above below
      where
        there : IsReturned (body_scene (file_scene new_types new.declared) one.result) body
        there = returned (body_scene (file_scene new_types new.declared) one.result) one.whole body r.kind r.spans r.is one.fits

        value : IsValueThere new.declared body
        value = record { inner = there.inner; same = there.same; typed = there.typed; value = there.value; no_function = no_function (bare one.result) (kind_of body) there.covered r.object }

        none : locals_in one.whole ≡ []
        none = whole_locals one.whole body r.kind r.spans one.block r.is (no_statement value)

        same : definitions_in new.externals ≡ with_body one.whole
        same = was_functions new put f parameters one.whole one.whole external found one.form none none

        same_program : program_of new_types new ≡ with_functions (program_of new_types new) (with_body one.whole)
        same_program = λ i. record { declared = new.declared; functions = same i; statics = statics_from new.declared (all_locals new.externals) []; table = new_types }

        above : Refines (machine_of (program_of new_types new)) (machine_of (with_functions (program_of new_types new) (with_body one.whole)))
        above = subst (λ (program : Program). Refines (machine_of (program_of new_types new)) (machine_of program)) same_program (refines_itself (machine_of (program_of new_types new)))

        closed_there : AreClosed judged old (moved (Some put)) (with_functions (program_of new_types new) (with_body one.whole))
        closed_there = subst (AreClosed judged old (moved (Some put))) same_program closed

        below : Refines (machine_of (with_functions (program_of old_types new) (with_body one.whole))) (machine_of (program_of old_types old))
        below =
            restated_refines old_types new_types old new runs old_typed typed put h.declared h.externals f parameters body adds lengths evaluated judged closed_lengths first alike silent always external found body one
            (ap locals_of one.form ∙ none) value (scoped_body (is_automatic new.declared) parameters one.whole body r.kind r.spans one.block r.is scoped_whole) one.whole r.kind r.spans r.is closed_there

    -- it drops the value of the expression, which is none
    dropping : IsTypedProgram (program_of new_types new) → Drops one.result body one.whole → is_void (bare (kind_of body)) ≡ true → Goal
    dropping sound d valueless = chain old_types new_types old new runs old_typed typed put h f parameters body adds evaluated external found one restated none none_there above below
      where
        restated : Tree
        restated = returning_body d.kind d.spans body

        value : IsValueThere new.declared body
        value = dropped_value (body_scene (file_scene new_types new.declared) one.result) one.whole body d.kind d.spans d.is one.fits (void_function (kind_of body) valueless)

        none : locals_in one.whole ≡ []
        none = dropped_locals one.whole body d.kind d.spans one.block d.is (no_statement value)

        none_there : locals_in restated ≡ []
        none_there = whole_locals restated body d.kind d.spans refl refl (no_statement value)

        nothing : gives_nothing (type_declared (program_of new_types new) f) ≡ true
        nothing = ap (λ (o : Option Declaration). gives_nothing (kind_declared o)) one.found ∙ (ap gives_nothing one.typed ∙ d.valueless)

        above : Refines (machine_of (program_of new_types new)) (machine_of (with_functions (program_of new_types new) (with_body restated)))
        above =
            dropped_refines (program_of new_types new) f body body (with_body restated) (restated_here old_types new_types old new runs old_typed typed put h f parameters body adds evaluated external found one d none body none_there) (other_name old_types new_types old new runs old_typed typed put h f parameters body adds evaluated external found one)
            (inl (record {
              sound = sound;
              nothing = nothing;
              gives = gives new.declared typed.entries value.inner value.same body value.typed value.value value.no_function;
              valueless = valueless;
              same = refl;
            }))

        -- in the expression closed objects are named as they were
        closed_there : AreClosed judged old (moved (Some put)) (with_functions (program_of new_types new) (with_body restated))
        closed_there c picked = ((closed c picked).0, λ definition l. by_side c picked definition (among_either definition (definitions_in (take put.external new.externals)) (record { function = f; parameters = parameters; body = restated } ∷ definitions_in (drop (put.external + 1) new.externals)) l))
          where
            was : definitions_in new.externals ≡ definitions_in (take put.external new.externals) ++ record { function = f; parameters = parameters; body = one.whole } ∷ definitions_in (drop (put.external + 1) new.externals)
            was = was_functions new put f parameters one.whole restated external found one.form none none_there

            only : (c : ℕ) → judged.closed c ≡ true → (definition : Definition) → IsAmong definition (definitions_in (take put.external new.externals) ++ record { function = f; parameters = parameters; body = one.whole } ∷ definitions_in (drop (put.external + 1) new.externals))
                → ListNamesOnly (moved (Some put) c) (parts_of definition.body)
            only c picked definition l = (closed c picked).1 definition (subst (IsAmong definition) (sym was) l)

            in_whole : (c : ℕ) → judged.closed c ≡ true → ListNamesOnly (moved (Some put) c) (parts_of one.whole)
            in_whole c picked = only c picked (record { function = f; parameters = parameters; body = one.whole })
                (among_right (record { function = f; parameters = parameters; body = one.whole }) (definitions_in (take put.external new.externals)) (record { function = f; parameters = parameters; body = one.whole } ∷ definitions_in (drop (put.external + 1) new.externals)) (inl refl))

            by_side : (c : ℕ) → judged.closed c ≡ true → (definition : Definition) → IsAmong definition (definitions_in (take put.external new.externals))
                ⊎ IsAmong definition (record { function = f; parameters = parameters; body = restated } ∷ definitions_in (drop (put.external + 1) new.externals)) → ListNamesOnly (moved (Some put) c) (parts_of definition.body)
            by_side c picked definition (inl l) =
                only c picked definition (among_left definition (definitions_in (take put.external new.externals)) (record { function = f; parameters = parameters; body = one.whole } ∷ definitions_in (drop (put.external + 1) new.externals)) l)
            by_side c picked definition (inr (inr l)) =
                only c picked definition (among_right definition (definitions_in (take put.external new.externals)) (record { function = f; parameters = parameters; body = one.whole } ∷ definitions_in (drop (put.external + 1) new.externals)) (inr l))
            by_side c picked definition (inr (inl e)) =
                let inner = subst (ListNamesOnly (moved (Some put) c)) d.is (in_whole c picked) in
                subst (λ (one_definition : Definition). ListNamesOnly (moved (Some put) c) (parts_of one_definition.body)) (sym e) ((tt, (inner.0.1.0, tt)), tt)

        below : Refines (machine_of (with_functions (program_of old_types new) (with_body restated))) (machine_of (program_of old_types old))
        below =
            restated_refines old_types new_types old new runs old_typed typed put h.declared h.externals f parameters body adds lengths evaluated judged closed_lengths first alike silent always external found body one
            (ap locals_of one.form ∙ none) value (dropped_scoped (is_automatic new.declared) parameters one.whole body d.kind d.spans one.block d.is scoped_whole) restated d.kind d.spans refl closed_there

    dropping_any : IsTypedProgram (program_of new_types new) → Drops one.result body one.whole → Goal
    dropping_any sound d = by_bool (is_void (bare (kind_of body))) refl
      where
        by_bool : (b : Bool) → is_void (bare (kind_of body)) ≡ b → Goal
        by_bool true e = dropping sound d e
        by_bool false e = uncalling old_types new_types old new runs old_typed typed put h f parameters body adds evaluated external found one d e

  -- ---- units

  -- where it has a result or none, if the program is typed
  pub late_typed_units : IsTypedProgram (program_of new_types new) → Goal
  late_typed_units sound = by_external old_types new_types old new runs old_typed typed put h f parameters body adds evaluated (λ external one found. by_case external found one (body_cases one.result body one.whole one.body_is))
    where
      by_case : (external : External) → slice_get new.externals put.external ≡ Some external → (one : IsAddedFunction new_types new put f parameters body external) → Returns one.result body one.whole ⊎ Drops one.result body one.whole → Goal
      by_case external found one (inl r) = returning external found one r
      by_case external found one (inr d) = dropping_any external found one sound d

-- where the macro has no run, the function is never called, and its expression may be any
module _ (old_types new_types : Table) (old new : TypedUnit) (old_typed : IsWellTypedUnit old_types old) (typed : IsWellTypedUnit new_types new) (scoped : IsScopedUnit new)
    (put : Insertion) (h : AreAligned old_types new_types old new [] (Some put)) (f : ℕ) (parameters : List ℕ) (body : Tree) (adds : put.added ≡ added_function f parameters body)
    (evaluated : AreOthersEvaluated f put new) where
  pub uncalled_units : Refines (machine_of (program_of new_types new)) (machine_of (program_of old_types old))
  uncalled_units = by_external old_types new_types old new [] old_typed typed put h f parameters body adds evaluated (λ external one found. by_case external found one (body_cases one.result body one.whole one.body_is))
    where
      by_case : (external : External) → slice_get new.externals put.external ≡ Some external → (one : IsAddedFunction new_types new put f parameters body external) → Returns one.result body one.whole ⊎ Drops one.result body one.whole
          → Refines (machine_of (program_of new_types new)) (machine_of (program_of old_types old))
      by_case external found one (inl r) =
          returning old_types new_types old new [] old_typed typed scoped put h f parameters body adds (λ run k. absurd k) evaluated nothing_judged (λ d picked. absurd (true≢false (sym picked))) (λ run k. absurd k)
          (alike_alone (rewriting_of old_types old [] (Some put)) put.added nothing_judged parameters (other_externals (Some put) new.externals) old.externals) (λ d picked. absurd (true≢false (sym picked)))
          (λ definition l q. absurd (true≢false (sym q))) (λ input n state runs_to place run use_of rest e tree picked stands. absurd (true≢false (sym picked))) external found one r
      by_case external found one (inr d) =
          never_dropping old_types new_types old new [] old_typed typed put h f parameters body adds evaluated external found one d
          (λ added. units_without (rewriting_of old_types old [] (Some put)) put.added added (other_externals (Some put) new.externals) old.externals h.externals)

-- By what is put in.
use Rattle.std.specs.Prelude.{◌≡◌, refl, ℕ, Bool, true, List, [], ◌∷◌, length, map, Option, Some, None, slice_get, option_map, is_some, IsTrue}
use Rattle.std.specs.List.{AllByRecursion}
use Rattle.std.specs.Option.{IsSomeAnd}
use Rattle.std.proofs.Common.{ap, sym, ◌∙◌, subst}
use Rattle.std.proofs.lemmas.Option.{slice_get-map}
use Rattle.dm_token.specs.declared.expansion.Definition.{Definition}
use Rattle.dm_runs.specs.declared.run.Run.{Run}
use Rattle.dm_type.specs.CTypes.{CType}
use Rattle.dm_type.specs.Tables.{Table}
use Rattle.dm_tree.specs.declared.unit.CoreExternal.{CoreExternal}
use Rattle.dm_tree.specs.declared.unit.CoreExternalForm.{CoreExternalForm}
use Rattle.dm_tree.specs.declared.unit.CoreExternalForm.TheVariants as code
use Rattle.dm_tree.specs.Trees.{full, return, Tree, Trees, node, no_trees, more_trees, listed, parts_of}
use Rattle.dm_tree.specs.Typing.{IsWellTypedUnit}
use Rattle.dm_tree.specs.Units.{Declaration, External, ExternalForm, declares, defines_function, TypedUnit}
use Rattle.dm_tree.specs.Views.{view_of_external, view_of_form}
use Rattle.dm_edit.specs.declared.change.As.{As}
use Rattle.dm_edit.specs.declared.change.As.TheVariants.{Function, Enumerator, Constant}
use Rattle.dm_agree.specs.Agreement.{Added, nothing, added_function, added_enumerator, added_constant, Rewriting}
use Rattle.dm_align.specs.Insertions.{IsOfKind}
use Rattle.dm_align.specs.Units.{AreAligned, FormAdds, Insertion, IsBodyOf, result_of, rewriting_of}
use Rattle.dm_alignment.specs.Readings.{AddsBy, IsInsertion, IsPlain, TakesAsMany, TakesSoMany}
use Rattle.dm_macro.specs.Bodies.{named_parameters}
use Rattle.dm_beside.specs.Evaluation.{evaluates_alike}
use Rattle.dm_meanings.specs.Types.{unit_in}
use Rattle.dm_refine.specs.Kinds.{IsNoFunction}
use Rattle.dm_reading.specs.declared.reading.Reading.{Reading}
use Rattle.dm_rules.specs.Uses.{runs_in}
use Rattle.dm_standing.specs.Calls.{HasArguments, HasOccurrences, MayCall}
use Rattle.dm_effect.specs.Scoped.{is_automatic}
use Rattle.dm_told.specs.Told.{ArePlacesTold}
use Rattle.dm_plain.specs.Plain.{AllTypesPlain, AreTypesPlain, HasPlainBody, HasPlainTypes}
use Rattle.dm_refined.specs.Programs.{KeepsRunRules, RefinesReading}
use Rattle.dm_refined.proofs.laws.kept_readings_refine.Goals as goal

-- only a function is put in where the macro becomes one
is_function : (kind : As) (added : Added) (f : ℕ) (parameters : List ℕ) (body : Tree) → IsOfKind kind added → added ≡ added_function f parameters body → kind ≡ Function
is_function Function added f parameters body h e = refl
is_function Enumerator added f parameters body h e = absurd (subst (IsOfKind Enumerator) e h)
is_function Constant added f parameters body h e = absurd (subst (IsOfKind Constant) e h)

-- with as many parameters as the macro
counted : (types : Table) (new : TypedUnit) (put : Insertion) (f : ℕ) (parameters : List ℕ) (body : Tree) (n : ℕ) (form : CoreExternalForm) → TakesSoMany n form
    → FormAdds types new put (added_function f parameters body) (view_of_form types form) → length parameters ≡ n
counted types new put f parameters body n (code.Function g others whole) count adds = ap length adds.1 ∙ count
counted types new put f parameters body n (code.Declaration locals) count adds = absurd count

counted_in : (types : Table) (new : TypedUnit) (put : Insertion) (f : ℕ) (parameters : List ℕ) (body : Tree) (definition : Definition) (found : Option CoreExternal)
    → TakesAsMany Function definition found → IsSomeAnd (option_map (view_of_external types) found) (λ (external : External). FormAdds types new put (added_function f parameters body) external.form)
    → length parameters ≡ length (named_parameters definition.parameters)
counted_in types new put f parameters body definition None count adds = absurd count
counted_in types new put f parameters body definition (Some one) count adds = counted types new put f parameters body (length (named_parameters definition.parameters)) one.form count adds

-- in the body of a function whose type names are plain, those of its expression are
plain_items : (automatic : ℕ → Bool) (result : CType) (body : Tree) (items : Trees) → IsBodyOf result body (listed items) → AllTypesPlain automatic items → AreTypesPlain automatic body
plain_items automatic result body (more_trees (node return kind spans (more_trees value no_trees)) no_trees) h plain = subst (AreTypesPlain automatic) (sym h.0) plain.0.1.0
plain_items automatic result body (more_trees (node full kind spans (more_trees value no_trees)) no_trees) h plain = subst (AreTypesPlain automatic) (sym h.0) plain.0.1.0
plain_items automatic result body items h plain = absurd h

plain_whole : (automatic : ℕ → Bool) (result : CType) (body whole : Tree) → IsBodyOf result body (parts_of whole) → AreTypesPlain automatic whole → AreTypesPlain automatic body
plain_whole automatic result body (node label kind spans items) h plain = plain_items automatic result body items h plain.1

plain_entry : (automatic : ℕ → Bool) (body whole : Tree) (Name Sort Linkage : Declaration → Type 0) (found : Option Declaration)
    → IsSomeAnd found (λ (entry : Declaration). Name entry × (Sort entry × Linkage entry × IsBodyOf (result_of entry.kind) body (parts_of whole))) → AreTypesPlain automatic whole → AreTypesPlain automatic body
plain_entry automatic body whole Name Sort Linkage None h plain = absurd h
plain_entry automatic body whole Name Sort Linkage (Some entry) h plain = plain_whole automatic (result_of entry.kind) body whole h.1.2 plain

plain_form : (types : Table) (new : TypedUnit) (put : Insertion) (f : ℕ) (parameters : List ℕ) (body : Tree) (form : ExternalForm) → FormAdds types new put (added_function f parameters body) form → HasPlainBody new form
    → HasPlainTypes new body
plain_form types new put f parameters body (declares declarators trees) adds plain = absurd adds
plain_form types new put f parameters body (defines_function g others whole) adds plain =
    plain_entry (is_automatic new.declared) body whole _ _ _ (slice_get new.declared f) adds.3.1 plain

plain_in : (new : Reading) (put : Insertion) (f : ℕ) (parameters : List ℕ) (body : Tree) (run : Run) (runs : List Run) (found : Option CoreExternal) → IsPlain (run ∷ runs) new found
    → IsSomeAnd (option_map (view_of_external new.types) found) (λ (external : External). FormAdds new.types (unit_in new) put (added_function f parameters body) external.form) → HasPlainTypes (unit_in new) body
plain_in new put f parameters body run runs None plain adds = absurd adds
plain_in new put f parameters body run runs (Some one) plain adds = plain_form new.types (unit_in new) put f parameters body (view_of_form new.types one.form) adds plain

-- each run keeps the rule on evaluation too
all_evaluated : (definition : Definition) (reading : Reading) (it : Rewriting) (count own : ℕ) → own ≡ count → (runs : List Run)
    → AllByRecursion (λ (run : Run). MayCall reading.types (unit_in reading) run × HasArguments it (unit_in reading) own run × HasOccurrences it (unit_in reading) run) runs
    → AllByRecursion (KeepsRunRules definition reading) runs
    → AllByRecursion (λ (run : Run). MayCall reading.types (unit_in reading) run × HasArguments it (unit_in reading) count run × HasOccurrences it (unit_in reading) run
    × IsTrue (evaluates_alike reading.types (unit_in reading) run)) runs
all_evaluated definition reading it count own e [] h k = tt
all_evaluated definition reading it count own e (run ∷ runs) h k =
    ((h.0.0, subst (λ n. HasArguments it (unit_in reading) n run) e h.0.1, h.0.2, k.0.1.1.1), all_evaluated definition reading it count own e runs h.1 k.1)

pub returns : goal.returns
returns c files unit before after old new change is layered given aligned = by_put aligned.0 aligned.1 aligned.2
  where
    by_object : (put : Insertion) → AreAligned old.types new.types (unit_in old) (unit_in new) (runs_in change.definition old) (Some put) → IsNoFunction put.added → RefinesReading new old
    by_object put whole other =
        c.object_like_macros_refine.ensures old.types new.types (unit_in old) (unit_in new) (runs_in change.definition old) (Some put)
        (c.readings_are_sound.ensures.table new layered) (c.readings_are_sound.ensures.unit old is.2) (c.readings_are_sound.ensures.unit new layered)
        (c.readings_are_sound.ensures.scopes new layered) whole other

    old_typed : IsWellTypedUnit old.types (unit_in old)
    old_typed = c.readings_are_sound.ensures.unit old is.2

    told : ArePlacesTold (unit_in old)
    told = c.places_are_told.ensures old.types (unit_in old) old_typed (c.readings_are_sound.ensures.layout old is.2)

    -- a function: where the macro has no run it is never called
    by_runs : (put : Insertion) → IsInsertion old new change put → (f : ℕ) (parameters : List ℕ) (body : Tree) → put.added ≡ added_function f parameters body
        → (runs : List Run) → runs_in change.definition old ≡ runs → AreAligned old.types new.types (unit_in old) (unit_in new) runs (Some put) → RefinesReading new old
    by_runs put inserted f parameters body e [] none whole =
        c.uncalled_units_refine.ensures old.types new.types (unit_in old) (unit_in new) put f parameters body old_typed (c.readings_are_sound.ensures.unit new layered)
        (c.readings_are_sound.ensures.scopes new layered) whole e
        (c.calls_are_evaluated.ensures old.types new.types (unit_in old) (unit_in new) [] put f parameters body old_typed (c.readings_are_sound.ensures.unit new layered) whole e told tt)
    by_runs put inserted f parameters body e (run ∷ runs) some whole =
        let it = rewriting_of old.types (unit_in old) (run ∷ runs) (Some put) in
        let kind = is_function change.kind put.added f parameters body inserted.kind e in
        let facts = given kind inserted.read in
        let added = subst (λ (it : Added). IsSomeAnd (slice_get (unit_in new).externals put.external) (λ (external : External). FormAdds new.types (unit_in new) put it external.form)) e whole.added in
        let there = subst (λ (o : Option External). IsSomeAnd o (λ (external : External). FormAdds new.types (unit_in new) put (added_function f parameters body) external.form))
        (slice_get-map (view_of_external new.types) new.core.externals put.external) added in
        let count = counted_in new.types (unit_in new) put f parameters body change.definition (slice_get new.core.externals put.external)
        (subst (λ (k : As). TakesAsMany k change.definition (slice_get new.core.externals put.external)) kind inserted.counted) there in
        let plain = plain_in new put f parameters body run runs (slice_get new.core.externals put.external)
        (subst (λ (these : List Run). IsPlain these new (slice_get new.core.externals put.external)) some inserted.plain) there in
        c.evaluated_units_refine.ensures old.types new.types (unit_in old) (unit_in new) (run ∷ runs) put f parameters body old_typed (c.readings_are_sound.ensures.scopes old is.2)
        (c.readings_are_sound.ensures.program old is.2) (c.readings_are_sound.ensures.layout old is.2) (c.readings_declare_once.ensures old is.2)
        (c.readings_are_sound.ensures.unit new layered) (c.readings_are_sound.ensures.scopes new layered) (c.readings_are_sound.ensures.program new layered) whole e plain
        (all_evaluated change.definition old it (length parameters) (length (named_parameters change.definition.parameters)) (sym count) (run ∷ runs)
        (subst (λ (these : List Run). AllByRecursion (λ (one : Run). MayCall old.types (unit_in old) one × HasArguments it (unit_in old) (length (named_parameters change.definition.parameters)) one × HasOccurrences it (unit_in old) one) these) some
        (c.kept_rules_give_arguments.ensures files unit before after old change.definition it is facts.0 facts.1 facts.2))
        (subst (AllByRecursion (KeepsRunRules change.definition old)) some facts.1.1))

    by_added : (put : Insertion) → IsInsertion old new change put → AreAligned old.types new.types (unit_in old) (unit_in new) (runs_in change.definition old) (Some put)
        → (added : Added) → put.added ≡ added → RefinesReading new old
    by_added put inserted whole (added_function f parameters body) e = by_runs put inserted f parameters body e (runs_in change.definition old) refl whole
    by_added put inserted whole nothing e = by_object put whole (subst IsNoFunction (sym e) tt)
    by_added put inserted whole (added_enumerator d value) e = by_object put whole (subst IsNoFunction (sym e) tt)
    by_added put inserted whole (added_constant d value) e = by_object put whole (subst IsNoFunction (sym e) tt)

    by_put : (put : Option Insertion) → AddsBy old new change put → AreAligned old.types new.types (unit_in old) (unit_in new) (runs_in change.definition old) put → RefinesReading new old
    by_put None unread whole = c.readings_without_the_definition_refine.ensures.new old new change is.2 layered (None, unread, whole) unread
    by_put (Some put) inserted whole = by_added put inserted whole put.added refl

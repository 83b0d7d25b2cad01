-- The frames of calls in the new program and in the old one: of functions that agree, and of the added function.
use Rattle.std.specs.Prelude.{◌≡◌, refl, ◌⊎◌, ℕ, suc, Bool, false, List, [], ◌∷◌, map, length, Option, Some, None, option_map, bytes_eq, codes}
use Rattle.std.proofs.Common.{ap, sym, ◌∙◌, inl, inr}
use Rattle.dm_type.specs.CTypes.{CType}
use Rattle.dm_tree.specs.declared.unit.Sort.{Sort}
use Rattle.dm_tree.specs.Trees.{return, node, no_trees, more_trees, parts_of}
use Rattle.dm_tree.specs.Units.{Declaration}
use Rattle.dm_meaning.specs.Among.{IsAmong}
use Rattle.dm_meaning.specs.Called.{Called, new_of}
use Rattle.dm_meaning.specs.Causes.{is_unset}
use Rattle.dm_meaning.specs.Memory.{Memory, new_block}
use Rattle.dm_meaning.specs.Programs.{Definition, layout, declaration_of, definition_of}
use Rattle.dm_meaning.specs.Replaced.{facts_of}
use Rattle.dm_meaning.specs.States.{begins}
use Rattle.dm_meaning.specs.Statements.{declared_in, type_declared, named_from, made_from, items_tasks}
use Rattle.dm_meaning.specs.Steps.{given_from, opened_frame, opened_memory, is_main}
use Rattle.dm_meaning.specs.Values.{Value}
use Rattle.dm_meaning.proofs.EntryLemmas.{entries_from, objects_in, with_entries, named_entries, given_entries, entry_from, entries_named}
use Rattle.dm_meaning.proofs.LikenessLemmas.{same_type, declared_in_agrees, made_from_agrees, items_agree}
use Rattle.dm_meaning.proofs.PassRunLemmas.{Entry as Stored}
use Rattle.dm_meaning.proofs.PassStateLemmas.{AreHeld}
use Rattle.dm_meaning.proofs.PassStatementLemmas.{definition_small}
use Rattle.dm_meaning.proofs.RunLemmas.{OptionAgrees, renamed_objects}
use Rattle.dm_meaning.proofs.StatementLemmas.{named_from_renamed, length_renamed}
use Rattle.dm_central.specs.Bodies.{Known, CallsInPlace}
use Rattle.dm_central.specs.StateAgreement.{DefinitionFits, TasksAgree}
use Rattle.dm_central.proofs.BodyLemmas.{option_fits, body_fits, likeness}

main_fact : Option (List ℕ × Sort × CType) → Bool
main_fact None = false
main_fact (Some facts) = bytes_eq facts.0 (codes "main")

main_is : (o : Option Declaration) → is_main o ≡ main_fact (option_map facts_of o)
unfolding main_fact
main_is None = refl
main_is (Some declaration) = refl

module _ (change : Called) (known : Known) (calling : CallsInPlace change known) where
  pub same_main : (d : ℕ) → is_main (declaration_of (new_of change) (change.rename d)) ≡ is_main (declaration_of change.old d)
  same_main d = main_is (declaration_of (new_of change) (change.rename d)) ∙ ap main_fact (calling.added.told d) ∙ sym (main_is (declaration_of change.old d))

  given_agrees : (names : ℕ → ℕ) (i : ℕ) (ds : List ℕ) (values : List Value) (memory : Memory)
      → given_from (new_of change) names i (map change.rename ds) values memory ≡ given_from change.old names i ds values memory
  given_agrees names i [] [] memory = refl
  given_agrees names i [] (value ∷ values) memory = refl
  given_agrees names i (d ∷ ds) [] memory =
      ap (λ kind. given_from (new_of change) names (suc i) (map change.rename ds) [] ((names i, new_block (layout change.old) kind) ∷ memory)) (same_type change (likeness change known calling) d)
      ∙ given_agrees names (suc i) ds [] ((names i, new_block (layout change.old) (type_declared change.old d)) ∷ memory)
  given_agrees names i (d ∷ ds) (value ∷ values) memory =
      ap (λ kind. given_from (new_of change) names (suc i) (map change.rename ds) values ((names i, record (new_block (layout change.old) kind) { contents = value }) ∷ memory)) (same_type change (likeness change known calling) d)
      ∙ given_agrees names (suc i) ds values ((names i, record (new_block (layout change.old) (type_declared change.old d)) { contents = value }) ∷ memory)

  pub frame_objects : (names : ℕ → ℕ) (definition other : Definition) → DefinitionFits change known definition other
      → (opened_frame (new_of change) names definition).objects ≡ renamed_objects change.rename (opened_frame change.old names other).objects
  frame_objects names definition other h =
      ap (λ ps. named_from names (length ps) (declared_in (new_of change) (parts_of definition.body)) (named_from names 0 ps [])) h.0.1
      ∙ ap (λ n. named_from names n (declared_in (new_of change) (parts_of definition.body)) (named_from names 0 (map change.rename other.parameters) [])) (length_renamed change.rename other.parameters)
      ∙ ap (λ ds. named_from names (length other.parameters) ds (named_from names 0 (map change.rename other.parameters) []))
      (declared_in_agrees change (likeness change known calling) (parts_of definition.body) (parts_of other.body) (body_fits change known definition other h))
      ∙ ap (named_from names (length other.parameters) (map change.rename (declared_in change.old (parts_of other.body)))) (named_from_renamed change.rename names 0 other.parameters [])
      ∙ named_from_renamed change.rename names (length other.parameters) (declared_in change.old (parts_of other.body)) (named_from names 0 other.parameters [])

  pub frame_tasks : (names : ℕ → ℕ) (definition other : Definition) → DefinitionFits change known definition other
      → TasksAgree change known (opened_frame (new_of change) names definition).tasks (opened_frame change.old names other).tasks
  frame_tasks names definition other h = items_agree change (likeness change known calling) (parts_of definition.body) (parts_of other.body) (body_fits change known definition other h)

  pub frame_memory : (names : ℕ → ℕ) (definition other : Definition) (arguments : List Value) (memory : Memory) → DefinitionFits change known definition other
      → opened_memory (new_of change) names definition arguments memory ≡ opened_memory change.old names other arguments memory
  frame_memory names definition other arguments memory h =
      ap (λ ps. made_from (new_of change) names (length ps) (declared_in (new_of change) (parts_of definition.body)) (given_from (new_of change) names 0 ps arguments memory)) h.0.1
      ∙ ap (λ n. made_from (new_of change) names n (declared_in (new_of change) (parts_of definition.body)) (given_from (new_of change) names 0 (map change.rename other.parameters) arguments memory)) (length_renamed change.rename other.parameters)
      ∙ ap (λ ds. made_from (new_of change) names (length other.parameters) ds (given_from (new_of change) names 0 (map change.rename other.parameters) arguments memory))
      (declared_in_agrees change (likeness change known calling) (parts_of definition.body) (parts_of other.body) (body_fits change known definition other h))
      ∙ ap (made_from (new_of change) names (length other.parameters) (map change.rename (declared_in change.old (parts_of other.body)))) (given_agrees names 0 other.parameters arguments memory)
      ∙ made_from_agrees change (likeness change known calling) names (length other.parameters) (declared_in change.old (parts_of other.body)) (given_from change.old names 0 other.parameters arguments memory)

  -- functions that agree, with bodies that aren't larger
  pub definition_fits : (g : ℕ) → OptionAgrees (DefinitionFits change known) (definition_of (new_of change) (change.rename g)) (definition_of change.old g)
  definition_fits g =
      option_fits change known (definition_of (new_of change) (change.rename g)) (definition_of change.old g) (calling.functions g) (definition_small change.functions (change.rename g))

  -- ---- the frame of the added function

  pub added_objects : (names : ℕ → ℕ) (values : List Value) → length values ≡ length change.added.parameters
      → (opened_frame (new_of change) names change.added).objects ≡ objects_in (entries_from names 0 change.added.parameters values [])
  added_objects names values e =
      ap (λ items. named_from names (length change.added.parameters) (declared_in (new_of change) items) (named_from names 0 change.added.parameters [])) calling.returns
      ∙ named_entries names 0 change.added.parameters values [] e

  pub added_tasks : items_tasks (parts_of change.added.body) ≡ begins (node return calling.return_kind calling.return_spans (more_trees change.body no_trees)) ∷ []
  added_tasks = ap items_tasks calling.returns

  pub added_memory : (names : ℕ → ℕ) (values : List Value) (memory : Memory) → length values ≡ length change.added.parameters
      → opened_memory (new_of change) names change.added values memory ≡ with_entries change (entries_from names 0 change.added.parameters values []) memory
  added_memory names values memory e =
      ap (λ items. made_from (new_of change) names (length change.added.parameters) (declared_in (new_of change) items) (given_from (new_of change) names 0 change.added.parameters values memory)) calling.returns
      ∙ given_entries change names 0 change.added.parameters values [] memory e

  -- its parameters have names and values
  pub added_held : (names : ℕ → ℕ) (values : List Value) → ((value : Value) → IsAmong value values → is_unset value ≡ false) → AreHeld change (entries_from names 0 change.added.parameters values [])
  added_held names values set = record {
    named = entries_named names 0 change.added.parameters values [] calling.added.distinct (λ q k entry l f. absurd l) (λ entry l. absurd l);
    set = λ entry l. set_by entry (entry_from names 0 change.added.parameters values [] entry l);
    own = λ entry l. own_by entry (entry_from names 0 change.added.parameters values [] entry l);
  }
    where
      set_by : (entry : Stored) → IsAmong entry [] ⊎ (IsAmong entry.parameter change.added.parameters × IsAmong entry.value values) → is_unset entry.value ≡ false
      set_by entry (inl k) = absurd k
      set_by entry (inr k) = set entry.value k.1

      own_by : (entry : Stored) → IsAmong entry [] ⊎ (IsAmong entry.parameter change.added.parameters × IsAmong entry.value values) → (d : ℕ) → change.rename d ≡ entry.parameter → ⊥
      own_by entry (inl k) = absurd k
      own_by entry (inr k) = calling.added.own entry.parameter k.0

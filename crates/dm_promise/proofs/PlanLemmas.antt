-- The edits of a plan, one after the other.
--     judged_refine      what all edits have made of the readings of a project
use Rattle.std.specs.Prelude.{◌≡◌, refl, List, [], ◌∷◌, Option, Some, None, Result, Ok, Err, true, is_some}
use Rattle.std.proofs.Common.{ap, sym, ◌∙◌, subst, inl, inr}
use Rattle.dm_token.specs.declared.stop.Stop.{Stop}
use Rattle.dm_token.specs.declared.expansion.Definition.{Definition}
use Rattle.dm_token.specs.declared.unit.Unit.{Unit as Source}
use Rattle.dm_io.specs.Files.{Files}
use Rattle.dm_search.specs.Loaded.{Loaded, with_bytes}
use Rattle.dm_meaning.specs.Refinement.{refines_itself, refines_through}
use Rattle.dm_reading.specs.declared.reading.Reading.{Reading}
use Rattle.dm_reading.specs.Layered.{IsLayered}
use Rattle.dm_edit.specs.declared.change.Change.{Change}
use Rattle.dm_edit.specs.declared.plan.Entry.{Entry}
use Rattle.dm_alignment.specs.Readings.{AreAlignedReadings}
use Rattle.dm_readings.specs.Again.{put_in}
use Rattle.dm_judge.specs.declared.proposal.Proposal.{Proposal}
use Rattle.dm_judge.specs.declared.proposal.Proposal.TheVariants as proposal
use Rattle.dm_subjects.specs.Alignments.{AreAllAligned}
use Rattle.dm_subjects.specs.declared.subject.Subject.{Subject}
use Rattle.dm_planning.specs.Judging.{Project, Rereads, EndsBy, Edits, JudgesBy, JudgesFound, JudgesAll, file_of, found_in}
use Rattle.dm_refined.specs.Programs.{machine_in, RefinesReading, IsMadeFor, KeepsCallRules}
use Rattle.dm_promise.specs.Promises.{AllRefine}
use Rattle.dm_promise.proofs.LayerLemmas.{AllLayered, AllNewLayered, again_layered}
use Rattle.std.specs.List.{AllByRecursion}
use Rattle.dm_token.specs.declared.unit.Read.{Read}
use Rattle.dm_meaning.specs.Among.{IsAmong}
use Rattle.dm_unit.specs.Units.{setting_of}
use Rattle.dm_edit.specs.declared.change.As.TheVariants.{Function}
use Rattle.dm_defined.specs.Made.{IsMade}
use Rattle.dm_local.specs.Kept.{IsOfLoader, IsReadBy}
use Rattle.dm_kept.specs.Current.{AreCurrent}
use Rattle.dm_judge.specs.Proposals.{proposed}
use Rattle.dm_judge.specs.Rules.{broken_first, rules_of}
use Rattle.dm_rules.specs.Uses.{reads}
use Rattle.dm_last.proofs.EditedLemmas.{IsEditedTo}
use Rattle.dm_promise.proofs.ProposalLemmas.{proposed_is, made_for}

-- ---- readings of units, one by one

pub all_themselves : (readings : List Reading) → AllRefine readings readings
all_themselves [] = tt
all_themselves (reading ∷ readings) = (refines_itself (machine_in reading), all_themselves readings)

pub all_through : (news middles olds : List Reading) → AllRefine news middles → AllRefine middles olds → AllRefine news olds
all_through [] [] [] h k = tt
all_through [] [] (old ∷ olds) h k = absurd k
all_through [] (middle ∷ middles) olds h k = absurd h
all_through (new ∷ news) [] olds h k = absurd h
all_through (new ∷ news) (middle ∷ middles) [] h k = absurd k
all_through (new ∷ news) (middle ∷ middles) (old ∷ olds) h k =
    (refines_through (machine_in new) (machine_in middle) (machine_in old) h.0 k.0, all_through news middles olds h.1 k.1)

-- what is done to the readings of a project
abbrev pub Leads : List Reading → List Reading → Type 0
Leads news olds = AllRefine news olds × AllLayered news

-- ---- edits

module _ (refine : (files : Files) (unit : Source) (known : Loaded) (old new : Reading) (change : Change) → IsReadBy known files unit old → IsLayered new
    → (change.kind ≡ Function → reads change.definition old ≡ true
    → IsMadeFor (setting_of known known files unit) change.definition × KeepsCallRules change.definition old × (is_some change.definition.parameters ≡ true))
    → AreAlignedReadings old new change → RefinesReading new old)
    (keeps : (definition : Definition) (files : Files) (unit : Source) (known : Loaded) (readings : List Reading) (reading : Reading) → IsReadBy known files unit reading → IsOfLoader known
    → IsAmong reading readings → broken_first (rules_of definition readings) ≡ None → KeepsCallRules definition reading)
    (made : (files : Files) (unit : Source) (known : Loaded) (reading : Reading) → IsReadBy known files unit reading
    → AllByRecursion (λ (read : Read). IsMade (setting_of known known files unit) read.definition) reading.pp.read)
    (files : Files) (units : List Source) where
  -- each unit that has a new reading
  put_refine : (known : Loaded) → IsOfLoader known → (change : Change) (all : List Reading) → ((unit : Source) → IsMadeFor (setting_of known known files unit) change.definition)
      → broken_first (rules_of change.definition all) ≡ None → (change.kind ≡ Function → is_some change.definition.parameters ≡ true) → (those : List Source) (kept : List Reading)
      → ((reading : Reading) → IsAmong reading kept → IsAmong reading all) → AreCurrent known files those kept → AllLayered kept → (news : List (Option Reading)) → AllNewLayered news
      → AreAllAligned change kept news → Leads (put_in kept news) kept
  put_refine known of change all found unbroken called those [] inside current layered news new_layered aligned = (tt, tt)
  put_refine known of change all found unbroken called those (reading ∷ kept) inside current layered [] new_layered aligned = absurd aligned
  put_refine known of change all found unbroken called [] (reading ∷ kept) inside current layered (new ∷ news) new_layered aligned = absurd current
  put_refine known of change all found unbroken called (unit ∷ those) (reading ∷ kept) inside current layered (None ∷ news) new_layered aligned =
      let rest = put_refine known of change all found unbroken called those kept (λ one among. inside one (inr among)) current.1 layered.1 news new_layered.1 aligned.1 in
      ((refines_itself (machine_in reading), rest.0), (layered.0, rest.1))
  put_refine known of change all found unbroken called (unit ∷ those) (reading ∷ kept) inside current layered (Some new ∷ news) new_layered aligned =
      let rest = put_refine known of change all found unbroken called those kept (λ one among. inside one (inr among)) current.1 layered.1 news new_layered.1 aligned.1 in (
        (
          refine files unit known reading new change current.0 new_layered.0
              (λ function read. (found unit, keeps change.definition files unit known all reading current.0 of (inside reading (inl refl)) unbroken, called function)) aligned.0,
          rest.0,
        ),
        (new_layered.0, rest.1),
      )

  -- a project whose readings stay
  stays : (before after stands : Project) → AllLayered before.readings → stands.readings ≡ before.readings → after ≡ stands → Leads after.readings before.readings
  stays before after stands layered same e =
      subst (λ (readings : List Reading). Leads readings before.readings) (sym (ap (λ (it : Project). it.readings) e ∙ same)) (all_themselves before.readings, layered)

  module _ (before : Project) (subject : Subject) (definition : Definition) (of : IsOfLoader before.loaded) (current : AreCurrent before.loaded files units before.readings) (layered : AllLayered before.readings)
      (found : found_in before subject ≡ Some definition) where
    -- an edit that stands
    rewritten_refine : (change : Change) (news : List (Option Reading)) → AllNewLayered news → proposed before.readings definition ≡ Some (proposal.Change change)
        → AreAllAligned change before.readings news → Leads (put_in before.readings news) before.readings
    rewritten_refine change news new_layered proposes aligned =
        let it = proposed_is definition before.readings change proposes in
        put_refine before.loaded of change before.readings
        (λ unit.
        subst (IsMadeFor (setting_of before.loaded before.loaded files unit)) (sym it.same)
        (made_for files before.loaded (λ one reading is. made files one before.loaded reading is) unit units before.readings subject definition current found))
        (subst (λ (d : Definition). broken_first (rules_of d before.readings) ≡ None) (sym it.same) it.unbroken)
        (λ function. subst (λ (d : Definition). is_some d.parameters ≡ true) (sym it.same) (it.called function))
        units before.readings (λ reading among. among) current layered news new_layered aligned

    edits_refine : (change : Change) (entry : Entry) (after : Project) → proposed before.readings definition ≡ Some (proposal.Change change) → Edits (Some files) units before change entry after
        → Leads after.readings before.readings
    edits_refine change entry after proposes (inl cannot) = stays before after before layered refl cannot.1.1
    edits_refine change entry after proposes (inr (edited, first, is, inl refused)) = stays before after before layered refl refused.3.1
    edits_refine change entry after proposes (inr (edited, first, is, inr (readable, result, known, rereads, ends))) = by_result result rereads ends
      where
        by_result : (given : Result (List (Option Reading)) Stop) → Rereads (Some files) (file_of change) units before.readings (with_bytes before.loaded (file_of change) edited) given known
            → EndsBy change before given known entry after → Leads after.readings before.readings
        by_result (Err stop) read end = stays before after _ layered refl end.1.1
        by_result (Ok news) read (inr kept) = stays before after _ layered refl kept.1.1
        by_result (Ok news) read (inl stands) =
            subst (λ (readings : List Reading). Leads readings before.readings) (sym (ap (λ (it : Project). it.readings) stands.1.1))
            (rewritten_refine change news (again_layered files (file_of change) units before.readings (with_bytes before.loaded (file_of change) edited) news known (read.1 files refl)) proposes stands.0)

    judges_refine : (answer : Proposal) (entry : Entry) (after : Project) → proposed before.readings definition ≡ Some answer → JudgesBy (Some files) units before definition answer entry after
        → Leads after.readings before.readings
    judges_refine (proposal.Broken rule place) entry after proposes h = stays before after before layered refl h.1
    judges_refine (proposal.Change change) entry after proposes h = edits_refine change entry after proposes h

  found_refine : (before : Project) (subject : Subject) (entry : Entry) (after : Project) → IsOfLoader before.loaded → AreCurrent before.loaded files units before.readings → AllLayered before.readings
      → (found : Option Definition) → found_in before subject ≡ found → JudgesFound (Some files) units before subject found entry after → Leads after.readings before.readings
  found_refine before subject entry after of current layered None none h = stays before after before layered refl h.1
  found_refine before subject entry after of current layered (Some definition) found h = judges_refine before subject definition of current layered found h.0 entry after h.1 h.2

  pub judged_refine : (first : Project) → AllLayered first.readings
      → ((subjects : List Subject) (entries : List Entry) (last : Project) → JudgesAll (Some files) units first subjects entries last → IsEditedTo files units entries last)
      → (subjects : List Subject) (entries : List Entry) (last : Project) → JudgesAll (Some files) units first subjects entries last → Leads last.readings first.readings
  judged_refine first layered to [] entries last h = stays first last first layered refl h.1
  judged_refine first layered to (subject ∷ subjects) entries last h =
      let front = judged_refine first layered to subjects h.0 h.1 h.2 in
      let here = to subjects h.0 h.1 h.2 in
      let one = found_refine h.1 subject h.3 last here.loader here.current front.1 (found_in h.1 subject) refl h.4 in
      (all_through last.readings h.1.readings first.readings one.0 front.0, one.1)

use Rattle.std.specs.Prelude.{[], length, refl}
use Rattle.std.proofs.Common.{inr}
use Rattle.dm_search.specs.Fresh.{fresh}
use Rattle.dm_planning.specs.Plans.{subjects_of}
use Rattle.dm_last.proofs.EditedLemmas.{IsEditedTo, judged-to}
use Rattle.dm_last.proofs.OverLemmas.{fresh-loader}
use Rattle.dm_promise.proofs.LayerLemmas.{first_layered}
use Rattle.dm_promise.proofs.PlanLemmas.{judged_refine}
use Rattle.dm_promise.proofs.laws.planned_programs_refine.Goals as goal

pub returns : goal.returns
returns c files units count first last plan reads planned =
    let read = reads.1 files refl in
    let begun = c.first_readings_are_current.ensures files units fresh first.loaded first.readings (length units) fresh-loader read in
    let to_first : IsEditedTo files units [] first = record { loader = begun.0; current = begun.1; served = λ name. inr (begun.2.served name) } in
    (judged_refine
    (λ these unit known old latest change is layered given aligned. c.kept_readings_refine.ensures these unit known known old latest change is layered given aligned)
    (λ definition these unit known readings reading is of among unbroken.
    c.unbroken_projects_keep_the_rules.ensures definition these unit known known readings reading is of among unbroken)
    (λ these unit known reading is. c.definitions_are_made.ensures these unit known known reading.pp is.1) files units first
    (first_layered files units fresh first.readings (length units) first.loaded read)
    (λ subjects entries end judged.
    judged-to files units (λ file bytes kept news known latest of held are again. c.readings_again_are_current.ensures files file bytes units kept news known latest of held are again)
    (λ file bytes kept known latest of held are follows behind. c.readings_stay_where_bytes_are_put_back.ensures files file bytes units kept known latest of held are follows behind)
    first end subjects entries to_first judged) (subjects_of first) plan.entries last planned.judged).0

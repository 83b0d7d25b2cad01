use Rattle.dm_steady.proofs.QuietLemmas.{are_quiet}
use Rattle.dm_steady.proofs.UnitLemmas.{judged_whole, whole_arguments}
use Rattle.dm_steady.proofs.laws.evaluated_typed_units_refine.Goals as goal

pub returns : goal.returns
returns c old_types new_types old new runs put f parameters body safe old_typed typed scoped sound told aligned adds lengths in_place always keep =
    let it = whole_arguments old_types new_types old new put f parameters body old_typed typed scoped told adds lengths safe in_place runs aligned keep in
    c.late_typed_units_refine.ensures old_types new_types old new it.runs put f parameters body (judged_whole old_types new_types old new put f parameters body old_typed typed scoped told adds lengths safe in_place) old_typed
    typed scoped sound it.aligned adds lengths
    (c.calls_are_evaluated.ensures old_types new_types old new it.runs put f parameters body old_typed typed it.aligned adds told it.keep) it.read it.alike it.closed (are_quiet old_types old old_typed) always

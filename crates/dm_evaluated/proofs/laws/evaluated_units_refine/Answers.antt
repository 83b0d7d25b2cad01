use Rattle.dm_in_place.specs.InPlace.{is_safe_in_place}
use Rattle.dm_evaluated.proofs.laws.evaluated_units_refine.Goals as goal

pub returns : goal.returns
returns c old_types new_types old new runs put f parameters body old_typed old_scoped old_sound laid once typed scoped sound aligned adds plain keep =
    c.evaluated_typed_units_refine.ensures old_types new_types old new runs put f parameters body (is_safe_in_place old_types old) old_typed typed scoped sound (c.places_are_told.ensures old_types old old_typed laid) aligned adds
    plain (c.safe_arguments_are_found.ensures old_types old old_typed old_scoped laid once) (c.safe_arguments_always_come.ensures old_types old old_typed old_scoped old_sound) keep

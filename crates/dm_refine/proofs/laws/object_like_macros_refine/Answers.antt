-- By what is put in.
use Rattle.std.specs.Prelude.{◌≡◌, refl, Option, Some, None}
use Rattle.std.proofs.Common.{sym, subst}
use Rattle.dm_meaning.specs.Refinement.{Refines}
use Rattle.dm_meaning.specs.Units.{machine_of, program_of}
use Rattle.dm_agree.specs.Agreement.{Added, nothing, added_function, added_enumerator, added_constant}
use Rattle.dm_align.specs.Units.{Insertion, AreAligned, added_by}
use Rattle.dm_refine.specs.Kinds.{IsNoFunction}
use Rattle.dm_refine.proofs.EnumeratorUnitLemmas.{IsValue, enumerated_units}
use Rattle.dm_refine.proofs.laws.object_like_macros_refine.Goals as goal

pub returns : goal.returns
returns c old_types new_types old new runs put sound old_typed typed scoped aligned no_function = by_put put aligned no_function
  where
    by_added : (one : Insertion) → AreAligned old_types new_types old new runs (Some one) → (added : Added) → one.added ≡ added → IsNoFunction added
        → Refines (machine_of (program_of new_types new)) (machine_of (program_of old_types old))
    by_added one h nothing e is = enumerated_units old_types new_types old new runs old_typed typed (Some one) (subst IsValue (sym e) tt) h
    by_added one h (added_enumerator d value) e is = enumerated_units old_types new_types old new runs old_typed typed (Some one) (subst IsValue (sym e) tt) h
    by_added one h (added_constant d value) e is = c.named_constant_units_refine.ensures old_types new_types old new runs one d value sound old_typed typed scoped h e
    by_added one h (added_function f parameters body) e is = absurd is

    by_put : (one : Option Insertion) → AreAligned old_types new_types old new runs one → IsNoFunction (added_by one)
        → Refines (machine_of (program_of new_types new)) (machine_of (program_of old_types old))
    by_put None h is = enumerated_units old_types new_types old new runs old_typed typed None tt h
    by_put (Some one) h is = by_added one h one.added refl is

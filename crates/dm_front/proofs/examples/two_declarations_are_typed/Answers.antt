use Rattle.std.proofs.Common.{◌≡◌, List, [], map, Option, None, Some, refl, subst}
use Rattle.dm_type.specs.CTypes.{CType}
use Rattle.dm_tree.specs.Units as unit
use Rattle.dm_typing.specs.Known.{Outcome, given, broken}
use Rattle.dm_edecl.specs.Examples as examples
use Rattle.dm_edecl.specs.Standing.{Standing, Progress, goes_on, stops}
use Rattle.dm_edecl.specs.Units.{beginning, typed_externals, unit_of, unit_setting}
use Rattle.dm_front.proofs.examples.two_declarations_are_typed.Goals as goal

-- the types of the entries of a typed unit
abbrev kinds : Outcome unit.TypedUnit → Option (List CType)
kinds (given known it) = Some (map (λ (entry : unit.Declaration). entry.kind) it.declared)
kinds (broken rule at) = None

abbrev typed : Progress (List unit.External)
typed = typed_externals (unit_setting examples.completed_tokens examples.completed) (beginning []) examples.completed

from-kinds : (these : List CType) → kinds (unit_of typed) ≡ Some these → (end : Standing) × (made : List unit.External) × (typed ≡ goes_on end made)
from-kinds these is = by typed refl
  where
    no-kinds : ◌≡◌ {A = Option (List CType)} None (Some these) → ⊥
    no-kinds e = cc

    by : (progress : Progress (List unit.External)) → typed ≡ progress → (end : Standing) × (made : List unit.External) × (typed ≡ goes_on end made)
    by (goes_on end made) e = (end, made, e)
    by (stops rule at) e = absurd (no-kinds (subst (λ (progress : Progress (List unit.External)). kinds (unit_of progress) ≡ Some these) e is))

pub returns : goal.returns
returns c = from-kinds _ c.declarations_of_one_object_share_an_entry.ensures.completed

-- What reading a condition answers.
use Rattle.std.specs.Prelude.{◌≡◌, Bool, List}
use Rattle.dm_token.specs.Refusals as refusals
use Rattle.dm_token.specs.declared.place.Place.{Place}
use Rattle.dm_token.specs.declared.stop.Stop.{Stop}
use Rattle.dm_token.specs.declared.stop.Stop.TheVariants.{Memory, Refused, Limit, ReadFault}
use Rattle.dm_token.specs.declared.token.Token.{Token}
use Rattle.dm_cond.specs.Readings.{HasTruth}

-- The tokens are no conditional expression, or have no value: refused as 13 at this place. Only want of memory has no cause.
abbrev pub Refuses : List Token → Place → Stop → Type 0
Refuses tokens at Memory = Unit {0}
Refuses tokens at (Refused given) = ((truth : Bool) → ¬ HasTruth tokens truth) × (given ≡ record { number = refusals.condition; detail = 0; place = at })
Refuses tokens at (Limit limit) = ⊥
Refuses tokens at (ReadFault file) = ⊥

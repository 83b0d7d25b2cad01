-- What a single node does, as the code tells it.
use Rattle.std.specs.Prelude.{ℕ, Bool, true, false, not}
use Rattle.dm_effect.specs.declared.effect.Effect.{Effect}
use Rattle.dm_effect.specs.declared.effect.Effect.TheVariants.{Nothing, Disturbs, Calls}

-- it calls or stores
abbrev pub acted : Effect → Bool
acted Nothing = false
acted Disturbs = true
acted (Calls function) = true

-- it stores, or calls another function than those that pass
abbrev pub disturbed : (ℕ → Bool) → Effect → Bool
disturbed quiet Nothing = false
disturbed quiet Disturbs = true
disturbed quiet (Calls function) = not (quiet function)

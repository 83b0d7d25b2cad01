-- Outcomes of a unit's reading that are compared.
--     seeing looked named setting      the same setting, where other names may be looked for, and numbers have other names
--     Agree Like one other      two results stop with the same stop, or their values are like each other
--     IsLike one other      two states are the same up to the order of the names used in conditions
use Rattle.std.specs.Prelude.{◌≡◌, ℕ, Bool, List, Result, Ok, Err, IsPermutation}
use Rattle.dm_token.specs.declared.stop.Stop.{Stop}
use Rattle.dm_token.specs.declared.unit.Use.{Use}
use Rattle.dm_unit.specs.States.{Setting, State}

-- the same files, include folders and main file, where other names may be looked for, and numbers have other names
abbrev pub seeing : (List ℕ → Bool) → (ℕ → List ℕ) → Setting → Setting
seeing looked named setting = record setting { looked = looked; named = named }

-- two results stop with the same stop, or both give values, which are like each other
abbrev pub Agree : {A : Type 0} → (A → A → Type 0) → Result A Stop → Result A Stop → Type 0
Agree Like (Ok one) (Ok other) = Like one other
Agree Like (Ok one) (Err stop) = ⊥
Agree Like (Err stop) (Ok other) = ⊥
Agree Like (Err one) (Err other) = one ≡ other

-- a state with these names used in place of its own
abbrev pub using : List Use → State → State
using uses state = record state { uses = uses }

-- Two states are the same up to the order of the names used in conditions: those that stand at one place, as all names in
-- the defines of a manifest do, have no order.
abbrev pub IsLike : State → State → Type 0
IsLike one other = (uses : List Use) × IsPermutation one.uses uses × (other ≡ using uses one)

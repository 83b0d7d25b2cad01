-- What is looked up for the runs of a definition.
--     AreNames map expansions      the names of expansions by their numbers
--     AreTokens map body      the positions of the tokens of a replacement list by their places
--     ArePlaces map named      the positions of those that name parameters, by the parameter and which of its places it is
use Rattle.std.specs.Prelude.{◌≡◌, ℕ, nat_eq, Bool, List, option_map, find}
use Rattle.std.specs.List.{position_from}
use Rattle.std.specs.HashMap as hash
use Rattle.std.specs.HashMap.{HashMap}
use Rattle.dm_token.specs.declared.expansion.Expansion.{Expansion}
use Rattle.dm_token.specs.declared.place.Place.{Place}
use Rattle.dm_token.specs.declared.token.PpToken.{PpToken}
use Rattle.dm_runs.specs.contracts.origins.SpotPartialEq.TheImpl as spot_eq
use Rattle.dm_runs.specs.contracts.origins.SlotPartialEq.TheImpl as slot_eq
use Rattle.dm_runs.specs.declared.named.Named.{Named}
use Rattle.dm_runs.specs.declared.origins.Slot.{Slot}
use Rattle.dm_runs.specs.declared.origins.Spot.{Spot}
use Rattle.dm_runs.specs.Runs.{is_same_place, name_of, part_named}

abbrev pub spot : Place → Spot
spot place = record { file = place.file; byte = place.byte }

abbrev pub slot : ℕ → ℕ → Slot
slot parameter occurrence = record { parameter = parameter; occurrence = occurrence }

module _ {S : Type 0} where
  abbrev pub AreNames : HashMap ℕ Place S → List Expansion → Type 0
  AreNames names expansions = (instance : ℕ) → hash.get nat_eq names instance ≡ name_of expansions instance

  -- those that stand behind so many others
  abbrev pub AreTokens : HashMap Spot ℕ S → ℕ → List PpToken → Type 0
  AreTokens tokens before body = (place : Place) → hash.get (spot_eq.ghosts).eq tokens (spot place) ≡ position_from (λ (pp : PpToken). is_same_place pp.place place) before body

  abbrev pub ArePlaces : HashMap Slot ℕ S → List Named → Type 0
  ArePlaces places named = (parameter occurrence : ℕ) → hash.get (slot_eq.ghosts).eq places (slot parameter occurrence) ≡ part_named named parameter occurrence

-- What an expansion of a list has done so far, and its stops.
use Rattle.std.specs.Prelude.{ℕ, suc, Bool, false, ◌+◌, ◌||◌, nat_le, List, [], ◌∷◌, ◌++◌, map, Result, Ok, Err, if◌then◌else◌}
use Rattle.dm_token.specs.LimitNumbers as limits
use Rattle.dm_token.specs.Limits.{most_work}
use Rattle.dm_token.specs.declared.place.Place.{Place}
use Rattle.dm_token.specs.declared.stop.Stop.{Stop}
use Rattle.dm_token.specs.declared.stop.Stop.TheVariants.{Limit}
use Rattle.dm_token.specs.declared.expansion.Expansion.{Expansion}
use Rattle.dm_expand.specs.Items.{Item}
use Rattle.dm_expand.specs.Trails.{carry}

-- the number of the next expansion, the work that is counted, and the expansions in the order in which they were made
pub record Progress : Type 0 where
  pub instance : ℕ
  pub spent : ℕ
  pub expansions : List Expansion

-- tokens, and what was done for them
pub record Output : Type 0 where
  pub tokens : List Item
  pub progress : Progress

-- before anything is done
unfoldable pub at_start : ℕ → ℕ → Progress
at_start instance spent = record { instance = instance; spent = spent; expansions = [] }

-- one step after another, up to the first stop
infixl 10 ◌>>=◌
abbrev pub ◌>>=◌ : {A B : Type 0} → Result A Stop → (A → Result B Stop) → Result B Stop
Ok answer >>= next = next answer
Err stop >>= next = Err stop

-- the most work that a unit may take
unfoldable pub greatest_work : ℕ
greatest_work = most_work

-- the limit of the work, passed for a name at this place
unfoldable pub too_much : Place → Stop
too_much place = Limit (record { number = limits.work; file = place.file })

-- So much more work for a name at this place. As soon as it is more than the greatest, it stops.
unfoldable pub spend : Place → ℕ → Progress → Result Progress Stop
spend place work progress =
    if nat_le (progress.spent + work) greatest_work
    then Ok (record progress { spent = progress.spent + work })
    else Err (too_much place)

-- An expansion begins when its name is recognised: it counts as work, and takes the next number.
unfoldable pub begin : ℕ → Item → Bool → Progress → Result Progress Stop
begin definition name foreign progress = do
  counted ← spend name.pp.place 1 progress
  Ok (record {
    instance = suc counted.instance;
    spent = counted.spent;
    expansions = counted.expansions ++ record {
      definition = definition;
      instance = counted.instance;
      name = name.pp.place;
      trail = name.trail;
      taken = false;
      foreign = foreign;
    } ∷ [];
  })

-- an expansion is taken where it was before, or where one of these tokens carries its mark
unfoldable pub taken_by : List Item → Expansion → Expansion
taken_by argument made = record made { taken = made.taken || carry made.instance argument }

-- `#` or `##` uses an argument
unfoldable pub take_argument : List Item → Progress → Progress
take_argument argument progress = record progress { expansions = map (taken_by argument) progress.expansions }

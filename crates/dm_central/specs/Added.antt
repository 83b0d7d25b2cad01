-- What the law asks of the added function, and of the names of the old program in the new one, where trees are concerned.
--     IsAdded change      the old names are others in the new program, which also has the added function
use Rattle.std.specs.Prelude.{◌≡◌, ℕ, Some, option_map, is_some}
use Rattle.dm_meaning.specs.Among.{IsAmong}
use Rattle.dm_meaning.specs.Programs.{declaration_of, definition_of}
use Rattle.dm_meaning.specs.Replaced.{facts_of}
use Rattle.dm_meaning.specs.Called.{Called, new_of, Gives}
use Rattle.dm_meaning.specs.CalledWithAll.{AreDistinct}

-- Each old declaration has one number among the new ones, with its name, sort and type, and is defined as a function in both programs or in none.
-- The added function is another one, and its parameters, which are distinct, are none of the old objects; its expression gives a value.
pub record IsAdded (change : Called) : Type 0 where
  pub told : (d : ℕ) → option_map facts_of (declaration_of (new_of change) (change.rename d)) ≡ option_map facts_of (declaration_of change.old d)
  pub defined : (d : ℕ) → is_some (definition_of (new_of change) (change.rename d)) ≡ is_some (definition_of change.old d)
  pub found : definition_of (new_of change) change.added.function ≡ Some change.added
  pub distinct : AreDistinct change.added.parameters
  pub own : (p : ℕ) → IsAmong p change.added.parameters → (c : ℕ) → change.rename c ≡ p → ⊥
  pub gives : Gives change.body

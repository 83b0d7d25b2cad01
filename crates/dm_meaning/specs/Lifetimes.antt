-- Whose objects a step may end (6.2.4): those of the function that is running, and no others.
use Rattle.std.specs.Prelude.{◌≡◌, ℕ, true, List, map, Some}
use Rattle.dm_meaning.specs.Memory.{Memory, Block, look_up}
use Rattle.dm_meaning.specs.Operations.{Objects}

-- the object is there, and its lifetime hasn't ended
pub record IsAlive (memory : Memory) (n : ℕ) : Type 0 where
  pub block : Block
  pub found : look_up memory n ≡ Some block
  pub alive : block.alive ≡ true

-- the numbers of the objects that declarations name in a frame
abbrev pub numbers_of : Objects → List ℕ
numbers_of objects = map (λ entry. entry.1) objects

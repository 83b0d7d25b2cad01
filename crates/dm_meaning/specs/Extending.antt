-- A world with more objects, beside fewer locks: what a step does there.
--     Extends more world      the world has the objects of another, and perhaps others
--     SameUnlessUndefined did other      what a step does here it does there too, unless it is undefined here
--     SameAnswer answer other      likewise of a call of one of the machine's own functions
use Rattle.std.specs.Prelude.{◌≡◌, ℕ, List, Option, Some, None}
use Rattle.dm_meaning.specs.Among.{IsAmong}
use Rattle.dm_meaning.specs.Values.{At}
use Rattle.dm_meaning.specs.Memory.{Memory, Block, look_up}
use Rattle.dm_meaning.specs.Primitives.{Answer, answers, stops, refuses}
use Rattle.dm_meaning.specs.Operations.{World, Did, gives, breaks, ends_with}

-- each object of a memory is in another, as it is
abbrev pub HasAll : Memory → Memory → Type 0
HasAll more memory = (n : ℕ) (block : Block) → look_up memory n ≡ Some block → look_up more n ≡ Some block

-- a world has the objects of another, the same input to come, and the same output
abbrev pub Extends : World → World → Type 0
Extends more world = HasAll more.memory world.memory × (more.input ≡ world.input) × (more.output ≡ world.output)

-- each lock of the first is one of the second
abbrev pub AreAmong : List At → List At → Type 0
AreAmong fewer locks = (lock : At) → IsAmong lock fewer → IsAmong lock locks

-- what a step does in a world and in one that extends it
abbrev pub SameUnlessUndefined : Did → Did → Type 0
SameUnlessUndefined (breaks cause) other = Unit {0}
SameUnlessUndefined (gives world result locks) (gives more other others) = Extends more world × (result ≡ other) × (locks ≡ others)
SameUnlessUndefined (gives world result locks) (breaks cause) = ⊥
SameUnlessUndefined (gives world result locks) (ends_with status) = ⊥
SameUnlessUndefined (ends_with status) (ends_with other) = status ≡ other
SameUnlessUndefined (ends_with status) (gives more other others) = ⊥
SameUnlessUndefined (ends_with status) (breaks cause) = ⊥

-- what one of the machine's own functions answers in a memory and in one with more objects
abbrev pub SameAnswer : Answer → Answer → Type 0
SameAnswer (refuses cause) other = Unit {0}
SameAnswer (answers value input output) (answers other more others) = (value ≡ other) × (input ≡ more) × (output ≡ others)
SameAnswer (answers value input output) (stops status) = ⊥
SameAnswer (answers value input output) (refuses cause) = ⊥
SameAnswer (stops status) (stops other) = status ≡ other
SameAnswer (stops status) (answers value input output) = ⊥
SameAnswer (stops status) (refuses cause) = ⊥

abbrev pub SameOptionalAnswer : Option Answer → Option Answer → Type 0
SameOptionalAnswer None None = Unit {0}
SameOptionalAnswer (Some answer) (Some other) = SameAnswer answer other
SameOptionalAnswer None (Some other) = ⊥
SameOptionalAnswer (Some answer) None = ⊥

-- Memory in which a tree that neither stores nor calls comes to what it came to before.
--     IsThere memory name      an object can be used
--     HasSameObjects memory later      the objects that can be used are still there, with the same types
--     KeepsPlaces memory later places      these places hold what they held
use Rattle.std.specs.Prelude.{◌≡◌, List, [], Option, Some, None}
use Rattle.dm_meaning.specs.Among.{IsAmong}
use Rattle.dm_meaning.specs.Values.{Name, At, unset}
use Rattle.dm_meaning.specs.Memory.{Memory, Block, look, contents_at}
use Rattle.dm_meaning.specs.Causes.{absence_causes}

-- the program defines it, and its lifetime hasn't ended
abbrev pub IsThere : Memory → Name → Type 0
IsThere memory name = absence_causes memory name ≡ []

-- an object without what it holds
abbrev pub emptied_block : Block → Block
emptied_block block = record block { contents = unset }

abbrev pub emptied : Option Block → Option Block
emptied None = None
emptied (Some block) = Some (emptied_block block)

abbrev pub HasSameObjects : Memory → Memory → Type 0
HasSameObjects memory later = (name : Name) → IsThere memory name → emptied (look later name) ≡ emptied (look memory name)

abbrev pub KeepsPlaces : Memory → Memory → List At → Type 0
KeepsPlaces memory later places = (at : At) → IsAmong at places → IsThere memory at.name → contents_at later at ≡ contents_at memory at

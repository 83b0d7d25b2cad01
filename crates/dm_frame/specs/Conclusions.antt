-- What the end of a full expression leaves.
--     IsConcluded table place refused before after blocks made turned      what is left in the frame, or that the step is undefined
--     value_for use_of at      the value that counts where the expression designates an object
use Rattle.std.specs.Prelude.{◌≡◌, List, Option, Some, None}
use Rattle.dm_token.specs.declared.place.Place.{Place}
use Rattle.dm_type.specs.Tables.{Table}
use Rattle.dm_memory.specs.declared.blocks.Block.{Block}
use Rattle.dm_meaning.specs.declared.cause.Cause.{Cause}
use Rattle.dm_meaning.specs.States.{Use, initialises}
use Rattle.dm_meaning.specs.Statements.{Turned, refused, array_of, characters_at}
use Rattle.dm_meaning.specs.Values.{At, Value, unset}
use Rattle.dm_frame.specs.declared.frame.Frame.{Frame}
use Rattle.dm_frame.specs.Frames.{IsLeft}

-- It goes on, or it is undefined, which changes nothing.
abbrev pub IsConcluded : Table → Place → Option Cause → Frame → Frame → List Block → List Block → Turned → Type 0
IsConcluded table place None before after blocks made turned = IsLeft table after made turned
IsConcluded table place (Some cause) before after blocks made turned = (refused cause place ≡ turned) × (after ≡ before) × (made ≡ blocks)

-- the array of a string literal where the expression initialises an object (6.7.9p14), else none
abbrev pub value_for : Use → At → Value
value_for (initialises at kind) other = array_of kind (characters_at other.name)
value_for use_of other = unset
